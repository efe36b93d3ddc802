use Rattle.std.proofs.Common.{List, ℕ, ◌++◌, ◌≡◌, ◌∙◌, ap, sym, subst, append_assoc}
use Rattle.krb_hmac.specs.Hmac.{hmac_by, key_block, masked}
use Rattle.krb_hmac.specs.States.{States, IsKeyed}
use Rattle.krb_hmac.proofs.keyed.Keyed.tag.Goals as goal

pub returns : goal.returns
unfolding hmac_by
returns g c = λ key keyed.
    let hash = g.H.BlockHash.hash in
    let holds = g.H.BlockHash.holds in
    let held =
    subst (λ (s : States g.row.H.Denot). IsKeyed holds hash g.H.BlockHash.block s key) (sym c.self.view_is) keyed in
    let front = masked 0x36 (key_block hash g.H.BlockHash.block key) in
    let first = c.args.first.now in
    let second = c.args.second.now in
    let third = c.args.third.now in
    let inner = c.add-3.ensures _ (c.add-2.ensures _
    (c.add.ensures front (subst (λ (s : g.row.H.Denot). holds s front) (sym c.copied-inner.ensures) held.inner))) in
    let outer = c.add-4.ensures _
    (subst (λ (s : g.row.H.Denot). holds s (masked 0x5c (key_block hash g.H.BlockHash.block key)))
    (sym c.copied-outer.ensures) held.outer) in
    let digest : c.end-digest.result ≡ hash (front ++ (first ++ (second ++ third))) =
    c.end-digest.ensures _ inner
    ∙ ap hash (append_assoc (front ++ first) second third ∙ append_assoc front first (second ++ third)) in
    c.end.ensures _ outer
    ∙ ap (λ (text : List ℕ). hash (masked 0x5c (key_block hash g.H.BlockHash.block key) ++ text)) digest
