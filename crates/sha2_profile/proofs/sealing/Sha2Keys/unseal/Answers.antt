use Rattle.std.proofs.Common.{◌≡◌, ◌∙◌, ◌≤◌, ◌+◌, ◌-◌, ◌++◌, sym, ap, List, ℕ, true, length, take, drop, arith}
use Rattle.std.proofs.lemmas.List.{take_rest, drop_at}
use Rattle.kdb_base.specs.Etypes.{tag_len}
use Rattle.sha2_profile.specs.KeyUses.{KeyUse}
use Rattle.sha2_profile.specs.Sha2.{tag}
use Rattle.sha2_profile.proofs.Unsealing.{sealed_told, sealed_holds, sealed_tag}
use Rattle.sha2_profile.proofs.sealing.Sha2Keys.unseal.Goals as goal

pub returns-then-not-has_tag-clause-after_seal : goal.returns-then-not-has_tag-clause-after_seal
returns-then-not-has_tag-clause-after_seal c = λ plain s.
    let u = c.args.self.now in
    let blob = c.args.blob.now in
    let len : c.tag_len-tag_len.result ≡ tag_len u.key.etype =
    c.tag_len-tag_len.ensures ∙ ap tag_len c.etype.ensures ∙ ap (λ (v : KeyUse). tag_len v.key.etype) c.self.view_is in
    let front : c.split_at.result.0.now ≡ take (length blob - tag_len u.key.etype) blob =
    rw len at c.split_at.ensures.front in
    let end : c.split_at.result.1.now ≡ drop (length blob - tag_len u.key.etype) blob =
    rw len at c.split_at.ensures.back in
    let tagged : tag u.key u.usage c.split_at.result.0.now ≡ c.split_at.result.1.now =
    rw (front, end) (sealed_tag u.key u.usage blob plain s) in
    let found : c.has_tag.result ≡ true = c.has_tag.ensures.1 tagged in
    cc

pub returns-in-Ok-from_bytes-clause-ok : goal.returns-in-Ok-from_bytes-clause-ok
returns-in-Ok-from_bytes-clause-ok c =
    let u = c.args.self.now in
    let blob = c.args.blob.now in
    let text = c.in-Ok.text.items in
    let len : c.tag_len-tag_len.result ≡ tag_len u.key.etype =
    c.tag_len-tag_len.ensures ∙ ap tag_len c.etype.ensures ∙ ap (λ (v : KeyUse). tag_len v.key.etype) c.self.view_is in
    let front : c.split_at.result.0.now ≡ take (length blob - tag_len u.key.etype) blob =
    rw len at c.split_at.ensures.front in
    let end : c.split_at.result.1.now ≡ drop (length blob - tag_len u.key.etype) blob =
    rw len at c.split_at.ensures.back in
    let long : 16 + tag_len u.key.etype ≤ length blob = omega (arith, len, c.if-blob-tag_len.false) in
    let front_len : length text ≡ length blob - tag_len u.key.etype =
    c.in-Ok.ensures.len ∙ rw len at c.split_at.ensures.front_len in
    let rest : c.in-Ok-from_bytes.plain ≡ drop 16 text =
    c.in-Ok-from_bytes.ensures ∙ take_rest c.deref.result.now 16
    ∙ ap (λ (xs : List ℕ). drop 16 xs) c.deref.ensures.value in
    let found : tag u.key u.usage c.split_at.result.0.now ≡ c.split_at.result.1.now =
    c.has_tag.ensures.0 c.if-not-has_tag.false in
    rw rest (sealed_told u.key u.usage blob text long c.in-Ok.ensures.bytes front_len (c.in-Ok.ensures.holds ∙ front)
    (rw (front, end) at found))

pub returns-in-Ok-from_bytes-clause-after_seal : goal.returns-in-Ok-from_bytes-clause-after_seal
returns-in-Ok-from_bytes-clause-after_seal c = λ plain s.
    let u = c.args.self.now in
    let blob = c.args.blob.now in
    let len : c.tag_len-tag_len.result ≡ tag_len u.key.etype =
    c.tag_len-tag_len.ensures ∙ ap tag_len c.etype.ensures ∙ ap (λ (v : KeyUse). tag_len v.key.etype) c.self.view_is in
    let front : c.split_at.result.0.now ≡ take (length blob - tag_len u.key.etype) blob =
    rw len at c.split_at.ensures.front in
    let same =
    c.in-Ok.ensures.only (s.confounder ++ plain) s.bytes (sealed_holds u.key u.usage blob plain s ∙ sym front) in
    c.in-Ok-from_bytes.ensures ∙ take_rest c.deref.result.now 16
    ∙ ap (λ (xs : List ℕ). drop 16 xs) (c.deref.ensures.value ∙ sym same)
    ∙ drop_at s.confounder plain 16 s.whole
