use Rattle.std.proofs.Common.{◌≡◌, ℕ, ◌≤◌, ◌∙◌, ap, subst, List}
use Rattle.std.proofs.lemmas.List.{length-take-le}
use Rattle.kdb_base.specs.Etypes.{tag_len}
use Rattle.kdb_base.specs.EtypeLaws.{tag_fits}
use Rattle.kdb_base.specs.declared.keys.Etype.{Etype}
use Rattle.sha2_profile.specs.Macs.{IsMac}
use Rattle.sha2_profile.specs.Sha2.{integrity_key, usage_key}
use Rattle.sha2_profile.proofs.sealing.integrity.Goals as goal

pub returns : goal.returns
unfolding integrity_key
returns c =
    let key = c.args.key.now in
    let len : c.tag_len.result ≡ tag_len key.etype = c.tag_len.ensures ∙ ap tag_len c.etype.ensures in
    let fits : c.tag_len.result ≤ 24 = rw len (tag_fits key.etype) in
    let bytes = c.usage_key.ensures
    ∙ ap (λ (n : ℕ). usage_key key c.args.usage 0x55 n) (length-take-le c.tag_len.result _ fits ∙ len) in
    subst (λ (e : Etype). IsMac e c.new.result (usage_key key c.args.usage 0x55 (tag_len key.etype))) c.etype-2.ensures
    (subst (λ (b : List ℕ). IsMac c.etype-2.result c.new.result b) bytes c.new.ensures)
