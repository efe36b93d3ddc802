use Rattle.std.proofs.Common.{◌≡◌, sym, subst, ◌∙◌}
use Rattle.kdb_model.proofs.OwnParts.{master_is}
use Rattle.kdb_model.specs.Access.{master_parts}
use Rattle.kdb_plain.proofs.OwnNames.{master_prints}
use Rattle.princ_name.specs.Names.{printed}
use Rattle.princ_name.specs.Spelling.{Spells}
use Rattle.mkey_admin.proofs.entry.master_parts.Goals as goal

pub returns-in-Ok : goal.returns-in-Ok
returns-in-Ok c =
    let realm = c.args.realm.now in
    let is = master_is realm c.requires in
    let text : printed (master_parts realm) ≡ c.as_slice.result.now =
    sym (master_prints realm c.requires) ∙ (let a = c.as_slice.ensures in let b = c.in_ok-text.ensures in cc) in
    c.word_spells_one_name.ensures c.as_slice.result.now realm c.in-Ok.name (master_parts realm) c.in-Ok.ensures.spelled
    (subst (λ t. Spells t realm (master_parts realm)) text
    (c.printed_form_spells_the_name.ensures (master_parts realm) realm is))
