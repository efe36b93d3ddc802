use Rattle.std.proofs.Common.{Some, codes, sym, ◌∙◌}
use Rattle.std.proofs.lemmas.Bool.Decides.{Decides-eqb}
use Rattle.std.proofs.lemmas.Slice.Eq.{strip_prefix_is}
use Rattle.kdb_plain.proofs.OwnNames.{history_rest}
use Rattle.kdb_plain.proofs.lookups.is_history_name.Goals as goal

pub returns-in-Some : goal.returns-in-Some
returns-in-Some c =
    let is = strip_prefix_is Decides-eqb c.args.name.now (codes "kadmin/history@")
    (Some c.in-Some.rest) c.in-Some.ensures.cases in
    c.eq.ensures ∙ sym (history_rest c.args.realm.now c.args.name.now c.in-Some.rest.now is)
