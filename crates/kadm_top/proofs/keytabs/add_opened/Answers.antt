use Rattle.std.proofs.Common.{◌∙◌, Result, ℕ, ap, subst, sym}
use Rattle.kadm_top.proofs.KeytabRuns.{names_own}
use Rattle.kadm_top.proofs.keytabs.add_opened.Goals as goal
use Rattle.kadm_top.specs.Openings.{AddsBy}
use Rattle.princ_name.specs.Names.{NameParts}
use Rattle.princ_name.specs.Readings.{own_name_in}

pub add_named-requires-clause-name : goal.add_named-requires-clause-name
add_named-requires-clause-name g c = names_own c.args.word.now c.args.opened.kept.realm _
    (c.in-Ok.ensures ∙ ap (own_name_in c.args.word.now) (c.as_slice.ensures.value ∙ c.realm.ensures))

pub returns-clause-written : goal.returns-clause-written
returns-clause-written g c = λ s reads what has is.
    c.add_named.ensures.written s reads what has
    (subst (λ (n : Result NameParts ℕ). AddsBy n s c.args.moment (g.S.Source.left c.args.source.now) reads what)
    (sym (c.in-Ok.ensures ∙ ap (own_name_in c.args.word.now) (c.as_slice.ensures.value ∙ c.realm.ensures))) is)
