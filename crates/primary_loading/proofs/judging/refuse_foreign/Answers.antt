use Rattle.std.proofs.Common.{List, Err, refl, ap, ◌∙◌, inl, inr}
use Rattle.std.specs.Prelude.{option_map}
use Rattle.kdb_base.specs.declared.outcomes.Refusal.TheVariants.{DumpBad}
use Rattle.kdb_base.specs.declared.versions.Master.{Master}
use Rattle.primary_loading.proofs.Causes.{one_foreign}
use Rattle.primary_loading.proofs.judging.refuse_foreign.Goals as goal
use Rattle.primary_loading.specs.Judging.{IsForeignCause}
use Rattle.stash_opening.proofs.Causes.{no_value, same_stop, told_why}

pub returns-in-Ok-clause-only_refused : goal.returns-in-Ok-clause-only_refused
returns-in-Ok-clause-only_refused c why cause =
    one_foreign (option_map (λ s. s.now) c.args.stash) c.args.file (DumpBad 2) why
    (inr (record { some = c.in-Ok.ensures.some; why_is = refl })) cause

pub returns-in-Err-clause-only_refused : goal.returns-in-Err-clause-only_refused
returns-in-Err-clause-only_refused c why cause =
    told_why {A = List Master} (IsForeignCause (option_map (λ s. s.now) c.args.stash) c.args.file)
    (Err c.in-Err.stop) why
    (one_foreign (option_map (λ s. s.now) c.args.stash) c.args.file) (λ x e. no_value c.in-Err.stop x e)
    (λ other e. inl (c.find_key.ensures.refused other (c.in-Err.is ∙ ap Err (same_stop _ _ e))))
    (λ halt e. c.find_key.ensures.halted halt (c.in-Err.is ∙ ap Err (same_stop _ _ e))) cause
