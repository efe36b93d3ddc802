use Rattle.std.proofs.Common.{◌≡◌, ◌∙◌, subst}
use Rattle.std.specs.Prelude.{IfOk}
use Rattle.made_scripts.proofs.Running.{own_told}
use Rattle.made_scripts.specs.Runs.{own_draws, told_of}
use Rattle.made_scripts.specs.Summaries.{summary_text}
use Rattle.made_scripts.specs.declared.summaries.Summary.{Summary}
use Rattle.made_scripts.proofs.runs.run_script.Goals as goal

pub returns : goal.returns
unfolding told_of
returns c =
    let told = own_told _ _ (c.new-clock.ensures ∙ c.new-2.ensures) c.new-entropy.ensures.stream in
    subst (λ (s : Summary). IfOk c.print_summary.result (λ text. text ≡ summary_text s))
    (c.in_ok-summary.ensures own_draws told) c.print_summary.ensures
