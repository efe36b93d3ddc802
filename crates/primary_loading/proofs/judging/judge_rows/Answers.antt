use Rattle.std.proofs.Common.{Err, ap, ◌∙◌, inl, inr}
use Rattle.std.specs.Prelude.{option_map}
use Rattle.primary_loading.proofs.Causes.{sound_refuses, unsound_gives, unsound_refuses}
use Rattle.primary_loading.proofs.judging.judge_rows.Goals as goal
use Rattle.stash_opening.proofs.Causes.{gives_refuses, same_stop}

pub returns-in-Err-clause-only_refused : goal.returns-in-Err-clause-only_refused
returns-in-Err-clause-only_refused c why cause = elim cause [
  | inl known ↦ c.in-Err.ensures.only_refused why known
  | inr u ↦ gives_refuses c.in-Err.stop u.masters why (c.in-Err.ensures.complete u.masters u.opened)
]

pub returns-in-Ok-check_lines-clause-complete : goal.returns-in-Ok-check_lines-clause-complete
returns-in-Ok-check_lines-clause-complete c masters taken = c.in-Ok.ensures.complete masters taken.opened

pub returns-in-Ok-check_lines-clause-only_refused : goal.returns-in-Ok-check_lines-clause-only_refused
returns-in-Ok-check_lines-clause-only_refused c why cause =
    sound_refuses (option_map (λ s. s.now) c.args.stash) c.args.file c.args.realm.now c.args.secs c.args.rows.now
    c.in-Ok.masters
    (λ masters o. c.in-Ok.ensures.complete masters o) (λ w known. c.in-Ok.ensures.only_refused w known) why
    c.in-Ok-check_lines.ensures.sound cause

pub returns-in-Err-check_lines-clause-complete : goal.returns-in-Err-check_lines-clause-complete
returns-in-Err-check_lines-clause-complete c masters taken =
    unsound_gives (option_map (λ s. s.now) c.args.stash) c.args.file c.args.realm.now c.args.secs c.args.rows.now
    c.in-Ok.masters
    (λ ms o. c.in-Ok.ensures.complete ms o) (λ w known. c.in-Ok.ensures.only_refused w known) c.in-Err-check_lines.stop
    (λ w e. c.check_lines.ensures.refused w (c.in-Err-check_lines.is ∙ ap Err e))
    (λ halt e. c.check_lines.ensures.halted halt (c.in-Err-check_lines.is ∙ ap Err e))
    masters taken

pub returns-in-Err-check_lines-clause-refused : goal.returns-in-Err-check_lines-clause-refused
returns-in-Err-check_lines-clause-refused c why e = inr (record {
  masters = c.in-Ok.masters;
  opened = c.in-Ok.ensures.ok;
  unsound = c.check_lines.ensures.refused why (c.in-Err-check_lines.is ∙ ap Err (same_stop _ _ e));
})

pub returns-in-Err-check_lines-clause-only_refused : goal.returns-in-Err-check_lines-clause-only_refused
returns-in-Err-check_lines-clause-only_refused c why cause =
    unsound_refuses (option_map (λ s. s.now) c.args.stash) c.args.file c.args.realm.now c.args.secs c.args.rows.now
    c.in-Ok.masters
    (λ ms o. c.in-Ok.ensures.complete ms o) (λ w known. c.in-Ok.ensures.only_refused w known) c.in-Err-check_lines.stop
    (λ w e. c.check_lines.ensures.refused w (c.in-Err-check_lines.is ∙ ap Err e))
    (λ halt e. c.check_lines.ensures.halted halt (c.in-Err-check_lines.is ∙ ap Err e))
    why cause
