use Rattle.std.proofs.Common.{List, Ok, sym, ap, subst, inl, inr}
use Rattle.kdb_base.specs.declared.versions.Master.{Master}
use Rattle.row_keys.specs.Sound.{AreSound, judged}
use Rattle.stash_opening.proofs.Causes.{gives_refuses}
use Rattle.stash_opening.proofs.opening.find_masters.Goals as goal

pub returns-in-Err-clause-only_refused : goal.returns-in-Err-clause-only_refused
returns-in-Err-clause-only_refused c why cause = elim cause [
  | inl known ↦ c.in-Err.ensures.only_refused why known
  | inr u ↦ gives_refuses c.in-Err.stop u.masters why (c.in-Err.ensures.complete u.masters u.opened)
]

pub returns-then-not-sound-clause-complete : goal.returns-then-not-sound-clause-complete
returns-then-not-sound-clause-complete c masters o sound =
    c.in-Ok-are_sound.ensures.no (ap Ok c.if-not-sound.true)
    (subst (λ (ms : List Master). AreSound (judged ms c.args.realm.now c.args.secs) c.args.rows.now)
    (sym (c.in-Ok.ensures.complete masters o)) sound)

pub returns-then-not-sound-clause-only_refused : goal.returns-then-not-sound-clause-only_refused
returns-then-not-sound-clause-only_refused c why cause = elim cause [
  | inl known ↦ absurd (c.in-Ok.ensures.only_refused why known)
  | inr u ↦ sym u.why_is
]

pub returns-clause-complete : goal.returns-clause-complete
returns-clause-complete c masters o sound = c.in-Ok.ensures.complete masters o

pub returns-clause-only_refused : goal.returns-clause-only_refused
returns-clause-only_refused c why cause = elim cause [
  | inl known ↦ c.in-Ok.ensures.only_refused why known
  | inr u ↦
      let sound = c.in-Ok-are_sound.ensures.yes (ap Ok c.if-not-sound.false) in
      u.unsound (subst (λ (ms : List Master). AreSound (judged ms c.args.realm.now c.args.secs) c.args.rows.now)
      (c.in-Ok.ensures.complete u.masters u.opened) sound)
]
