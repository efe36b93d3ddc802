use Rattle.std.proofs.Common.{List, Err, ap, subst, ◌∙◌, inl, inr}
use Rattle.std.specs.Prelude.{option_map}
use Rattle.kdb_base.specs.declared.versions.Master.{Master}
use Rattle.stash_file.specs.declared.keys.StashKey.{StashKey}
use Rattle.stash_opening.specs.Finding.{IsKeyCause, IsStashCause, KeysOpen}
use Rattle.stash_opening.proofs.Causes.{at_ok, damage_gives, keys_open, no_value}
use Rattle.stash_opening.proofs.Causes.{one_stash_cause, same_stop, stash_not_refused, told_why}
use Rattle.stash_opening.proofs.opening.by_stash.Goals as goal

pub returns-in-Err-clause-complete : goal.returns-in-Err-clause-complete
returns-in-Err-clause-complete c masters o =
    damage_gives (option_map (λ s. s.now) c.args.stash) c.args.file
    (option_map (λ p. p.now) c.args.entry) c.in-Err.stop masters
    (λ why e. c.stash_keys.ensures.refused why (c.in-Err.is ∙ ap Err e))
    (λ halt e. c.stash_keys.ensures.halted halt (c.in-Err.is ∙ ap Err e)) o

pub returns-in-Err-clause-only_refused : goal.returns-in-Err-clause-only_refused
returns-in-Err-clause-only_refused c why cause =
    told_why {A = List Master}
    (IsStashCause (option_map (λ s. s.now) c.args.stash) c.args.file (option_map (λ p. p.now) c.args.entry))
    (Err c.in-Err.stop) why
    (one_stash_cause (option_map (λ s. s.now) c.args.stash) c.args.file (option_map (λ p. p.now) c.args.entry))
    (λ x e. no_value c.in-Err.stop x e)
    (λ other e. inl (c.stash_keys.ensures.refused other (c.in-Err.is ∙ ap Err (same_stop _ _ e))))
    (λ halt e. c.stash_keys.ensures.halted halt (c.in-Err.is ∙ ap Err (same_stop _ _ e))) cause

pub returns-clause-complete : goal.returns-clause-complete
returns-clause-complete c masters o =
    c.open_by.ensures.complete masters
    (rw c.as_slice.ensures
    (keys_open (option_map (λ s. s.now) c.args.stash) (option_map (λ p. p.now) c.args.entry) c.in-Ok.keys masters
    c.in-Ok.ensures.ok o))

pub returns-clause-refused : goal.returns-clause-refused
returns-clause-refused c why e = inr (record {
  keys = c.in-Ok.keys;
  spelled = c.in-Ok.ensures.ok;
  cause = subst (λ (ks : List StashKey). IsKeyCause (option_map (λ p. p.now) c.args.entry) ks why) c.as_slice.ensures
      (c.open_by.ensures.refused why e);
})

pub returns-clause-only_refused : goal.returns-clause-only_refused
returns-clause-only_refused c why cause =
    let entry = option_map (λ p. p.now) c.args.entry in
    told_why (IsStashCause (option_map (λ s. s.now) c.args.stash) c.args.file entry) c.open_by.result why
    (one_stash_cause (option_map (λ s. s.now) c.args.stash) c.args.file entry)
    (λ x e. stash_not_refused (option_map (λ s. s.now) c.args.stash) c.args.file entry x why (record {
      keys = c.in-Ok.keys;
      spelled = c.in-Ok.ensures.ok;
      opened = subst (λ (ks : List StashKey). KeysOpen entry ks x) c.as_slice.ensures
          (at_ok (λ (ms : List Master). KeysOpen entry c.as_slice.result.now ms) c.open_by.result x
          c.open_by.ensures.ok e);
    }) cause)
    (returns-clause-refused c) c.open_by.ensures.halted cause
