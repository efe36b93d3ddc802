use Rattle.std.proofs.Common.{List, ◌∙◌, ap, length, sym, subst, refl}
use Rattle.std.specs.VecDeque.{deque_len, deque_capacity}
use Rattle.princ_rows.specs.declared.entries.Logged.{Logged}
use Rattle.update_log.specs.Logs.{IsJournal, log_of}
use Rattle.update_log.proofs.Sound.{begun_journal, nothing_prepared}
use Rattle.update_log.proofs.log.log_of.Goals as goal

pub invariant_of-result : goal.invariant_of-result
invariant_of-result c =
    let a = c.args in (
      subst (λ (l : List Logged). IsJournal (log_of a.file a.base a.size a.block l)) (sym c.requires.items)
          (begun_journal a.file a.base a.size a.block c.requires.file c.requires.size c.requires.block
          c.holds_marker.ensures),
      nothing_prepared (log_of a.file a.base a.size a.block a.held.items) (deque_len a.held) (deque_capacity a.held)
          (c.requires.len ∙ sym (ap (λ (l : List Logged). length l) c.requires.items)) refl,
    )
