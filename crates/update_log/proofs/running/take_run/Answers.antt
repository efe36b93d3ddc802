use Rattle.std.proofs.Common.{◌≡◌, ℕ, ◌+◌, ◌-◌, ◌∙◌, true, Some, None, refl, ap, subst}
use Rattle.std.proofs.Common.{sym, length, take, get_or, List, arith, take_all}
use Rattle.std.specs.Prelude.{Ok, Result}
use Rattle.std.proofs.lemmas.Option.{same_Some}
use Rattle.std.proofs.lemmas.List.{length_push}
use Rattle.std.specs.List.{All}
use Rattle.std.specs.VecDeque.{deque_len}
use Rattle.std.specs.declared.alloc.Global.{Global}
use Rattle.std.specs.declared.collections.VecDeque.{VecDeque}
use Rattle.kdb_control.specs.Choice.{Choice}
use Rattle.princ_rows.specs.declared.entries.Logged.{Logged}
use Rattle.update_log.specs.Slots.{slot_of}
use Rattle.update_log.specs.Logs.{newest, log_of, IsJournal}
use Rattle.update_log.specs.Runs.{stands_in}
use Rattle.update_log.specs.Scanning.{run_to, read_at}
use Rattle.update_log.proofs.ReadSlots.{counted_by, count_held, run_ends, held_stands}
use Rattle.update_log.proofs.ReadSlots.{left_after, take_more, run_journal, run_stands}
use Rattle.update_log.proofs.running.take_run.Goals as goal
use Rattle.update_log.proofs.running.take_run.Goals.{in-Some+in_ok-push_back, in_default}

pub overflow_sub-sno-in-loop-more-2 : goal.overflow_sub-sno-in-loop-more-2
overflow_sub-sno-in-loop-more-2 c =
    let run = c.requires.run in
    let runs = run_ends c.args.control.now c.args.slots.items run.last c.requires.read run.is_last in
    omega (arith, runs.ends, run.long, run.serial, c.held_count-count.ensures)

pub slot_of-slot-requires-clause-serial : goal.slot_of-slot-requires-clause-serial
slot_of-slot-requires-clause-serial c =
    let choice = c.args.control.now in
    let before = c.args.slots.items in
    let run = c.requires.run in
    let base = ap (λ (ch : Choice). ch.base.sno) c.control.view_is in
    let counted = counted_by choice before run.last c.args.run.now.len c.control.inside.size c.held_count-count.result
    run.long (ap (λ (ch : Choice). ch.size) c.control.view_is) c.held_count-count.ensures in
    let stands = held_stands choice before run.last c.held_count-count.result c.loop-more.more c.requires.read
    run.is_last counted c.loop-more-test.true in
    omega (arith, stands.from_base, run.serial, base)

-- What stands in the slot whose entry is taken.
here : (c : goal.Joined-take_at) → (d : Logged) → c.take_at.result ≡ Some (get_or (newest c.args.control.now.size
    (run_to c.args.control.now c.args.slots.items c.requires.run.last)) c.loop-more.more d)
here c d =
    let choice = c.args.control.now in
    let before = c.args.slots.items in
    let run = c.requires.run in
    let count = c.held_count-count.result in
    let more = c.loop-more.more in
    let runs = run_ends choice before run.last c.requires.read run.is_last in
    let counted = counted_by choice before run.last c.args.run.now.len c.control.inside.size count run.long
    (ap (λ (ch : Choice). ch.size) c.control.view_is) c.held_count-count.ensures in
    let stands =
    held_stands choice before run.last count more c.requires.read run.is_last counted c.loop-more-test.true in
    let sno = c.args.run.now.last - (count - 1 - more) in
    let same : run.last.entry.point.sno - (count - 1 - more) ≡ sno =
    ap (λ (n : ℕ). n - (count - 1 - more)) run.serial in
    let slot : c.slot_of-slot.result ≡ slot_of choice.base choice.size sno =
    c.slot_of-slot.ensures.value ∙ ap (λ (ch : Choice). slot_of ch.base ch.size sno) c.control.view_is in
    let left = c.loop-more.invariant.left sno (omega arith)
    (omega (arith, c.loop-more-test.true, runs.ends, run.long, run.serial, c.held_count-count.ensures)) in
    c.take_at.ensures.taken
    ∙ ap (read_at c.loop-more.slots.items) slot
    ∙ left
    ∙ ap (λ (n : ℕ). read_at before (slot_of choice.base choice.size n)) (sym same)
    ∙ stands.here d

pub loop-more-preserved : goal.loop-more-preserved
loop-more-preserved c =
    let choice = c.args.control.now in
    let before = c.args.slots.items in
    let run = c.requires.run in
    let count = c.held_count-count.result in
    let more = c.loop-more.more in
    let inv = c.loop-more.invariant in
    let entries = newest choice.size (run_to choice before run.last) in
    let runs = run_ends choice before run.last c.requires.read run.is_last in
    let counted = counted_by choice before run.last c.args.run.now.len c.control.inside.size count run.long
    (ap (λ (ch : Choice). ch.size) c.control.view_is) c.held_count-count.ensures in
    let stands =
    held_stands choice before run.last count more c.requires.read run.is_last counted c.loop-more-test.true in
    let sno = c.args.run.now.last - (count - 1 - more) in
    let slot : c.slot_of-slot.result ≡ slot_of choice.base choice.size sno =
    c.slot_of-slot.ensures.value ∙ ap (λ (ch : Choice). slot_of ch.base ch.size sno) c.control.view_is in
    let long = count_held choice before run.last count counted in
    elim c.match-take_at.branch [
      | in-Some+in_ok-push_back w ↦
          let pushed = w.in_ok-push_back.ensures in
          let first : c.match-take_at.held.items ≡ take (more + 1) entries =
          ap (λ (h : VecDeque Logged Global). h.items) w.held-is
          ∙ pushed.items
          ∙ take_more entries c.loop-more.held.items more w.in-Some.logged (inv.taken run.last run.is_last)
          (omega (arith, long, c.loop-more-test.true))
          (λ d. same_Some w.in-Some.logged (get_or entries more d) (sym w.in-Some.is ∙ here c d)) in
          record {
            taken = λ last is. subst (λ (x : Logged). c.match-take_at.held.items ≡ take (more + 1)
                (newest choice.size (run_to choice before x))) (same_Some run.last last (sym run.is_last ∙ is)) first;
            left = left_after choice before c.loop-more.slots.items c.take_at.new.slots.items c.args.run.now.last
                count more sno refl
                (omega (arith, runs.ends, run.long, run.serial, c.held_count-count.ensures))
                (omega (arith, counted)) c.loop-more-test.true
                (omega (arith, stands.from_base, run.serial)) inv.left
                (λ k other. c.take_at.ensures.others k (λ e. other (e ∙ slot)));
            len =
                ap (λ (h : VecDeque Logged Global). deque_len h) w.held-is ∙ pushed.len ∙ ap (λ (n : ℕ). n + 1) inv.len
                ∙ sym (ap (λ (l : List Logged). length l) (ap (λ (h : VecDeque Logged Global). h.items) w.held-is
                ∙ pushed.items) ∙ length_push c.loop-more.held.items w.in-Some.logged);
          }
      | in_default w ↦ let none : None ≡ Some (get_or entries more run.last) =
          sym w.in_default.is ∙ here c run.last in absurd cc
    ]

pub returns-clause-held : goal.returns-clause-held
returns-clause-held c =
    let choice = c.args.control.now in
    let before = c.args.slots.items in
    let run = c.requires.run in
    let count = c.held_count-count.result in
    let counted = counted_by choice before run.last c.args.run.now.len c.control.inside.size count run.long
    (ap (λ (ch : Choice). ch.size) c.control.view_is) c.held_count-count.ensures in
    let entries = newest choice.size (run_to choice before run.last) in
    let long = count_held choice before run.last count counted in
    run.held ∙ sym (ap (λ (l : List Logged). let found : Result (List Logged) ℕ = Ok l in found)
    (c.loop-more.invariant.taken run.last run.is_last
    ∙ take_all c.loop-more.more entries (omega (arith, long, c.loop-more-test.false))))

pub returns-clause-journal : goal.returns-clause-journal
returns-clause-journal c =
    let choice = c.args.control.now in
    let before = c.args.slots.items in
    let run = c.requires.run in
    let count = c.held_count-count.result in
    let counted = counted_by choice before run.last c.args.run.now.len c.control.inside.size count run.long
    (ap (λ (ch : Choice). ch.size) c.control.view_is) c.held_count-count.ensures in
    let entries = newest choice.size (run_to choice before run.last) in
    let long = count_held choice before run.last count counted in
    let ranges = c.holds_ranges.ensures in
    subst (λ (l : List Logged). IsJournal (log_of choice.log choice.base choice.size choice.block l))
    (sym (c.loop-more.invariant.taken run.last run.is_last
    ∙ take_all c.loop-more.more entries (omega (arith, long, c.loop-more-test.false))))
    (run_journal choice before run.last c.requires.read run.is_last ranges.file ranges.size ranges.block)

pub returns-clause-stands : goal.returns-clause-stands
returns-clause-stands c =
    let choice = c.args.control.now in
    let before = c.args.slots.items in
    let run = c.requires.run in
    let count = c.held_count-count.result in
    let counted = counted_by choice before run.last c.args.run.now.len c.control.inside.size count run.long
    (ap (λ (ch : Choice). ch.size) c.control.view_is) c.held_count-count.ensures in
    let entries = newest choice.size (run_to choice before run.last) in
    let long = count_held choice before run.last count counted in
    subst (All (λ (l : Logged). stands_in choice.format l ≡ true))
    (sym (c.loop-more.invariant.taken run.last run.is_last
    ∙ take_all c.loop-more.more entries (omega (arith, long, c.loop-more-test.false))))
    (run_stands choice before run.last c.requires.read run.is_last)
