use Rattle.std.proofs.Common.{◌≡◌, List, refl, ap, subst, ◌∙◌}
use Rattle.iprop_truths.specs.Polls.{reply_of, updates_here}
use Rattle.kdb_disk.specs.Frames.{IsCrashSafe}
use Rattle.kdb_places.specs.Places.{Place}
use Rattle.replica_core.specs.Opened.{LeavesMade, place_in}
use Rattle.replica_core.specs.Taking.{AtHalt, AtJudgement}
use Rattle.replica_core.proofs.Moments.{nothing_made}
use Rattle.replica_core.proofs.Passing.{made_then, never_untaken, stopped_gap}
use Rattle.replica_core.proofs.Passing.{stopped_there, stopped_wrong, updated_all}
use Rattle.replica_steps.specs.Bridges.{MayBePart}
use Rattle.replica_steps.specs.Judging.{is_based, made_by_reply}
use Rattle.replica_steps.specs.Replicas.{place_after}
use Rattle.replica_core.proofs.taking.take_updates.Goals as goal

pub returns-in-Err-clause-answer : goal.returns-in-Err-clause-answer
returns-in-Err-clause-answer g c size sized =
    let place = place_in c.args.database.now in
    let asked = c.args.asked.now in
    let us = c.args.updates.now in
    stopped_wrong size place asked us (is_based place) c.point_in-mine.result refl c.point_in-mine.ensures c.in-Err.stop
    c.in-Err.ensures.wrong

pub returns-in-Err-clause-crash : goal.returns-in-Err-clause-crash
returns-in-Err-clause-crash g c size sized =
    let place = place_in c.args.database.now in
    let asked = c.args.asked.now in
    let us = c.args.updates.now in
    record {
      told = λ tells. nothing_made c.args.database.now (made_by_reply size place (reply_of updates_here asked us))
          (g.D.Disk.view c.args.disk.now) (c.requires.on tells);
    }

pub returns-in-Err-first_gap-clause-answer : goal.returns-in-Err-first_gap-clause-answer
returns-in-Err-first_gap-clause-answer g c size sized =
    let place = place_in c.args.database.now in
    let asked = c.args.asked.now in
    let us = c.args.updates.now in
    stopped_gap size place asked us c.is_based.result c.point_in-mine.result c.is_based.ensures c.point_in-mine.ensures
    c.in-Err-first_gap.stop c.in-Ok.ensures.wrong c.in-Err-first_gap.ensures.gap

pub returns-in-Err-first_gap-clause-crash : goal.returns-in-Err-first_gap-clause-crash
returns-in-Err-first_gap-clause-crash g c size sized =
    let place = place_in c.args.database.now in
    let asked = c.args.asked.now in
    let us = c.args.updates.now in
    record {
      told = λ tells. nothing_made c.args.database.now (made_by_reply size place (reply_of updates_here asked us))
          (g.D.Disk.view c.args.disk.now) (c.requires.on tells);
    }

pub returns-in-Ok-store_in-clause-answer : goal.returns-in-Ok-store_in-clause-answer
returns-in-Ok-store_in-clause-answer g c size sized =
    let place = place_in c.args.database.now in
    let asked = c.args.asked.now in
    let us = c.args.updates.now in
    updated_all size place asked us c.is_based.result c.point_in-mine.result
    c.is_based.ensures c.point_in-mine.ensures c.count-count.result c.in-Ok.ensures.wrong c.in-Ok-first_gap.ensures.gap
    (c.in-Ok-store_in.ensures.stop size sized) c.count-count.ensures

pub returns-in-Ok-store_in-clause-place : goal.returns-in-Ok-store_in-clause-place
returns-in-Ok-store_in-clause-place g c size sized =
    let place = place_in c.args.database.now in
    let asked = c.args.asked.now in
    let us = c.args.updates.now in
    c.in-Ok-store_in.ensures.place size sized ∙ ap (place_after place)
    (made_then size place asked us c.is_based.result c.point_in-mine.result c.is_based.ensures c.point_in-mine.ensures
    c.in-Ok.ensures.wrong c.in-Ok-first_gap.ensures.gap)

pub returns-in-Ok-store_in-clause-crash : goal.returns-in-Ok-store_in-clause-crash
returns-in-Ok-store_in-clause-crash g c size sized =
    let place = place_in c.args.database.now in
    let asked = c.args.asked.now in
    let us = c.args.updates.now in
    subst (λ (made : List Place). IsCrashSafe g.D.Disk c.args.disk.now c.store_in.new.disk (LeavesMade place made))
    (made_then size place asked us c.is_based.result c.point_in-mine.result c.is_based.ensures c.point_in-mine.ensures
    c.in-Ok.ensures.wrong c.in-Ok-first_gap.ensures.gap) (c.store_in.ensures.crash size sized)

pub returns-in-Err-store_in-clause-answer : goal.returns-in-Err-store_in-clause-answer
returns-in-Err-store_in-clause-answer g c size sized =
    let place = place_in c.args.database.now in
    let asked = c.args.asked.now in
    let us = c.args.updates.now in
    stopped_there size place asked us c.is_based.result c.point_in-mine.result c.is_based.ensures
    c.point_in-mine.ensures c.in-Err-store_in.stop c.in-Ok.ensures.wrong c.in-Ok-first_gap.ensures.gap
    (c.in-Err-store_in.ensures.stop size sized)

pub returns-in-Err-store_in-clause-place : goal.returns-in-Err-store_in-clause-place
returns-in-Err-store_in-clause-place g c size sized =
    let place = place_in c.args.database.now in
    let asked = c.args.asked.now in
    let us = c.args.updates.now in
    subst (λ (made : List Place).
    AtJudgement c.in-Err-store_in.stop (place_in c.store_in.new.database ≡ place_after place made))
    (made_then size place asked us c.is_based.result c.point_in-mine.result c.is_based.ensures c.point_in-mine.ensures
    c.in-Ok.ensures.wrong c.in-Ok-first_gap.ensures.gap) (c.in-Err-store_in.ensures.place size sized)

pub returns-in-Err-store_in-clause-part : goal.returns-in-Err-store_in-clause-part
returns-in-Err-store_in-clause-part g c size sized =
    let place = place_in c.args.database.now in
    let asked = c.args.asked.now in
    let us = c.args.updates.now in
    subst (λ (made : List Place).
    AtHalt c.in-Err-store_in.stop (MayBePart place made (place_in c.store_in.new.database)))
    (made_then size place asked us c.is_based.result c.point_in-mine.result c.is_based.ensures c.point_in-mine.ensures
    c.in-Ok.ensures.wrong c.in-Ok-first_gap.ensures.gap) (c.in-Err-store_in.ensures.part size sized)

pub returns-in-Err-store_in-clause-crash : goal.returns-in-Err-store_in-clause-crash
returns-in-Err-store_in-clause-crash g c size sized =
    let place = place_in c.args.database.now in
    let asked = c.args.asked.now in
    let us = c.args.updates.now in
    subst (λ (made : List Place). IsCrashSafe g.D.Disk c.args.disk.now c.store_in.new.disk (LeavesMade place made))
    (made_then size place asked us c.is_based.result c.point_in-mine.result c.is_based.ensures c.point_in-mine.ensures
    c.in-Ok.ensures.wrong c.in-Ok-first_gap.ensures.gap) (c.store_in.ensures.crash size sized)

pub returns-in-Ok-store_in-clause-untouched : goal.returns-in-Ok-store_in-clause-untouched
returns-in-Ok-store_in-clause-untouched g c untaken =
    never_untaken 0 (place_in c.args.database.now) c.args.asked.now c.args.updates.now
    c.is_based.result c.point_in-mine.result c.is_based.ensures c.point_in-mine.ensures c.in-Ok.ensures.wrong
    c.in-Ok-first_gap.ensures.gap untaken

pub returns-in-Err-store_in-clause-untouched : goal.returns-in-Err-store_in-clause-untouched
returns-in-Err-store_in-clause-untouched g c untaken =
    never_untaken 0 (place_in c.args.database.now) c.args.asked.now c.args.updates.now
    c.is_based.result c.point_in-mine.result c.is_based.ensures c.point_in-mine.ensures c.in-Ok.ensures.wrong
    c.in-Ok-first_gap.ensures.gap untaken
