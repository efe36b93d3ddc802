use Rattle.std.proofs.Common.{arith}
use Rattle.std.proofs.lemmas.Result.{on_ok_weaker}
use Rattle.store_opening.specs.Made.{made_found}
use Rattle.store_opening.proofs.Standing.{quiet_yet, quiet_made, quiet_image, quiet_log, written_all}
use Rattle.store_opening.proofs.Standing.{would_made, done_made, files_made, switched, holds_made, file_after}
use Rattle.store_opening.proofs.Standing.{chosen_run, chosen_set, log_in_force, durable_in_force}
use Rattle.store_opening.proofs.putting.put_first.Goals as goal

pub returns-in_err-write-clause-moments : goal.returns-in_err-write-clause-moments
returns-in_err-write-clause-moments g c tells m to =
    quiet_yet (made_found m) (quiet_image to (c.write_stash.ensures.quiet tells) (c.write.ensures.moments tells))

pub returns-in_err-write-2-clause-moments : goal.returns-in_err-write-2-clause-moments
returns-in_err-write-2-clause-moments g c tells m to =
    quiet_yet (made_found m)
    (quiet_log to (quiet_image to (c.write_stash.ensures.quiet tells) (c.write.ensures.moments tells))
    (c.write-2.ensures.crash.told tells))

pub switch-requires-clause-now : goal.switch-requires-clause-now
switch-requires-clause-now g c tells =
    let to = c.requires.made.1 in
    (quiet_log to (quiet_image to (c.write_stash.ensures.quiet tells) (c.write.ensures.moments tells))
    (c.write-2.ensures.crash.told tells)).nothing

pub returns-clause-moments : goal.returns-clause-moments
returns-clause-moments g c tells m to =
    let quiet = quiet_log to (quiet_image to (c.write_stash.ensures.quiet tells) (c.write.ensures.moments tells))
    (c.write-2.ensures.crash.told tells) in
    let written = written_all to (c.in_ok-write_stash.ensures.stash tells) (c.write.ensures.moments tells)
    (c.in_ok-write.ensures.ok tells) (c.write-2.ensures.crash.told tells) (c.in_ok-write-2.ensures.log tells) in
    let would =
    would_made m c.args.control.now c.args.image.now c.args.log.now _ (g.D.Disk.view c.write-2.new.disk) to written in
    quiet_made (made_found m) quiet (switched (made_found m) (done_made m) (files_made m to.some) would
    (chosen_run to (c.switch.ensures.crash.told tells)))

pub returns-clause-holds : goal.returns-clause-holds
returns-clause-holds g c tells m to =
    let written = written_all to (c.in_ok-write_stash.ensures.stash tells) (c.write.ensures.moments tells)
    (c.in_ok-write.ensures.ok tells) (c.write-2.ensures.crash.told tells) (c.in_ok-write-2.ensures.log tells) in
    let would =
    would_made m c.args.control.now c.args.image.now c.args.log.now _ (g.D.Disk.view c.write-2.new.disk) to written in
    on_ok_weaker c.switch.result (λ set. holds_made (made_found m) (done_made m) (files_made m to.some) would
    (chosen_run to (c.switch.ensures.crash.told tells)) (chosen_set to set)) (c.switch.ensures.ok tells)

pub returns-clause-image : goal.returns-clause-image
returns-clause-image g c tells =
    let to = c.requires.made.1 in
    let written = written_all to (c.in_ok-write_stash.ensures.stash tells) (c.write.ensures.moments tells)
    (c.in_ok-write.ensures.ok tells) (c.write-2.ensures.crash.told tells) (c.in_ok-write-2.ensures.log tells) in
    on_ok_weaker c.switch.result (λ set. file_after 1 c.args.image.now.content (λ e. absurd (omega (arith, e)))
    (c.switch.ensures.crash.told tells) written.file) (c.switch.ensures.ok tells)

pub returns-clause-log : goal.returns-clause-log
returns-clause-log g c tells =
    on_ok_weaker c.switch.result (λ set. log_in_force c.requires.made.1 (c.switch.ensures.crash.told tells)
    (c.in_ok-write-2.ensures.log tells)) (c.switch.ensures.ok tells)

pub returns-clause-durable : goal.returns-clause-durable
returns-clause-durable g c tells =
    on_ok_weaker c.switch.result (λ set. durable_in_force c.requires.made.1 (c.switch.ensures.crash.told tells) set
    (c.in_ok-write-2.ensures.durable tells)) (c.switch.ensures.ok tells)
