use Rattle.std.proofs.Common.{◌∙◌, sym}
use Rattle.kadm_commands.specs.declared.commands.Command.{Command}
use Rattle.kdb_disk.specs.Frames.{IsCrashSafe}
use Rattle.kdb_histories.specs.Calls.{Perform}
use Rattle.kdb_histories.specs.Seen.{seen}
use Rattle.primary_core.specs.Opened.{MayLeave, place_of}
use Rattle.kadm_session.specs.Steps.{ask_at}
use Rattle.kadm_session.proofs.StashAsked.{as_stash}
use Rattle.kadm_session.proofs.commands.perform_at.Goals as goal

pub returns-then-is_stash-clause-crash : goal.returns-then-is_stash-clause-crash
returns-then-is_stash-clause-crash g c = λ s has.
    let p = place_of c.args.primary.now in
    as_stash (λ (cmd : Command). IsCrashSafe g.D.Disk c.args.disk.now c.restash.new.disk
    (MayLeave p s (Perform (ask_at cmd c.args.now c.args.random.now (seen p s)))))
    c.command.result.now c.args.ready.now.command c.command.ensures.value (sym c.is_stash.ensures ∙ c.if-is_stash.true)
    (c.restash.ensures.crash s c.args.random.now has)
