use Rattle.std.proofs.Common.{ap, arith}
use Rattle.std.specs.Prelude.{option_map}
use Rattle.std.proofs.lemmas.Result.{on_ok_weaker}
use Rattle.store_opening.proofs.Quiet.{quiet_run, quiet_none, stash_written, no_stash}
use Rattle.store_opening.proofs.putting.write_stash.Goals as goal

pub returns-in-Some-clause-quiet : goal.returns-in-Some-clause-quiet
returns-in-Some-clause-quiet g c tells =
    quiet_run 5 (omega arith) (c.requires tells) (c.replace_file.ensures.moments tells)

pub returns-in-Some-clause-stash : goal.returns-in-Some-clause-stash
returns-in-Some-clause-stash g c tells choice is =
    on_ok_weaker c.replace_file.result
    (stash_written choice (option_map (λ s. s.now) c.args.stash) c.in-Some.bytes.now
    (ap (option_map (λ s. s.now)) c.in-Some.is) is)
    (c.replace_file.ensures.ok tells)

pub returns-in-None-clause-quiet : goal.returns-in-None-clause-quiet
returns-in-None-clause-quiet g c tells = quiet_none (g.D.Disk.view c.args.disk.now) (c.requires tells)

pub returns-in-None-clause-stash : goal.returns-in-None-clause-stash
returns-in-None-clause-stash g c tells choice is =
    no_stash (g.D.Disk.view c.args.disk.now) choice (option_map (λ s. s.now) c.args.stash)
    (ap (option_map (λ s. s.now)) c.in-None.is) is
