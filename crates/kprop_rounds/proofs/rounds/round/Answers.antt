use Rattle.kdb_ports.specs.Links.{first_of}
use Rattle.kprop_rounds.proofs.Ends.{nothing_safe, nothing_some}
use Rattle.kprop_rounds.proofs.Replied.{unstarted}
use Rattle.kprop_rounds.specs.Rounds.{round_end}
use Rattle.kprop_rounds.specs.declared.words.RoundHalt.TheVariants.{MemoryOut}
use Rattle.replica_core.specs.Opened.{place_of}
use Rattle.kprop_rounds.proofs.rounds.round.Goals as goal

pub returns-in-Err-clause-round : goal.returns-in-Err-clause-round
returns-in-Err-clause-round g c w told =
    unstarted c.args.name.now c.args.replica.now.size (place_of c.args.replica.now) w
    (g.L.Link.wire c.args.link.now) MemoryOut told

pub returns-in-Err-clause-crash : goal.returns-in-Err-clause-crash
returns-in-Err-clause-crash g c w told =
    nothing_safe g.D.Disk c.args.disk.now c.args.replica.now.database
    (round_end c.args.replica.now.size (place_of c.args.replica.now) (first_of w.to_come)).made c.requires.on

pub returns-in-Err-clause-some : goal.returns-in-Err-clause-some
returns-in-Err-clause-some g c =
    nothing_some g.D.Disk c.args.disk.now c.args.replica.now.size c.args.replica.now.database c.requires.on
