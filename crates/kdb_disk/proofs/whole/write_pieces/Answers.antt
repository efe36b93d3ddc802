use Rattle.std.proofs.Common.{◌-◌, ◌≤◌, ℕ, length, take, drop, ap, sym, arith, length-take}
use Rattle.std.proofs.lemmas.Bool.Decides.{nat_tests}
use Rattle.kdb_disk.proofs.Puts.{written_nothing}
use Rattle.kdb_disk.proofs.Runs.{started, long_after}
use Rattle.kdb_disk.proofs.Differing.{started_differs, wrote_more, piece_more}
use Rattle.kdb_disk.proofs.whole.write_pieces.Goals as goal

pub loop-at-init : goal.loop-at-init
loop-at-init g c =
    let v = g.D.Disk.view c.args.disk.now in
    record {
      moments = λ tells. started v _ (started_differs c.args.file v);
      seen = λ tells. sym (written_nothing c.args.file 0 v.seen);
      within = omega arith;
      same = λ i. g.D.Disk.loans c.args.disk.now;
      faults = omega arith;
    }

pub write_at-requires-clause-at : goal.write_at-requires-clause-at
write_at-requires-clause-at g c tells =
    let v = g.D.Disk.view c.args.disk.now in
    let front = take c.loop-at.at c.args.content.now in
    let long = long_after v.seen (g.D.Disk.view c.loop-at.disk).seen c.args.file 0 front
    (c.loop-at.invariant.seen tells) (omega arith) in
    omega (arith, long, length-take c.loop-at.at c.args.content.now, c.loop-at.invariant.within)

pub returns-in_err-write_at-clause-moments : goal.returns-in_err-write_at-clause-moments
returns-in_err-write_at-clause-moments g c tells =
    wrote_more (c.loop-at.invariant.moments tells) (c.write_at.ensures.crash tells) (c.write_at.ensures.time tells)

pub loop-at-preserved : goal.loop-at-preserved
loop-at-preserved g c =
    let before = c.loop-at.invariant in
    let content = c.args.content.now in
    let at = c.loop-at.at in
    let n = c.min-count.result in
    let few : n ≤ length content - at = grind (arith, nat_tests) in
    record {
      moments =
          λ tells. wrote_more (before.moments tells) (c.write_at.ensures.crash tells) (c.write_at.ensures.time tells);
      seen = λ tells. piece_more c.args.file at n content _ (g.D.Disk.view c.args.disk.now).seen
          (g.D.Disk.view c.loop-at.disk).seen _ (c.requires.empty tells) (omega (arith, before.within))
          (ap (λ (k : ℕ). take k (drop at content)) (omega arith)) (before.seen tells)
          (c.in_ok-write_at.ensures.seen tells);
      within = omega (arith, before.within);
      same = cc (before.same, c.write_at.ensures.same);
      faults = omega (arith, before.faults, c.write_at.ensures.cause.later);
    }
