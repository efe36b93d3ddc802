use Rattle.std.proofs.Common.{◌∙◌, arith}
use Rattle.kdb_control.proofs.Emptied.{cut_more, empty_more}
use Rattle.kdb_control.proofs.erasing.cut_files.Goals as goal

pub returns-in_err-empty_file-clause-crash : goal.returns-in_err-empty_file-clause-crash
returns-in_err-empty_file-clause-crash g c = record {
  told = λ tells. cut_more c.loop-file.file c.loop-file.invariant.one (c.loop-file.invariant.run tells)
      (c.empty_file.ensures.moments tells);
}

pub loop-file-preserved : goal.loop-file-preserved
loop-file-preserved g c = record {
  one = omega (arith, c.loop-file.invariant.one);
  run = λ tells. cut_more c.loop-file.file c.loop-file.invariant.one (c.loop-file.invariant.run tells)
      (c.empty_file.ensures.moments tells);
  empty =
      λ tells. empty_more c.loop-file.file (c.loop-file.invariant.empty tells) (c.in_ok-empty_file.ensures.ok tells);
  same = c.empty_file.ensures.same ∙ c.loop-file.invariant.same;
  faults = omega (arith, c.loop-file.invariant.faults, c.empty_file.ensures.cause.later);
}
