use Rattle.std.proofs.Common.{◌≡◌, ◌≤◌, ◌-◌, length, option_map}
use Rattle.dump_text.specs.Reader.{judged_with}
use Rattle.session_base.specs.Wholes.{WereTaken}
use Rattle.kadm_loading.proofs.reading.feed_all.Given as goal

-- So many bytes were taken, and what is left is judged as the whole was.
abbrev pub invariant-loop-taken : goal.invariant-loop-taken
invariant-loop-taken g l = record {
  few : l.taken ≤ 4294967296;
  room : length l.buffer ≡ 65536;
  judged : option_map (judged_with l.reader) (g.S.Source.left l.source)
      ≡ option_map (judged_with l.fn.reader) (g.S.Source.left l.fn.source);
  taken : WereTaken l.taken (g.S.Source.left l.fn.source) (g.S.Source.left l.source);
  faults : g.S.Source.faults l.fn.source ≤ g.S.Source.faults l.source;
}

abbrev pub decreases-loop-taken : goal.decreases-loop-taken
decreases-loop-taken g l = 4294967296 - l.taken
