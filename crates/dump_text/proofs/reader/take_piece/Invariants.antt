use Rattle.std.proofs.Common.{◌≡◌, ◌++◌, List, ℕ, true, length}
use Rattle.dump_text.specs.Judged.{judged_from, said_by}
use Rattle.dump_text.specs.Lines.{lacks, lines_of}
use Rattle.dump_text.specs.Reader.{Grows}
use Rattle.dump_text.proofs.reader.take_piece.Given as goal

-- what is left is judged as the whole was
abbrev pub invariant-loop-front : goal.invariant-loop-front
invariant-loop-front l =
    ((rest : List ℕ) → judged_from l.said l.count (l.line.items ++ (l.rest ++ rest))
    ≡ judged_from l.fn.said l.fn.count (l.fn.line.items ++ (l.fn.piece ++ rest)))
    × (said_by l.said (lines_of (l.line.items ++ l.rest)).whole
    ≡ said_by l.fn.said (lines_of (l.fn.line.items ++ l.fn.piece)).whole)
    × ((lines_of (l.line.items ++ l.rest)).rest ≡ (lines_of (l.fn.line.items ++ l.fn.piece)).rest)
    × (lacks 10 l.line.items ≡ true)
    × Grows l.fn.said l.said

abbrev pub decreases-loop-front : goal.decreases-loop-front
decreases-loop-front l = length l.rest
