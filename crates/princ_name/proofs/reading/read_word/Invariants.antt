-- What comes of the bytes that are left, with those that were read, is what comes of the word.
use Rattle.std.proofs.Common.{◌≡◌, false, None, drop}
use Rattle.princ_name.specs.Faults.{first_fault}
use Rattle.princ_name.specs.Steps.{texts_of, mark_of, fault_of}
use Rattle.princ_name.specs.Reading.{says, said_texts}
use Rattle.princ_name.proofs.reading.read_word.Given as goal

abbrev pub invariant-loop-at : goal.invariant-loop-at
invariant-loop-at l = record {
  texts : texts_of l.at l.reading (drop l.at l.word) ≡ said_texts (says 0 false None l.word);
  mark : mark_of l.at l.reading (drop l.at l.word) ≡ (says 0 false None l.word).realm_at;
  fault : fault_of l.at l.reading (drop l.at l.word) ≡ first_fault l.word;
}
