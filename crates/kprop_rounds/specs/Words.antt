-- The words of rounds, and what ends one early.
use Rattle.std.specs.Prelude.{Option, Some, None}
use Rattle.iprop_links.specs.declared.halts.LinkHalt.{LinkHalt}
use Rattle.iprop_links.specs.declared.halts.LinkHalt.TheVariants as link
use Rattle.kdb_base.specs.declared.outcomes.Halt.{Halt}
use Rattle.kdb_base.specs.declared.outcomes.Halt.TheVariants as disk
use Rattle.kprop_rounds.specs.declared.words.RoundHalt.{RoundHalt}
use Rattle.kprop_rounds.specs.declared.words.RoundHalt.TheVariants as round
use Rattle.kprop_rounds.specs.declared.words.RoundWord.{RoundWord}
use Rattle.kprop_rounds.specs.declared.words.RoundWord.TheVariants as word
use Rattle.replica_steps.specs.Judging.{Judged, WrongPoint, Gap, Updated, Nil, Resync, Busy, Denied}

abbrev pub link_as_round : LinkHalt → RoundHalt
link_as_round link.MemoryOut = round.MemoryOut
link_as_round link.LinkFault = round.LinkFault
link_as_round link.InputTooLong = round.InputTooLong

abbrev pub disk_as_round : Halt → RoundHalt
disk_as_round disk.MemoryOut = round.MemoryOut
disk_as_round disk.DiskFault = round.DiskFault

-- the word of a reply, by the judgement of it; none where a dump is to be asked for
abbrev pub word_of : Judged → Option RoundWord
word_of (WrongPoint reply mine) = Some word.WrongPoint
word_of (Gap want found) = Some word.Gap
word_of (Updated count) = Some (word.Updated count)
word_of Nil = Some word.Nil
word_of Resync = None
word_of Busy = Some word.Busy
word_of Denied = Some word.Denied
