-- What a round comes to, by what its connection gives.
use Rattle.std.specs.Prelude.{ℕ, ◌≡◌, ◌≤◌, ◌⊎◌, Bool, true, false, List, [], ◌∷◌, ◌++◌, drop}
use Rattle.std.specs.Prelude.{length, take, Option, Some, None, Result, Ok, Err, IfOk, OnErr, OnOk}
use Rattle.dump_text.specs.Judged.{judged as dump_judged}
use Rattle.dump_text.specs.declared.dumps.Dump.{Dump}
use Rattle.dump_text.specs.declared.stops.DumpStop.{DumpStop}
use Rattle.dump_text.specs.declared.stops.DumpStop.TheVariants as stop
use Rattle.iprop_links.specs.Arriving.{IsUnended, led}
use Rattle.iprop_links.specs.Asking.{MaySay, greeting, later_in, sent_in}
use Rattle.iprop_wire.specs.Decoding.{fresh, taken}
use Rattle.iprop_wire.specs.Messages.{message_text}
use Rattle.iprop_wire.specs.declared.due.Due.TheVariants as due
use Rattle.iprop_wire.specs.declared.messages.Message.TheVariants.{Poll, Ask}
use Rattle.kdb_disk.specs.Files.{Files}
use Rattle.kdb_places.specs.Places.{Place}
use Rattle.kdb_ports.specs.Links.{Wire, after_sent, behind_first, first_of}
use Rattle.kprop_rounds.specs.Hearing.{arrived, then_dump, then_reply}
use Rattle.kprop_rounds.specs.Words.{word_of}
use Rattle.kprop_rounds.specs.declared.words.RoundHalt.{RoundHalt}
use Rattle.kprop_rounds.specs.declared.words.RoundWord.{RoundWord}
use Rattle.kprop_rounds.specs.declared.words.RoundWord.TheVariants as word
use Rattle.princ_rows.specs.Replies.{Reply}
use Rattle.replica_core.specs.Opened.{LeavesMade, told_dump}
use Rattle.replica_core.specs.Taking.{told_reply}
use Rattle.replica_steps.specs.Bridges.{MayBePart}
use Rattle.replica_steps.specs.Judging.{judged, point_in}
use Rattle.replica_steps.specs.Replicas.{Install, Reopen, Take, Task, place_after, task_makes}

-- ---- its end

pub record RoundEnd : Type 0 where
  pub word : RoundWord
  -- whether a dump was asked for
  pub asks : Bool
  -- the places that it makes of the replica, in their order
  pub made : List Place

abbrev pub ended : Bool → RoundWord → RoundEnd
ended asks w = record { word = w; asks = asks; made = [] }

abbrev pub end_of_dump : ℕ → Option Place → Result Dump ℕ → RoundEnd
end_of_dump size place (Ok dump) =
    record { word = word.Loaded; asks = true; made = task_makes size place (Install (told_dump dump)) }
end_of_dump size place (Err line) = ended true (word.DumpBad line)

abbrev pub end_by_dump : ℕ → Option Place → Result (List ℕ) RoundWord → RoundEnd
end_by_dump size place (Ok text) = end_of_dump size place (dump_judged text)
end_by_dump size place (Err w) = ended true w

-- behind an asking, where these bytes are still to come
abbrev pub end_of_asking : ℕ → Option Place → List ℕ → RoundEnd
end_of_asking size place rest = end_by_dump size place (then_dump (arrived (led due.Dump fresh rest)))

abbrev pub end_by_word : ℕ → Option Place → Reply → List ℕ → Option RoundWord → RoundEnd
end_by_word size place r rest (Some w) =
    record { word = w; asks = false; made = task_makes size place (Take (told_reply r)) }
end_by_word size place r rest None = end_of_asking size place rest

-- behind a reply, where these bytes are still to come
abbrev pub end_of_reply : ℕ → Option Place → List ℕ → Reply → RoundEnd
end_of_reply size place rest r = end_by_word size place r rest (word_of (judged size place (told_reply r)))

abbrev pub end_by_reply : ℕ → Option Place → List ℕ → Result Reply RoundWord → RoundEnd
end_by_reply size place rest (Ok r) = end_of_reply size place rest r
end_by_reply size place rest (Err w) = ended false w

-- the end of a round of a replica whose connection gives these bytes
abbrev pub round_end : ℕ → Option Place → List ℕ → RoundEnd
round_end size place given =
    end_by_reply size place (drop (taken fresh given) given) (then_reply (arrived (led due.Reply fresh given)))

-- ---- where too much comes

-- These bytes are more than a round receives, and those that it receives of them make no end.
pub record GivesNoEnd (size : ℕ) (place : Option Place) (given : List ℕ) : Type 0 where
  pub long : 4294967296 ≤ length given
  pub cut : (round_end size place (take 4294967296 given)).word ≡ word.Cut

-- it is a dump that does not end, which a reply asked for
pub record NoEndBehind (size : ℕ) (place : Option Place) (r : Reply) (rest : List ℕ) (all : ℕ) : Type 0 where
  pub asks : word_of (judged size place (told_reply r)) ≡ None
  pub unended : IsUnended due.Dump rest all

-- ---- what is sent

abbrev pub asking : Bool → List ℕ
asking false = []
asking true = message_text Ask

abbrev pub round_text : List ℕ → Option Place → RoundEnd → List ℕ
round_text name place end = greeting name (Poll (point_in place)) ++ asking end.asks

-- an asking behind what was sent, where there is one
abbrev pub after_asking : Bool → Option Wire → Option Wire
after_asking false told = told
after_asking true told = after_sent told (message_text Ask)

-- of an asking nothing was sent, or all of it
abbrev pub MayAsk : Bool → Option Wire → Option Wire → Type 0
MayAsk asks old new = (sent_in new ≡ sent_in old) ⊎ (sent_in new ≡ sent_in (after_asking asks old))

-- ---- what comes of the replica

-- where nothing stopped it, the word and the place are those of the end; else the place is one that it makes on the way
pub record EndsAs (result : Result RoundWord RoundHalt) (end : RoundEnd) (old new : Option Place) : Type 0 where
  pub word_is : IfOk result (λ w. w ≡ end.word)
  pub place_is : IfOk result (λ w. new ≡ place_after old end.made)
  pub part : OnErr result (MayBePart old end.made new)

-- A round of a replica by this name, over a link that told these connections before: with this end, to this place.
pub record IsRoundOf (result : Result RoundWord RoundHalt) (name : List ℕ) (end : RoundEnd) (before : Wire)
    (old new : Option Place) (after : Option Wire) : Type 0 where
  pub ends : EndsAs result end old new
  -- what was sent on the new connection is the text of the end, or a front of it where the round was stopped
  pub said : OnOk result (sent_in after ≡ Some (round_text name old end ∷ before.sent))
  pub front : OnErr result (MaySay (round_text name old end) before.sent (sent_in after))
  pub later : OnOk result (later_in after ≡ Some (behind_first before.to_come))

-- the end is the one of the bytes that the next connection gives
abbrev pub IsRound : Result RoundWord RoundHalt → List ℕ → ℕ → Wire → Option Place → Option Place → Option Wire → Type 0
IsRound result name size before old new after =
    IsRoundOf result name (round_end size old (first_of before.to_come)) before old new after

-- a round takes a reply or loads a dump, and opens nothing anew
abbrev pub IsOfRound : Task → Type 0
IsOfRound (Take r) = Unit {0}
IsOfRound (Install dump) = Unit {0}
IsOfRound (Reopen size) = ⊥

-- the files stand for what there was, or for a place that a reply or a dump makes
pub record LeavesSome (size : ℕ) (place : Option Place) (files : Files) : Type 0 where
  pub task : Task
  pub of_round : IsOfRound task
  pub leaves : LeavesMade place (task_makes size place task) files

-- how a dump was read
abbrev pub IsReadAs : Result Dump DumpStop → Result Dump ℕ → Type 0
IsReadAs (Ok dump) j = j ≡ Ok dump
IsReadAs (Err (stop.DumpBad line)) j = j ≡ Err line
IsReadAs (Err stop.WriteFault) j = ⊥
IsReadAs (Err stop.MemoryOut) j = Unit {0}
