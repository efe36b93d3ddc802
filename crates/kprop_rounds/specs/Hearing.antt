-- What a replica makes of what comes on its connection: a reply, and behind it a dump.
use Rattle.std.specs.Prelude.{ℕ, List, Result, Ok, Err, if◌then◌else◌}
use Rattle.iprop_links.specs.declared.inbox.Arrival.{Arrival}
use Rattle.iprop_links.specs.declared.inbox.Arrival.TheVariants as arrival
use Rattle.iprop_reply.specs.Polls.{is_point}
use Rattle.iprop_wire.specs.Decoding.{State, Going, Waits, Broken, Spent}
use Rattle.iprop_wire.specs.declared.messages.Message.{Message}
use Rattle.iprop_wire.specs.declared.messages.Message.TheVariants.{Hello, Poll, Ask, Reply, DumpText}
use Rattle.kdb_places.specs.Places.{no_point}
use Rattle.kprop_rounds.specs.declared.words.RoundWord.{RoundWord}
use Rattle.kprop_rounds.specs.declared.words.RoundWord.TheVariants as word
use Rattle.princ_rows.specs.Replies.{Reply as ReplyParts}
use Rattle.princ_rows.specs.declared.replies.ReplyCode.{ReplyCode}
use Rattle.princ_rows.specs.declared.replies.ReplyCode.TheVariants as code

-- what the bytes of a connection lead to, where all but what is due is refused, as it arrives
abbrev pub arrived : State → Result Message RoundWord
arrived (Going begun held) = Err word.Cut
arrived (Waits message) = Ok message
arrived Broken = Err word.BadFrame
arrived Spent = Err word.BadFrame

abbrev pub heard : Arrival → Result Message RoundWord
heard (arrival.Came message) = Ok message
heard arrival.Cut = Err word.Cut
heard arrival.Bad = Err word.BadFrame

-- ---- behind a poll

abbrev pub reply_in : Message → Result ReplyParts RoundWord
reply_in (Hello name) = Err word.BadFrame
reply_in (Poll asked) = Err word.BadFrame
reply_in Ask = Err word.BadFrame
reply_in (Reply r) = Ok r
reply_in (DumpText text) = Err word.BadFrame

abbrev pub then_reply : Result Message RoundWord → Result ReplyParts RoundWord
then_reply (Ok message) = reply_in message
then_reply (Err w) = Err w

-- ---- behind an asking

abbrev pub refusal_by : ReplyCode → RoundWord
refusal_by code.UpdateOk = word.BadFrame
refusal_by code.FullResyncNeeded = word.BadFrame
refusal_by code.Busy = word.Busy
refusal_by code.Nil = word.BadFrame
refusal_by code.PermDenied = word.Denied

-- a reply that no dump is given: it names no point
abbrev pub refusal_of : ReplyParts → RoundWord
refusal_of r = if is_point r.asked no_point then refusal_by r.code else word.BadFrame

abbrev pub dump_in : Message → Result (List ℕ) RoundWord
dump_in (Hello name) = Err word.BadFrame
dump_in (Poll asked) = Err word.BadFrame
dump_in Ask = Err word.BadFrame
dump_in (Reply r) = Err (refusal_of r)
dump_in (DumpText text) = Ok text

abbrev pub then_dump : Result Message RoundWord → Result (List ℕ) RoundWord
then_dump (Ok message) = dump_in message
then_dump (Err w) = Err w
