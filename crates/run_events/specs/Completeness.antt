-- When a run is done: nothing is refused, no device failed, and the input was not too long. The same of one command,
-- and what a stash has to hold that opens a place.
use Rattle.std.specs.Prelude.{ℕ, ◌≡◌, ◌⊎◌, false, List, Option, Some, Result, Ok, Err, IfOk}
use Rattle.kadm_commands.specs.declared.replies.Reply.{Reply}
use Rattle.kadm_session.specs.Steps.{said}
use Rattle.kadm_session.specs.declared.intake.Asked.{Asked}
use Rattle.kadm_top.specs.Openings.{Opening}
use Rattle.kadm_top.specs.Run.{RunEnd, Told, commands_for, run_end}
use Rattle.kadm_top.specs.Statuses.{Faults, StatusHasCauses}
use Rattle.kdb_base.specs.Causes.{Rose}
use Rattle.kdb_base.specs.declared.outcomes.Halt.{Halt}
use Rattle.kdb_base.specs.declared.outcomes.Halt.TheVariants as halt
use Rattle.kdb_base.specs.declared.outcomes.Status.{Status}
use Rattle.kdb_base.specs.declared.outcomes.Status.TheVariants as status
use Rattle.kdb_base.specs.declared.versions.Master.{Master}
use Rattle.kdb_histories.specs.Asks.{Commanded, Replied}
use Rattle.kdb_histories.specs.Calls.{Perform}
use Rattle.kdb_histories.specs.Leaving.{Does}
use Rattle.kdb_histories.specs.Seen.{Seen, due_at}
use Rattle.kdb_model.specs.Calls.{Call}
use Rattle.kdb_model.specs.Laws.{told}
use Rattle.kdb_model.specs.Steps.{step}
use Rattle.kdb_places.specs.Places.{Place}
use Rattle.master_keys.specs.Chain.{Lists}
use Rattle.session_base.specs.Draws.{Draws, behind_moment}
use Rattle.session_base.specs.Wholes.{WereTaken}
use Rattle.stash_file.specs.Stashes.{IsStash}
use Rattle.stash_file.specs.declared.keys.StashKey.{StashKey}
use Rattle.stash_opening.specs.Finding.{first_listed, keys_in, own_record}

-- ---- a run: what it is to say

-- What the run is to say is told, and no refusal is among it.
pub record RefusesNothing (o : Opening) (before : Told) : Type 0 where
  pub end : RunEnd
  pub end_is : run_end o before ≡ Some end
  pub none : end.refused ≡ false

-- What a database is asked is told, and what the clock and the source of random bytes will give, of which its opening
-- takes a moment; and no reply is a refusal.
pub record SaysNoRefusal (asked : Option Asked) (before : Told) (at : Seen) : Type 0 where
  pub commands : List Asked
  pub commands_are : commands_for asked at.place.realm before.left ≡ Some commands
  pub draws : Draws
  pub draws_are : before.draws ≡ Some draws
  pub none : (said commands (behind_moment draws) at).refused ≡ false

-- ---- what stops it

-- as many bytes of the input were taken as an input may not have, as far as it is told
abbrev pub WasTooLong : Told → Told → Type 0
WasTooLong before after = WereTaken 4294967296 before.left after.left

-- A status has its causes: a fault comes only where its count rose, and an input that is too long only where so many
-- bytes of it were taken.
pub record IsCaused (before after : Told) (first last : Faults) (result : Status) : Type 0 where
  pub faults : StatusHasCauses first last result
  pub long : result ≡ status.InputTooLong → WasTooLong before after

-- No count of faults rose.
pub record NothingFailed (first last : Faults) : Type 0 where
  pub reads : Rose first.reads last.reads → ⊥
  pub writes : Rose first.writes last.writes → ⊥
  pub calls : Rose first.calls last.calls → ⊥
  pub draws : Rose first.draws last.draws → ⊥

-- neither did it, nor was the input too long
pub record NothingStopped (before after : Told) (first last : Faults) : Type 0 where
  pub failed : NothingFailed first last
  pub short : WasTooLong before after → ⊥

-- all was done and nothing refused, or memory was wanted and not given
abbrev pub IsDoneOrMemoryOut : Status → Type 0
IsDoneOrMemoryOut result = (result ≡ status.Done) ⊎ (result ≡ status.MemoryOut)

-- the input was too long, of which so many bytes were taken
abbrev pub EndedTooLong : Told → Told → Status → Type 0
EndedTooLong before after result = (result ≡ status.InputTooLong) × WasTooLong before after

-- ---- a command

-- the reply of the model's step, which is told whether the entry is to begin the log anew
abbrev pub model_reply : Call → Seen → Reply
model_reply call at = (step at.state (told (due_at (Commanded call) at) call)).reply

-- What `perform` of a primary answers, which led to this place: a reply that is the call's, and a fault of the disk
-- only where its count rose.
pub record IsPerformed (call : Call) (at : Seen) (later : Place) (first last : ℕ)
    (result : Result Reply Halt) : Type 0 where
  pub does : IfOk result (λ reply. Does at.place at.state (Perform (Commanded call)) (Replied reply) later)
  pub cause : result ≡ Err halt.DiskFault → Rose first last

-- this was replied, or memory was wanted and not given
abbrev pub IsReplyOrMemoryOut : Reply → Result Reply Halt → Type 0
IsReplyOrMemoryOut reply result = (result ≡ Ok reply) ⊎ (result ≡ Err halt.MemoryOut)

-- ---- an opening

-- The place has a stash, and the first of its keys whose version K/M lists is one of these master keys.
pub record HasStashOf (masters : List Master) (p : Place) : Type 0 where
  pub text : List ℕ
  pub stash_is : p.stash ≡ Some text
  pub keys : List StashKey
  pub keys_are : IsStash text keys
  pub found : Master
  pub first : first_listed (keys_in (own_record p.realm p.rows)) keys ≡ Some found
  pub listed : Lists masters found.version found.key
