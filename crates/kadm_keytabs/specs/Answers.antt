-- What a run over an input answers, and what is written of it.
use Rattle.std.specs.Prelude.{ℕ, ◌≡◌, ◌⊎◌, Bool, true, false, List, Option}
use Rattle.kadm_commands.specs.declared.replies.Reply.TheVariants as reply
use Rattle.kadm_keytabs.specs.Inputs.{IsBadInput, IsKeytabInput}
use Rattle.kadm_keytabs.specs.declared.answers.Answer.{Answer}
use Rattle.kadm_replies.specs.Replies.{reply_text}
use Rattle.session_base.specs.declared.halts.SessionHalt.{SessionHalt}
use Rattle.session_base.specs.declared.halts.SessionHalt.TheVariants as session
use Rattle.kdb_base.specs.declared.outcomes.Refusal.{Refusal}
use Rattle.kdb_base.specs.declared.outcomes.Refusal.TheVariants.{BadKeytab}
use Rattle.kdb_ports.specs.Parts.{SaidPart}
use Rattle.kdb_ports.specs.Told.{after_told}
use Rattle.keytab_out.specs.Entries.{keytab_text}
use Rattle.stash_file.specs.Pieces.{Told}

-- the keytab of these entries
abbrev pub keytab_answer : List Told → Answer
keytab_answer entries = record { text = keytab_text entries; refused = false }

-- the line of a refusal, alone
abbrev pub refusal_answer : Refusal → Answer
refusal_answer why = record { text = reply_text (reply.Refused why); refused = true }

-- ---- by the input

-- an input that is a keytab is answered by its entries
pub record IsReadAs (answers : List Told → Answer → Type 0) (text : List ℕ) (answer : Answer) : Type 0 where
  pub entries : List Told
  pub keytab : IsKeytabInput text entries
  pub answered : answers entries answer

-- one that is none is refused
pub record IsNoKeytab (text : List ℕ) (answer : Answer) : Type 0 where
  pub place : ℕ
  pub bad : IsBadInput text place
  pub answer_is : answer ≡ refusal_answer (BadKeytab place)

-- an answer to an input, by what is answered to the entries of a keytab
abbrev pub Answers : (List Told → Answer → Type 0) → List ℕ → Answer → Type 0
Answers answers text answer = IsReadAs answers text answer ⊎ IsNoKeytab text answer

-- ---- what was written

-- such an answer, whole
pub record IsWritten (answers : Answer → Type 0) (refused : Bool) (old new : Option (List ℕ)) : Type 0 where
  pub answer : Answer
  pub is : answers answer
  pub refused_is : refused ≡ answer.refused
  pub taken_is : new ≡ after_told old answer.text

-- a front of such an answer
pub record IsPartWritten (answers : Answer → Type 0) (old new : Option (List ℕ)) : Type 0 where
  pub answer : Answer
  pub is : answers answer
  pub part : SaidPart answer.text old new

-- how a run without a database may be stopped
abbrev pub IsFilterHalt : SessionHalt → Type 0
IsFilterHalt session.MemoryOut = Unit {0}
IsFilterHalt session.ReadFault = Unit {0}
IsFilterHalt session.WriteFault = Unit {0}
IsFilterHalt session.InputTooLong = Unit {0}
IsFilterHalt other = ⊥
