-- What `ktadd` that makes new keys comes to.
use Rattle.std.specs.Prelude.{ℕ, ◌≡◌, ◌⊎◌, false, Bool, List, [], Option, Some, None, Result, Ok, Err, length, ⊤}
use Rattle.kadm_commands.specs.declared.commands.ChangeKeys.{ChangeKeys}
use Rattle.kadm_commands.specs.declared.commands.Command.{Command}
use Rattle.kadm_commands.specs.declared.commands.Command.TheVariants as command
use Rattle.kadm_commands.specs.declared.replies.Reply.{Reply}
use Rattle.kadm_commands.specs.declared.replies.Reply.TheVariants as reply
use Rattle.kadm_keytabs.specs.Additions.{addition_by, keys_told}
use Rattle.kadm_keytabs.specs.Answers.{refusal_answer}
use Rattle.kadm_keytabs.specs.Inputs.{IsBadInput, IsKeytabInput}
use Rattle.kadm_keytabs.specs.declared.answers.Answer.{Answer}
use Rattle.kdb_base.specs.Moment.{Moment}
use Rattle.kdb_base.specs.declared.extracts.Extract.{Extract}
use Rattle.kdb_base.specs.declared.keys.Etype.{Etype}
use Rattle.kdb_base.specs.declared.outcomes.Refusal.{Refusal}
use Rattle.kdb_base.specs.declared.outcomes.Refusal.TheVariants.{BadKeytab}
use Rattle.kdb_disk.specs.Files.{Files}
use Rattle.kdb_histories.specs.Asks.{Answer as Outcome, Ask, Replied}
use Rattle.kdb_histories.specs.Calls.{Performs}
use Rattle.kdb_histories.specs.Seen.{Seen, after_ask, answer_at, made_at, moment_at}
use Rattle.kdb_histories.specs.Stages.{places}
use Rattle.kdb_model.specs.Laws.{IsMoment}
use Rattle.kdb_places.specs.Places.{Place}
use Rattle.kdb_ports.specs.Told.{after_told}
use Rattle.plain_keys.specs.declared.new_keys.NewKeys.TheVariants.{Random}
use Rattle.primary_core.specs.Opened.{HasState, Opened, command_ask, place_of}
use Rattle.princ_name.specs.Names.{NameParts}
use Rattle.session_base.specs.Draws.{Draws, behind_command, block_in, moment_in}
use Rattle.session_base.specs.Stages.{Stage, StopsAt}
use Rattle.stash_file.specs.Pieces.{Told}
use Rattle.store_files.specs.Found.{recovers}
use Rattle.store_files.specs.Recovery.{LeavesPart}

-- ---- the command

-- who asks, whose keys are made anew, and of which types
pub record Wanted : Type 0 where
  pub client : NameParts
  pub name : NameParts
  pub etypes : List Etype

abbrev pub wanted : NameParts → NameParts → List Etype → Wanted
wanted client name etypes = record { client = client; name = name; etypes = etypes }

-- new random keys, and none of before beside them
abbrev pub change_for : NameParts → List Etype → ChangeKeys
change_for name etypes = record { name = name; keys = Random etypes; keep_old = false }

abbrev pub renew_command : NameParts → List Etype → Command
renew_command name etypes = command.ChangeKeys (change_for name etypes)

-- the command as it is asked, without an access list, at a moment of the clock and with a block of random bytes
abbrev pub ask_for : Wanted → Moment → List ℕ → Ask
ask_for w now random = command_ask w.client None (renew_command w.name w.etypes) now random

-- ---- what a run comes to

-- The primary is asked so from here, and answers its own answer: the places that it makes, and the state behind them,
-- are those of its history.
abbrev pub IsAsked : Ask → Seen → Type 0
IsAsked ask at = Performs at.place at.state ask (answer_at ask at) (made_at ask at)

-- what is answered, what the primary is asked for it and from where, the places that are made, the place with its state
-- after them, and what the clock and the random source have left
pub record Renewal : Type 0 where
  pub answer : Answer
  pub asked : Option Ask
  pub from : Seen
  pub made : List Place
  pub later : Seen
  pub draws : Draws

-- what the primary is asked for it was done, where it is asked at all
abbrev pub WasDone : Option Ask → Seen → Type 0
WasDone None at = ⊤
WasDone (Some ask) at = IsAsked ask at

-- the refusal that a reply is
abbrev pub refused_in : Reply → Option Refusal
refused_in (reply.Refused why) = Some why
refused_in other = None

abbrev pub refusal_in : Outcome → Option Refusal
refusal_in (Replied reply) = refused_in reply
refusal_in other = None

-- the refusal of the command, or the keys behind it
abbrev pub keys_behind : Option Refusal → Result (List Extract) Refusal → Result (List Extract) Refusal
keys_behind (Some why) told = Err why
keys_behind None told = told

-- What is answered to a keytab with these entries: the entries, and behind them those of the principal's keys in the
-- state after the command, with the seconds of its moment; or its refusal.
abbrev pub answer_of : Wanted → Moment → List ℕ → Seen → List Told → Answer
answer_of w now random at entries =
    addition_by w.name (moment_at now at.place).secs entries
    (keys_behind (refusal_in (answer_at (ask_for w now random) at))
    (keys_told (after_ask (ask_for w now random) at).state w.name))

-- the places of the command, done with what is drawn next
abbrev pub places_for : Wanted → Draws → Seen → List Place
places_for w draws at = places (made_at (ask_for w (moment_in draws) (block_in draws)) at)

-- Of a keytab with these entries: the command is done, with a moment and a block.
abbrev pub renewal_of : Wanted → Draws → Seen → List Told → Renewal
renewal_of w draws at entries = record {
  answer = answer_of w (moment_in draws) (block_in draws) at entries;
  asked = Some (ask_for w (moment_in draws) (block_in draws));
  from = at;
  made = places_for w draws at;
  later = after_ask (ask_for w (moment_in draws) (block_in draws)) at;
  draws = behind_command draws;
}

-- A refusal that comes first: nothing is done and nothing is drawn.
abbrev pub no_renewal : Refusal → Draws → Seen → Renewal
no_renewal why draws at =
    record { answer = refusal_answer why; asked = None; from = at; made = []; later = at; draws = draws }

-- ---- by the input

-- an input that is a keytab
pub record IsOfKeytab (renewal : List Told → Renewal) (text : List ℕ) (r : Renewal) : Type 0 where
  pub entries : List Told
  pub keytab : IsKeytabInput text entries
  pub is : r ≡ renewal entries

-- one that is none
pub record IsOfNone (refusal : ℕ → Renewal) (text : List ℕ) (r : Renewal) : Type 0 where
  pub place : ℕ
  pub bad : IsBadInput text place
  pub is : r ≡ refusal place

-- what a run over this input comes to
abbrev pub Renews : Wanted → Draws → Seen → List ℕ → Renewal → Type 0
Renews w draws at text r =
    IsOfKeytab (renewal_of w draws at) text r ⊎ IsOfNone (λ place. no_renewal (BadKeytab place) draws at) text r

-- ---- how it ends where nothing fails

-- what is open stands at this place, and its rows show the state
pub record IsOpenAt (o : Opened) (at : Seen) : Type 0 where
  pub place_is : place_of o ≡ at.place
  pub shows : HasState o at.state

pub record EndsRenewed (renews : Renewal → Type 0) (refused : Bool) (old new : Option (List ℕ)) (o : Opened)
    (left : Option Draws) : Type 0 where
  pub renewal : Renewal
  pub is : renews renewal
  pub refused_is : refused ≡ renewal.answer.refused
  pub taken_is : new ≡ after_told old renewal.answer.text
  pub stands : IsOpenAt o renewal.later
  pub draws_are : left ≡ Some renewal.draws

-- ---- where it may stop early

-- within such a run: nothing of the answer was written, or a part of it was, and then the change stands
pub record StopsWithin (renews : Renewal → Type 0) (taken : Option (List ℕ)) (before : Place) (out : Option (List ℕ))
    (first : Place) (others : List Place) : Type 0 where
  pub renewal : Renewal
  pub is : renews renewal
  pub stops : StopsAt taken renewal.answer.text before renewal.made renewal.later.place out first others

-- before anything was done, or within such a run
abbrev pub MayStop : (Renewal → Type 0) → Option (List ℕ) → Place → Stage
MayStop renews taken before out first others =
    ((out ≡ taken) × (first ≡ before) × (others ≡ [])) ⊎ StopsWithin renews taken before out first others

-- the same, where the input, the clock and the random bytes are told
unfoldable pub RenewalStops : Wanted → Option (List ℕ) → Option (List ℕ) → Option Draws → Seen → Stage
RenewalStops w taken None told at out first others = ⊤
RenewalStops w taken (Some text) None at out first others = ⊤
RenewalStops w taken (Some text) (Some draws) at out first others =
    MayStop (Renews w draws at text) taken at.place out first others

-- ---- what a crash may leave at any moment of it

-- a place that such a run makes, or the one before them
pub record LeavesMade (renews : Renewal → Type 0) (before : Place) (c : Files) : Type 0 where
  pub renewal : Renewal
  pub is : renews renewal
  pub leaves : LeavesPart before renewal.made c

-- whatever the input, the clock and the random bytes are: a place that this command makes at some moment and with some
-- block, or the one before them
pub record LeavesAsked (w : Wanted) (at : Seen) (c : Files) : Type 0 where
  pub clock : Moment
  pub clock_is : IsMoment clock
  pub random : List ℕ
  pub random_is : length random ≡ 2048
  pub asked : IsAsked (ask_for w clock random) at
  pub leaves : LeavesPart at.place (places (made_at (ask_for w clock random) at)) c

-- the place before, or one of the command
abbrev pub LeavesOfCommand : Wanted → Seen → Files → Type 0
LeavesOfCommand w at c = (recovers c ≡ Ok at.place) ⊎ LeavesAsked w at c

unfoldable pub RenewalLeaves : Wanted → Option (List ℕ) → Option Draws → Seen → Files → Type 0
RenewalLeaves w None told at c = LeavesOfCommand w at c
RenewalLeaves w (Some text) None at c = LeavesOfCommand w at c
RenewalLeaves w (Some text) (Some draws) at c =
    (recovers c ≡ Ok at.place) ⊎ LeavesMade (Renews w draws at text) at.place c
