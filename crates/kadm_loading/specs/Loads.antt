-- What a load comes to, by the place that is open, the text of the input and the moment of the clock: what is answered,
-- which place is made, and where it may stop.
use Rattle.std.specs.Prelude.{ℕ, ◌≡◌, ◌⊎◌, Bool, true, false, List, [], ◌∷◌, Option, Some, Result, Ok, Err}
use Rattle.dump_text.specs.Judged.{judged}
use Rattle.dump_text.specs.declared.dumps.Dump.{Dump}
use Rattle.iprop_truths.specs.Parts.{end_of}
use Rattle.kadm_commands.specs.declared.replies.Reply.{Reply}
use Rattle.kadm_commands.specs.declared.replies.Reply.TheVariants.{Done, Refused}
use Rattle.kadm_replies.specs.Replies.{reply_text}
use Rattle.session_base.specs.Stages.{Stage, StopsAt}
use Rattle.kdb_base.specs.Moment.{Moment}
use Rattle.kdb_base.specs.declared.moments.Point.{Point}
use Rattle.kdb_base.specs.declared.outcomes.Refusal.{Refusal}
use Rattle.kdb_base.specs.declared.outcomes.Refusal.TheVariants.{DumpBad, TimeEnd}
use Rattle.kdb_base.specs.declared.versions.Master.{Master}
use Rattle.kdb_disk.specs.Files.{Files}
use Rattle.kdb_histories.specs.Calls.{HasTimeLeft}
use Rattle.kdb_histories.specs.Seen.{reset_point}
use Rattle.kdb_places.specs.Places.{Place, replaced}
use Rattle.kdb_ports.specs.Told.{after_told}
use Rattle.primary_loading.specs.Opened.{Opened, place_of}
use Rattle.primary_loading.specs.Judging.{IsDumpCause, IsTaken}
use Rattle.primary_loading.specs.Loading.{HasLoaded, load_time}
use Rattle.princ_rows.specs.Rows.{RowLists}
use Rattle.store_files.specs.Found.{recovers}

-- a dump is loaded, or none is
pub data LoadEnd : Type 0 where
  Loaded : (dump : Dump) → LoadEnd
  NotLoaded : (why : Refusal) → LoadEnd

-- ---- which of them

-- the dump may be taken with these master keys, which the stash opens
abbrev pub TakesWith : Place → Moment → Dump → List Master → Type 0
TakesWith p clock dump masters = IsTaken p.stash p.realm (load_time clock p).secs dump masters

-- it may be taken, and a later time is left
pub record IsLoadable (p : Place) (clock : Moment) (dump : Dump) : Type 0 where
  pub masters : List Master
  pub takes : TakesWith p clock dump masters
  pub left : HasTimeLeft p

-- it may be taken, and no later time is left
pub record LacksTime (p : Place) (clock : Moment) (dump : Dump) (why : Refusal) : Type 0 where
  pub masters : List Master
  pub takes : TakesWith p clock dump masters
  pub ended : HasTimeLeft p → ⊥
  pub why_is : why ≡ TimeEnd

-- why the dump is not loaded, where the stash stands in this file
abbrev pub IsLoadCause : Place → ℕ → Moment → Dump → Refusal → Type 0
IsLoadCause p file clock dump why =
    IsDumpCause p.stash file p.realm (load_time clock p).secs dump why ⊎ LacksTime p clock dump why

-- by what the text is: its first bad line is told before all else
abbrev pub LoadsTo : Place → ℕ → Moment → Result Dump ℕ → LoadEnd → Type 0
LoadsTo p file clock (Err line) end = end ≡ NotLoaded (DumpBad line)
LoadsTo p file clock (Ok dump) (Loaded other) = (other ≡ dump) × IsLoadable p clock dump
LoadsTo p file clock (Ok dump) (NotLoaded why) = IsLoadCause p file clock dump why

-- ---- what it answers and makes

abbrev pub is_refused : LoadEnd → Bool
is_refused (Loaded dump) = false
is_refused (NotLoaded why) = true

abbrev pub load_reply : LoadEnd → Moment → Place → Reply
load_reply (Loaded dump) clock p = Done (reset_point clock p)
load_reply (NotLoaded why) clock p = Refused why

-- the dump's rows in the place of all rows, and the log begun anew, or nothing
abbrev pub places_loaded : LoadEnd → Moment → Place → List Place
places_loaded (Loaded dump) clock p = replaced p.realm dump.rows (reset_point clock p) p ∷ []
places_loaded (NotLoaded why) clock p = []

abbrev pub place_loaded : LoadEnd → Moment → Place → Place
place_loaded end clock p = end_of p (places_loaded end clock p)

-- what is open afterwards
abbrev pub Holds : LoadEnd → Moment → Opened → Opened → Type 0
Holds (Loaded dump) clock old new = HasLoaded old new dump.rows clock
Holds (NotLoaded why) clock old new = new ≡ old

-- it went through: what the sink has taken, whether a refusal was written, and what is open
pub record LoadsAs (end : LoadEnd) (clock : Moment) (old new : Opened) (taken out : Option (List ℕ))
    (refused : Bool) : Type 0 where
  pub out_is : out ≡ after_told taken (reply_text (load_reply end clock (place_of old)))
  pub refused_is : refused ≡ is_refused end
  pub holds : Holds end clock old new

-- Where it may stop: nothing was written, and a crash leaves the place before or the loaded one. Or a part of the reply
-- was, and it leaves the last place alone.
abbrev pub load_stage : LoadEnd → Moment → Place → Option (List ℕ) → Stage
load_stage end clock p taken =
    StopsAt taken (reply_text (load_reply end clock p)) p (places_loaded end clock p) (place_loaded end clock p)

-- whatever the input is: the files recover to the place before, or to that with other rows and a log begun anew
pub record HasRows (p q : Place) : Type 0 where
  pub rows : RowLists
  pub base : Point
  pub is : q ≡ replaced p.realm rows base p

pub record LeavesSome (p : Place) (c : Files) : Type 0 where
  pub place : Place
  pub recovered : recovers c ≡ Ok place
  pub which : (place ≡ p) ⊎ HasRows p place

-- ---- where the input and the clock are told

-- over what is open, this is the moment, and the load comes to this
pub record ComesTo (o : Opened) (left : Option (List ℕ)) (moments : Option (ℕ → Moment)) (clock : Moment)
    (end : LoadEnd) : Type 0 where
  pub text : List ℕ
  pub text_is : left ≡ Some text
  pub told : ℕ → Moment
  pub moments_are : moments ≡ Some told
  pub clock_is : clock ≡ told 0
  pub end_is : LoadsTo (place_of o) o.kept.control.stash clock (judged text) end

-- there is such an end of what was read
pub record HasEnd (o : Opened) (clock : Moment) (read : Result Dump ℕ) : Type 0 where
  pub end : LoadEnd
  pub is : LoadsTo (place_of o) o.kept.control.stash clock read end

-- there is such a moment and an end
pub record HasComeTo (o : Opened) (left : Option (List ℕ)) (moments : Option (ℕ → Moment)) : Type 0 where
  pub clock : Moment
  pub end : LoadEnd
  pub is : ComesTo o left moments clock end
