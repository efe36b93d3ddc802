-- What a run begins with, by its words, by what the files stand for, and by what the clock and the source of random
-- bytes will give.
use Rattle.std.specs.Prelude.{ℕ, ◌≡◌, ◌≢◌, Bool, true, false, IsTrue, List, []}
use Rattle.std.specs.Prelude.{Option, Some, None, Result, Ok, Err, option_map}
use Rattle.first_rows.specs.Parts.{SpecParts}
use Rattle.iprop_truths.specs.Parts.{end_of}
use Rattle.dump_text.specs.Judged.{judged}
use Rattle.kadm_keytabs.specs.Additions.{Adds as AddsKeys}
use Rattle.kadm_keytabs.specs.Answers.{Answers, refusal_answer}
use Rattle.kadm_keytabs.specs.Removals.{Removes}
use Rattle.kadm_keytabs.specs.Renewals.{Renewal, Renews, Wanted, no_renewal, wanted}
use Rattle.kadm_keytabs.specs.declared.answers.Answer.{Answer}
use Rattle.kadm_loading.specs.Loads.{LoadEnd, LoadsTo}
use Rattle.session_base.specs.Draws.{Draws, behind_command, behind_moment, moment_in}
use Rattle.kadm_session.specs.declared.intake.Asked.{Asked}
use Rattle.kadm_session.specs.declared.intake.Asked.TheVariants as asks
use Rattle.kadm_session.specs.Input.{asked_by}
use Rattle.kadm_session.specs.Steps.{local_client}
use Rattle.kadm_top.specs.Accounts.{texts_of}
use Rattle.kadm_top.specs.declared.asking.Asking.{Asking}
use Rattle.kadm_top.specs.declared.asking.Asking.TheVariants as asking
use Rattle.kadm_top.specs.declared.words.Words.{Words}
use Rattle.kadm_top.specs.declared.words.Words.TheVariants.{Admin, Create, Destroy, Generate}
use Rattle.kadm_top.specs.declared.words.Words.TheVariants.{Keytab, Line, Load, Renew, Tell}
use Rattle.kadm_wire.specs.LineReadings.{words_answer}
use Rattle.kdb_base.specs.Moment.{Moment}
use Rattle.kdb_base.specs.declared.keys.Etype.{Etype}
use Rattle.kdb_base.specs.declared.outcomes.Refusal.{Refusal}
use Rattle.kdb_base.specs.declared.outcomes.Refusal.TheVariants.{NotADatabase, AlreadyThere, BadName, Damaged}
use Rattle.kdb_base.specs.declared.versions.Master.{Master}
use Rattle.kdb_control.specs.Force.{in_force}
use Rattle.kdb_control.specs.declared.force.Force.{Force}
use Rattle.kdb_control.specs.declared.force.Force.TheVariants.{Nothing, Is, Broken}
use Rattle.kdb_disk.specs.Files.{Files}
use Rattle.kdb_histories.specs.Calls.{HasTimeLeft, resized}
use Rattle.kdb_histories.specs.Seen.{Seen}
use Rattle.kdb_histories.specs.Stages.{ShowsAt, places}
use Rattle.kdb_places.specs.Places.{Place}
use Rattle.kdb_plain.specs.declared.states.State.{State}
use Rattle.made_scripts.specs.Runs.{told_of}
use Rattle.keytab_out.specs.declared.removing.Which.{Which}
use Rattle.keytab_words.specs.declared.words.KeytabWords.{KeytabWords}
use Rattle.keytab_words.specs.declared.words.KeytabWords.TheVariants.{AddRenewed, AddStanding, Remove}
use Rattle.primary_core.specs.Opening.{OpeningRefused, OpensWith, place_found}
use Rattle.princ_name.specs.Names.{NameParts}
use Rattle.princ_name.specs.Readings.{own_name_in}
use Rattle.store_files.specs.Found.{Found, found_in, recovers}

-- ---- what was taken of the clock and of the random bytes

-- nothing, a moment, or a moment and a block
pub data Drawn : Type 0 where
  NoDraw : Drawn
  AMoment : Drawn
  ABlock : Drawn

abbrev pub behind : Drawn → Option Draws → Option Draws
behind NoDraw told = told
behind AMoment told = option_map behind_moment told
behind ABlock told = option_map behind_command told

-- ---- openings

-- what keys that are made anew come to: this, or, where the input is not told, some run for what is wanted
pub data Renewing : Type 0 where
  Renewed : (renewal : Renewal) → Renewing
  Untold : (w : Wanted) → Renewing

-- A refusal, and what was taken before it. A database that is to be asked: the place that its files stand for, the
-- places that its opening makes (a log begun anew, or none), where it then is, and what alone it is asked, or none
-- where that is the input. One that is to be loaded, and what that comes to, as far as the input is told. One whose
-- keys are to be added to a keytab: whether the input is read, and what is written, as far as the input is told. One
-- whose keys are made anew and added to a keytab: the same, and what is made. A keytab of which this is written, with
-- no database. A text that is to be told, of a database or of a script, and what was taken before it. A database that
-- is to be made, or one that is to be ended.
pub data Opening : Type 0 where
  Refuses : (why : Refusal) (drawn : Drawn) → Opening
  Opens : (begin : Place) (made : List Place) (at : Seen) (asked : Option Asked) → Opening
  Loads : (begin : Place) (made : List Place) (at : Seen) (what : Option LoadEnd) → Opening
  Adds : (begin : Place) (made : List Place) (at : Seen) (reads : Bool) (what : Option Answer) → Opening
  AddsNew : (begin : Place) (made : List Place) (at : Seen) (reads : Bool) (what : Renewing) → Opening
  Filters : (what : Option Answer) → Opening
  Tells : (text : List ℕ) (drawn : Drawn) → Opening
  Makes : (spec : SpecParts) → Opening
  Ends : Opening

-- It opens, at the clock's next moment: the stash opens the master keys, with which the state is seen, and a time is
-- left for a log begun anew.
pub record IsOpen (size : Option ℕ) (found : Result Found Refusal) (draws : Option Draws) (begin : Place)
    (made : List Place) (at : Seen) : Type 0 where
  pub told : Draws
  pub draws_are : draws ≡ Some told
  pub files : Found
  pub found_is : found ≡ Ok files
  pub masters : List Master
  pub opens : OpensWith files masters
  pub begin_is : begin ≡ place_found files
  pub made_are : made ≡ places (resized size (moment_in told) (place_found files))
  pub left : resized size (moment_in told) (place_found files) ≢ [] → HasTimeLeft (place_found files)
  pub place_is : at.place ≡ end_of begin made
  pub shows : ShowsAt at.place at.state
  pub masters_are : at.state.masters ≡ masters

-- What a database of this realm is asked: by the lines of the input, by this alone, or by a line of these words, which
-- are read in its realm.
abbrev pub asked_of : Asking → List ℕ → Option Asked
asked_of asking.Input realm = None
asked_of (asking.Line words) realm = Some (asked_by (words_answer realm words))
asked_of asking.ResetsLog realm = Some asks.ResetsLog

-- it is refused at whatever moment, or opens to be asked this
abbrev pub opens_for : Option ℕ → Asking → Result Found Refusal → Option Draws → Opening → Type 0
opens_for size asking found draws (Refuses why drawn) =
    (drawn ≡ AMoment) × ((clock : Moment) → OpeningRefused found size clock why)
opens_for size asking found draws (Opens begin made at its) =
    IsOpen size found draws begin made at × (its ≡ asked_of asking at.place.realm)
opens_for size asking found draws (Loads begin made at what) = ⊥
opens_for size asking found draws (Adds begin made at reads what) = ⊥
opens_for size asking found draws (AddsNew begin made at reads what) = ⊥
opens_for size asking found draws (Filters what) = ⊥
opens_for size asking found draws (Tells text drawn) = ⊥
opens_for size asking found draws (Makes spec) = ⊥
opens_for size asking found draws Ends = ⊥

-- what the text of the input comes to, as far as it is told, over this place, whose stash stands in this file
abbrev pub LoadsAt : Option (List ℕ) → Place → ℕ → Moment → Option LoadEnd → Type 0
LoadsAt None p file clock what = what ≡ None
LoadsAt (Some text) p file clock None = ⊥
LoadsAt (Some text) p file clock (Some end) = LoadsTo p file clock (judged text) end

-- there is such an end
pub record HasLoaded (left : Option (List ℕ)) (p : Place) (file : ℕ) (clock : Moment) : Type 0 where
  pub what : Option LoadEnd
  pub is : LoadsAt left p file clock what

-- it opens, and then the input is loaded, at the clock's moment behind the opening
pub record IsLoading (left : Option (List ℕ)) (found : Result Found Refusal) (draws : Option Draws) (begin : Place)
    (made : List Place) (at : Seen)
    (what : Option LoadEnd) : Type 0 where
  pub opens : IsOpen None found draws begin made at
  pub comes : LoadsAt left at.place opens.files.control.stash (moment_in (behind_moment opens.told)) what

-- it is refused at whatever moment, or opens to be loaded
abbrev pub loads_for : Option (List ℕ) → Result Found Refusal → Option Draws → Opening → Type 0
loads_for left found draws (Refuses why drawn) =
    (drawn ≡ AMoment) × ((clock : Moment) → OpeningRefused found None clock why)
loads_for left found draws (Opens begin made at its) = ⊥
loads_for left found draws (Loads begin made at what) = IsLoading left found draws begin made at what
loads_for left found draws (Adds begin made at reads what) = ⊥
loads_for left found draws (AddsNew begin made at reads what) = ⊥
loads_for left found draws (Filters what) = ⊥
loads_for left found draws (Tells text drawn) = ⊥
loads_for left found draws (Makes spec) = ⊥
loads_for left found draws Ends = ⊥

-- ---- keytabs

-- what is answered to the text of the input, as far as that is told
abbrev pub AnswersTold : (List ℕ → Answer → Type 0) → Option (List ℕ) → Option Answer → Type 0
AnswersTold answers None what = what ≡ None
AnswersTold answers (Some text) None = ⊥
AnswersTold answers (Some text) (Some answer) = answers text answer

-- there is such an answer
pub record HasAnswer (answers : List ℕ → Answer → Type 0) (left : Option (List ℕ)) : Type 0 where
  pub what : Option Answer
  pub is : AnswersTold answers left what

-- the keytab that the input is, without these entries, or a refusal
abbrev pub filters_for : NameParts → Which → Option (List ℕ) → Opening → Type 0
filters_for name which left (Filters what) = AnswersTold (Answers (Removes name which)) left what
filters_for name which left other = ⊥

-- The keys of the name, as the state has them, are added to the keytab that the input is. A word that is no name of the
-- realm is refused, and no input is read.
abbrev pub AddsBy : Result NameParts ℕ → State → Moment → Option (List ℕ) → Bool → Option Answer → Type 0
AddsBy (Ok name) s clock left reads what = (reads ≡ true) × AnswersTold (Answers (AddsKeys s name clock)) left what
AddsBy (Err offset) s clock left reads what = (reads ≡ false) × (what ≡ Some (refusal_answer (BadName offset)))

-- there is such an answer
pub record HasAddition (name : Result NameParts ℕ) (s : State) (clock : Moment) (left : Option (List ℕ)) : Type 0 where
  pub reads : Bool
  pub what : Option Answer
  pub is : AddsBy name s clock left reads what

-- it opens, and then the word is read in its realm; the time of the keys is that of the opening's moment, or of the
-- last change
pub record IsAdding (word : List ℕ) (left : Option (List ℕ)) (found : Result Found Refusal) (draws : Option Draws)
    (begin : Place) (made : List Place)
    (at : Seen) (reads : Bool) (what : Option Answer) : Type 0 where
  pub opens : IsOpen None found draws begin made at
  pub comes : AddsBy (own_name_in word at.place.realm) at.state (moment_in opens.told) left reads what

-- it is refused at whatever moment, or opens for its keys
abbrev pub adds_for : List ℕ → Option (List ℕ) → Result Found Refusal → Option Draws → Opening → Type 0
adds_for word left found draws (Refuses why drawn) =
    (drawn ≡ AMoment) × ((clock : Moment) → OpeningRefused found None clock why)
adds_for word left found draws (Adds begin made at reads what) = IsAdding word left found draws begin made at reads what
adds_for word left found draws (AddsNew begin made at reads what) = ⊥
adds_for word left found draws (Opens begin made at its) = ⊥
adds_for word left found draws (Loads begin made at what) = ⊥
adds_for word left found draws (Filters what) = ⊥
adds_for word left found draws (Tells text drawn) = ⊥
adds_for word left found draws (Makes spec) = ⊥
adds_for word left found draws Ends = ⊥

-- ---- keytabs with new keys

-- what a run over the text of the input comes to, as far as that is told
abbrev pub RenewsTold : Wanted → Option (List ℕ) → Draws → Seen → Renewing → Type 0
RenewsTold w None draws at what = what ≡ Untold w
RenewsTold w (Some text) draws at (Untold other) = ⊥
RenewsTold w (Some text) draws at (Renewed renewal) = Renews w draws at text renewal

-- New keys of the name, of these types, are made and added to the keytab that the input is. A word that is no name of
-- the realm is refused: no input is read, and nothing is drawn.
abbrev pub RenewsBy : Result NameParts ℕ → List Etype → Option (List ℕ) → Draws → Seen → Bool → Renewing → Type 0
RenewsBy (Ok name) etypes left draws at reads what =
    (reads ≡ true) × RenewsTold (wanted (local_client at.place.realm) name etypes) left draws at what
RenewsBy (Err offset) etypes left draws at reads what =
    (reads ≡ false) × (what ≡ Renewed (no_renewal (BadName offset) draws at))

-- there is such a run
pub record HasRenewal (w : Wanted) (left : Option (List ℕ)) (draws : Draws) (at : Seen) : Type 0 where
  pub what : Renewing
  pub is : RenewsTold w left draws at what

pub record HasRenewalBy (name : Result NameParts ℕ) (etypes : List Etype) (left : Option (List ℕ)) (draws : Draws)
    (at : Seen) : Type 0 where
  pub reads : Bool
  pub what : Renewing
  pub is : RenewsBy name etypes left draws at reads what

-- it opens, and then the word is read in its realm; what is drawn comes behind the opening's moment
pub record IsAddingNew (word : List ℕ) (etypes : List Etype) (left : Option (List ℕ)) (found : Result Found Refusal)
    (draws : Option Draws) (begin : Place)
    (made : List Place) (at : Seen) (reads : Bool) (what : Renewing) : Type 0 where
  pub opens : IsOpen None found draws begin made at
  pub comes : RenewsBy (own_name_in word at.place.realm) etypes left (behind_moment opens.told) at reads what

-- it is refused at whatever moment, or opens for its new keys
abbrev pub adds_new_for : List ℕ → List Etype → Option (List ℕ) → Result Found Refusal → Option Draws → Opening → Type 0
adds_new_for word etypes left found draws (Refuses why drawn) =
    (drawn ≡ AMoment) × ((clock : Moment) → OpeningRefused found None clock why)
adds_new_for word etypes left found draws (AddsNew begin made at reads what) =
    IsAddingNew word etypes left found draws begin made at reads what
adds_new_for word etypes left found draws (Opens begin made at its) = ⊥
adds_new_for word etypes left found draws (Loads begin made at what) = ⊥
adds_new_for word etypes left found draws (Adds begin made at reads what) = ⊥
adds_new_for word etypes left found draws (Filters what) = ⊥
adds_new_for word etypes left found draws (Tells text drawn) = ⊥
adds_new_for word etypes left found draws (Makes spec) = ⊥
adds_new_for word etypes left found draws Ends = ⊥

abbrev pub keytab_for : KeytabWords → Option (List ℕ) → Result Found Refusal → Option Draws → Opening → Type 0
keytab_for (Remove name which) left found draws o = filters_for name which left o
keytab_for (AddStanding word) left found draws o = adds_for word left found draws o
keytab_for (AddRenewed word etypes) left found draws o = adds_new_for word etypes left found draws o

-- ---- the others

-- what the files stand for is told in such a text, whatever its format, and without its stash
abbrev pub IsToldBy : Option (Place → List ℕ) → Result Place Refusal → Opening → Type 0
IsToldBy text (Err why) o = o ≡ Refuses why AMoment
IsToldBy None (Ok p) o = ⊥
IsToldBy (Some text) (Ok p) o = o ≡ Tells (text p) AMoment

abbrev pub create_of : SpecParts → Force → Opening
create_of spec Nothing = Makes spec
create_of spec (Is choice) = Refuses AlreadyThere ABlock
create_of spec (Broken place) = Refuses AlreadyThere ABlock

abbrev pub destroy_of : Force → Opening
destroy_of Nothing = Refuses NotADatabase NoDraw
destroy_of (Is choice) = Ends
destroy_of (Broken place) = Refuses (Damaged 0 place) NoDraw

-- the words are judged first, and then the files
unfoldable pub IsOpening : Result Words Refusal → Option (List ℕ) → Files → Option Draws → Opening → Type 0
IsOpening (Err refusal) left files draws o = o ≡ Refuses refusal NoDraw
IsOpening (Ok (Admin size)) left files draws o = opens_for size asking.Input (found_in files) draws o
IsOpening (Ok (Line words)) left files draws o = opens_for None (asking.Line words) (found_in files) draws o
IsOpening (Ok Load) left files draws o = loads_for left (found_in files) draws o
IsOpening (Ok Renew) left files draws o = opens_for None asking.ResetsLog (found_in files) draws o
IsOpening (Ok (Keytab words)) left files draws o = keytab_for words left (found_in files) draws o
IsOpening (Ok (Tell account)) left files draws o = IsToldBy (texts_of account draws) (recovers files) o
IsOpening (Ok (Generate script)) left files draws o = o ≡ Tells (told_of script) NoDraw
IsOpening (Ok (Create spec)) left files draws o = o ≡ create_of spec (in_force (files 0))
IsOpening (Ok Destroy) left files draws o = o ≡ destroy_of (in_force (files 0))

-- there is such an opening
pub record HasOpening (words : Result Words Refusal) (left : Option (List ℕ)) (files : Files)
    (draws : Option Draws) : Type 0 where
  pub opening : Opening
  pub is : IsOpening words left files draws opening

pub record HasOpeningFor (size : Option ℕ) (asking : Asking) (found : Result Found Refusal)
    (draws : Option Draws) : Type 0 where
  pub opening : Opening
  pub is : opens_for size asking found draws opening

pub record HasLoading (left : Option (List ℕ)) (found : Result Found Refusal) (draws : Option Draws) : Type 0 where
  pub opening : Opening
  pub is : loads_for left found draws opening

pub record HasAdding (word : List ℕ) (left : Option (List ℕ)) (found : Result Found Refusal)
    (draws : Option Draws) : Type 0 where
  pub opening : Opening
  pub is : adds_for word left found draws opening

pub record HasAddingNew (word : List ℕ) (etypes : List Etype) (left : Option (List ℕ)) (found : Result Found Refusal)
    (draws : Option Draws) : Type 0 where
  pub opening : Opening
  pub is : adds_new_for word etypes left found draws opening

pub record HasKeytab (words : KeytabWords) (left : Option (List ℕ)) (found : Result Found Refusal)
    (draws : Option Draws) : Type 0 where
  pub opening : Opening
  pub is : keytab_for words left found draws opening

abbrev pub IsInput : Option Asked → Type 0
IsInput None = Unit {0}
IsInput (Some asked) = ⊥

abbrev pub AsksInput : Asking → Type 0
AsksInput asking.Input = Unit {0}
AsksInput other = ⊥

-- the input is read where a database is opened for it, or a keytab is written of it
abbrev pub ReadsInput : Opening → Type 0
ReadsInput (Refuses why drawn) = ⊥
ReadsInput (Opens begin made at asked) = IsInput asked
ReadsInput (Loads begin made at what) = Unit {0}
ReadsInput (Adds begin made at reads what) = IsTrue reads
ReadsInput (AddsNew begin made at reads what) = IsTrue reads
ReadsInput (Filters what) = Unit {0}
ReadsInput (Tells text drawn) = ⊥
ReadsInput (Makes spec) = ⊥
ReadsInput Ends = ⊥

-- by the words, the input is read where a database is opened for it, or a keytab is written of it
abbrev pub WantsInput : Result Words Refusal → Type 0
WantsInput (Err refusal) = ⊥
WantsInput (Ok (Admin size)) = Unit {0}
WantsInput (Ok Load) = Unit {0}
WantsInput (Ok (Keytab words)) = Unit {0}
WantsInput (Ok other) = ⊥

-- by the words of a keytab, the database is opened
abbrev pub OpensDatabase : KeytabWords → Type 0
OpensDatabase (Remove name which) = ⊥
OpensDatabase (AddStanding word) = Unit {0}
OpensDatabase (AddRenewed word etypes) = Unit {0}

-- by the words, a database is looked at or made: they are not refused, and neither make a script nor take entries out
-- of a keytab
abbrev pub NeedsDatabase : Result Words Refusal → Type 0
NeedsDatabase (Err refusal) = ⊥
NeedsDatabase (Ok (Generate script)) = ⊥
NeedsDatabase (Ok (Keytab words)) = OpensDatabase words
NeedsDatabase (Ok other) = Unit {0}
