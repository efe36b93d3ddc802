-- A whole run of the program, from its opening on: how it ends, where it may stop early, and what a crash may leave.
use Rattle.std.specs.Prelude.{ℕ, ◌≡◌, ◌≤◌, ◌⊎◌, Bool, true, false, List, [], ◌∷◌, codes, Option}
use Rattle.std.specs.Prelude.{Some, None, Result, Ok, IfErr, IfOk, OnErr, OnOk, option_map, ⊤}
use Rattle.first_rows.specs.Creation.{first_point}
use Rattle.first_rows.specs.Parts.{SpecParts}
use Rattle.kadm_commands.specs.declared.replies.Reply.TheVariants.{Done, Refused}
use Rattle.kadm_keytabs.specs.Renewals.{LeavesOfCommand, WasDone}
use Rattle.kadm_keytabs.specs.declared.answers.Answer.{Answer}
use Rattle.kadm_lines.specs.Lines.{seen_lines}
use Rattle.kadm_loading.specs.Halts.{SparesOutput}
use Rattle.session_base.specs.Wholes.{IsReadWhole}
use Rattle.kadm_loading.specs.Loads.{LeavesSome, LoadEnd, is_refused, load_reply}
use Rattle.kadm_loading.specs.Loads.{load_stage, place_loaded, places_loaded}
use Rattle.kadm_replies.specs.Replies.{reply_text}
use Rattle.kadm_session.specs.Courses.{Course, Ending, IsAtRest, Leaves, Stops}
use Rattle.kadm_session.specs.Courses.{course, ending, lines_begun, nothing_begun}
use Rattle.session_base.specs.Stages.{IsStopped, StopsAt}
use Rattle.session_base.specs.Draws.{Draws, behind_command, behind_moment, block_in, moment_in}
use Rattle.kadm_session.specs.Input.{commands_in}
use Rattle.kadm_session.specs.declared.intake.Asked.{Asked}
use Rattle.session_base.specs.declared.halts.SessionHalt.{SessionHalt}
use Rattle.session_base.specs.declared.halts.SessionHalt.TheVariants.{MemoryOut}
use Rattle.kadm_top.specs.Openings.{Adds, AddsNew, AMoment, ABlock, Drawn, Ends, Filters, Loads, Makes, NoDraw}
use Rattle.kadm_top.specs.Openings.{Opening, Opens, ReadsInput, Refuses, Renewed, Renewing, Tells, Untold, behind}
use Rattle.kdb_base.specs.Moment.{Moment}
use Rattle.kdb_base.specs.declared.outcomes.Refusal.{Refusal}
use Rattle.kdb_control.specs.Moments.{HasInForce}
use Rattle.kdb_control.specs.declared.force.Force.TheVariants.{Is}
use Rattle.kdb_disk.specs.Files.{Files}
use Rattle.kdb_disk.specs.Moments.{Keeps, LeavesOnly}
use Rattle.kdb_disk.specs.View.{View}
use Rattle.kdb_histories.specs.Seen.{Seen}
use Rattle.kdb_histories.specs.Stages.{ShowsAt}
use Rattle.kdb_places.specs.Places.{Place}
use Rattle.kdb_ports.specs.Parts.{SaidPart}
use Rattle.kdb_ports.specs.Told.{after_told}
use Rattle.primary_core.specs.Opening.{RecoversAs, first_control, first_file, first_place}
use Rattle.store_files.specs.Found.{recovers}
use Rattle.store_files.specs.Recovery.{Creates, Destroys, IsLike, LeavesPart, RecoversTo, RecoversToNone}
use Rattle.store_opening.specs.Moments.{HasFile}

-- ---- what is told before it

-- what the sink has taken, what is left of the input, and what the clock and the source of random bytes will give
pub record Told : Type 0 where
  pub taken : Option (List ℕ)
  pub left : Option (List ℕ)
  pub draws : Option Draws

abbrev pub told : Option (List ℕ) → Option (List ℕ) → Option Draws → Told
told taken left draws = record { taken = taken; left = left; draws = draws }

-- what the lines of an input ask for, in a database of this realm
abbrev pub input_commands : List ℕ → Option (List ℕ) → Option (List Asked)
input_commands realm left = commands_in realm (option_map seen_lines left)

-- what the database is asked: this alone, or what the lines of the input ask for
abbrev pub commands_for : Option Asked → List ℕ → Option (List ℕ) → Option (List Asked)
commands_for None realm left = input_commands realm left
commands_for (Some asked) realm left = Some (asked ∷ [])

-- the course of that from a place and the state that its rows show
abbrev pub course_from : Option Asked → Told → Seen → Course
course_from asked before at = course before.taken false (commands_for asked at.place.realm before.left) before.draws at

-- the same behind an opening, which takes a moment
abbrev pub course_behind : Option Asked → Told → Seen → Course
course_behind asked before at = course_from asked (told before.taken before.left (behind AMoment before.draws)) at

-- ---- what is written

abbrev pub refusal_line : Refusal → List ℕ
refusal_line refusal = reply_text (Refused refusal)

-- the answer to `create`
abbrev pub made_line : Draws → List ℕ
made_line draws = reply_text (Done (first_point (moment_in draws)))

-- the answer to `destroy`
unfoldable pub ended_text : List ℕ
ended_text = codes "ok\n"

-- the place that a creation makes
abbrev pub place_made : SpecParts → Draws → Place
place_made spec draws = first_place spec (moment_in draws) (block_in draws)

abbrev pub IfTold : {A : Type 0} → Option A → (A → Type 0) → Type 0
IfTold None P = ⊤
IfTold (Some x) P = P x

-- the moment and the block that a creation took are those that came next
abbrev pub AreDrawn : Option Draws → Moment → List ℕ → Type 0
AreDrawn draws now random = IfTold draws (λ told. (now ≡ moment_in told) × (random ≡ block_in told))

-- Each file reads as before. An opening has looked at more than that: there a crash leaves what stands for what an
-- image of before did.
abbrev pub IsSame : Drawn → View → View → Type 0
IsSame AMoment old now = LeavesOnly old now (IsLike old)
IsSame NoDraw old now = Keeps old now
IsSame ABlock old now = Keeps old now

-- ---- how it ends where nothing fails

-- Files that were opened: whatever a crash leaves now recovers to what they recovered to, and at each moment before it
-- left what stood for what an image of before did.
pub record StaysRead (old now : View) : Type 0 where
  pub stays : RecoversAs old.seen now
  pub leaves : LeavesOnly old now (IsLike old)

-- Each file reads as before, or the files were opened.
abbrev pub Stays : Drawn → View → View → Type 0
Stays AMoment old now = StaysRead old now
Stays NoDraw old now = Keeps old now
Stays ABlock old now = Keeps old now

-- Whatever a crash leaves recovers to no database, and every file but the control file reads as empty.
pub record IsErased (now : View) : Type 0 where
  pub none : RecoversToNone now
  pub empty : (file : ℕ) → 1 ≤ file → file ≤ 6 → now.seen file ≡ []

-- Whatever a crash leaves recovers to the place of the creation. Its files are the first of each kind, at the first
-- turn, and the rows stand one behind the other from unit 1 on, in their order.
pub record IsMade (spec : SpecParts) (moment : Moment) (random : List ℕ) (now : View) : Type 0 where
  pub place : RecoversTo (first_place spec moment random) now
  pub control : HasInForce (Is (first_control spec moment)) now
  pub written : HasFile 1 (first_file spec moment random) now

-- whatever a crash leaves recovers to this place, whose rows show this state
pub record StandsShown (at : Seen) (now : View) : Type 0 where
  pub place : RecoversTo at.place now
  pub shows : ShowsAt at.place at.state

-- what the disk then has
pub data Standing : Type 0 where
  -- what it had
  Same : (drawn : Drawn) → Standing
  -- whatever a crash leaves recovers to this place
  At : (place : Place) → Standing
  -- to the place of a creation, in its first files
  Made : (spec : SpecParts) (draws : Draws) → Standing
  -- to this place, whose rows show the state: each listed version of the master key opens each key
  Shown : (at : Seen) → Standing
  -- to no database, and nothing of one is left
  Gone : Standing

abbrev pub Stands : Standing → View → View → Type 0
Stands (Same drawn) old now = Stays drawn old now
Stands (At place) old now = RecoversTo place now
Stands (Made spec draws) old now = IsMade spec (moment_in draws) (block_in draws) now
Stands (Shown at) old now = StandsShown at now
Stands Gone old now = IsErased now

-- the bytes in the sink, whether a refusal was written, the disk, and what the clock and the source of random bytes
-- have left
pub record RunEnd : Type 0 where
  pub out : Option (List ℕ)
  pub refused : Bool
  pub disk : Standing
  pub draws : Option Draws

abbrev pub end_opened : Ending → RunEnd
end_opened end = record { out = end.out; refused = end.refused; disk = Shown end.at; draws = Some end.draws }

abbrev pub end_made : SpecParts → Option (List ℕ) → Draws → RunEnd
end_made spec taken draws = record {
  out = after_told taken (made_line draws);
  refused = false;
  disk = Made spec draws;
  draws = Some (behind_command draws);
}

-- of a load from this place, at the next of these moments
abbrev pub load_end : Option LoadEnd → Option Draws → Place → Option (List ℕ) → Option RunEnd
load_end None draws p taken = None
load_end (Some end) None p taken = None
load_end (Some end) (Some draws) p taken = Some (record {
  out = after_told taken (reply_text (load_reply end (moment_in draws) p));
  refused = is_refused end;
  disk = At (place_loaded end (moment_in draws) p);
  draws = Some (behind_moment draws);
})

-- of a keytab
abbrev pub keytab_end : Option Answer → Option (List ℕ) → Standing → Option Draws → Option RunEnd
keytab_end None taken disk draws = None
keytab_end (Some answer) taken disk draws =
    Some (record { out = after_told taken answer.text; refused = answer.refused; disk = disk; draws = draws })

-- of one with new keys
abbrev pub renewed_end : Renewing → Option (List ℕ) → Option RunEnd
renewed_end (Untold w) taken = None
renewed_end (Renewed renewal) taken = Some (record {
  out = after_told taken renewal.answer.text;
  refused = renewal.answer.refused;
  disk = Shown renewal.later;
  draws = Some renewal.draws;
})

-- as far as it is told
abbrev pub run_end : Opening → Told → Option RunEnd
run_end (Refuses why drawn) before = Some (record {
  out = after_told before.taken (refusal_line why);
  refused = true;
  disk = Same drawn;
  draws = behind drawn before.draws;
})
run_end (Opens begin made at asked) before = option_map end_opened (ending (course_behind asked before at))
run_end (Loads begin made at what) before = load_end what (behind AMoment before.draws) at.place before.taken
run_end (Adds begin made at reads what) before = keytab_end what before.taken (Shown at) (behind AMoment before.draws)
run_end (AddsNew begin made at reads what) before = renewed_end what before.taken
run_end (Filters what) before = keytab_end what before.taken (Same NoDraw) before.draws
run_end (Tells text drawn) before = Some (record {
  out = after_told before.taken text;
  refused = false;
  disk = Same drawn;
  draws = behind drawn before.draws;
})
run_end (Makes spec) before = option_map (end_made spec before.taken) before.draws
run_end Ends before =
    Some (record { out = after_told before.taken ended_text; refused = false; disk = Gone; draws = before.draws })

pub record RunEndsAs (out : Option (List ℕ)) (refused : Bool) (draws : Option Draws) (old now : View)
    (end : RunEnd) : Type 0 where
  pub out_is : out ≡ end.out
  pub refused_is : refused ≡ end.refused
  pub stands : Stands end.disk old now
  pub draws_are : draws ≡ end.draws

-- ---- where it may stop early

-- whatever a crash leaves has P
pub record LeavesAll (P : Files → Type 0) (now : View) : Type 0 where
  pub each : (c : Files) → now.images c → P c

-- while a database is opened: the files stand for what they stood for, or for a place of the opening
abbrev pub OpensPart : View → Place → List Place → Files → Type 0
OpensPart old begin made c = IsLike old c ⊎ LeavesPart begin made c

-- while one is made: nothing was written, and the files stand for what they stood for, for none, or for the one that is
-- made; or a part of the answer was, and that alone stands
abbrev pub MakesStop : SpecParts → View → Option (List ℕ) → Draws → Option (List ℕ) → View → Type 0
MakesStop spec old taken draws out now =
    ((out ≡ taken) × LeavesAll (Creates old (place_made spec draws)) now)
    ⊎ (SaidPart (made_line draws) taken out × IsMade spec (moment_in draws) (block_in draws) now)

-- while one is ended
abbrev pub EndsStop : View → Option (List ℕ) → Option (List ℕ) → View → Type 0
EndsStop old taken out now =
    ((out ≡ taken) × LeavesAll (Destroys old) now)
    ⊎ (SaidPart ended_text taken out × IsErased now)

-- while a database is loaded
abbrev pub LoadStops : Option LoadEnd → Option Draws → Place → Option (List ℕ) → Option (List ℕ) → View → Type 0
LoadStops None draws p taken out now = ⊤
LoadStops (Some end) None p taken out now = ⊤
LoadStops (Some end) (Some draws) p taken out now = IsStopped (load_stage end (moment_in draws) p taken) out now

-- while a keytab is written
abbrev pub IsFront : Option Answer → Option (List ℕ) → Option (List ℕ) → Type 0
IsFront None taken out = ⊤
IsFront (Some answer) taken out = SaidPart answer.text taken out

-- while keys are made anew and written: nothing was written, and a crash leaves the place before or one that is made;
-- or a part was, and then the last place alone
abbrev pub RenewedStops : Renewing → Place → Option (List ℕ) → Option (List ℕ) → View → Type 0
RenewedStops (Untold w) p taken out now = ⊤
RenewedStops (Renewed renewal) p taken out now =
    IsStopped (StopsAt taken renewal.answer.text p renewal.made renewal.later.place) out now

abbrev pub RunStops : Opening → View → Told → Option (List ℕ) → View → Type 0
RunStops (Refuses why drawn) old before out now = SaidPart (refusal_line why) before.taken out × IsSame drawn old now
RunStops (Opens begin made at asked) old before out now =
    IsStopped (Stops (course_behind asked before at)) out now
    ⊎ ((out ≡ before.taken) × LeavesAll (OpensPart old begin made) now)
RunStops (Loads begin made at what) old before out now =
    LoadStops what (behind AMoment before.draws) at.place before.taken out now
    ⊎ ((out ≡ before.taken) × LeavesAll (OpensPart old begin made) now)
RunStops (Adds begin made at reads what) old before out now =
    (IsFront what before.taken out × RecoversTo at.place now)
    ⊎ ((out ≡ before.taken) × LeavesAll (OpensPart old begin made) now)
RunStops (AddsNew begin made at reads what) old before out now =
    RenewedStops what at.place before.taken out now ⊎ ((out ≡ before.taken) × LeavesAll (OpensPart old begin made) now)
RunStops (Filters what) old before out now = IsFront what before.taken out × IsSame NoDraw old now
RunStops (Tells text drawn) old before out now = SaidPart text before.taken out × IsSame drawn old now
RunStops (Makes spec) old before out now = IfTold before.draws (λ draws. MakesStop spec old before.taken draws out now)
RunStops Ends old before out now = EndsStop old before.taken out now

-- what may be written of a next line, of which a part may be: of a dump its lines, where memory was short
abbrev pub begun_at : SessionHalt → List Asked → Place → List ℕ
begun_at MemoryOut = lines_begun
begun_at other = nothing_begun

-- There the first so many lines were done and are answered in full, or nothing was written, and no more was done than
-- an opening does. Of a text that is told, and of what may be written of a next line, a front may have been written.
abbrev pub RunRests : (List Asked → Place → List ℕ) → Opening → View → Told → Option (List ℕ) → View → Type 0
RunRests begun (Refuses why drawn) old before out now = (out ≡ before.taken) × IsSame drawn old now
RunRests begun (Opens begin made at asked) old before out now =
    IsAtRest begun (course_behind asked before at) out now
    ⊎ ((out ≡ before.taken) × LeavesAll (OpensPart old begin made) now)
RunRests begun (Loads begin made at what) old before out now =
    (out ≡ before.taken) × LeavesAll (OpensPart old begin made) now
RunRests begun (Adds begin made at reads what) old before out now =
    (out ≡ before.taken) × LeavesAll (OpensPart old begin made) now
RunRests begun (AddsNew begin made at reads what) old before out now =
    (out ≡ before.taken) × LeavesAll (OpensPart old begin made) now
RunRests begun (Filters what) old before out now = (out ≡ before.taken) × IsSame NoDraw old now
RunRests begun (Tells text drawn) old before out now = SaidPart text before.taken out × IsSame drawn old now
RunRests begun (Makes spec) old before out now = (out ≡ before.taken) × Keeps old now
RunRests begun Ends old before out now = (out ≡ before.taken) × Keeps old now

-- ---- what a crash may leave at any moment of it

-- while a database is loaded: the place before or the loaded one, and where the input is not told, the place before or
-- that with other rows
abbrev pub LoadLeaves : Option LoadEnd → Option Draws → Place → Files → Type 0
LoadLeaves None draws p c = LeavesSome p c
LoadLeaves (Some end) None p c = LeavesSome p c
LoadLeaves (Some end) (Some draws) p c = LeavesPart p (places_loaded end (moment_in draws) p) c

-- while keys are made anew: the place before, or one that is made, and then the command is an event of the primary's
-- history; where the input is not told, the command for what is wanted, at some moment and with some random bytes
abbrev pub RenewedLeaves : Renewing → Seen → Files → Type 0
RenewedLeaves (Untold w) at c = LeavesOfCommand w at c
RenewedLeaves (Renewed renewal) at c =
    (recovers c ≡ Ok at.place) ⊎ (WasDone renewal.asked renewal.from × LeavesPart at.place renewal.made c)

-- what an image of before stood for, a place of the opening, of the input's course or of a load, or nothing while a
-- database is made or once its end has begun
abbrev pub RunLeaves : Opening → View → Told → Files → Type 0
RunLeaves (Refuses why drawn) old before c = IsLike old c
RunLeaves (Opens begin made at asked) old before c =
    OpensPart old begin made c ⊎ Leaves (course_behind asked before at) c
RunLeaves (Loads begin made at what) old before c =
    OpensPart old begin made c ⊎ LoadLeaves what (behind AMoment before.draws) at.place c
RunLeaves (Adds begin made at reads what) old before c = OpensPart old begin made c
RunLeaves (AddsNew begin made at reads what) old before c = OpensPart old begin made c ⊎ RenewedLeaves what at c
RunLeaves (Filters what) old before c = IsLike old c
RunLeaves (Tells text drawn) old before c = IsLike old c
RunLeaves (Makes spec) old before c = IfTold before.draws (λ draws. Creates old (place_made spec draws) c)
RunLeaves Ends old before c = Destroys old c

-- ---- all of it

-- What the course of an input comes to, over a database that is open: it was read to its end, or the run was stopped.
pub record HasCourse (c : Course) (old now : View) (after : Told) (result : Result Bool SessionHalt) : Type 0 where
  pub ended : (end : Ending) → ending c ≡ Some end
      → IfOk result (λ refused. RunEndsAs after.taken refused after.draws old now (end_opened end))
  pub stopped : OnErr result (IsStopped (Stops c) after.taken now)
  pub rests : IfErr result (λ halt. SparesOutput halt → IsAtRest (begun_at halt) c after.taken now)
  pub moments : LeavesOnly old now (Leaves c)

-- What a load comes to over a database that is open at this place, where these moments come.
pub record HasLoad (what : Option LoadEnd) (draws : Option Draws) (p : Place) (old now : View) (before after : Told)
    (result : Result Bool SessionHalt) : Type 0 where
  pub ended : (end : RunEnd) → load_end what draws p before.taken ≡ Some end
      → IfOk result (λ refused. RunEndsAs after.taken refused after.draws old now end)
  pub stopped : OnErr result (LoadStops what draws p before.taken after.taken now)
  pub rests : IfErr result (λ halt. SparesOutput halt → (after.taken ≡ before.taken) × RecoversTo p now)
  pub moments : LeavesOnly old now (LoadLeaves what draws p)
  pub read : OnOk result (IsReadWhole before.left after.left)

-- What is written of a keytab, whatever comes of the disk.
pub record HasWritten (what : Option Answer) (taken out : Option (List ℕ))
    (result : Result Bool SessionHalt) : Type 0 where
  pub ended : (answer : Answer) → what ≡ Some answer
      → IfOk result (λ refused. (out ≡ after_told taken answer.text) × (refused ≡ answer.refused))
  pub stopped : OnErr result (IsFront what taken out)
  pub rests : IfErr result (λ halt. SparesOutput halt → out ≡ taken)

-- What keys made anew and written come to, over a database that is open at this place, whose rows show this state.
pub record HasRenewed (what : Renewing) (at : Seen) (old now : View) (taken out : Option (List ℕ))
    (draws : Option Draws) (result : Result Bool SessionHalt) : Type 0 where
  pub ended : (end : RunEnd) → renewed_end what taken ≡ Some end
      → IfOk result (λ refused. RunEndsAs out refused draws old now end)
  pub stopped : OnErr result (RenewedStops what at.place taken out now)
  pub rests : IfErr result (λ halt. SparesOutput halt → (out ≡ taken) × RecoversTo at.place now)
  pub moments : LeavesOnly old now (RenewedLeaves what at)

-- What a run comes to from its opening on: it went through, and says whether a refusal was written, or it was stopped.
pub record HasRun (o : Opening) (old now : View) (before after : Told) (result : Result Bool SessionHalt) : Type 0 where
  -- where nothing fails, as far as it is told
  pub ended : (end : RunEnd) → run_end o before ≡ Some end
      → IfOk result (λ refused. RunEndsAs after.taken refused after.draws old now end)
  -- where it stopped early, and where it did so though neither the sink nor the disk failed
  pub stopped : OnErr result (RunStops o old before after.taken now)
  pub rests : IfErr result (λ halt. SparesOutput halt → RunRests (begun_at halt) o old before after.taken now)
  -- at any moment of it
  pub moments : LeavesOnly old now (RunLeaves o old before)
  -- an input that was opened for was read to its end
  pub read : ReadsInput o → OnOk result (IsReadWhole before.left after.left)
