-- What comes of an opening, by what the files stand for.
use Rattle.std.proofs.Common.{◌≡◌, ◌≢◌, ◌∙◌, ℕ, List, [], ◌∷◌, refl, ap, sym, subst, inl, inr, Bool, true, false}
use Rattle.std.specs.Prelude.{Option, Some, None, Result, Ok, Err, IfOk, OnOk, if◌then◌else◌}
use Rattle.first_rows.specs.Parts.{SpecParts}
use Rattle.iprop_truths.specs.Parts.{end_of}
use Rattle.kadm_loading.specs.Halts.{SparesOutput}
use Rattle.session_base.specs.Wholes.{IsReadWhole}
use Rattle.session_base.specs.Draws.{Draws, moment_in}
use Rattle.session_base.specs.declared.halts.SessionHalt.{SessionHalt}
use Rattle.kadm_session.specs.declared.intake.Asked.{Asked}
use Rattle.kadm_top.specs.declared.asking.Asking.{Asking}
use Rattle.kadm_top.specs.declared.asking.Asking.TheVariants as asking
use Rattle.kadm_top.specs.Openings.{Adds, AddsNew, AMoment, AsksInput, Drawn, Ends, Filters, HasOpening}
use Rattle.kadm_top.specs.Openings.{HasOpeningFor, IsInput, IsOpen, IsOpening, Loads, Makes, NoDraw, Opening, Opens}
use Rattle.kadm_top.specs.Openings.{Refuses, ReadsInput, Tells, asked_of, behind, create_of, destroy_of, opens_for}
use Rattle.kadm_top.specs.Run.{HasCourse, HasRun, IsSame, OpensPart, Stays, Told}
use Rattle.kadm_top.specs.Run.{course_behind, course_from, refusal_line, told}
use Rattle.kadm_top.proofs.Running.{cut_refusal_run, opened_run, refused_run, said_nothing, unopened_run}
use Rattle.kadm_top.specs.declared.words.Words.{Words}
use Rattle.kadm_top.specs.declared.words.Words.TheVariants.{Admin, Create, Destroy, Generate, Line, Renew}
use Rattle.kdb_base.specs.Moment.{Moment}
use Rattle.kdb_base.specs.declared.outcomes.Refusal.{Refusal}
use Rattle.kdb_base.specs.declared.outcomes.Stop.{Stop}
use Rattle.kdb_base.specs.declared.outcomes.Stop.TheVariants as stop
use Rattle.kdb_base.specs.declared.versions.Master.{Master}
use Rattle.kdb_control.specs.Force.{in_force}
use Rattle.kdb_disk.proofs.Runs.{weaken}
use Rattle.kdb_disk.specs.Files.{Files}
use Rattle.kdb_disk.specs.Moments.{LeavesOnly}
use Rattle.kdb_disk.specs.View.{View}
use Rattle.kdb_histories.specs.Calls.{HasTimeLeft, resized}
use Rattle.kdb_histories.specs.Seen.{Seen, seen}
use Rattle.kdb_histories.specs.Stages.{ShowsAt, Stage, places}
use Rattle.kdb_places.specs.Places.{Place}
use Rattle.kdb_plain.specs.declared.states.State.{State}
use Rattle.kdb_ports.specs.Parts.{SaidPart}
use Rattle.kdb_ports.specs.Told.{after_told}
use Rattle.made_scripts.specs.Runs.{told_of}
use Rattle.made_scripts.specs.declared.words.Script.{Script}
use Rattle.primary_core.specs.Opened.{HasState, IsOpened, Opened, place_of}
use Rattle.primary_core.specs.Opening.{IsRefusedAs, MayOpen, OpeningRefused, OpensHaving}
use Rattle.primary_core.specs.Opening.{OpensTo, OpensWith, RecoversAs, place_found}
use Rattle.store_files.specs.Found.{Found, found_in}
use Rattle.store_files.specs.Recovery.{IsLike}

same_Ok : (a b : Found) → ◌≡◌ {A = Result Found Refusal} (Ok a) (Ok b) → a ≡ b
same_Ok a b is = cc

-- ---- what an opening says, as the clauses of its call do

-- the answer of an opening, by what the files stand for: the clauses of `recover` for one clock
pub record Answers (found : Result Found Refusal) (size : Option ℕ) (clock : Moment) (answer : Result Opened Stop)
    (old mid : View) : Type 0 where
  pub opens : IfOk answer (OpensTo found size clock)
  pub only_refused : (why : Refusal) → OpeningRefused found size clock why → IsRefusedAs answer why
  pub complete : (f : Found) (masters : List Master) → found ≡ Ok f → OpensWith f masters
      → (resized size clock (place_found f) ≢ [] → HasTimeLeft (place_found f)) → OpensHaving answer masters
  pub moments : LeavesOnly old mid (MayOpen old found size clock)
  pub refusals : (why : Refusal) → OpeningRefused found size clock why → LeavesOnly old mid (IsLike old)
  pub stays : (why : Refusal) → answer ≡ Err (stop.Refused why) → RecoversAs old.seen mid

part_opened : (old : View) (f : Found) (size : Option ℕ) (clock : Moment) (c : Files) → MayOpen old (Ok f) size clock c
    → OpensPart old (place_found f) (places (resized size clock (place_found f))) c
part_opened old f size clock c (inl like) = inl like
part_opened old f size clock c (inr leaves) = inr leaves.part

-- while it opens
pub opening_part : {old mid : View} {found : Result Found Refusal} {size : Option ℕ} {draws : Option Draws}
    {begin : Place} {made : List Place} {at : Seen} (clock : Moment)
    → (opens : IsOpen size found draws begin made at) → clock ≡ moment_in opens.told
    → LeavesOnly old mid (MayOpen old found size clock) → LeavesOnly old mid (OpensPart old begin made)
opening_part {old} {mid} {found} {size} {begin = begin} {made = made} clock opens is run =
    let at_clock : LeavesOnly old mid (MayOpen old (Ok opens.files) size (moment_in opens.told)) =
    subst (λ (m : Moment). LeavesOnly old mid (MayOpen old (Ok opens.files) size m)) is
    (subst (λ (r : Result Found Refusal). LeavesOnly old mid (MayOpen old r size clock)) opens.found_is run) in
    subst (λ (p : Place). LeavesOnly old mid (OpensPart old p made)) (sym opens.begin_is)
    (subst (λ (ps : List Place). LeavesOnly old mid (OpensPart old (place_found opens.files) ps)) (sym opens.made_are)
    (weaken at_clock (part_opened old opens.files size (moment_in opens.told))))

-- what is open is where the opening leads
pub opened_place : {size : Option ℕ} {found : Result Found Refusal} {draws : Option Draws} {begin : Place}
    {made : List Place} {at : Seen} (clock : Moment) (o : Opened)
    → (opens : IsOpen size found draws begin made at) → clock ≡ moment_in opens.told → OpensTo found size clock o
    → place_of o ≡ at.place
opened_place {size} {found} {begin = begin} {made = made} {at = at} clock o opens is to =
    let files : to.found_is ≡ opens.files = same_Ok to.found_is opens.files (sym to.is ∙ opens.found_is) in
    to.place_is
    ∙ ap (λ (f : Found). end_of (place_found f) (places (resized size clock (place_found f)))) files
    ∙ ap (λ (m : Moment). end_of (place_found opens.files) (places (resized size m (place_found opens.files)))) is
    ∙ ap (λ (p : Place). end_of p (places (resized size (moment_in opens.told) (place_found opens.files))))
    (sym opens.begin_is)
    ∙ ap (end_of begin) (sym opens.made_are)
    ∙ sym opens.place_is

-- the masters with which it opens, for whatever answer
pub open_having : {size : Option ℕ} {found : Result Found Refusal} {draws : Option Draws} {begin : Place}
    {made : List Place} {at : Seen} {old mid : View} (clock : Moment) (answer : Result Opened Stop)
    → (opens : IsOpen size found draws begin made at) → clock ≡ moment_in opens.told
    → Answers found size clock answer old mid → OpensHaving answer opens.masters
open_having {size} clock answer opens is answers =
    answers.complete opens.files opens.masters opens.found_is opens.opens
    (λ anew. opens.left (subst (λ (m : Moment). resized size m (place_found opens.files) ≢ []) is anew))

-- and its state
pub opened_state : {size : Option ℕ} {found : Result Found Refusal} {draws : Option Draws} {begin : Place}
    {made : List Place} {at : Seen} (o : Opened)
    → (opens : IsOpen size found draws begin made at) → place_of o ≡ at.place → o.masters ≡ opens.masters
    → HasState o at.state
opened_state {at = at} o opens place masters = record {
  shows = subst (λ (p : Place). ShowsAt p at.state) (sym place) opens.shows;
  masters_are = opens.masters_are ∙ sym masters;
}

-- ---- the four ways that an opening goes

-- the input is read where that is asked
input_asked : (asks : Asking) (realm : List ℕ) → IsInput (asked_of asks realm) → AsksInput asks
input_asked asking.Input realm is = tt
input_asked (asking.Line words) realm is = absurd is
input_asked asking.ResetsLog realm is = absurd is

asked_input : (asks : Asking) (realm : List ℕ) → AsksInput asks → IsInput (asked_of asks realm)
asked_input asking.Input realm is = tt
asked_input (asking.Line words) realm is = absurd is
asked_input asking.ResetsLog realm is = absurd is

-- it opened
pub admin_opened : {size : Option ℕ} {found : Result Found Refusal} {old mid now : View} {before after middle : Told}
    {result : Result Bool SessionHalt} (asks : Asking) (clock : Moment) (o : Opening) (primary : Opened)
    → ((d : Draws) → before.draws ≡ Some d → clock ≡ moment_in d)
    → opens_for size asks found before.draws o → Answers found size clock (Ok primary) old mid
    → middle ≡ told before.taken before.left (behind AMoment before.draws)
    → ((s : State) → HasState primary s → HasCourse
    (course_from (asked_of asks (place_of primary).realm) middle (seen (place_of primary) s)) mid now after result)
    → (AsksInput asks → OnOk result (IsReadWhole before.left after.left))
    → HasRun o old now before after result
admin_opened asks clock (Refuses why drawn) primary gave opens answers is course whole =
    absurd (answers.only_refused why (opens.1 clock))
admin_opened {size} {found} {old} {mid} {now} {before} {after} {middle} {result} asks clock
    (Opens begin made at its) primary gave opens answers is course whole =
    let found_open = opens.0 in
    let at_clock : clock ≡ moment_in found_open.told = gave found_open.told found_open.draws_are in
    let place : place_of primary ≡ at.place = opened_place clock primary found_open at_clock answers.opens in
    let state : HasState primary at.state =
    opened_state primary found_open place (open_having clock (Ok primary) found_open at_clock answers) in
    opened_run begin made at its (opening_part clock found_open at_clock answers.moments)
    (subst (λ (a : Option Asked). HasCourse (course_behind a before at) mid now after result) (sym opens.1)
    (subst (λ (t : Told). HasCourse (course_from (asked_of asks at.place.realm) t at) mid now after result) is
    (subst (λ (p : Place). HasCourse (course_from (asked_of asks p.realm) middle (seen p at.state)) mid now after
    result) place (course at.state state))))
    (λ reads. whole (input_asked asks at.place.realm (subst IsInput opens.1 reads)))
admin_opened asks clock (Loads begin made at what) primary gave opens answers is course whole = absurd opens
admin_opened asks clock (Adds begin made at reads what) primary gave opens answers is course whole = absurd opens
admin_opened asks clock (AddsNew begin made at reads what) primary gave opens answers is course whole = absurd opens
admin_opened asks clock (Filters what) primary gave opens answers is course whole = absurd opens
admin_opened asks clock (Tells text drawn) primary gave opens answers is course whole = absurd opens
admin_opened asks clock (Makes spec) primary gave opens answers is course whole = absurd opens
admin_opened asks clock Ends primary gave opens answers is course whole = absurd opens

-- it was refused, and that was written
pub admin_refused : {size : Option ℕ} {found : Result Found Refusal} {old now : View} {before after : Told}
    (asks : Asking) (clock : Moment) (o : Opening) (refusal : Refusal)
    → ((d : Draws) → before.draws ≡ Some d → clock ≡ moment_in d)
    → opens_for size asks found before.draws o → Answers found size clock (Err (stop.Refused refusal)) old now
    → after.taken ≡ after_told before.taken (refusal_line refusal) → after.draws ≡ behind AMoment before.draws
    → HasRun o old now before after (Ok true)
admin_refused {old = old} {now = now} {before = before} {after = after} asks clock
    (Refuses why drawn) refusal gave opens answers said_it draws =
    let cause : OpeningRefused _ _ clock why = opens.1 clock in
    let same : refusal ≡ why = answers.only_refused why cause in
    refused_run why drawn
    (said_it ∙ ap (λ (r : Refusal). after_told before.taken (refusal_line r)) same)
    (draws ∙ ap (λ (d : Drawn). behind d before.draws) (sym opens.0))
    (subst (λ (d : Drawn). Stays d old now) (sym opens.0)
    (record { stays = answers.stays refusal refl; leaves = answers.refusals why cause }))
admin_refused asks clock (Opens begin made at its) refusal gave opens answers said_it draws =
    absurd (open_having clock (Err (stop.Refused refusal)) opens.0 (gave opens.0.told opens.0.draws_are) answers)
admin_refused asks clock (Loads begin made at what) refusal gave opens answers said_it draws = absurd opens
admin_refused asks clock (Adds begin made at reads what) refusal gave opens answers said_it draws = absurd opens
admin_refused asks clock (AddsNew begin made at reads what) refusal gave opens answers said_it draws = absurd opens
admin_refused asks clock (Filters what) refusal gave opens answers said_it draws = absurd opens
admin_refused asks clock (Tells text drawn) refusal gave opens answers said_it draws = absurd opens
admin_refused asks clock (Makes spec) refusal gave opens answers said_it draws = absurd opens
admin_refused asks clock Ends refusal gave opens answers said_it draws = absurd opens

-- of which not all was written
pub admin_cut : {size : Option ℕ} {found : Result Found Refusal} {old now : View} {before after : Told} (asks : Asking)
    (clock : Moment) (o : Opening) (refusal : Refusal) (halt : SessionHalt)
    → ((d : Draws) → before.draws ≡ Some d → clock ≡ moment_in d)
    → opens_for size asks found before.draws o → Answers found size clock (Err (stop.Refused refusal)) old now
    → SaidPart (refusal_line refusal) before.taken after.taken
    → (SparesOutput halt → after.taken ≡ before.taken)
    → HasRun o old now before after (Err halt)
admin_cut {old = old} {now = now} {before = before} {after = after} asks clock
    (Refuses why drawn) refusal halt gave opens answers part nothing =
    let cause : OpeningRefused _ _ clock why = opens.1 clock in
    let same : refusal ≡ why = answers.only_refused why cause in
    cut_refusal_run why drawn halt
    (subst (λ (r : Refusal). SaidPart (refusal_line r) before.taken after.taken) same part)
    (subst (λ (d : Drawn). IsSame d old now) (sym opens.0) (answers.refusals why cause))
    nothing
admin_cut asks clock (Opens begin made at its) refusal halt gave opens answers part nothing =
    absurd (open_having clock (Err (stop.Refused refusal)) opens.0 (gave opens.0.told opens.0.draws_are) answers)
admin_cut asks clock (Loads begin made at what) refusal halt gave opens answers part nothing = absurd opens
admin_cut asks clock (Adds begin made at reads what) refusal halt gave opens answers part nothing = absurd opens
admin_cut asks clock (AddsNew begin made at reads what) refusal halt gave opens answers part nothing = absurd opens
admin_cut asks clock (Filters what) refusal halt gave opens answers part nothing = absurd opens
admin_cut asks clock (Tells text drawn) refusal halt gave opens answers part nothing = absurd opens
admin_cut asks clock (Makes spec) refusal halt gave opens answers part nothing = absurd opens
admin_cut asks clock Ends refusal halt gave opens answers part nothing = absurd opens

-- it was stopped
pub admin_halted : {size : Option ℕ} {found : Result Found Refusal} {old now : View} {before after : Told}
    (asks : Asking) (clock : Moment) (o : Opening) (answer : Result Opened Stop) (halt : SessionHalt)
    → ((d : Draws) → before.draws ≡ Some d → clock ≡ moment_in d)
    → opens_for size asks found before.draws o → Answers found size clock answer old now
    → after.taken ≡ before.taken
    → HasRun o old now before after (Err halt)
admin_halted {old = old} {now = now} {before = before} {after = after} asks clock
    (Refuses why drawn) answer halt gave opens answers nothing =
    let cause : OpeningRefused _ _ clock why = opens.1 clock in
    cut_refusal_run why drawn halt (said_nothing (refusal_line why) before.taken after.taken nothing)
    (subst (λ (d : Drawn). IsSame d old now) (sym opens.0) (answers.refusals why cause))
    (λ _. nothing)
admin_halted asks clock (Opens begin made at its) answer halt gave opens answers nothing =
    unopened_run begin made at its halt
    (opening_part clock opens.0 (gave opens.0.told opens.0.draws_are) answers.moments) nothing
admin_halted asks clock (Loads begin made at what) answer halt gave opens answers nothing = absurd opens
admin_halted asks clock (Adds begin made at reads what) answer halt gave opens answers nothing = absurd opens
admin_halted asks clock (AddsNew begin made at reads what) answer halt gave opens answers nothing = absurd opens
admin_halted asks clock (Filters what) answer halt gave opens answers nothing = absurd opens
admin_halted asks clock (Tells text drawn) answer halt gave opens answers nothing = absurd opens
admin_halted asks clock (Makes spec) answer halt gave opens answers nothing = absurd opens
admin_halted asks clock Ends answer halt gave opens answers nothing = absurd opens

-- ---- what was read of the input

-- what opens for the input is read
pub opened_reads : {size : Option ℕ} {found : Result Found Refusal} {old mid : View} (asks : Asking)
    (draws : Option Draws) (clock : Moment) (o : Opening) (primary : Opened)
    → opens_for size asks found draws o → Answers found size clock (Ok primary) old mid → AsksInput asks → ReadsInput o
opened_reads asks draws clock (Refuses why drawn) primary opens answers input =
    absurd (answers.only_refused why (opens.1 clock))
opened_reads asks draws clock (Opens begin made at its) primary opens answers input =
    subst IsInput (sym opens.1) (asked_input asks at.place.realm input)
opened_reads asks draws clock (Loads begin made at what) primary opens answers input = absurd opens
opened_reads asks draws clock (Adds begin made at reads what) primary opens answers input = absurd opens
opened_reads asks draws clock (AddsNew begin made at reads what) primary opens answers input = absurd opens
opened_reads asks draws clock (Filters what) primary opens answers input = absurd opens
opened_reads asks draws clock (Tells text drawn) primary opens answers input = absurd opens
opened_reads asks draws clock (Makes spec) primary opens answers input = absurd opens
opened_reads asks draws clock Ends primary opens answers input = absurd opens

-- ---- by the words

pub for_admin : (left : Option (List ℕ)) (files : Files) (draws : Option Draws) (o : Opening)
    (words : Result Words Refusal) (size : Option ℕ) → words ≡ Ok (Admin size) → IsOpening words left files draws o
    → opens_for size asking.Input (found_in files) draws o
unfolding IsOpening
for_admin left files draws o words size is opening =
    subst (λ (w : Result Words Refusal). IsOpening w left files draws o) is opening

pub for_line : (left : Option (List ℕ)) (files : Files) (draws : Option Draws) (o : Opening)
    (words : Result Words Refusal) (line : List (List ℕ)) → words ≡ Ok (Line line) → IsOpening words left files draws o
    → opens_for None (asking.Line line) (found_in files) draws o
unfolding IsOpening
for_line left files draws o words line is opening =
    subst (λ (w : Result Words Refusal). IsOpening w left files draws o) is opening

pub for_renew : (left : Option (List ℕ)) (files : Files) (draws : Option Draws)
    (o : Opening) (words : Result Words Refusal) → words ≡ Ok Renew → IsOpening words left files draws o
    → opens_for None asking.ResetsLog (found_in files) draws o
unfolding IsOpening
for_renew left files draws o words is opening =
    subst (λ (w : Result Words Refusal). IsOpening w left files draws o) is opening

pub for_create : (left : Option (List ℕ)) (files : Files) (draws : Option Draws) (o : Opening)
    (words : Result Words Refusal) (spec : SpecParts) → words ≡ Ok (Create spec) → IsOpening words left files draws o
    → o ≡ create_of spec (in_force (files 0))
unfolding IsOpening
for_create left files draws o words spec is opening =
    subst (λ (w : Result Words Refusal). IsOpening w left files draws o) is opening

pub for_destroy : (left : Option (List ℕ)) (files : Files) (draws : Option Draws)
    (o : Opening) (words : Result Words Refusal) → words ≡ Ok Destroy → IsOpening words left files draws o
    → o ≡ destroy_of (in_force (files 0))
unfolding IsOpening
for_destroy left files draws o words is opening =
    subst (λ (w : Result Words Refusal). IsOpening w left files draws o) is opening

pub for_generate : (left : Option (List ℕ)) (files : Files) (draws : Option Draws) (o : Opening)
    (words : Result Words Refusal) (script : Script) → words ≡ Ok (Generate script) → IsOpening words left files draws o
    → o ≡ Tells (told_of script) NoDraw
unfolding IsOpening
for_generate left files draws o words script is opening =
    subst (λ (w : Result Words Refusal). IsOpening w left files draws o) is opening

pub for_refusal : (left : Option (List ℕ)) (files : Files) (draws : Option Draws) (o : Opening)
    (words : Result Words Refusal) (refusal : Refusal) → words ≡ Err refusal → IsOpening words left files draws o
    → o ≡ Refuses refusal NoDraw
unfolding IsOpening
for_refusal left files draws o words refusal is opening =
    subst (λ (w : Result Words Refusal). IsOpening w left files draws o) is opening

-- ---- there is an opening

-- whether a log is begun anew does not depend on the clock
anew_either : (b : Bool) (x y : Stage) → (if b then [] else x ∷ []) ≢ [] → (if b then [] else y ∷ []) ≢ []
anew_either true x y anew = absurd (anew refl)
anew_either false x y anew = λ e. absurd cc

pub refused_always : (found : Result Found Refusal) (size : Option ℕ) (clock other : Moment) (why : Refusal)
    → OpeningRefused found size clock why → OpeningRefused found size other why
refused_always (Err refusal) size clock other why is = is
refused_always (Ok f) size clock other why (inl cause) = inl cause
refused_always (Ok f) size clock other why (inr late) = inr (record {
  masters = late.masters;
  opens = late.opens;
  ends = record { anew = anew_either _ _ _ late.ends.anew; ended = late.ends.ended; why_is = late.ends.why_is };
})

-- one that was refused
pub refused_opening : (size : Option ℕ) (asks : Asking) (found : Result Found Refusal) (draws : Option Draws)
    (clock : Moment) (why : Refusal) → OpeningRefused found size clock why → HasOpeningFor size asks found draws
refused_opening size asks found draws clock why refused =
    record { opening = Refuses why AMoment; is = (refl, λ other. refused_always found size clock other why refused) }

-- one that went well
unfoldable pub is_open : (size : Option ℕ) (found : Result Found Refusal) (draws : Draws) (clock : Moment) (o : Opened)
    → clock ≡ moment_in draws → (to : OpensTo found size clock o) → (opened : IsOpened o)
    → IsOpen size found (Some draws) (place_found to.found_is)
    (places (resized size (moment_in draws) (place_found to.found_is))) (seen (place_of o) opened.state)
is_open size found draws clock o is to opened = record {
  told = draws;
  draws_are = refl;
  files = to.found_is;
  found_is = to.is;
  masters = o.masters;
  opens = to.opens;
  begin_is = refl;
  made_are = refl;
  left = subst (λ (m : Moment). resized size m (place_found to.found_is) ≢ [] → HasTimeLeft (place_found to.found_is))
      is to.left;
  place_is = to.place_is
      ∙ ap (λ (m : Moment). end_of (place_found to.found_is) (places (resized size m (place_found to.found_is)))) is;
  shows = opened.has.shows;
  masters_are = opened.has.masters_are;
}

pub good_opening : (size : Option ℕ) (asks : Asking) (found : Result Found Refusal)
    (draws : Draws) (clock : Moment) (o : Opened) → clock ≡ moment_in draws → OpensTo found size clock o → IsOpened o
    → HasOpeningFor size asks found (Some draws)
good_opening size asks found draws clock o is to opened = record {
  opening = Opens (place_found to.found_is) (places (resized size (moment_in draws) (place_found to.found_is)))
      (seen (place_of o) opened.state) (asked_of asks (place_of o).realm);
  is = (is_open size found draws clock o is to opened, refl);
}

pub any_ok : {T E : Type 0} (r : Result T E) (P : Type 0) → P → OnOk r P
any_ok (Ok x) P p = p
any_ok (Err e) P p = tt

-- by the words
pub admin_has : {left : Option (List ℕ)} (files : Files) (draws : Option Draws) (words : Result Words Refusal)
    (size : Option ℕ) → words ≡ Ok (Admin size) → HasOpeningFor size asking.Input (found_in files) draws
    → HasOpening words left files draws
unfolding IsOpening
admin_has {left} files draws words size is has = subst (λ (w : Result Words Refusal). HasOpening w left files draws)
    (sym is) (record { opening = has.opening; is = has.is })

pub line_has : {left : Option (List ℕ)} (files : Files) (draws : Option Draws) (words : Result Words Refusal)
    (line : List (List ℕ)) → words ≡ Ok (Line line) → HasOpeningFor None (asking.Line line) (found_in files) draws
    → HasOpening words left files draws
unfolding IsOpening
line_has {left} files draws words line is has = subst (λ (w : Result Words Refusal). HasOpening w left files draws)
    (sym is) (record { opening = has.opening; is = has.is })

pub renew_has : {left : Option (List ℕ)} (files : Files) (draws : Option Draws) (words : Result Words Refusal)
    → words ≡ Ok Renew → HasOpeningFor None asking.ResetsLog (found_in files) draws → HasOpening words left files draws
unfolding IsOpening
renew_has {left} files draws words is has = subst (λ (w : Result Words Refusal). HasOpening w left files draws) (sym is)
    (record { opening = has.opening; is = has.is })

pub create_has : {left : Option (List ℕ)} (files : Files) (draws : Option Draws) (words : Result Words Refusal)
    (spec : SpecParts) → words ≡ Ok (Create spec) → HasOpening words left files draws
unfolding IsOpening
create_has {left} files draws words spec is = subst (λ (w : Result Words Refusal). HasOpening w left files draws)
    (sym is) (record { opening = create_of spec (in_force (files 0)); is = refl })

pub destroy_has : {left : Option (List ℕ)} (files : Files) (draws : Option Draws) (words : Result Words Refusal)
    → words ≡ Ok Destroy → HasOpening words left files draws
unfolding IsOpening
destroy_has {left} files draws words is = subst (λ (w : Result Words Refusal). HasOpening w left files draws) (sym is)
    (record { opening = destroy_of (in_force (files 0)); is = refl })

pub generate_has : {left : Option (List ℕ)} (files : Files) (draws : Option Draws) (words : Result Words Refusal)
    (script : Script) → words ≡ Ok (Generate script) → HasOpening words left files draws
unfolding IsOpening
generate_has {left} files draws words script is = subst (λ (w : Result Words Refusal). HasOpening w left files draws)
    (sym is) (record { opening = Tells (told_of script) NoDraw; is = refl })

pub refusal_has : {left : Option (List ℕ)} (files : Files) (draws : Option Draws) (words : Result Words Refusal)
    (refusal : Refusal) → words ≡ Err refusal → HasOpening words left files draws
unfolding IsOpening
refusal_has {left} files draws words refusal is = subst (λ (w : Result Words Refusal). HasOpening w left files draws)
    (sym is) (record { opening = Refuses refusal NoDraw; is = refl })
