-- What comes of a load behind its opening.
use Rattle.std.proofs.Common.{◌≡◌, ◌∙◌, ℕ, List, [], ◌∷◌, refl, ap, sym, subst, inl, inr, Bool, true, false}
use Rattle.std.specs.Prelude.{Option, Some, None, Result, Ok, Err, IfErr, IfOk, OnErr}
use Rattle.std.specs.Prelude.{OnOk, option_map, nat_eq, ◌&&◌, if◌then◌else◌, ⊤}
use Rattle.std.proofs.lemmas.Option.{same_Some}
use Rattle.std.proofs.lemmas.Result.{on_err_weaker, on_ok_weaker}
use Rattle.dump_text.specs.Judged.{judged}
use Rattle.dump_text.specs.declared.dumps.Dump.{Dump}
use Rattle.iprop_truths.specs.Parts.{end_of}
use Rattle.kadm_loading.proofs.Ends.{place_is}
use Rattle.kadm_loading.specs.Halts.{SparesOutput}
use Rattle.session_base.specs.Wholes.{IsReadWhole}
use Rattle.kadm_loading.specs.Loads.{ComesTo, HasComeTo, Holds, LeavesSome, LoadEnd, Loaded, LoadsAs}
use Rattle.kadm_loading.specs.Loads.{LoadsTo, NotLoaded, load_stage, place_loaded, places_loaded}
use Rattle.session_base.specs.Stages.{IsStopped}
use Rattle.session_base.specs.Draws.{Draws, behind_moment, moment_in, told_draws}
use Rattle.session_base.specs.declared.halts.SessionHalt.{SessionHalt}
use Rattle.kadm_top.proofs.Openings.{Answers, any_ok, is_open, open_having, opened_place, opening_part, refused_always}
use Rattle.kadm_top.proofs.Running.{all_at_end, cut_refusal_run, refused_run, said_nothing}
use Rattle.kadm_top.proofs.Telling.{behind_clock}
use Rattle.kadm_top.specs.Openings.{Adds, AddsNew, AMoment, Drawn, Ends, Filters, HasLoaded}
use Rattle.kadm_top.specs.Openings.{HasLoading, HasOpening, IsOpening, LoadsAt, Loads, Makes}
use Rattle.kadm_top.specs.Openings.{Opening, Opens, ReadsInput, Refuses, Tells, behind, loads_for}
use Rattle.kadm_top.specs.Run.{HasLoad, HasRun, IsSame, LeavesAll, OpensPart, RunEnd}
use Rattle.kadm_top.specs.Run.{RunEndsAs, Stands, Stays, Told, load_end, refusal_line, told}
use Rattle.kadm_top.specs.declared.words.Words.{Words}
use Rattle.kadm_top.specs.declared.words.Words.TheVariants as words
use Rattle.kdb_base.specs.Moment.{Moment}
use Rattle.kdb_base.specs.declared.outcomes.Refusal.{Refusal}
use Rattle.kdb_base.specs.declared.outcomes.Stop.{Stop}
use Rattle.kdb_base.specs.declared.outcomes.Stop.TheVariants as stop
use Rattle.kdb_base.specs.declared.versions.Master.{Master}
use Rattle.kdb_disk.proofs.Runs.{then_on, weaken}
use Rattle.kdb_disk.specs.Files.{Files}
use Rattle.kdb_disk.specs.Moments.{LeavesOnly}
use Rattle.kdb_disk.specs.View.{View}
use Rattle.kdb_histories.specs.Calls.{resized, size_or}
use Rattle.kdb_histories.specs.Seen.{Seen, reset_point, seen}
use Rattle.kdb_histories.specs.Stages.{Anew, places, stage}
use Rattle.kdb_places.specs.Places.{Place, log_anew}
use Rattle.kdb_ports.specs.Parts.{SaidPart}
use Rattle.kdb_ports.specs.Told.{after_told, later_moments}
use Rattle.primary_core.specs.Opened.{IsOpened, Opened, place_of}
use Rattle.primary_core.specs.Opening.{OpeningRefused, OpensTo, place_found}
use Rattle.kadm_loading.specs.Judging.{IsDumpCause, IsForeignCause, IsRowsCause}
use Rattle.princ_record.specs.declared.princs.Princ.{Princ}
use Rattle.princ_rows.specs.Rows.{RowLists}
use Rattle.stash_file.proofs.Uniques.{not_bad}
use Rattle.stash_file.specs.declared.keys.StashKey.{StashKey}
use Rattle.stash_opening.specs.Finding.{HasKeys, IsBroken, IsDamage, StashOpens, own_record}
use Rattle.store_files.specs.Found.{Found, found_in, recovers}
use Rattle.store_files.specs.Recovery.{LeavesPart, RecoversTo}

-- ---- the number of the stash's file is told of a stash that breaks its grammar alone, and one that opens breaks none

no_damage : (stash : Option (List ℕ)) (file : ℕ) (entry : Option Princ) (masters : List Master) (why : Refusal)
    → StashOpens stash entry masters → IsDamage stash file why → ⊥
no_damage stash file entry masters why opens damage =
    not_broken stash opens.keys damage.place opens.spelled damage.broken
  where
    not_broken : (stash : Option (List ℕ)) (keys : List StashKey) (place : ℕ) → HasKeys stash keys
        → IsBroken stash place → ⊥
    not_broken None keys place h bad = bad
    not_broken (Some text) keys place h bad = not_bad text keys place h bad

foreign_anywhere : (stash : Option (List ℕ)) (a b : ℕ) (entry : Option Princ) (masters : List Master) (why : Refusal)
    → StashOpens stash entry masters → IsForeignCause stash a why → IsForeignCause stash b why
foreign_anywhere stash a b entry masters why opens (inl (inl damage)) =
    absurd (no_damage stash a entry masters why opens damage)
foreign_anywhere stash a b entry masters why opens (inl (inr lacks)) = inl (inr lacks)
foreign_anywhere stash a b entry masters why opens (inr other) = inr other

rows_anywhere : (stash : Option (List ℕ)) (a b : ℕ) (entry : Option Princ) (masters : List Master) (realm : List ℕ)
    (secs : ℕ) (rows : RowLists) (why : Refusal)
    → StashOpens stash entry masters → IsRowsCause stash a realm secs rows why → IsRowsCause stash b realm secs rows why
rows_anywhere stash a b entry masters realm secs rows why opens (inl (inl damage)) =
    absurd (no_damage stash a entry masters why opens damage)
rows_anywhere stash a b entry masters realm secs rows why opens (inl (inr refused)) = inl (inr refused)
rows_anywhere stash a b entry masters realm secs rows why opens (inr untrue) = inr untrue

dump_anywhere : (stash : Option (List ℕ)) (a b : ℕ) (entry : Option Princ) (masters : List Master) (realm : List ℕ)
    (secs : ℕ) (dump : Dump) (why : Refusal)
    → StashOpens stash entry masters → IsDumpCause stash a realm secs dump why → IsDumpCause stash b realm secs dump why
dump_anywhere stash a b entry masters realm secs dump why opens (inl f) =
    inl (record { other = f.other; cause = foreign_anywhere stash a b entry masters why opens f.cause })
dump_anywhere stash a b entry masters realm secs dump why opens (inr u) =
    inr (record { same = u.same; cause = rows_anywhere stash a b entry masters realm secs dump.rows why opens u.cause })

loads_anywhere : (p : Place) (a b : ℕ) (entry : Option Princ) (masters : List Master) (clock : Moment)
    (read : Result Dump ℕ) (end : LoadEnd)
    → StashOpens p.stash entry masters → LoadsTo p a clock read end → LoadsTo p b clock read end
loads_anywhere p a b entry masters clock (Err line) end opens to = to
loads_anywhere p a b entry masters clock (Ok dump) (Loaded other) opens to = to
loads_anywhere p a b entry masters clock (Ok dump) (NotLoaded why) opens (inl cause) =
    inl (dump_anywhere p.stash a b entry masters p.realm _ dump why opens cause)
loads_anywhere p a b entry masters clock (Ok dump) (NotLoaded why) opens (inr lacks) = inr lacks

pub at_anywhere : (left : Option (List ℕ)) (p : Place) (a b : ℕ) (entry : Option Princ) (masters : List Master)
    (clock : Moment) (what : Option LoadEnd)
    → StashOpens p.stash entry masters → LoadsAt left p a clock what → LoadsAt left p b clock what
at_anywhere None p a b entry masters clock what opens is = is
at_anywhere (Some text) p a b entry masters clock None opens is = absurd is
at_anywhere (Some text) p a b entry masters clock (Some end) opens is =
    loads_anywhere p a b entry masters clock (judged text) end opens is

-- ---- behind the opening

moments_of : (moments : Option (ℕ → Moment)) (stream : Option (ℕ → ℕ)) (draws : Draws)
    → told_draws moments stream ≡ Some draws → moments ≡ Some draws.moments
moments_of None stream draws is = absurd cc
moments_of (Some m) None draws is = absurd cc
moments_of (Some m) (Some s) draws is = ap (λ (d : Draws). Some d.moments) (same_Some _ _ is)

-- the load of what was told
pub comes_to : (o : Opened) (left : Option (List ℕ)) (moments : Option (ℕ → Moment)) (stream : Option (ℕ → ℕ))
    (draws : Draws) (text : List ℕ) (end : LoadEnd)
    → left ≡ Some text → told_draws moments stream ≡ Some draws
    → LoadsTo (place_of o) o.kept.control.stash (moment_in draws) (judged text) end
    → ComesTo o left moments (moment_in draws) end
comes_to o left moments stream draws text end left_is is to = record {
  text = text;
  text_is = left_is;
  told = draws.moments;
  moments_are = moments_of moments stream draws is;
  clock_is = refl;
  end_is = to;
}

-- what `load_input` says of a database that is open, for one input and one clock
pub record LoadSays (o new : Opened) (left after : Option (List ℕ)) (moments later : Option (ℕ → Moment))
    (old now : View) (taken out : Option (List ℕ)) (r : Result Bool SessionHalt) : Type 0 where
  pub ended : (clock : Moment) (end : LoadEnd) → ComesTo o left moments clock end
      → IfOk r (LoadsAs end clock o new taken out)
  pub stopped : (clock : Moment) (end : LoadEnd) → ComesTo o left moments clock end
      → OnErr r (IsStopped (load_stage end clock (place_of o) taken) out now)
  pub rests : IfErr r (λ halt. SparesOutput halt → (out ≡ taken) × RecoversTo (place_of o) now)
  pub moments_are : (clock : Moment) (end : LoadEnd) → ComesTo o left moments clock end
      → LeavesOnly old now (LeavesPart (place_of o) (places_loaded end clock (place_of o)))
  pub crash : LeavesOnly old now (LeavesSome (place_of o))
  pub stands : OnOk r (RecoversTo (place_of new) now)
  pub gone : OnOk r (later ≡ option_map later_moments moments)
  pub read : OnOk r (IsReadWhole left after)

draws_behind : (moments later : Option (ℕ → Moment)) (stream : Option (ℕ → ℕ)) (draws : Draws)
    → told_draws moments stream ≡ Some draws → later ≡ option_map later_moments moments
    → told_draws later stream ≡ Some (behind_moment draws)
draws_behind moments later stream draws is gone =
    ap (λ (m : Option (ℕ → Moment)). told_draws m stream) gone ∙ behind_clock moments stream ∙ ap (behind AMoment) is

-- where it then is
holds_place : (end : LoadEnd) (clock : Moment) (o new : Opened) → Holds end clock o new
    → place_of new ≡ place_loaded end clock (place_of o)
holds_place (Loaded dump) clock o new has = place_is o new dump.rows clock has
holds_place (NotLoaded why) clock o new same = ap place_of same

load_ends : (o new : Opened) (end : LoadEnd) (draws : Draws) (old now : View) (taken out : Option (List ℕ))
    (told_later : Option Draws) (r : Result Bool SessionHalt)
    → IfOk r (LoadsAs end (moment_in draws) o new taken out) → OnOk r (RecoversTo (place_of new) now)
    → OnOk r (told_later ≡ Some (behind_moment draws))
    → (run : RunEnd) → load_end (Some end) (Some draws) (place_of o) taken ≡ Some run
    → IfOk r (λ refused. RunEndsAs out refused told_later old now run)
load_ends o new end draws old now taken out told_later (Err halt) ends stands gone run is = tt
load_ends o new end draws old now taken out told_later (Ok refused) ends stands gone run is =
    subst (λ (x : RunEnd). RunEndsAs out refused told_later old now x) (same_Some _ _ is) (record {
      out_is = ends.out_is;
      refused_is = ends.refused_is;
      stands = subst (λ (p : Place). RecoversTo p now) (holds_place end (moment_in draws) o new ends.holds) stands;
      draws_are = gone;
    })

any_err : {T E : Type 0} (r : Result T E) → OnErr r ⊤
any_err (Ok x) = tt
any_err (Err e) = tt

pub load_runs : (o new : Opened) (left after : Option (List ℕ)) (moments later : Option (ℕ → Moment))
    (stream : Option (ℕ → ℕ)) (draws : Draws) (what : Option LoadEnd) (old now : View)
    (taken out : Option (List ℕ)) (r : Result Bool SessionHalt)
    → told_draws moments stream ≡ Some draws → LoadsAt left (place_of o) o.kept.control.stash (moment_in draws) what
    → LoadSays o new left after moments later old now taken out r
    → HasLoad what (Some draws) (place_of o) old now (told taken left (told_draws moments stream))
    (told out after (told_draws later stream)) r
load_runs o new left after moments later stream draws None old now taken out r is at says = record {
  ended = λ end e. absurd cc;
  stopped = any_err r;
  rests = says.rests;
  moments = says.crash;
  read = says.read;
}
load_runs o new None after moments later stream draws (Some end) old now taken out r is at says = absurd cc
load_runs o new (Some text) after moments later stream draws (Some end) old now taken out r is at says =
    let comes = comes_to o (Some text) moments stream draws text end refl is at in
    record {
      ended = load_ends o new end draws old now taken out (told_draws later stream) r
          (says.ended (moment_in draws) end comes) says.stands
          (on_ok_weaker r (draws_behind moments later stream draws is) says.gone);
      stopped = says.stopped (moment_in draws) end comes;
      rests = says.rests;
      moments = says.moments_are (moment_in draws) end comes;
      read = says.read;
    }

-- ---- there is an end of it

pub has_loaded : (o : Opened) (left : Option (List ℕ)) (moments : Option (ℕ → Moment)) (stream : Option (ℕ → ℕ))
    (draws : Draws) (r : Result Bool SessionHalt) → told_draws moments stream ≡ Some draws
    → ((text : List ℕ) (f : ℕ → Moment) → left ≡ Some text → moments ≡ Some f → OnOk r (HasComeTo o left moments))
    → OnOk r (HasLoaded left (place_of o) o.kept.control.stash (moment_in draws))
has_loaded o None moments stream draws r is comes = any_ok r _ (record { what = None; is = refl })
has_loaded o (Some text) moments stream draws r is comes =
    let told_moments = moments_of moments stream draws is in
    on_ok_weaker r (λ (h : HasComeTo o (Some text) moments). by_end o text moments draws told_moments h)
    (comes text draws.moments refl told_moments)
  where
    by_end : (o : Opened) (text : List ℕ) (moments : Option (ℕ → Moment)) (draws : Draws) → moments ≡ Some draws.moments
        → HasComeTo o (Some text) moments
        → HasLoaded (Some text) (place_of o) o.kept.control.stash (moment_in draws)
    by_end o text moments draws is h =
        let same_text : h.is.text ≡ text = same_Some _ _ (sym h.is.text_is) in
        let same_told : h.is.told ≡ draws.moments = same_Some _ _ (sym h.is.moments_are ∙ is) in
        let at : h.clock ≡ moment_in draws = h.is.clock_is ∙ ap (λ (f : ℕ → Moment). f 0) same_told in
        record {
          what = Some h.end;
          is = subst (λ (m : Moment). LoadsTo (place_of o) o.kept.control.stash m (judged text) h.end) at
              (subst (λ (x : List ℕ). LoadsTo (place_of o) o.kept.control.stash h.clock (judged x) h.end)
              same_text h.is.end_is);
        }

-- ---- the ways that an opening goes

last_part : (begin : Place) (made : List Place) (c : Files) → recovers c ≡ Ok (end_of begin made)
    → LeavesPart begin made c
unfolding LeavesPart
last_part begin [] c is = is
last_part begin (q ∷ made) c is = inr (last_part q made c is)

pub part_of_opening : (old : View) (begin : Place) (made : List Place) (p : Place) (now : View) → p ≡ end_of begin made
    → RecoversTo p now → LeavesAll (OpensPart old begin made) now
part_of_opening old begin made p now is stands = record {
  each = λ c image. inr (last_part begin made c (subst (λ (q : Place). recovers c ≡ Ok q) is (stands c image)));
}

-- an end at a place does not speak of the disk of before
stands_over : (what : Option LoadEnd) (draws : Option Draws) (p : Place) (taken : Option (List ℕ)) (end : RunEnd)
    (mid old now : View) → load_end what draws p taken ≡ Some end
    → Stands end.disk mid now → Stands end.disk old now
stands_over None draws p taken end mid old now e st = absurd cc
stands_over (Some x) None p taken end mid old now e st = absurd cc
stands_over (Some x) (Some d) p taken end mid old now e st =
    subst (λ (r : RunEnd). Stands r.disk mid now → Stands r.disk old now) (same_Some _ _ e) (λ s. s) st

over_ok : (what : Option LoadEnd) (given : Option Draws) (p : Place) (taken : Option (List ℕ)) (end : RunEnd)
    (out : Option (List ℕ)) (draws : Option Draws) (mid old now : View) (r : Result Bool SessionHalt)
    → load_end what given p taken ≡ Some end → IfOk r (λ refused. RunEndsAs out refused draws mid now end)
    → IfOk r (λ refused. RunEndsAs out refused draws old now end)
over_ok what given p taken end out draws mid old now (Ok refused) e ends = record {
  out_is = ends.out_is;
  refused_is = ends.refused_is;
  stands = stands_over what given p taken end mid old now e ends.stands;
  draws_are = ends.draws_are;
}
over_ok what given p taken end out draws mid old now (Err halt) e ends = tt

pub rests_part : (old : View) (begin : Place) (made : List Place) (p : Place) (now : View) (taken out : Option (List ℕ))
    (r : Result Bool SessionHalt) → p ≡ end_of begin made
    → IfErr r (λ halt. SparesOutput halt → (out ≡ taken) × RecoversTo p now)
    → IfErr r (λ halt. SparesOutput halt → (out ≡ taken) × LeavesAll (OpensPart old begin made) now)
rests_part old begin made p now taken out (Ok refused) is rests = tt
rests_part old begin made p now taken out (Err halt) is rests =
    λ spares. let both = rests spares in (both.0, part_of_opening old begin made p now is both.1)

-- it opened, and the input was loaded
pub loaded_run : {old mid now : View} {before after : Told} {result : Result Bool SessionHalt} (begin : Place)
    (made : List Place) (at : Seen) (what : Option LoadEnd)
    → at.place ≡ end_of begin made → LeavesOnly old mid (OpensPart old begin made)
    → HasLoad what (behind AMoment before.draws) at.place mid now before after result
    → HasRun (Loads begin made at what) old now before after result
loaded_run {old} {mid} {now} {before} {after} {result} begin made at what is opening load = record {
  ended = λ end e. over_ok what (behind AMoment before.draws) at.place before.taken end after.taken after.draws mid old
      now result e (load.ended end e);
  stopped = on_err_weaker result (λ stops. inl stops) load.stopped;
  rests = rests_part old begin made at.place now before.taken after.taken result is load.rests;
  moments = then_on (weaken opening (λ c part. inl part)) load.moments (λ c leaves. inr leaves);
  read = λ reads. load.read;
}

-- a log begun anew keeps the stash
resized_stash : (size : Option ℕ) (clock : Moment) (p : Place)
    → (end_of p (places (resized size clock p))).stash ≡ p.stash
resized_stash size clock p = by (nat_eq p.format 2 && nat_eq (size_or size p) p.size)
  where
    by : (same : Bool)
        → (end_of p (places (if same then []
        else stage (log_anew (reset_point clock p) (size_or size p) p.block p) Anew ∷ []))).stash ≡ p.stash
    by true = refl
    by false = refl

-- the stash of what is open opens its master keys
record OpensStash (p : Place) : Type 0 where
  entry : Option Princ
  masters : List Master
  is : StashOpens p.stash entry masters

opens_stash : (found : Result Found Refusal) (clock : Moment) (o : Opened) → OpensTo found None clock o
    → OpensStash (place_of o)
opens_stash found clock o to =
    let p = place_found to.found_is in
    record {
      entry = own_record p.realm p.rows;
      masters = o.masters;
      is = subst (λ (stash : Option (List ℕ)). StashOpens stash (own_record p.realm p.rows) o.masters)
          (sym (resized_stash None clock p) ∙ ap (λ (q : Place). q.stash) (sym to.place_is)) to.opens.opened;
    }

-- it opened
pub load_opened_run : {found : Result Found Refusal} {old mid now : View} {before after middle : Told}
    {result : Result Bool SessionHalt} (clock : Moment) (o : Opening) (primary : Opened)
    → ((d : Draws) → before.draws ≡ Some d → clock ≡ moment_in d)
    → loads_for before.left found before.draws o → Answers found None clock (Ok primary) old mid
    → middle ≡ told before.taken before.left (behind AMoment before.draws)
    → ((draws : Draws) (what : Option LoadEnd) → behind AMoment before.draws ≡ Some draws
    → LoadsAt before.left (place_of primary) primary.kept.control.stash (moment_in draws) what
    → HasLoad what (Some draws) (place_of primary) mid now middle after result)
    → HasRun o old now before after result
load_opened_run clock (Refuses why drawn) primary gave loads answers is load =
    absurd (answers.only_refused why (loads.1 clock))
load_opened_run {found} {old} {mid} {now} {before} {after} {middle} {result} clock
    (Loads begin made at what) primary gave loads answers is load =
    let opens = loads.opens in
    let at_clock : clock ≡ moment_in opens.told = gave opens.told opens.draws_are in
    let place : place_of primary ≡ at.place = opened_place clock primary opens at_clock answers.opens in
    let draws : behind AMoment before.draws ≡ Some (behind_moment opens.told) = ap (behind AMoment) opens.draws_are in
    let stash = opens_stash found clock primary answers.opens in
    let comes : LoadsAt before.left (place_of primary) opens.files.control.stash
    (moment_in (behind_moment opens.told)) what =
    subst (λ (p : Place). LoadsAt before.left p opens.files.control.stash (moment_in (behind_moment opens.told)) what)
    (sym place) loads.comes in
    let here = load (behind_moment opens.told) what draws
    (at_anywhere before.left (place_of primary) opens.files.control.stash primary.kept.control.stash stash.entry
    stash.masters (moment_in (behind_moment opens.told)) what stash.is comes) in
    let there = subst (λ (t : Told).
    HasLoad what (Some (behind_moment opens.told)) (place_of primary) mid now t after result) is here in
    let placed = subst (λ (p : Place). HasLoad what (Some (behind_moment opens.told)) p mid now
    (told before.taken before.left (behind AMoment before.draws)) after result) place there in
    let drawn = subst (λ (d : Option Draws). HasLoad what d at.place mid now
    (told before.taken before.left (behind AMoment before.draws)) after result) (sym draws) placed in
    loaded_run begin made at what opens.place_is (opening_part clock opens at_clock answers.moments)
    (record {
      ended = drawn.ended;
      stopped = drawn.stopped;
      rests = drawn.rests;
      moments = drawn.moments;
      read = drawn.read;
    })
load_opened_run clock (Opens begin made at its) primary gave loads answers is load = absurd loads
load_opened_run clock (Adds begin made at reads what) primary gave loads answers is load = absurd loads
load_opened_run clock (AddsNew begin made at reads what) primary gave loads answers is load = absurd loads
load_opened_run clock (Filters what) primary gave loads answers is load = absurd loads
load_opened_run clock (Tells text drawn) primary gave loads answers is load = absurd loads
load_opened_run clock (Makes spec) primary gave loads answers is load = absurd loads
load_opened_run clock Ends primary gave loads answers is load = absurd loads

-- it was refused, and that was written
pub load_refused : {found : Result Found Refusal} {old now : View} {before after : Told} (clock : Moment) (o : Opening)
    (refusal : Refusal)
    → ((d : Draws) → before.draws ≡ Some d → clock ≡ moment_in d)
    → loads_for before.left found before.draws o → Answers found None clock (Err (stop.Refused refusal)) old now
    → after.taken ≡ after_told before.taken (refusal_line refusal) → after.draws ≡ behind AMoment before.draws
    → HasRun o old now before after (Ok true)
load_refused {old = old} {now = now} {before = before} {after = after} clock
    (Refuses why drawn) refusal gave loads answers said_it draws =
    let cause : OpeningRefused _ _ clock why = loads.1 clock in
    let same : refusal ≡ why = answers.only_refused why cause in
    refused_run why drawn
    (said_it ∙ ap (λ (r : Refusal). after_told before.taken (refusal_line r)) same)
    (draws ∙ ap (λ (d : Drawn). behind d before.draws) (sym loads.0))
    (subst (λ (d : Drawn). Stays d old now) (sym loads.0)
    (record { stays = answers.stays refusal refl; leaves = answers.refusals why cause }))
load_refused clock (Loads begin made at what) refusal gave loads answers said_it draws =
    absurd (open_having clock (Err (stop.Refused refusal)) loads.opens
    (gave loads.opens.told loads.opens.draws_are) answers)
load_refused clock (Opens begin made at its) refusal gave loads answers said_it draws = absurd loads
load_refused clock (Adds begin made at reads what) refusal gave loads answers said_it draws = absurd loads
load_refused clock (AddsNew begin made at reads what) refusal gave loads answers said_it draws = absurd loads
load_refused clock (Filters what) refusal gave loads answers said_it draws = absurd loads
load_refused clock (Tells text drawn) refusal gave loads answers said_it draws = absurd loads
load_refused clock (Makes spec) refusal gave loads answers said_it draws = absurd loads
load_refused clock Ends refusal gave loads answers said_it draws = absurd loads

-- of which not all was written
pub load_cut : {found : Result Found Refusal} {old now : View} {before after : Told} (clock : Moment) (o : Opening)
    (refusal : Refusal) (halt : SessionHalt)
    → ((d : Draws) → before.draws ≡ Some d → clock ≡ moment_in d)
    → loads_for before.left found before.draws o → Answers found None clock (Err (stop.Refused refusal)) old now
    → SaidPart (refusal_line refusal) before.taken after.taken
    → (SparesOutput halt → after.taken ≡ before.taken)
    → HasRun o old now before after (Err halt)
load_cut {old = old} {now = now} {before = before} {after = after} clock
    (Refuses why drawn) refusal halt gave loads answers part nothing =
    let cause : OpeningRefused _ _ clock why = loads.1 clock in
    let same : refusal ≡ why = answers.only_refused why cause in
    cut_refusal_run why drawn halt
    (subst (λ (r : Refusal). SaidPart (refusal_line r) before.taken after.taken) same part)
    (subst (λ (d : Drawn). IsSame d old now) (sym loads.0) (answers.refusals why cause))
    nothing
load_cut clock (Loads begin made at what) refusal halt gave loads answers part nothing =
    absurd (open_having clock (Err (stop.Refused refusal)) loads.opens
    (gave loads.opens.told loads.opens.draws_are) answers)
load_cut clock (Opens begin made at its) refusal halt gave loads answers part nothing = absurd loads
load_cut clock (Adds begin made at reads what) refusal halt gave loads answers part nothing = absurd loads
load_cut clock (AddsNew begin made at reads what) refusal halt gave loads answers part nothing = absurd loads
load_cut clock (Filters what) refusal halt gave loads answers part nothing = absurd loads
load_cut clock (Tells text drawn) refusal halt gave loads answers part nothing = absurd loads
load_cut clock (Makes spec) refusal halt gave loads answers part nothing = absurd loads
load_cut clock Ends refusal halt gave loads answers part nothing = absurd loads

-- it was stopped
pub load_halted : {found : Result Found Refusal} {old now : View} {before after : Told} (clock : Moment) (o : Opening)
    (answer : Result Opened Stop) (halt : SessionHalt)
    → ((d : Draws) → before.draws ≡ Some d → clock ≡ moment_in d)
    → loads_for before.left found before.draws o → Answers found None clock answer old now
    → after.taken ≡ before.taken
    → HasRun o old now before after (Err halt)
load_halted {old = old} {now = now} {before = before} {after = after} clock
    (Refuses why drawn) answer halt gave loads answers nothing =
    let cause : OpeningRefused _ _ clock why = loads.1 clock in
    cut_refusal_run why drawn halt (said_nothing (refusal_line why) before.taken after.taken nothing)
    (subst (λ (d : Drawn). IsSame d old now) (sym loads.0) (answers.refusals why cause))
    (λ _. nothing)
load_halted clock (Loads begin made at what) answer halt gave loads answers nothing =
    let run = opening_part clock loads.opens (gave loads.opens.told loads.opens.draws_are) answers.moments in
    record {
      ended = λ end e. tt;
      stopped = inr (nothing, all_at_end run);
      rests = λ spares. (nothing, all_at_end run);
      moments = weaken run (λ c part. inl part);
      read = λ reads. tt;
    }
load_halted clock (Opens begin made at its) answer halt gave loads answers nothing = absurd loads
load_halted clock (Adds begin made at reads what) answer halt gave loads answers nothing = absurd loads
load_halted clock (AddsNew begin made at reads what) answer halt gave loads answers nothing = absurd loads
load_halted clock (Filters what) answer halt gave loads answers nothing = absurd loads
load_halted clock (Tells text drawn) answer halt gave loads answers nothing = absurd loads
load_halted clock (Makes spec) answer halt gave loads answers nothing = absurd loads
load_halted clock Ends answer halt gave loads answers nothing = absurd loads

-- what opens for the input is read
pub load_reads : (left : Option (List ℕ)) {found : Result Found Refusal} {old mid : View} (draws : Option Draws)
    (clock : Moment) (o : Opening) (primary : Opened)
    → loads_for left found draws o → Answers found None clock (Ok primary) old mid → ReadsInput o
load_reads left draws clock (Refuses why drawn) primary loads answers =
    absurd (answers.only_refused why (loads.1 clock))
load_reads left draws clock (Loads begin made at what) primary loads answers = tt
load_reads left draws clock (Opens begin made at its) primary loads answers = absurd loads
load_reads left draws clock (Adds begin made at reads what) primary loads answers = absurd loads
load_reads left draws clock (AddsNew begin made at reads what) primary loads answers = absurd loads
load_reads left draws clock (Filters what) primary loads answers = absurd loads
load_reads left draws clock (Tells text drawn) primary loads answers = absurd loads
load_reads left draws clock (Makes spec) primary loads answers = absurd loads
load_reads left draws clock Ends primary loads answers = absurd loads

-- ---- there is an opening

pub refused_loading : (left : Option (List ℕ)) (found : Result Found Refusal) (draws : Option Draws) (clock : Moment)
    (why : Refusal) → OpeningRefused found None clock why → HasLoading left found draws
refused_loading left found draws clock why refused =
    record { opening = Refuses why AMoment; is = (refl, λ other. refused_always found None clock other why refused) }

pub good_loading : (left : Option (List ℕ)) (found : Result Found Refusal) (draws : Draws) (clock : Moment) (o : Opened)
    → clock ≡ moment_in draws → OpensTo found None clock o → IsOpened o
    → HasLoaded left (place_of o) o.kept.control.stash (moment_in (behind_moment draws))
    → HasLoading left found (Some draws)
unfolding is_open
good_loading left found draws clock o is to opened loaded =
    let stash = opens_stash found clock o to in
    record {
      opening = Loads (place_found to.found_is) (places (resized None (moment_in draws) (place_found to.found_is)))
          (seen (place_of o) opened.state) loaded.what;
      is = record {
        opens = is_open None found draws clock o is to opened;
        comes = at_anywhere left (place_of o) o.kept.control.stash to.found_is.control.stash stash.entry stash.masters
            (moment_in (behind_moment draws)) loaded.what stash.is loaded.is;
      };
    }

-- ---- by the words

pub for_load : (left : Option (List ℕ)) (files : Files) (draws : Option Draws) (o : Opening)
    (found : Result Words Refusal) → found ≡ Ok words.Load → IsOpening found left files draws o
    → loads_for left (found_in files) draws o
unfolding IsOpening
for_load left files draws o found is opening =
    subst (λ (w : Result Words Refusal). IsOpening w left files draws o) is opening

pub load_has : {left : Option (List ℕ)} (files : Files) (draws : Option Draws) (found : Result Words Refusal)
    → found ≡ Ok words.Load → HasLoading left (found_in files) draws → HasOpening found left files draws
unfolding IsOpening
load_has {left} files draws found is has = subst (λ (w : Result Words Refusal). HasOpening w left files draws) (sym is)
    (record { opening = has.opening; is = has.is })

-- a run that rested changed nothing on the disk
pub rests_on : {D : Type 0} (view : D → View) (old now : D) (p : Place) (taken out : Option (List ℕ))
    (r : Result Bool SessionHalt) → RecoversTo p (view old)
    → IfErr r (λ halt. SparesOutput halt → (out ≡ taken) × (now ≡ old))
    → IfErr r (λ halt. SparesOutput halt → (out ≡ taken) × RecoversTo p (view now))
rests_on view old now p taken out (Ok refused) stands rests = tt
rests_on view old now p taken out (Err halt) stands rests =
    λ spares. let both = rests spares in (both.0, subst (λ d. RecoversTo p (view d)) (sym both.1) stands)
