-- What comes of a run that makes new keys and adds them to a keytab.
use Rattle.std.proofs.Common.{◌≡◌, ◌≢◌, ◌⊎◌, ◌∙◌, ℕ, List, [], refl, ap, sym}
use Rattle.std.proofs.Common.{subst, inl, inr, Bool, true, false, IsTrue}
use Rattle.std.specs.Prelude.{Option, Some, None, Result, Ok, Err, IfErr, IfOk, OnErr, OnOk, ⊤}
use Rattle.std.proofs.lemmas.Option.{same_Some}
use Rattle.std.proofs.lemmas.Result.{on_err_weaker}
use Rattle.iprop_truths.specs.Parts.{end_of}
use Rattle.kadm_commands.specs.Commands.{AreEtypes}
use Rattle.kadm_keytabs.specs.Renewals.{EndsRenewed, IsAsked, MayStop, Renewal, RenewalLeaves, RenewalStops}
use Rattle.kadm_keytabs.specs.Renewals.{Renews, Wanted, WasDone, ask_for, no_renewal, renewal_of, wanted}
use Rattle.kadm_keytabs.specs.Renewing.{IsOfInput}
use Rattle.kadm_loading.specs.Halts.{SparesOutput}
use Rattle.kadm_session.proofs.Leaving.{leaves_first}
use Rattle.kadm_session.specs.Steps.{local_client}
use Rattle.kadm_top.proofs.KeytabRuns.{no_keytab, same_bad, same_entries}
use Rattle.kadm_top.proofs.Loads.{rests_part}
use Rattle.kadm_top.proofs.Openings.{Answers as Opened_so, is_open, open_having, opened_place}
use Rattle.kadm_top.proofs.Openings.{opened_state, opening_part, refused_always}
use Rattle.kadm_top.proofs.Running.{all_at_end, cut_refusal_run, refused_run, said_nothing}
use Rattle.kadm_top.specs.Openings.{Adds, AddsNew, AMoment, Drawn, Ends, Filters, HasAddingNew, HasRenewal}
use Rattle.kadm_top.specs.Openings.{HasRenewalBy, Loads, Makes, Opening, Opens, ReadsInput, Refuses, Renewed}
use Rattle.kadm_top.specs.Openings.{Renewing, RenewsBy, RenewsTold, Tells, Untold, adds_new_for, behind}
use Rattle.kadm_top.specs.Run.{HasRenewed, HasRun, IsSame, OpensPart, RenewedLeaves, RenewedStops}
use Rattle.kadm_top.specs.Run.{RunEnd, RunEndsAs, Stays, Told, refusal_line, renewed_end}
use Rattle.kdb_base.specs.Moment.{Moment}
use Rattle.kdb_base.specs.declared.keys.Etype.{Etype}
use Rattle.kdb_base.specs.declared.outcomes.Refusal.{Refusal}
use Rattle.kdb_base.specs.declared.outcomes.Refusal.TheVariants.{BadKeytab, BadName}
use Rattle.kdb_base.specs.declared.outcomes.Stop.{Stop}
use Rattle.kdb_base.specs.declared.outcomes.Stop.TheVariants as stop
use Rattle.kdb_disk.proofs.Runs.{started, then_on, weaken}
use Rattle.kdb_disk.specs.Files.{Files}
use Rattle.kdb_disk.specs.Moments.{LeavesOnly}
use Rattle.kdb_disk.specs.View.{View}
use Rattle.kdb_histories.specs.Calls.{resized}
use Rattle.kdb_histories.specs.Seen.{Seen, seen}
use Rattle.kdb_histories.specs.Stages.{ShowsAt, places}
use Rattle.kdb_places.specs.Places.{Place}
use Rattle.kdb_plain.specs.declared.states.State.{State}
use Rattle.kdb_ports.specs.Parts.{SaidPart}
use Rattle.kdb_ports.specs.Told.{after_told}
use Rattle.keytab_words.specs.Words.{AreTypes}
use Rattle.primary_core.specs.Opened.{HasState, IsOpened, Opened, place_of}
use Rattle.primary_core.specs.Opening.{OpeningRefused, OpensTo, place_found}
use Rattle.princ_name.specs.Names.{NameParts}
use Rattle.princ_name.specs.Readings.{own_name_in}
use Rattle.session_base.specs.Draws.{Draws, behind_moment, block_in, moment_in}
use Rattle.session_base.specs.Stages.{IsStopped, StandsPart, StopsAt}
use Rattle.session_base.specs.Wholes.{IsReadWhole}
use Rattle.session_base.specs.declared.halts.SessionHalt.{SessionHalt}
use Rattle.session_base.specs.declared.halts.SessionHalt.TheVariants as session
use Rattle.store_files.specs.Found.{Found, recovers}
use Rattle.store_files.specs.Recovery.{LeavesPart, RecoversTo}

-- ---- an input has one run

one_renewal : (w : Wanted) (draws : Draws) (at : Seen) (text : List ℕ) (a b : Renewal) → Renews w draws at text a
    → Renews w draws at text b → a ≡ b
one_renewal w draws at text a b (inl x) (inl y) =
    x.is ∙ ap (renewal_of w draws at) (same_entries text x.entries y.entries x.keytab.holds y.keytab.holds) ∙ sym y.is
one_renewal w draws at text a b (inl x) (inr y) = absurd (no_keytab text x.entries y.place x.keytab y.bad)
one_renewal w draws at text a b (inr x) (inl y) = absurd (no_keytab text y.entries x.place y.keytab x.bad)
one_renewal w draws at text a b (inr x) (inr y) =
    x.is ∙ ap (λ (p : ℕ). no_renewal (BadKeytab p) draws at) (same_bad text x.place y.place x.bad y.bad) ∙ sym y.is

-- ---- what was made and written

abbrev pub StandsAt : Place → Files → Type 0
StandsAt p c = recovers c ≡ Ok p

-- no file was touched, or something holds
pub untouched_or : {D : Type 0} (view : D → View) (old new : D) (p : Place) (P : Type 0) → RecoversTo p (view old)
    → (new ≡ old) ⊎ P → LeavesOnly (view old) (view new) (StandsAt p) ⊎ P
untouched_or {D} view old new p P recovered (inl same) =
    inl (subst (λ (x : D). LeavesOnly (view old) (view x) (StandsAt p)) (sym same)
    (started (view old) (StandsAt p) recovered))
untouched_or view old new p P recovered (inr holds) = inr holds

-- what a run over an input says of what it made and wrote, where the clock and the random bytes are told
pub record Says (w : Wanted) (left : Option (List ℕ)) (draws : Draws) (at : Seen) (old now : View)
    (taken out : Option (List ℕ)) (o : Opened) (later : Option Draws) (r : Result Bool SessionHalt) : Type 0 where
  pub ended : (text : List ℕ) → left ≡ Some text
      → IfOk r (λ refused. EndsRenewed (Renews w draws at text) refused taken out o later)
  pub stopped : OnErr r (IsStopped (RenewalStops w taken left (Some draws) at) out now)
  pub moments : LeavesOnly old now (RenewalLeaves w left (Some draws) at)
  pub rests : IfErr r (λ halt. SparesOutput halt → (out ≡ taken) × RecoversTo at.place now)
  pub stands : OnOk r (RecoversTo (place_of o) now)
  pub done : LeavesOnly old now (StandsAt at.place) ⊎ IsAsked (ask_for w (moment_in draws) (block_in draws)) at

any_err : {T E : Type 0} (r : Result T E) → OnErr r ⊤
any_err (Ok x) = tt
any_err (Err e) = tt

ended_as : (w : Wanted) (draws : Draws) (at : Seen) (text : List ℕ) (old now : View) (taken out : Option (List ℕ))
    (o : Opened) (later : Option Draws) (r : Result Bool SessionHalt) (renewal : Renewal)
    → Renews w draws at text renewal
    → IfOk r (λ refused. EndsRenewed (Renews w draws at text) refused taken out o later)
    → OnOk r (RecoversTo (place_of o) now)
    → (end : RunEnd) → renewed_end (Renewed renewal) taken ≡ Some end
    → IfOk r (λ refused. RunEndsAs out refused later old now end)
ended_as w draws at text old now taken out o later (Err halt) renewal is ends stands end e = tt
ended_as w draws at text old now taken out o later (Ok refused) renewal is ends stands end e =
    let same : ends.renewal ≡ renewal = one_renewal w draws at text ends.renewal renewal ends.is is in
    subst (λ (x : RunEnd). RunEndsAs out refused later old now x) (same_Some _ _ e) (record {
      out_is = ends.taken_is ∙ ap (λ (x : Renewal). after_told taken x.answer.text) same;
      refused_is = ends.refused_is ∙ ap (λ (x : Renewal). x.answer.refused) same;
      stands = record {
        place = subst (λ (p : Place). RecoversTo p now)
            (ends.stands.place_is ∙ ap (λ (x : Renewal). x.later.place) same) stands;
        shows = subst (λ (x : Renewal). ShowsAt x.later.place x.later.state) same
            (subst (λ (p : Place). ShowsAt p ends.renewal.later.state) ends.stands.place_is ends.stands.shows.shows);
      };
      draws_are = ends.draws_are ∙ ap (λ (x : Renewal). Some x.draws) same;
    })

only_first : (first p : Place) (others : List Place) (c : Files) → first ≡ p → others ≡ [] → LeavesPart first others c
    → recovers c ≡ Ok p
unfolding LeavesPart
only_first first p others c is none part =
    subst (λ (q : Place). LeavesPart q [] c) is (subst (λ (ps : List Place). LeavesPart first ps c) none part)

stops_as : (w : Wanted) (draws : Draws) (at : Seen) (text : List ℕ) (now : View) (taken out : Option (List ℕ))
    (renewal : Renewal)
    → Renews w draws at text renewal → IsStopped (RenewalStops w taken (Some text) (Some draws) at) out now
    → RenewedStops (Renewed renewal) at.place taken out now
unfolding RenewalStops
stops_as w draws at text now taken out renewal is s = by s.first s.others s.may s.stands
  where
    by : (first : Place) (others : List Place) → MayStop (Renews w draws at text) taken at.place out first others
        → StandsPart first others now
        → IsStopped (StopsAt taken renewal.answer.text at.place renewal.made renewal.later.place) out now
    by first others (inl none) stands = record {
      first = at.place;
      others = renewal.made;
      may = inl (none.0, refl, refl);
      stands = record {
        each = λ c image. leaves_first at.place renewal.made c
            (only_first first at.place others c none.1 none.2 (stands.each c image));
      };
    }
    by first others (inr m) stands = record {
      first = first;
      others = others;
      may = subst (λ (x : Renewal). StopsAt taken x.answer.text at.place x.made x.later.place out first others)
          (one_renewal w draws at text m.renewal renewal m.is is) m.stops;
      stands = stands;
    }

was_done : (w : Wanted) (draws : Draws) (at : Seen) (text : List ℕ) (renewal : Renewal) → Renews w draws at text renewal
    → IsAsked (ask_for w (moment_in draws) (block_in draws)) at → WasDone renewal.asked renewal.from
was_done w draws at text renewal (inl k) done = subst (λ (x : Renewal). WasDone x.asked x.from) (sym k.is) done
was_done w draws at text renewal (inr n) done = subst (λ (x : Renewal). WasDone x.asked x.from) (sym n.is) tt

leaves_as : (w : Wanted) (draws : Draws) (at : Seen) (text : List ℕ) (renewal : Renewal) (c : Files)
    → Renews w draws at text renewal → WasDone renewal.asked renewal.from
    → RenewalLeaves w (Some text) (Some draws) at c → RenewedLeaves (Renewed renewal) at c
unfolding RenewalLeaves
leaves_as w draws at text renewal c is done (inl same) = inl same
leaves_as w draws at text renewal c is done (inr m) =
    inr (
      done,
      subst (λ (x : Renewal). LeavesPart at.place x.made c)
          (one_renewal w draws at text m.renewal renewal m.is is) m.leaves,
    )

moments_as : (w : Wanted) (draws : Draws) (at : Seen) (text : List ℕ) (old now : View) (renewal : Renewal)
    → Renews w draws at text renewal
    → LeavesOnly old now (RenewalLeaves w (Some text) (Some draws) at)
    → LeavesOnly old now (StandsAt at.place) ⊎ IsAsked (ask_for w (moment_in draws) (block_in draws)) at
    → LeavesOnly old now (RenewedLeaves (Renewed renewal) at)
moments_as w draws at text old now renewal is run (inl same) = weaken same (λ c stands. inl stands)
moments_as w draws at text old now renewal is run (inr done) =
    weaken run (λ c leaves. leaves_as w draws at text renewal c is (was_done w draws at text renewal is done) leaves)

same_wanted : (a b : Wanted) → Untold a ≡ Untold b → a ≡ b
same_wanted a b e = cc

untold_as : (w : Wanted) (left : Option (List ℕ)) (draws : Draws) (at : Seen) (old now : View) (other : Wanted)
    → RenewsTold w left draws at (Untold other)
    → LeavesOnly old now (RenewalLeaves w left (Some draws) at) → LeavesOnly old now (RenewedLeaves (Untold other) at)
unfolding RenewalLeaves
untold_as w None draws at old now other is run =
    subst (λ (x : Wanted). LeavesOnly old now (RenewedLeaves (Untold x) at)) (sym (same_wanted other w is))
    (weaken run (λ c leaves. leaves))
untold_as w (Some text) draws at old now other is run = absurd is

pub renewed : (w : Wanted) (left : Option (List ℕ)) (draws : Draws) (at : Seen) (old now : View)
    (taken out : Option (List ℕ)) (o : Opened) (later : Option Draws) (r : Result Bool SessionHalt) (what : Renewing)
    → Says w left draws at old now taken out o later r → RenewsTold w left draws at what
    → HasRenewed what at old now taken out later r
renewed w left draws at old now taken out o later r (Untold other) says is = record {
  ended = λ end e. absurd cc;
  stopped = any_err r;
  rests = says.rests;
  moments = untold_as w left draws at old now other is says.moments;
}
renewed w None draws at old now taken out o later r (Renewed renewal) says is = absurd cc
renewed w (Some text) draws at old now taken out o later r (Renewed renewal) says is = record {
  ended = ended_as w draws at text old now taken out o later r renewal is (says.ended text refl) says.stands;
  stopped = on_err_weaker r (stops_as w draws at text now taken out renewal is) says.stopped;
  rests = says.rests;
  moments = moments_as w draws at text old now renewal is says.moments says.done;
}

-- there is such a run
pub has_renewal : (w : Wanted) (left : Option (List ℕ)) (draws : Draws) (at : Seen) (taken out : Option (List ℕ))
    (o : Opened) (later : Option Draws) (r : Result Bool SessionHalt)
    → ((text : List ℕ)
    → left ≡ Some text → IfOk r (λ refused. EndsRenewed (Renews w draws at text) refused taken out o later))
    → OnOk r (HasRenewal w left draws at)
has_renewal w left draws at taken out o later (Err halt) ends = tt
has_renewal w None draws at taken out o later (Ok refused) ends = record { what = Untold w; is = refl }
has_renewal w (Some text) draws at taken out o later (Ok refused) ends = let e =
    ends text refl in record { what = Renewed e.renewal; is = e.is }

-- by what is told of the clock and of the random bytes
pub stopped_told : (w : Wanted) (taken left : Option (List ℕ)) (told : Option Draws) (draws : Draws) (at : Seen)
    (out : Option (List ℕ)) (now : View) (r : Result Bool SessionHalt) → told ≡ Some draws
    → OnErr r (IsStopped (RenewalStops w taken left told at) out now)
    → OnErr r (IsStopped (RenewalStops w taken left (Some draws) at) out now)
stopped_told w taken left told draws at out now r is stopped =
    subst (λ (t : Option Draws). OnErr r (IsStopped (RenewalStops w taken left t at) out now)) is stopped

pub moments_told : (w : Wanted) (left : Option (List ℕ)) (told : Option Draws) (draws : Draws) (at : Seen)
    (old now : View) → told ≡ Some draws
    → LeavesOnly old now (RenewalLeaves w left told at) → LeavesOnly old now (RenewalLeaves w left (Some draws) at)
moments_told w left told draws at old now is run =
    subst (λ (t : Option Draws). LeavesOnly old now (RenewalLeaves w left t at)) is run

pub unread_disk : (r : Result Bool SessionHalt) (A B C D : Type 0) → IfErr r (λ halt. IsOfInput halt → A × B × C × D)
    → IfErr r (λ halt. IsOfInput halt → A)
unread_disk (Ok refused) A B C D unread = tt
unread_disk (Err halt) A B C D unread = λ of. (unread of).0

-- by the client
pub told_for : (client other name : NameParts) (etypes : List Etype) (left : Option (List ℕ)) (draws : Draws)
    (at : Seen) (what : Renewing) → client ≡ other
    → RenewsTold (wanted other name etypes) left draws at what
    → RenewsTold (wanted client name etypes) left draws at what
told_for client other name etypes left draws at what is told =
    subst (λ (n : NameParts). RenewsTold (wanted n name etypes) left draws at what) (sym is) told

pub has_for : (client other name : NameParts) (etypes : List Etype) (left : Option (List ℕ)) (draws : Draws) (at : Seen)
    (r : Result Bool SessionHalt) → client ≡ other
    → OnOk r (HasRenewal (wanted client name etypes) left draws at)
    → OnOk r (HasRenewal (wanted other name etypes) left draws at)
has_for client other name etypes left draws at r is has =
    subst (λ (n : NameParts). OnOk r (HasRenewal (wanted n name etypes) left draws at)) is has

-- where neither the sink nor the disk failed, nothing was written, and the disk is as before
pub rests_same : {D K : Type 0} (view : D → View) (taken : K → Option (List ℕ)) (disk_old disk_new : D) (old new : K)
    (p : Place) (r : Result Bool SessionHalt) → RecoversTo p (view disk_old)
    → IfErr r (λ halt. halt ≢ session.WriteFault → new ≡ old)
    → (r ≡ Err session.MemoryOut → disk_new ≡ disk_old) → (r ≡ Err session.DrawFault → disk_new ≡ disk_old)
    → IfErr r (λ halt. IsOfInput halt → disk_new ≡ disk_old)
    → IfErr r (λ halt. SparesOutput halt → (taken new ≡ taken old) × RecoversTo p (view disk_new))
rests_same view taken disk_old disk_new old new p (Ok refused) recovered unwritten memory drawn unread = tt
rests_same {D} {K} view taken disk_old disk_new old new p (Err halt) recovered unwritten memory drawn unread =
    by halt unwritten memory drawn unread
  where
    by : (h : SessionHalt) → (h ≢ session.WriteFault → new ≡ old)
        → (◌≡◌ {A = Result Bool SessionHalt} (Err h) (Err session.MemoryOut) → disk_new ≡ disk_old)
        → (◌≡◌ {A = Result Bool SessionHalt} (Err h) (Err session.DrawFault) → disk_new ≡ disk_old)
        → (IsOfInput h → disk_new ≡ disk_old) → SparesOutput h → (taken new ≡ taken old) × RecoversTo p (view disk_new)
    by session.MemoryOut u m d i spares =
        (ap taken (u (λ e. cc)), subst (λ (x : D). RecoversTo p (view x)) (sym (m refl)) recovered)
    by session.DrawFault u m d i spares =
        (ap taken (u (λ e. cc)), subst (λ (x : D). RecoversTo p (view x)) (sym (d refl)) recovered)
    by session.ReadFault u m d i spares =
        (ap taken (u (λ e. cc)), subst (λ (x : D). RecoversTo p (view x)) (sym (i (inl refl))) recovered)
    by session.InputTooLong u m d i spares =
        (ap taken (u (λ e. cc)), subst (λ (x : D). RecoversTo p (view x)) (sym (i (inr refl))) recovered)
    by session.WriteFault u m d i spares = absurd spares
    by session.DiskFault u m d i spares = absurd spares

-- ---- nothing was made

leaves_start : (what : Renewing) (at : Seen) (v : View) → RecoversTo at.place v → LeavesOnly v v (RenewedLeaves what at)
leaves_start (Untold w) at v recovered = started v (RenewedLeaves (Untold w) at) (λ c image. inl (recovered c image))
leaves_start (Renewed renewal) at v recovered =
    started v (RenewedLeaves (Renewed renewal) at) (λ c image. inl (recovered c image))

stops_start : (what : Renewing) (p : Place) (v : View) (taken out : Option (List ℕ)) → out ≡ taken → RecoversTo p v
    → RenewedStops what p taken out v
stops_start (Untold w) p v taken out same recovered = tt
stops_start (Renewed renewal) p v taken out same recovered = record {
  first = p;
  others = renewal.made;
  may = inl (same, refl, refl);
  stands = record { each = λ c image. leaves_first p renewal.made c (recovered c image) };
}

-- want of memory before all
pub nothing_renewed : (what : Renewing) (at : Seen) (v : View) (taken : Option (List ℕ)) (draws : Option Draws)
    → RecoversTo at.place v → HasRenewed what at v v taken taken draws (Err session.MemoryOut)
nothing_renewed what at v taken draws recovered = record {
  ended = λ end e. tt;
  stopped = stops_start what at.place v taken taken refl recovered;
  rests = λ spares. (refl, recovered);
  moments = leaves_start what at v recovered;
}

-- the refusal of a name, in place of a keytab
pub refusal_renewed : (why : Refusal) (draws : Draws) (at : Seen) (v : View) (taken out : Option (List ℕ))
    (later : Option Draws) → RecoversTo at.place v → ShowsAt at.place at.state
    → out ≡ after_told taken (refusal_line why) → later ≡ Some draws
    → HasRenewed (Renewed (no_renewal why draws at)) at v v taken out later (Ok true)
refusal_renewed why draws at v taken out later recovered shows is same = record {
  ended = λ end e. subst (λ (x : RunEnd). RunEndsAs out true later v v x) (same_Some _ _ e)
      (record {
        out_is = is;
        refused_is = refl;
        stands = record { place = recovered; shows = shows };
        draws_are = same;
      });
  stopped = tt;
  rests = tt;
  moments = leaves_start (Renewed (no_renewal why draws at)) at v recovered;
}

pub refusal_renewed_cut : (why : Refusal) (draws : Draws) (at : Seen) (v : View) (taken out : Option (List ℕ))
    (later : Option Draws) (halt : SessionHalt) → RecoversTo at.place v
    → SaidPart (refusal_line why) taken out → (SparesOutput halt → out ≡ taken)
    → HasRenewed (Renewed (no_renewal why draws at)) at v v taken out later (Err halt)
unfolding LeavesPart
refusal_renewed_cut why draws at v taken out later halt recovered part nothing = record {
  ended = λ end e. tt;
  stopped = record {
    first = at.place;
    others = [];
    may = inr (part, refl, refl);
    stands = record { each = λ c image. recovered c image };
  };
  rests = λ spares. (nothing spares, recovered);
  moments = leaves_start (Renewed (no_renewal why draws at)) at v recovered;
}

-- ---- by the name

pub are_etypes : (etypes : List Etype) → AreTypes etypes → AreEtypes etypes
are_etypes etypes types = record { some = types.some; once = types.once }

pub renewal_refused : (name : Result NameParts ℕ) (etypes : List Etype) (left : Option (List ℕ)) (draws : Draws)
    (at : Seen) (reads : Bool) (what : Renewing) (P : Renewing → Type 0)
    → RenewsBy name etypes left draws at reads what → (offset : ℕ) → name ≡ Err offset
    → P (Renewed (no_renewal (BadName offset) draws at)) → P what
renewal_refused (Ok n) etypes left draws at reads what P is offset e p = absurd cc
renewal_refused (Err place) etypes left draws at reads what P is offset e p =
    let same : place ≡ offset = cc in
    subst P (ap (λ (n : ℕ). Renewed (no_renewal (BadName n) draws at)) (sym same) ∙ sym is.1) p

renewal_reads : (name : Result NameParts ℕ) (etypes : List Etype) (left : Option (List ℕ)) (draws : Draws) (at : Seen)
    (reads : Bool) (what : Renewing) (P : Type 0)
    → RenewsBy name etypes left draws at reads what → ((n : NameParts) → name ≡ Ok n → P) → IsTrue reads → P
renewal_reads (Ok n) etypes left draws at reads what P is by t = by n refl
renewal_reads (Err place) etypes left draws at reads what P is by t =
    let yes : reads ≡ true = t in
    let never : reads ≡ false = is.0 in
    absurd cc

renewal_unread : (name : Result NameParts ℕ) (etypes : List Etype) (left : Option (List ℕ)) (draws : Draws) (at : Seen)
    (reads : Bool) (what : Renewing) (P : Type 0)
    → RenewsBy name etypes left draws at reads what → ((offset : ℕ) → name ≡ Err offset → P) → (IsTrue reads → ⊥) → P
renewal_unread (Ok n) etypes left draws at reads what P is by unread = absurd (unread is.0)
renewal_unread (Err place) etypes left draws at reads what P is by unread = by place refl

same_name : (a b : NameParts) → ◌≡◌ {A = Result NameParts ℕ} (Ok a) (Ok b) → a ≡ b
same_name a b e = cc

-- the keys of a name
pub renewal_named : (name : Result NameParts ℕ) (etypes : List Etype) (left : Option (List ℕ)) (draws : Draws)
    (at : Seen) (reads : Bool) (what : Renewing) (P : Type 0)
    → RenewsBy name etypes left draws at reads what → (n : NameParts) → name ≡ Ok n
    → (RenewsTold (wanted (local_client at.place.realm) n etypes) left draws at what → P) → P
renewal_named (Err place) etypes left draws at reads what P is n e by = absurd cc
renewal_named (Ok m) etypes left draws at reads what P is n e by =
    by (subst (λ (x : NameParts). RenewsTold (wanted (local_client at.place.realm) x etypes) left draws at what)
    (same_name m n e) is.1)

pub has_named : (name : Result NameParts ℕ) (etypes : List Etype) (left : Option (List ℕ)) (draws : Draws) (at : Seen)
    (n : NameParts) → name ≡ Ok n → (r : Result Bool SessionHalt)
    → OnOk r (HasRenewal (wanted (local_client at.place.realm) n etypes) left draws at)
    → OnOk r (HasRenewalBy name etypes left draws at)
has_named name etypes left draws at n e (Err halt) has = tt
has_named name etypes left draws at n e (Ok b) has =
    subst (λ (x : Result NameParts ℕ). HasRenewalBy x etypes left draws at) (sym e)
    (record { reads = true; what = has.what; is = (refl, has.is) })

-- what is none is refused
pub has_refused : (name : Result NameParts ℕ) (etypes : List Etype) (left : Option (List ℕ)) (draws : Draws) (at : Seen)
    (offset : ℕ) → name ≡ Err offset → HasRenewalBy name etypes left draws at
has_refused name etypes left draws at offset e =
    subst (λ (x : Result NameParts ℕ). HasRenewalBy x etypes left draws at) (sym e)
    (record { reads = false; what = Renewed (no_renewal (BadName offset) draws at); is = (refl, refl) })

-- ---- runs

-- an end at a place does not speak of the disk of before
ends_over : (what : Renewing) (taken out : Option (List ℕ)) (draws : Option Draws) (mid old now : View)
    (r : Result Bool SessionHalt) (end : RunEnd) → renewed_end what taken ≡ Some end
    → IfOk r (λ refused. RunEndsAs out refused draws mid now end)
    → IfOk r (λ refused. RunEndsAs out refused draws old now end)
ends_over (Untold w) taken out draws mid old now r end e ends = absurd cc
ends_over (Renewed renewal) taken out draws mid old now (Err halt) end e ends = tt
ends_over (Renewed renewal) taken out draws mid old now (Ok refused) end e ends =
    subst (λ (x : RunEnd). RunEndsAs out refused draws mid now x → RunEndsAs out refused draws old now x)
    (same_Some _ _ e)
    (λ x. record { out_is = x.out_is; refused_is = x.refused_is; stands = x.stands; draws_are = x.draws_are }) ends

-- over a database that was opened
renewed_run : {old mid now : View} {before after : Told} (begin : Place) (made : List Place) (at : Seen) (reads : Bool)
    (what : Renewing) (r : Result Bool SessionHalt)
    → at.place ≡ end_of begin made → LeavesOnly old mid (OpensPart old begin made)
    → HasRenewed what at mid now before.taken after.taken after.draws r
    → (IsTrue reads → OnOk r (IsReadWhole before.left after.left))
    → HasRun (AddsNew begin made at reads what) old now before after r
renewed_run {old} {mid} {now} {before} {after} begin made at reads what r place opening has read = record {
  ended = λ end e. ends_over what before.taken after.taken after.draws mid old now r end e (has.ended end e);
  stopped = on_err_weaker r (λ stops. inl stops) has.stopped;
  rests = rests_part old begin made at.place now before.taken after.taken r place has.rests;
  moments = then_on (weaken opening (λ c part. inl part)) has.moments (λ c leaves. inr leaves);
  read = read;
}

-- ---- the ways that an opening goes

-- it opened
pub renew_opened_run : {found : Result Found Refusal} {old mid now : View} {before after : Told}
    {r : Result Bool SessionHalt} (word : List ℕ) (etypes : List Etype) (clock : Moment) (o : Opening)
    (primary : Opened)
    → ((d : Draws) → before.draws ≡ Some d → clock ≡ moment_in d)
    → adds_new_for word etypes before.left found before.draws o → Opened_so found None clock (Ok primary) old mid
    → ((s : State) (draws : Draws) (reads : Bool) (what : Renewing) → HasState primary s
    → behind AMoment before.draws ≡ Some draws
    → RenewsBy (own_name_in word primary.kept.realm) etypes before.left draws (seen (place_of primary) s) reads what
    → HasRenewed what (seen (place_of primary) s) mid now before.taken after.taken after.draws r)
    → ((name : NameParts) → own_name_in word primary.kept.realm ≡ Ok name → OnOk r (IsReadWhole before.left after.left))
    → HasRun o old now before after r
renew_opened_run word etypes clock (Refuses why drawn) primary gave adds answers written read =
    absurd (answers.only_refused why (adds.1 clock))
renew_opened_run {found} {old} {mid} {now} {before} {after} {r} word etypes clock
    (AddsNew begin made at reads what) primary gave adds answers written read =
    let opens = adds.opens in
    let at_clock : clock ≡ moment_in opens.told = gave opens.told opens.draws_are in
    let place : place_of primary ≡ at.place = opened_place clock primary opens at_clock answers.opens in
    let state : HasState primary at.state =
    opened_state primary opens place (open_having clock (Ok primary) opens at_clock answers) in
    let draws : behind AMoment before.draws ≡ Some (behind_moment opens.told) = ap (behind AMoment) opens.draws_are in
    let comes : RenewsBy (own_name_in word (place_of primary).realm) etypes before.left (behind_moment opens.told)
    (seen (place_of primary) at.state) reads what =
    subst (λ (p : Place). RenewsBy (own_name_in word p.realm) etypes before.left (behind_moment opens.told)
    (seen p at.state) reads what) (sym place) adds.comes in
    renewed_run begin made at reads what r opens.place_is (opening_part clock opens at_clock answers.moments)
    (subst (λ (p : Place). HasRenewed what (seen p at.state) mid now before.taken after.taken after.draws r) place
    (written at.state (behind_moment opens.told) reads what state draws comes))
    (renewal_reads (own_name_in word (place_of primary).realm) etypes before.left (behind_moment opens.told)
    (seen (place_of primary) at.state) reads what _ comes read)
renew_opened_run word etypes clock (Opens begin made at its) primary gave adds answers written read = absurd adds
renew_opened_run word etypes clock (Loads begin made at what) primary gave adds answers written read = absurd adds
renew_opened_run word etypes clock (Adds begin made at reads what) primary gave adds answers written read = absurd adds
renew_opened_run word etypes clock (Filters what) primary gave adds answers written read = absurd adds
renew_opened_run word etypes clock (Tells text drawn) primary gave adds answers written read = absurd adds
renew_opened_run word etypes clock (Makes spec) primary gave adds answers written read = absurd adds
renew_opened_run word etypes clock Ends primary gave adds answers written read = absurd adds

-- it was refused, and that was written
pub renew_refused : {found : Result Found Refusal} {old now : View} {before after : Told} (word : List ℕ)
    (etypes : List Etype) (clock : Moment) (o : Opening) (refusal : Refusal)
    → ((d : Draws) → before.draws ≡ Some d → clock ≡ moment_in d)
    → adds_new_for word etypes before.left found before.draws o
    → Opened_so found None clock (Err (stop.Refused refusal)) old now
    → after.taken ≡ after_told before.taken (refusal_line refusal) → after.draws ≡ behind AMoment before.draws
    → HasRun o old now before after (Ok true)
renew_refused {old = old} {now = now} {before = before} {after = after} word etypes clock
    (Refuses why drawn) refusal gave adds answers said_it draws =
    let cause : OpeningRefused _ _ clock why = adds.1 clock in
    let same : refusal ≡ why = answers.only_refused why cause in
    refused_run why drawn
    (said_it ∙ ap (λ (r : Refusal). after_told before.taken (refusal_line r)) same)
    (draws ∙ ap (λ (d : Drawn). behind d before.draws) (sym adds.0))
    (subst (λ (d : Drawn). Stays d old now) (sym adds.0)
    (record { stays = answers.stays refusal refl; leaves = answers.refusals why cause }))
renew_refused word etypes clock (AddsNew begin made at reads what) refusal gave adds answers said_it draws =
    absurd (open_having clock (Err (stop.Refused refusal)) adds.opens
    (gave adds.opens.told adds.opens.draws_are) answers)
renew_refused word etypes clock (Opens begin made at its) refusal gave adds answers said_it draws = absurd adds
renew_refused word etypes clock (Loads begin made at what) refusal gave adds answers said_it draws = absurd adds
renew_refused word etypes clock (Adds begin made at reads what) refusal gave adds answers said_it draws = absurd adds
renew_refused word etypes clock (Filters what) refusal gave adds answers said_it draws = absurd adds
renew_refused word etypes clock (Tells text drawn) refusal gave adds answers said_it draws = absurd adds
renew_refused word etypes clock (Makes spec) refusal gave adds answers said_it draws = absurd adds
renew_refused word etypes clock Ends refusal gave adds answers said_it draws = absurd adds

-- of which not all was written
pub renew_cut : {found : Result Found Refusal} {old now : View} {before after : Told} (word : List ℕ)
    (etypes : List Etype) (clock : Moment) (o : Opening) (refusal : Refusal) (halt : SessionHalt)
    → ((d : Draws) → before.draws ≡ Some d → clock ≡ moment_in d)
    → adds_new_for word etypes before.left found before.draws o
    → Opened_so found None clock (Err (stop.Refused refusal)) old now
    → SaidPart (refusal_line refusal) before.taken after.taken
    → (SparesOutput halt → after.taken ≡ before.taken)
    → HasRun o old now before after (Err halt)
renew_cut {old = old} {now = now} {before = before} {after = after} word etypes clock
    (Refuses why drawn) refusal halt gave adds answers part nothing =
    let cause : OpeningRefused _ _ clock why = adds.1 clock in
    let same : refusal ≡ why = answers.only_refused why cause in
    cut_refusal_run why drawn halt
    (subst (λ (r : Refusal). SaidPart (refusal_line r) before.taken after.taken) same part)
    (subst (λ (d : Drawn). IsSame d old now) (sym adds.0) (answers.refusals why cause))
    nothing
renew_cut word etypes clock (AddsNew begin made at reads what) refusal halt gave adds answers part nothing =
    absurd (open_having clock (Err (stop.Refused refusal)) adds.opens
    (gave adds.opens.told adds.opens.draws_are) answers)
renew_cut word etypes clock (Opens begin made at its) refusal halt gave adds answers part nothing = absurd adds
renew_cut word etypes clock (Loads begin made at what) refusal halt gave adds answers part nothing = absurd adds
renew_cut word etypes clock (Adds begin made at reads what) refusal halt gave adds answers part nothing = absurd adds
renew_cut word etypes clock (Filters what) refusal halt gave adds answers part nothing = absurd adds
renew_cut word etypes clock (Tells text drawn) refusal halt gave adds answers part nothing = absurd adds
renew_cut word etypes clock (Makes spec) refusal halt gave adds answers part nothing = absurd adds
renew_cut word etypes clock Ends refusal halt gave adds answers part nothing = absurd adds

-- it was stopped
pub renew_halted : {found : Result Found Refusal} {old now : View} {before after : Told} (word : List ℕ)
    (etypes : List Etype) (clock : Moment) (o : Opening) (answer : Result Opened Stop) (halt : SessionHalt)
    → ((d : Draws) → before.draws ≡ Some d → clock ≡ moment_in d)
    → adds_new_for word etypes before.left found before.draws o → Opened_so found None clock answer old now
    → after.taken ≡ before.taken
    → HasRun o old now before after (Err halt)
renew_halted {old = old} {now = now} {before = before} {after = after} word etypes clock
    (Refuses why drawn) answer halt gave adds answers nothing =
    let cause : OpeningRefused _ _ clock why = adds.1 clock in
    cut_refusal_run why drawn halt (said_nothing (refusal_line why) before.taken after.taken nothing)
    (subst (λ (d : Drawn). IsSame d old now) (sym adds.0) (answers.refusals why cause))
    (λ _. nothing)
renew_halted word etypes clock (AddsNew begin made at reads what) answer halt gave adds answers nothing =
    let run = opening_part clock adds.opens (gave adds.opens.told adds.opens.draws_are) answers.moments in
    record {
      ended = λ end e. tt;
      stopped = inr (nothing, all_at_end run);
      rests = λ spares. (nothing, all_at_end run);
      moments = weaken run (λ c part. inl part);
      read = λ reads. tt;
    }
renew_halted word etypes clock (Opens begin made at its) answer halt gave adds answers nothing = absurd adds
renew_halted word etypes clock (Loads begin made at what) answer halt gave adds answers nothing = absurd adds
renew_halted word etypes clock (Adds begin made at reads what) answer halt gave adds answers nothing = absurd adds
renew_halted word etypes clock (Filters what) answer halt gave adds answers nothing = absurd adds
renew_halted word etypes clock (Tells text drawn) answer halt gave adds answers nothing = absurd adds
renew_halted word etypes clock (Makes spec) answer halt gave adds answers nothing = absurd adds
renew_halted word etypes clock Ends answer halt gave adds answers nothing = absurd adds

-- what does not read the input has refused the name
pub renew_unread : {found : Result Found Refusal} {old mid : View} (word : List ℕ) (etypes : List Etype)
    (left : Option (List ℕ)) (draws : Option Draws) (clock : Moment) (o : Opening) (primary : Opened) (P : Type 0)
    → ((d : Draws) → draws ≡ Some d → clock ≡ moment_in d)
    → adds_new_for word etypes left found draws o → Opened_so found None clock (Ok primary) old mid
    → (ReadsInput o → ⊥) → ((offset : ℕ) → own_name_in word primary.kept.realm ≡ Err offset → P) → P
renew_unread word etypes left draws clock (Refuses why drawn) primary P gave adds answers unread by =
    absurd (answers.only_refused why (adds.1 clock))
renew_unread word etypes left draws clock (AddsNew begin made at reads what) primary P gave adds answers unread by =
    let opens = adds.opens in
    let place : place_of primary ≡ at.place =
    opened_place clock primary opens (gave opens.told opens.draws_are) answers.opens in
    renewal_unread (own_name_in word (place_of primary).realm) etypes left (behind_moment opens.told)
    (seen (place_of primary) at.state) reads what P
    (subst (λ (p : Place). RenewsBy (own_name_in word p.realm) etypes left (behind_moment opens.told)
    (seen p at.state) reads what) (sym place) adds.comes) by unread
renew_unread word etypes left draws clock (Opens begin made at its) primary P gave adds answers unread by = absurd adds
renew_unread word etypes left draws clock (Loads begin made at what) primary P gave adds answers unread by = absurd adds
renew_unread word etypes left draws clock (Adds begin made at reads what) primary P gave adds answers unread by =
    absurd adds
renew_unread word etypes left draws clock (Filters what) primary P gave adds answers unread by = absurd adds
renew_unread word etypes left draws clock (Tells text drawn) primary P gave adds answers unread by = absurd adds
renew_unread word etypes left draws clock (Makes spec) primary P gave adds answers unread by = absurd adds
renew_unread word etypes left draws clock Ends primary P gave adds answers unread by = absurd adds

-- ---- there is an opening

pub refused_renewing : (word : List ℕ) (etypes : List Etype) (left : Option (List ℕ)) (found : Result Found Refusal)
    (draws : Option Draws) (clock : Moment) (why : Refusal) → OpeningRefused found None clock why
    → HasAddingNew word etypes left found draws
refused_renewing word etypes left found draws clock why refused =
    record { opening = Refuses why AMoment; is = (refl, λ other. refused_always found None clock other why refused) }

pub good_renewing : (word : List ℕ) (etypes : List Etype) (left : Option (List ℕ)) (found : Result Found Refusal)
    (draws : Draws) (clock : Moment) (o : Opened) → clock ≡ moment_in draws → OpensTo found None clock o
    → (opened : IsOpened o)
    → HasRenewalBy (own_name_in word o.kept.realm) etypes left (behind_moment draws) (seen (place_of o) opened.state)
    → HasAddingNew word etypes left found (Some draws)
unfolding is_open
good_renewing word etypes left found draws clock o is to opened has = record {
  opening = AddsNew (place_found to.found_is) (places (resized None (moment_in draws) (place_found to.found_is)))
      (seen (place_of o) opened.state) has.reads has.what;
  is = record { opens = is_open None found draws clock o is to opened; comes = has.is };
}
