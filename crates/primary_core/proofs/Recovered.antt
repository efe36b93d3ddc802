-- What the files stand for, as what was read of them and opened.
use Rattle.std.proofs.Common.{◌≡◌, ◌≢◌, ◌⊎◌, ℕ, List, [], Option, Result, Ok, Err, inl, inr, refl, sym, ap, subst, ◌∙◌}
use Rattle.std.specs.Prelude.{IfErr, IfOk}
use Rattle.kdb_base.specs.Moment.{Moment}
use Rattle.kdb_base.specs.declared.outcomes.Refusal.{Refusal}
use Rattle.kdb_base.specs.declared.outcomes.Stop.{Stop}
use Rattle.kdb_base.specs.declared.outcomes.Stop.TheVariants as stop
use Rattle.kdb_base.specs.declared.versions.Master.{Master}
use Rattle.kdb_disk.proofs.Runs.{then_on, weaken}
use Rattle.kdb_disk.specs.Files.{Files}
use Rattle.kdb_disk.specs.Moments.{IsSettled, Keeps, LeavesOnly}
use Rattle.kdb_disk.specs.View.{View}
use Rattle.kdb_histories.specs.Calls.{HasTimeLeft, resized}
use Rattle.kdb_histories.specs.Seen.{reset_point}
use Rattle.kdb_histories.specs.Stages.{places}
use Rattle.kdb_places.specs.Places.{Place, point_of}
use Rattle.kdb_store.specs.Reading.{IsFoundAs}
use Rattle.primary_core.specs.Opened.{IsWrittenAnew, Opened}
use Rattle.primary_core.specs.Opening.{EndsTime, HasNoTime, IsHalt, IsRefusedAs, LeavesOpening, MayOpen}
use Rattle.primary_core.specs.Opening.{OpeningRefused, OpensAt, OpensFrom, OpensHaving, OpensTo, OpensWith}
use Rattle.primary_core.specs.Opening.{RecoversAs, RefusesAt, RowsRefused, StashRefuses, StopsPrimary, StopsRows}
use Rattle.primary_core.specs.Opening.{place_found}
use Rattle.princ_rows.specs.Rows.{RowLists}
use Rattle.row_keys.specs.Sound.{AreSound, judged}
use Rattle.stash_opening.specs.Answers.{Gives, Refuses}
use Rattle.stash_opening.specs.Finding.{IsOpeningCause, StashOpens, own_record}
use Rattle.store_files.specs.Found.{Found, found_in, place_in, place_of, recovers}
use Rattle.store_files.specs.Kept.{Kept, found_with, place_kept}
use Rattle.store_files.specs.Recovery.{IsLike, LeavesPart, RecoversTo}
use Rattle.store_opening.specs.Looking.{StopsOpening}

-- ---- what is read of a database

pub record Reading : Type 0 where
  pub stash : Option (List ℕ)
  pub rows : RowLists
  pub realm : List ℕ
  pub file : ℕ
  pub secs : ℕ

abbrev pub reading : Option (List ℕ) → RowLists → List ℕ → ℕ → ℕ → Reading
reading stash rows realm file secs = record { stash = stash; rows = rows; realm = realm; file = file; secs = secs }

abbrev pub reading_of : Kept → Reading
reading_of k = reading k.stash k.rows k.realm k.control.stash (point_of (place_kept k)).time.secs

pub same_reading : (k : Kept) (stash : Option (List ℕ)) (rows : RowLists) (realm : List ℕ) (file secs : ℕ)
    → stash ≡ k.stash → rows ≡ k.rows → realm ≡ k.realm
    → file ≡ k.control.stash → secs ≡ (point_of (place_kept k)).time.secs
    → reading stash rows realm file secs ≡ reading_of k
same_reading k stash rows realm file secs a b c d e =
    ap (λ (x : Option (List ℕ)). reading x rows realm file secs) a
    ∙ ap (λ (x : RowLists). reading k.stash x realm file secs) b
    ∙ ap (λ (x : List ℕ). reading k.stash k.rows x file secs) c
    ∙ ap (λ (x : ℕ). reading k.stash k.rows k.realm x secs) d
    ∙ ap (λ (x : ℕ). reading k.stash k.rows k.realm k.control.stash x) e

abbrev Opens : Reading → List Master → Type 0
Opens r masters =
    StashOpens r.stash (own_record r.realm r.rows) masters × AreSound (judged masters r.realm r.secs) r.rows

abbrev Causes : Reading → Refusal → Type 0
Causes r why = IsOpeningCause r.stash r.file (own_record r.realm r.rows) r.realm r.secs r.rows why

pub opens_as_read : (r : Reading) (k : Kept) (masters : List Master) → r ≡ reading_of k
    → StashOpens r.stash (own_record r.realm r.rows) masters
    → AreSound (judged masters r.realm r.secs) r.rows → OpensAt (place_kept k) masters
opens_as_read r k masters is opened sound =
    let both = subst (λ (x : Reading). Opens x masters) is (opened, sound) in
    record { opened = both.0; sound = both.1 }

pub opens_if : (r : Reading) (k : Kept) (x : Result (List Master) Stop) → r ≡ reading_of k
    → IfOk x (λ m. StashOpens r.stash (own_record r.realm r.rows) m)
    → IfOk x (λ m. AreSound (judged m r.realm r.secs) r.rows) → IfOk x (OpensAt (place_kept k))
opens_if r k (Ok masters) is opened sound = opens_as_read r k masters is opened sound
opens_if r k (Err s) is opened sound = tt

pub read_as_opened : (r : Reading) (k : Kept) (masters : List Master) → r ≡ reading_of k
    → OpensAt (place_kept k) masters
    → StashOpens r.stash (own_record r.realm r.rows) masters × AreSound (judged masters r.realm r.secs) r.rows
read_as_opened r k masters is h = subst (λ (x : Reading). Opens x masters) (sym is) (h.opened, h.sound)

pub refused_as_read : (r : Reading) (k : Kept) (why : Refusal) → r ≡ reading_of k
    → IsOpeningCause r.stash r.file (own_record r.realm r.rows) r.realm r.secs r.rows why
    → RefusesAt (place_kept k) k.control.stash why
refused_as_read r k why is cause = subst (λ (x : Reading). Causes x why) is cause

pub read_as_refused : (r : Reading) (k : Kept) (why : Refusal) → r ≡ reading_of k
    → RefusesAt (place_kept k) k.control.stash why
    → IsOpeningCause r.stash r.file (own_record r.realm r.rows) r.realm r.secs r.rows why
read_as_refused r k why is cause = subst (λ (x : Reading). Causes x why) (sym is) cause

-- ---- what was found

place_is : (k : Kept) (found : Result Found Refusal) (h : IsFoundAs k found)
    → place_of (found_with k h.cells) ≡ place_kept k
place_is k found h = ap (λ (x : RowLists). let p : Place = record (place_kept k) { rows = x } in p) h.rows

-- of one that was found, by what is kept
kept_opens : (k : Kept) (found : Result Found Refusal) (h : IsFoundAs k found) (masters : List Master)
    → OpensAt (place_kept k) masters
    → OpensWith (found_with k h.cells) masters
kept_opens k found h masters opens = subst (λ (x : Place). OpensAt x masters) (sym (place_is k found h)) opens

one_found : (k : Kept) (found : Result Found Refusal) (h : IsFoundAs k found) (f : Found) → found ≡ Ok f
    → f ≡ found_with k h.cells
one_found k found h f is = let both : Ok f ≡ Ok (found_with k h.cells) = sym is ∙ h.is in cc

opens_kept : (k : Kept) (found : Result Found Refusal) (h : IsFoundAs k found) (f : Found) (masters : List Master)
    → found ≡ Ok f → OpensWith f masters
    → OpensAt (place_kept k) masters
opens_kept k found h f masters is opens =
    subst (λ (x : Place). OpensAt x masters) (ap place_of (one_found k found h f is) ∙ place_is k found h) opens

pub kept_refused : (k : Kept) (found : Result Found Refusal) → IsFoundAs k found → (why : Refusal)
    → RefusesAt (place_kept k) k.control.stash why → RowsRefused found why
kept_refused k found h why cause =
    subst (λ (x : Result Found Refusal). RowsRefused x why) (sym h.is)
    (subst (λ (x : Place). RefusesAt x k.control.stash why) (sym (place_is k found h)) cause)

refused_kept : (k : Kept) (found : Result Found Refusal) → IsFoundAs k found → (why : Refusal) → RowsRefused found why
    → RefusesAt (place_kept k) k.control.stash why
refused_kept k found h why cause =
    subst (λ (x : Place). RefusesAt x k.control.stash why) (place_is k found h)
    (subst (λ (x : Result Found Refusal). RowsRefused x why) h.is cause)

-- ---- whatever a crash leaves recovers to what was read

-- where no file was changed, and every one was settled
pub settled_stays : (old now : View) → Keeps old now → IsSettled now → RecoversAs old.seen now
settled_stays old now keeps settled =
    λ c image. ap (λ (files : Files). recovers files) (settled.only c image ∙ keeps.seen)

-- where what was found stands
pub kept_stays : (k : Kept) (files : Files) (now : View) → IsFoundAs k (found_in files) → RecoversTo (place_kept k) now
    → RecoversAs files now
kept_stays k files now h stands =
    λ c image. stands c image ∙ sym (ap place_in h.is ∙ ap Ok (place_is k (found_in files) h))

-- ---- the rows are opened

pub not_found_refused : (found : Result Found Refusal) (why : Refusal) → found ≡ Err why → RowsRefused found why
not_found_refused found why is = subst (λ (x : Result Found Refusal). RowsRefused x why) (sym is) refl

-- where the files stand for none, it is told
pub not_found_halts : (found : Result Found Refusal) (s : Stop)
    → ((why : Refusal) → s ≡ stop.Refused why → found ≡ Err why) → (f : Found) → found ≡ Ok f → IsHalt s
not_found_halts found (stop.Refused why) told f is = let both : Ok f ≡ Err why = sym is ∙ told why refl in absurd cc
not_found_halts found (stop.Halt halt) told f is = tt

pub not_found_only : (A : Type 0) (found : Result Found Refusal) (s : Stop)
    → ((why : Refusal) → s ≡ stop.Refused why → found ≡ Err why)
    → (why : Refusal) → RowsRefused found why → IsRefusedAs {A = A} (Err s) why
not_found_only A found (stop.Refused other) told why cause =
    sym (subst (λ (x : Result Found Refusal). RowsRefused x why) (told other refl) cause)
not_found_only A found (stop.Halt halt) told why cause = tt

-- and where the stash or the rows are refused
gives_halts : (s : Stop) (r : Result (List Master) Stop) (masters : List Master) → r ≡ Err s
    → Gives r masters → IsHalt s
gives_halts (stop.Refused why) r masters is gives = subst (λ (x : Result (List Master) Stop). Gives x masters) is gives
gives_halts (stop.Halt halt) r masters is gives = tt

gives_same : (r : Result (List Master) Stop) (own masters : List Master) → r ≡ Ok own → Gives r masters → own ≡ masters
gives_same r own masters is gives = subst (λ (x : Result (List Master) Stop). Gives x masters) is gives

refuses_only : (A : Type 0) (s : Stop) (r : Result (List Master) Stop) (why : Refusal) → r ≡ Err s → Refuses r why
    → IsRefusedAs {A = A} (Err s) why
refuses_only A (stop.Refused other) r why is refuses =
    subst (λ (x : Result (List Master) Stop). Refuses x why) is refuses
refuses_only A (stop.Halt halt) r why is refuses = tt

module _ (k : Kept) (found : Result Found Refusal) (h : IsFoundAs k found) (r : Result (List Master) Stop)
    (gives : (masters : List Master) → OpensAt (place_kept k) masters → Gives r masters)
    (refuses : (why : Refusal) → RefusesAt (place_kept k) k.control.stash why → Refuses r why) where
  pub unopened_halts : (s : Stop) → r ≡ Err s → (f : Found) (masters : List Master) → found ≡ Ok f
      → OpensWith f masters → IsHalt s
  unopened_halts s at f masters is opens =
      gives_halts s r masters at (gives masters (opens_kept k found h f masters is opens))

  pub opened_same : (own : List Master) → r ≡ Ok own → (f : Found) (masters : List Master) → found ≡ Ok f
      → OpensWith f masters → own ≡ masters
  opened_same own at f masters is opens =
      gives_same r own masters at (gives masters (opens_kept k found h f masters is opens))

  pub unopened_only : (A : Type 0) (s : Stop) → r ≡ Err s → (why : Refusal) → RowsRefused found why
      → IsRefusedAs {A = A} (Err s) why
  unopened_only A s at why cause = refuses_only A s r why at (refuses why (refused_kept k found h why cause))

  -- opened rows are refused for nothing
  pub opened_only : (own : List Master) → r ≡ Ok own → (why : Refusal) → RowsRefused found why → ⊥
  opened_only own at why cause =
      subst (λ (x : Result (List Master) Stop). Refuses x why) at (refuses why (refused_kept k found h why cause))

-- ---- the primary is opened

pub rows_stop : (found : Result Found Refusal) (size : Option ℕ) (clock : Moment) (why : Refusal)
    → RowsRefused found why → OpeningRefused found size clock why
rows_stop (Err refusal) size clock why cause = cause
rows_stop (Ok f) size clock why cause = inl cause

-- rows that are not opened, at a result of rows and at one of a primary
pub stopped_only : (A B : Type 0) (found : Result Found Refusal) (size : Option ℕ) (clock : Moment) (s : Stop)
    → ((why : Refusal) → RowsRefused found why → IsRefusedAs {A = A} (Err s) why)
    → ((f : Found) (masters : List Master) → found ≡ Ok f → OpensWith f masters → IsHalt s)
    → (why : Refusal) → OpeningRefused found size clock why → IsRefusedAs {A = B} (Err s) why
stopped_only A B found size clock (stop.Halt halt) only halts why cause = tt
stopped_only A B (Err refusal) size clock (stop.Refused other) only halts why cause = only why cause
stopped_only A B (Ok f) size clock (stop.Refused other) only halts why (inl cause) = only why cause
stopped_only A B (Ok f) size clock (stop.Refused other) only halts why (inr late) =
    absurd (halts f late.masters refl late.opens)

pub halts_having : (s : Stop) (masters : List Master) → IsHalt s → OpensHaving (Err s) masters
halts_having (stop.Refused why) masters none = none
halts_having (stop.Halt halt) masters halts = tt

pub may_be_like : (old : View) (found : Result Found Refusal) (size : Option ℕ) (clock : Moment) (c : Files)
    → IsLike old c → MayOpen old found size clock c
may_be_like old (Err refusal) size clock c is = is
may_be_like old (Ok f) size clock c is = inl is

-- where no later time is left, nothing was written
pub late_kept : {A : Type 0} (old new : A) (p : Place) (size : Option ℕ) (clock : Moment) (why : Refusal)
    → EndsTime size clock p why
    → (resized size clock p ≢ [] → HasTimeLeft p) ⊎ (new ≡ old) → new ≡ old
late_kept old new p size clock why late (inl left) = absurd (late.ended (left late.anew))
late_kept old new p size clock why late (inr same) = same

module _ (k : Kept) (found : Result Found Refusal) (h : IsFoundAs k found) (size : Option ℕ) (clock : Moment) where
  same_place : (f : Found) → found ≡ Ok f → place_found f ≡ place_kept k
  same_place f is = ap place_of (one_found k found h f is) ∙ place_is k found h

  pub opens_to : (masters : List Master) (o : Opened) → OpensAt (place_kept k) masters
      → OpensFrom (place_kept k) masters size clock o → OpensTo found size clock o
  opens_to masters o opens from =
      let f = found_with k h.cells in
      let at : place_found f ≡ place_kept k = place_is k found h in
      let from_f = subst (λ (x : Place). OpensFrom x masters size clock o) (sym at) from in
      record {
        found_is = f;
        is = h.is;
        opens = subst (OpensWith f) (sym from.masters_are) (kept_opens k found h masters opens);
        left = from_f.left;
        place_is = from_f.place_is;
      }

  pub opens_to_if : (masters : List Master) (r : Result Opened Stop) → OpensAt (place_kept k) masters
      → IfOk r (OpensFrom (place_kept k) masters size clock)
      → IfOk r (OpensTo found size clock)
  opens_to_if masters (Ok o) opens from = opens_to masters o opens from
  opens_to_if masters (Err s) opens from = tt

  pub late_refused : (masters : List Master) (why : Refusal) → OpensAt (place_kept k) masters
      → EndsTime size clock (place_kept k) why
      → OpeningRefused found size clock why
  late_refused masters why opens ends =
      let f = found_with k h.cells in
      let late : HasNoTime size clock f why = record {
        masters = masters;
        opens = kept_opens k found h masters opens;
        ends = subst (λ (x : Place). EndsTime size clock x why) (sym (place_is k found h)) ends;
      } in
      subst (λ (x : Result Found Refusal). OpeningRefused x size clock why) (sym h.is) (inr late)

  -- the log is not begun anew, for want of a later time
  pub late_only : (A : Type 0) (r : Result A Stop) (why : Refusal) → EndsTime size clock (place_kept k) why
      → ((a : A) → r ≡ Ok a → resized size clock (place_kept k) ≢ [] → HasTimeLeft (place_kept k))
      → ((other : Refusal) → r ≡ Err (stop.Refused other) → EndsTime size clock (place_kept k) other)
      → IsRefusedAs r why
  late_only A r why late left ends = by r refl
    where
      by : (x : Result A Stop) → r ≡ x → IsRefusedAs x why
      by (Ok a) e = late.ended (left a e late.anew)
      by (Err (stop.Refused other)) e = (ends other e).why_is ∙ sym late.why_is
      by (Err (stop.Halt halt)) e = tt

  pub late_having : (r : Result Opened Stop) (own masters : List Master) → own ≡ masters
      → ((o : Opened) → r ≡ Ok o → o.masters ≡ own)
      → ((other : Refusal) → r ≡ Err (stop.Refused other) → EndsTime size clock (place_kept k) other)
      → (f : Found) → found ≡ Ok f → (resized size clock (place_found f) ≢ [] → HasTimeLeft (place_found f))
      → OpensHaving r masters
  late_having r own masters same has ends f is left = by r refl
    where
      by : (x : Result Opened Stop) → r ≡ x → OpensHaving x masters
      by (Ok o) e = has o e ∙ same
      by (Err (stop.Refused other)) e =
          let late = subst (λ (x : Place). EndsTime size clock x other) (sym (same_place f is)) (ends other e) in
          late.ended (left late.anew)
      by (Err (stop.Halt halt)) e = tt

  -- where no later time is left, the files stay
  pub late_ends : (why : Refusal) → ((other : Refusal) → RowsRefused found other → ⊥)
      → OpeningRefused found size clock why → EndsTime size clock (place_kept k) why
  late_ends why none cause = on (subst (λ (x : Result Found Refusal). OpeningRefused x size clock why) h.is cause)
    where
      on : StashRefuses (found_with k h.cells) why ⊎ HasNoTime size clock (found_with k h.cells) why
          → EndsTime size clock (place_kept k) why
      on (inl refused) = absurd (none why (subst (λ (x : Result Found Refusal). RowsRefused x why) (sym h.is) refused))
      on (inr late) = subst (λ (x : Place). EndsTime size clock x why) (place_is k found h) late.ends

  -- ---- moments

  pub opens_on : {D : Type 0} (view : D → View) (old : View) (mid new : D)
      → (resized size clock (place_kept k) ≢ [] → HasTimeLeft (place_kept k)) ⊎ (new ≡ mid)
      → LeavesOnly old (view mid) (IsLike old)
      → LeavesOnly (view mid) (view new) (LeavesPart (place_kept k) (places (resized size clock (place_kept k))))
      → LeavesOnly old (view new) (MayOpen old found size clock)
  opens_on view old mid new (inl left) first second =
      subst (λ (x : Result Found Refusal). LeavesOnly old (view new) (MayOpen old x size clock)) (sym h.is)
      (then_on (weaken first (λ c is. inl is)) second
      (λ c is. inr (subst (λ (x : Place). LeavesOpening x size clock c) (sym (place_is k found h)) (record {
        left = left;
        part = is;
      }))))
  opens_on {D} view old mid new (inr same) first second =
      subst (λ (x : D). LeavesOnly old (view x) (MayOpen old found size clock)) (sym same)
      (weaken first (λ c is. may_be_like old found size clock c is))

-- one stop, whatever the value would have been
pub stop_same : (s t : Stop) (A : Type 0) → ◌≡◌ {A = Result A Stop} (Err s) (Err t) → s ≡ t
stop_same s t A e = cc

pub opened_at_ok : (p : Place) (masters : List Master) (size : Option ℕ) (clock : Moment) (r : Result Opened Stop)
    (o : Opened) → r ≡ Ok o
    → IfOk r (OpensFrom p masters size clock) → OpensFrom p masters size clock o
opened_at_ok p masters size clock r o e h =
    subst (λ (x : Result Opened Stop). IfOk x (OpensFrom p masters size clock)) e h

-- ---- why it stops, whatever a disk tells

pub unopened_stops : (s : Stop) → StopsOpening s → StopsRows s
unopened_stops (stop.Refused why) unopened = inl unopened
unopened_stops (stop.Halt halt) any = tt

pub masters_stop : (p : Place) (file : ℕ) (s : Stop) (r : Result (List Master) Stop) → r ≡ Err s
    → ((why : Refusal) → r ≡ Err (stop.Refused why) → RefusesAt p file why) → StopsRows s
masters_stop p file (stop.Refused why) r is refused = inr (record { place = p; file = file; cause = refused why is })
masters_stop p file (stop.Halt halt) r is refused = tt

pub rows_stop_it : (size : Option ℕ) (clock : Moment) (s : Stop) → StopsRows s → StopsPrimary size clock s
rows_stop_it size clock (stop.Refused why) (inl unopened) = inl unopened
rows_stop_it size clock (stop.Refused why) (inr refused) = inr (inl refused)
rows_stop_it size clock (stop.Halt halt) any = tt

pub late_stops : (p : Place) (size : Option ℕ) (clock : Moment) (r : Result Opened Stop)
    → ((why : Refusal) → r ≡ Err (stop.Refused why) → EndsTime size clock p why) → IfErr r (StopsPrimary size clock)
late_stops p size clock (Ok o) ends = tt
late_stops p size clock (Err (stop.Refused why)) ends = inr (inr (record { place = p; ends = ends why refl }))
late_stops p size clock (Err (stop.Halt halt)) ends = tt

-- ---- what is written of files of format 1

-- the rows written anew, by the place that was found
pub found_written : (k : Kept) (found : Result Found Refusal) → IsFoundAs k found → (clock : Moment) (now : View)
    (r : Result Opened Stop)
    → ((place_kept k).format ≢ 2 → IfOk r (λ o. IsWrittenAnew now o.kept (reset_point clock (place_kept k))))
    → (f : Found) → found ≡ Ok f → (place_found f).format ≢ 2
    → IfOk r (λ o. IsWrittenAnew now o.kept (reset_point clock (place_found f)))
found_written k found h clock now r written f is =
    let same : place_found f ≡ place_kept k = ap place_of (one_found k found h f is) ∙ place_is k found h in
    subst (λ (p : Place). p.format ≢ 2 → IfOk r (λ o. IsWrittenAnew now o.kept (reset_point clock p))) (sym same)
    written
