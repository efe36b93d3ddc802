-- What a run does to a database that it has opened: lines, one of them as words, a log begun anew, a load, and new
-- keys.
use Rattle.std.proofs.Common.{◌≡◌, ℕ, Bool, true, false, inl, inr, List, [], ◌∷◌, Option}
use Rattle.std.proofs.Common.{Some, None, Result, Ok, Err, refl, sym, ◌∙◌, ap, subst}
use Rattle.std.specs.Prelude.{map, if◌then◌else◌}
use Rattle.dump_text.specs.Judged.{IsDumpText, judged as judged_text}
use Rattle.dump_text.specs.declared.dumps.Dump.{Dump}
use Rattle.kadm_keytabs.specs.Renewals.{Renewal, Wanted, ask_for, no_renewal, renewal_of, wanted}
use Rattle.kadm_lines.specs.Lines.{seen_lines}
use Rattle.kadm_loading.specs.Loads.{IsLoadable, LoadEnd, Loaded, LoadsTo, NotLoaded, places_loaded}
use Rattle.kadm_session.proofs.Happening.{lines_stop}
use Rattle.kadm_session.specs.Courses.{Leaves, leaves_by}
use Rattle.kadm_session.specs.Events.{IsReached, RecoversWhere}
use Rattle.kadm_session.specs.Input.{asked_in}
use Rattle.kadm_session.specs.Runs.{IsOpenAt}
use Rattle.kadm_session.specs.Steps.{local_client}
use Rattle.kadm_session.specs.declared.intake.Asked.{Asked}
use Rattle.kadm_top.specs.Openings.{AMoment, LoadsAt, Renewed, Renewing, RenewsBy, RenewsTold, Untold, behind}
use Rattle.kadm_top.specs.Run.{LoadLeaves, RenewedLeaves, Told, commands_for, course_behind}
use Rattle.kdb_base.specs.Moment.{Moment}
use Rattle.kdb_base.specs.declared.keys.Etype.{Etype}
use Rattle.kdb_base.specs.declared.moments.Point.{Point}
use Rattle.kdb_base.specs.declared.outcomes.Refusal.{Refusal}
use Rattle.kdb_base.specs.declared.outcomes.Refusal.TheVariants.{BadKeytab, BadName}
use Rattle.kdb_disk.specs.Files.{Files}
use Rattle.kdb_histories.proofs.Growing.{StaysValid}
use Rattle.kdb_histories.specs.Bridges.{IsStopOf}
use Rattle.kdb_histories.specs.Calls.{Call, HasTimeLeft, Load, Perform}
use Rattle.kdb_histories.specs.Leaving.{MayReach}
use Rattle.kdb_histories.specs.Seen.{Seen, answer_at, made_at, reset_point}
use Rattle.kdb_histories.specs.Sites.{Site, clock_at, state_of, wants_open}
use Rattle.kdb_histories.specs.Stages.{ShowsAt}
use Rattle.kdb_model.specs.Calls.{is_last}
use Rattle.kdb_model.specs.Laws.{IsMoment}
use Rattle.kdb_places.specs.Places.{Place, point_of}
use Rattle.kdb_plain.specs.declared.states.State.{State}
use Rattle.primary_core.proofs.Called.{call_leaves}
use Rattle.primary_core.proofs.Renewed.{time_ended}
use Rattle.primary_core.specs.Opened.{MayLeave}
use Rattle.primary_events.proofs.Coming.{stop_comes}
use Rattle.primary_loading.proofs.Loaded.{load_leaves}
use Rattle.primary_loading.specs.Loading.{load_time}
use Rattle.princ_name.specs.Names.{NameParts}
use Rattle.princ_name.specs.Realms.{IsRealm}
use Rattle.princ_rows.specs.Rows.{AreRows, RowLists}
use Rattle.row_keys.specs.Sound.{AreSound, HasState, Judged, judged}
use Rattle.run_events.proofs.Coming.{come, comes_behind, falls, stop_comes_down}
use Rattle.run_events.proofs.Opened.{IsReady}
use Rattle.run_events.specs.Coming.{HasCome}
use Rattle.session_base.specs.Draws.{Draws, behind_moment, block_in, moment_in}
use Rattle.stash_file.specs.Pieces.{Told as KeyTold}
use Rattle.store_files.specs.Found.{recovers}
use Rattle.store_files.specs.Recovery.{LeavesPart}

-- ---- one call

call_comes : (s : Site) (at : Seen) (call : Call) (c : Files) → IsOpenAt s at → wants_open call ≡ true
    → IsMoment (clock_at call)
    → MayLeave at.place at.state call c → HasCome s c
call_comes s at call c here open_ clock left =
    let may : MayReach here.stands.last.place (state_of s) call left.place =
    subst (λ (x : State). MayReach here.stands.last.place x call left.place) (sym here.state)
    (subst (λ (p : Place). MayReach p at.state call left.place) (sym here.place) left.may) in
    come (IsStopOf call) s c (stop_comes s here.stands call left.place c (here.up ∙ sym open_) clock may left.is)

-- the open primary crashes before it has changed anything
still_comes : (s : Site) (at : Seen) (c : Files) → IsReady s at → recovers c ≡ Ok at.place → HasCome s c
still_comes s at c ready is =
    comes_behind s ready.opened.new c ready.opened.runs (falls ready.opened.new at c ready.opened.stays is)

-- ---- lines

abbrev commands_told : Option Asked → List ℕ → List ℕ → List Asked
commands_told None realm text = map (asked_in realm) (seen_lines text)
commands_told (Some asked) realm text = asked ∷ []

are_told : (its : Option Asked) (realm text : List ℕ)
    → commands_for its realm (Some text) ≡ Some (commands_told its realm text)
are_told None realm text = refl
are_told (Some asked) realm text = refl

reached_so : (commands : Option (List Asked)) (draws : Option Draws) (at : Seen) (c : Files) (cs : List Asked)
    (d : Draws) → commands ≡ Some cs → draws ≡ Some d
    → leaves_by commands draws at c → RecoversWhere (IsReached cs d at) c
reached_so commands draws at c cs d are told h =
    subst (λ (x : Option (List Asked)). leaves_by x (Some d) at c) are
    (subst (λ (x : Option Draws). leaves_by commands x at c) told h)

pub lines_come : StaysValid → (s : Site) (at : Seen) (its : Option Asked) (before : Told) (text : List ℕ) (d : Draws)
    (c : Files) → IsReady s at → ShowsAt at.place at.state
    → before.left ≡ Some text → before.draws ≡ Some d → Leaves (course_behind its before at) c → HasCome s c
unfolding Leaves
lines_come valid s at its before text d c ready shows left draws h =
    let realm = at.place.realm in
    let commands = commands_told its realm text in
    let told = behind_moment d in
    let r = reached_so (commands_for its realm before.left) (behind AMoment before.draws) at c commands told
    (ap (commands_for its realm) left ∙ are_told its realm text) (ap (behind AMoment) draws) h in
    let one = ready.opened in
    comes_behind s one.new c one.runs
    (stop_comes_down one.new r.place c (lines_stop valid commands told one.new at r.place one.stays
    (record { shows = shows; room = ready.room }) r.reached) r.is)

-- ---- a load

-- sound rows show a state
pub record ShowSome : Type 0 where
  pub some : (j : Judged) (rows : RowLists) (point : Point) → AreRows rows → IsRealm j.realm → AreSound j rows
      → HasState j rows point

-- what is judged a dump has rows
pub record DumpsHaveRows : Type 0 where
  pub spelled : (text : List ℕ) (dump : Dump) → judged_text text ≡ Ok dump → IsDumpText text dump

load_moment : (clock : Moment) (p : Place) → HasTimeLeft p → load_time clock p ≡ (reset_point clock p).time
load_moment clock p left = by (is_last (point_of p).time) refl
  where
    by : (b : Bool) → is_last (point_of p).time ≡ b → load_time clock p ≡ (reset_point clock p).time
    by true last = absurd (time_ended (point_of p).time last left)
    by false more = ap (λ (b : Bool). if b then (point_of p).time else (reset_point clock p).time) more

-- the dump that is loaded
record IsOfText (text : List ℕ) (p : Place) (clock : Moment) (dump : Dump) : Type 0 where
  is : judged_text text ≡ Ok dump
  loadable : IsLoadable p clock dump

of_text : (text : List ℕ) (p : Place) (file : ℕ) (clock : Moment) (dump : Dump) (r : Result Dump ℕ)
    → judged_text text ≡ r → LoadsTo p file clock r (Loaded dump)
    → IsOfText text p clock dump
of_text text p file clock dump (Err line) is to = let same : ◌≡◌ {A = LoadEnd} (Loaded dump) (NotLoaded _) =
    to in absurd cc
of_text text p file clock dump (Ok other) is to = record {
  is = is ∙ ap Ok (sym to.0);
  loadable = subst (IsLoadable p clock) (sym to.0) to.1;
}

module _ (law : ShowSome) (dumps : DumpsHaveRows) (s : Site) (at : Seen) (ready : IsReady s at)
    (shows : ShowsAt at.place at.state) (clock : Moment) (moment : IsMoment clock) where
  filled : (text : List ℕ) (dump : Dump) → (l : IsOfText text at.place clock dump)
      → HasState (judged l.loadable.masters at.place.realm (reset_point clock at.place).time.secs) dump.rows
      (reset_point clock at.place)
  filled text dump l =
      let p = at.place in
      law.some (judged l.loadable.masters p.realm (reset_point clock p).time.secs) dump.rows (reset_point clock p)
      (dumps.spelled text dump l.is).is_dump.rows (subst IsRealm shows.realm shows.valid.realm)
      (subst (λ (m : Moment). AreSound (judged l.loadable.masters p.realm m.secs) dump.rows)
      (load_moment clock p l.loadable.left) l.loadable.takes.rows.sound)

  end_comes : (text : List ℕ) (file : ℕ) (end : LoadEnd) (c : Files)
      → LoadsTo at.place file clock (judged_text text) end → LeavesPart at.place (places_loaded end clock at.place) c
      → HasCome s c
  unfolding LeavesPart
  end_comes text file (NotLoaded why) c to part = still_comes s at c ready part
  end_comes text file (Loaded dump) c to part =
      let l = of_text text at.place file clock dump (judged_text text) refl to in
      comes_behind s ready.opened.new c ready.opened.runs
      (call_comes ready.opened.new at (Load dump.rows clock) c ready.opened.stays refl moment
      (load_leaves at.place dump.rows l.loadable.masters (reset_point clock at.place) clock refl l.loadable.left
      at.state c (filled text dump l) part))

  load_told : (text : List ℕ) (file : ℕ) (what : Option LoadEnd) (draws : Draws) (c : Files) → moment_in draws ≡ clock
      → LoadsAt (Some text) at.place file clock what
      → LoadLeaves what (Some draws) at.place c → HasCome s c
  load_told text file None draws c same at_end h = absurd at_end
  load_told text file (Some end) draws c same at_end h =
      end_comes text file end c at_end
      (subst (λ (m : Moment). LeavesPart at.place (places_loaded end m at.place) c) same h)

  pub load_comes : (left : Option (List ℕ)) (text : List ℕ) (file : ℕ) (what : Option LoadEnd) (told : Option Draws)
      (draws : Draws) (c : Files)
      → left ≡ Some text → told ≡ Some draws → moment_in draws ≡ clock → LoadsAt left at.place file clock what
      → LoadLeaves what told at.place c → HasCome s c
  load_comes left text file what told draws c is told_is same at_end h =
      load_told text file what draws c same
      (subst (λ (x : Option (List ℕ)). LoadsAt x at.place file clock what) is at_end)
      (subst (λ (x : Option Draws). LoadLeaves what x at.place c) told_is h)

-- ---- new keys

module _ (s : Site) (at : Seen) (ready : IsReady s at) (draws : Draws) (moment : IsMoment (moment_in draws)) where
  renewal_comes : (w : Wanted) (entries : List KeyTold) (c : Files)
      → RenewedLeaves (Renewed (renewal_of w draws at entries)) at c → HasCome s c
  renewal_comes w entries c (inl is) = still_comes s at c ready is
  renewal_comes w entries c (inr done) =
      let ask = ask_for w (moment_in draws) (block_in draws) in
      comes_behind s ready.opened.new c ready.opened.runs
      (call_comes ready.opened.new at (Perform ask) c ready.opened.stays refl moment
      (call_leaves at.place at.state (Perform ask) (answer_at ask at) (made_at ask at) done.0 c done.1))

  none_comes : (why : Refusal) (c : Files) → RenewedLeaves (Renewed (no_renewal why draws at)) at c → HasCome s c
  unfolding LeavesPart
  none_comes why c (inl is) = still_comes s at c ready is
  none_comes why c (inr done) = still_comes s at c ready done.1

  told_comes : (w : Wanted) (text : List ℕ) (what : Renewing) (c : Files) → RenewsTold w (Some text) draws at what
      → RenewedLeaves what at c → HasCome s c
  told_comes w text (Untold other) c is h = absurd is
  told_comes w text (Renewed r) c (inl k) h =
      renewal_comes w k.entries c (subst (λ (x : Renewal). RenewedLeaves (Renewed x) at c) k.is h)
  told_comes w text (Renewed r) c (inr n) h =
      none_comes (BadKeytab n.place) c (subst (λ (x : Renewal). RenewedLeaves (Renewed x) at c) n.is h)

  pub keys_come : (name : Result NameParts ℕ) (etypes : List Etype) (left : Option (List ℕ)) (text : List ℕ)
      (reads : Bool) (what : Renewing) (c : Files)
      → left ≡ Some text → RenewsBy name etypes left draws at reads what → RenewedLeaves what at c → HasCome s c
  keys_come (Ok name) etypes left text reads what c is by h =
      let w = wanted (local_client at.place.realm) name etypes in
      told_comes w text what c (subst (λ (x : Option (List ℕ)). RenewsTold w x draws at what) is by.1) h
  keys_come (Err offset) etypes left text reads what c is by h =
      none_comes (BadName offset) c (subst (λ (x : Renewing). RenewedLeaves x at c) by.1 h)
