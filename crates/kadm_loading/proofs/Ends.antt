-- What a load comes to, by what the call of the primary answered.
use Rattle.std.proofs.Common.{◌≡◌, ◌∙◌, ◌⊎◌, ℕ, List, [], ◌∷◌, refl, ap, sym, subst, inl, inr, Bool, true, false}
use Rattle.std.specs.Prelude.{Option, Some, Result, Ok, Err, IfOk, IfSome, OnErr, OnOk}
use Rattle.dump_text.specs.Judged.{judged}
use Rattle.dump_text.specs.declared.dumps.Dump.{Dump}
use Rattle.iprop_truths.specs.Parts.{IsPart, end_of}
use Rattle.kadm_commands.specs.declared.replies.Reply.TheVariants.{Done, Refused}
use Rattle.kadm_loading.specs.Loads.{ComesTo, HasComeTo, HasEnd, HasRows, LeavesSome, IsLoadCause}
use Rattle.kadm_loading.specs.Loads.{IsLoadable, LoadEnd, Loaded, LoadsAs, LoadsTo, NotLoaded}
use Rattle.kadm_loading.specs.Loads.{load_reply, load_stage, place_loaded, places_loaded}
use Rattle.kadm_replies.specs.Replies.{reply_text}
use Rattle.session_base.specs.Stages.{IsStopped}
use Rattle.session_base.specs.declared.halts.SessionHalt.{SessionHalt}
use Rattle.kdb_base.specs.Moment.{Moment}
use Rattle.kdb_base.specs.declared.moments.Point.{Point}
use Rattle.kdb_base.specs.declared.outcomes.Halt.{Halt}
use Rattle.kdb_base.specs.declared.outcomes.Halt.TheVariants.{MemoryOut}
use Rattle.kdb_base.specs.declared.outcomes.Refusal.{Refusal}
use Rattle.kdb_base.specs.declared.outcomes.Refusal.TheVariants.{DumpBad}
use Rattle.kdb_base.specs.declared.outcomes.Stop.{Stop}
use Rattle.kdb_base.specs.declared.outcomes.Stop.TheVariants as stop
use Rattle.kdb_base.specs.declared.versions.Master.{Master}
use Rattle.kdb_disk.proofs.Runs.{at_end, started, weaken}
use Rattle.kdb_disk.specs.Files.{Files}
use Rattle.kdb_disk.specs.Moments.{LeavesOnly}
use Rattle.kdb_disk.specs.View.{View}
use Rattle.kdb_histories.specs.Calls.{Load}
use Rattle.kdb_histories.specs.Leaving.{MayReach}
use Rattle.kdb_histories.specs.Seen.{reset_point}
use Rattle.kdb_histories.specs.Stages.{Stage, places}
use Rattle.kdb_places.specs.Places.{Place, replaced}
use Rattle.kdb_plain.specs.declared.states.State.{State}
use Rattle.kdb_ports.proofs.Told.{after_told-nil}
use Rattle.kdb_ports.specs.Parts.{SaidPart}
use Rattle.kdb_ports.specs.Told.{after_told}
use Rattle.primary_loading.specs.Opened.{MayLeave, Opened, place_of}
use Rattle.primary_loading.specs.Loading.{HasLoaded, LoadRefused, LoadsWith, MayLoad}
use Rattle.princ_rows.specs.Rows.{RowLists}
use Rattle.stash_opening.specs.Answers.{Refuses}
use Rattle.store_files.specs.Found.{recovers}
use Rattle.store_files.specs.Recovery.{LeavesPart, RecoversTo}

-- ---- the words of a place, and those of what is open

pub may_load : (o : Opened) (clock : Moment) (dump : Dump) → o.kept.broken ≡ false
    → (l : IsLoadable (place_of o) clock dump) → MayLoad o clock dump l.masters
may_load o clock dump whole l = record { whole = whole; takes = l.takes; left = l.left }

pub is_loadable : (o : Opened) (clock : Moment) (dump : Dump) (masters : List Master) → MayLoad o clock dump masters
    → IsLoadable (place_of o) clock dump
is_loadable o clock dump masters m = record { masters = masters; takes = m.takes; left = m.left }

pub refused_for : (o : Opened) (clock : Moment) (dump : Dump) (why : Refusal) → o.kept.broken ≡ false
    → IsLoadCause (place_of o) o.kept.control.stash clock dump why
    → LoadRefused o clock dump why
refused_for o clock dump why whole (inl cause) = inr (inl (record { whole = whole; cause = cause }))
refused_for o clock dump why whole (inr lacks) = inr (inr (record {
  whole = whole;
  masters = lacks.masters;
  takes = lacks.takes;
  ended = lacks.ended;
  why_is = lacks.why_is;
}))

pub is_cause : (o : Opened) (clock : Moment) (dump : Dump) (why : Refusal) → o.kept.broken ≡ false
    → LoadRefused o clock dump why
    → IsLoadCause (place_of o) o.kept.control.stash clock dump why
is_cause o clock dump why whole (inl closed) = let broken = sym whole ∙ closed.broken in absurd cc
is_cause o clock dump why whole (inr (inl refused)) = inl refused.cause
is_cause o clock dump why whole (inr (inr ends)) =
    inr (record { masters = ends.masters; takes = ends.takes; ended = ends.ended; why_is = ends.why_is })

-- ---- what a crash leaves

part_of : (p q : Place) (rows : RowLists) (clock : Moment) (c : Files) → recovers c ≡ Ok q
    → IsPart p (replaced p.realm rows (reset_point clock p) p ∷ []) q
    → LeavesPart p (replaced p.realm rows (reset_point clock p) p ∷ []) c
unfolding LeavesPart
part_of p q rows clock c is (inl same) = inl (is ∙ ap Ok same)
part_of p q rows clock c is (inr same) = inr (is ∙ ap Ok same)

reached : (p q : Place) (s : State) (rows : RowLists) (clock : Moment) (c : Files) → recovers c ≡ Ok q
    → MayReach p s (Load rows clock) q
    → LeavesPart p (replaced p.realm rows (reset_point clock p) p ∷ []) c
reached p q s rows clock c is (inl same) = part_of p q rows clock c is (inl same)
reached p q s rows clock c is (inr stops) =
    part_of p q rows clock c is (subst (λ (made : List Stage). IsPart p (places made) q) stops.makes.is stops.part)

pub load_leaves : (p : Place) (s : State) (rows : RowLists) (clock : Moment) (c : Files)
    → MayLeave p s (Load rows clock) c
    → LeavesPart p (replaced p.realm rows (reset_point clock p) p ∷ []) c
load_leaves p s rows clock c m = reached p m.place s rows clock c m.is m.may

-- whatever the input is
some_rows : (p q : Place) (s : State) (rows : RowLists) (clock : Moment) → MayReach p s (Load rows clock) q
    → (q ≡ p) ⊎ HasRows p q
some_rows p q s rows clock (inl same) = inl same
some_rows p q s rows clock (inr stops) =
    by (subst (λ (made : List Stage). IsPart p (places made) q) stops.makes.is stops.part)
  where
    by : IsPart p (replaced p.realm rows (reset_point clock p) p ∷ []) q → (q ≡ p) ⊎ HasRows p q
    by (inl same) = inl same
    by (inr same) = inr (record { rows = rows; base = reset_point clock p; is = same })

pub leaves_some : (p : Place) (s : State) (rows : RowLists) (clock : Moment) {before now : View}
    → LeavesOnly before now (MayLeave p s (Load rows clock)) → LeavesOnly before now (LeavesSome p)
leaves_some p s rows clock run =
    weaken run (λ c m. record { place = m.place; recovered = m.is; which = some_rows p m.place s rows clock m.may })

pub idle_some : (p : Place) (before now : View) → now ≡ before → RecoversTo p before
    → LeavesOnly before now (LeavesSome p)
idle_some p before now same stands = subst (λ (v : View). LeavesOnly before v (LeavesSome p)) (sym same)
    (started before (LeavesSome p) (λ c image. record { place = p; recovered = stands c image; which = inl refl }))

-- nothing was done
stays_part : (p : Place) (others : List Place) (c : Files) → recovers c ≡ Ok p → LeavesPart p others c
unfolding LeavesPart
stays_part p [] c is = is
stays_part p (q ∷ others) c is = inl is

pub idle_leaves : (p : Place) (others : List Place) (now : View) → RecoversTo p now
    → LeavesOnly now now (LeavesPart p others)
idle_leaves p others now stands = started now (LeavesPart p others) (λ c image. stays_part p others c (stands c image))

-- ---- where it stops

pub said_none : (text : List ℕ) (taken : Option (List ℕ)) → SaidPart text taken taken
said_none text taken = record { count = 0; part = sym (after_told-nil taken) }

-- nothing was written
pub stops_unsaid : (end : LoadEnd) (clock : Moment) (p : Place) (taken : Option (List ℕ)) {old now : View}
    → LeavesOnly old now (LeavesPart p (places_loaded end clock p))
    → IsStopped (load_stage end clock p taken) taken now
stops_unsaid end clock p taken run = record {
  first = p;
  others = places_loaded end clock p;
  may = inl (refl, refl, refl);
  stands = record { each = λ c image. at_end run c image };
}

-- a part was
pub stops_said : (end : LoadEnd) (clock : Moment) (p : Place) (taken out : Option (List ℕ)) (now : View)
    → SaidPart (reply_text (load_reply end clock p)) taken out → RecoversTo (place_loaded end clock p) now
    → IsStopped (load_stage end clock p taken) out now
stops_said end clock p taken out now part stands = record {
  first = place_loaded end clock p;
  others = [];
  may = inr (part, refl, refl);
  stands = record { each = λ c image. stays_part (place_loaded end clock p) [] c (stands c image) };
}

-- ---- it was loaded

-- the place that is open then
pub place_is : (old new : Opened) (rows : RowLists) (clock : Moment) → HasLoaded old new rows clock
    → place_of new ≡ replaced (place_of old).realm rows (reset_point clock (place_of old)) (place_of old)
place_is old new rows clock has = ap (λ (made : List Stage). end_of (place_of old) (places made)) has.loads.is

module _ (old new : Opened) (clock : Moment) (dump : Dump) (whole : old.kept.broken ≡ false)
    (never : (why : Refusal) → LoadRefused old clock dump why → ⊥)
    (has : HasLoaded old new dump.rows clock) (text : List ℕ)
    (is : text ≡ reply_text (Done (reset_point clock (place_of old)))) where
  pub loaded_as : (taken out : Option (List ℕ)) (refused : Bool) → out ≡ after_told taken text → refused ≡ false
      → (end : LoadEnd) → LoadsTo (place_of old) old.kept.control.stash clock (Ok dump) end
      → LoadsAs end clock old new taken out refused
  loaded_as taken out refused said done (Loaded other) to = record {
    out_is = said ∙ ap (after_told taken) is;
    refused_is = done;
    holds = subst (λ (d : Dump). HasLoaded old new d.rows clock) (sym to.0) has;
  }
  loaded_as taken out refused said done (NotLoaded why) to =
      absurd (never why (refused_for old clock dump why whole to))

  pub loaded_stops : (taken out : Option (List ℕ)) (now : View) → SaidPart text taken out
      → RecoversTo (place_of new) now
      → (end : LoadEnd) → LoadsTo (place_of old) old.kept.control.stash clock (Ok dump) end
      → IsStopped (load_stage end clock (place_of old) taken) out now
  loaded_stops taken out now part stands (Loaded other) to =
      stops_said (Loaded other) clock (place_of old) taken out now
      (subst (λ (t : List ℕ). SaidPart t taken out) is part)
      (subst (λ (q : Place). RecoversTo q now)
      (place_is old new dump.rows clock has ∙ ap (λ (d : Dump).
      replaced (place_of old).realm d.rows (reset_point clock (place_of old)) (place_of old)) (sym to.0)) stands)
  loaded_stops taken out now part stands (NotLoaded why) to =
      absurd (never why (refused_for old clock dump why whole to))

-- what a crash leaves, where it was loaded or the call was halted, unless there is a cause of a refusal
pub end_leaves : (old : Opened) (clock : Moment) (dump : Dump) (s : State) (before now : View) → old.kept.broken ≡ false
    → LeavesOnly before now (MayLeave (place_of old) s (Load dump.rows clock))
    → ((why : Refusal) → LoadRefused old clock dump why → LeavesOnly before now (LeavesPart (place_of old) []))
    → (end : LoadEnd) → LoadsTo (place_of old) old.kept.control.stash clock (Ok dump) end
    → LeavesOnly before now (LeavesPart (place_of old) (places_loaded end clock (place_of old)))
end_leaves old clock dump s before now whole run refused (Loaded other) to =
    subst (λ (d : Dump).
    LeavesOnly before now (LeavesPart (place_of old) (places_loaded (Loaded d) clock (place_of old)))) (sym to.0)
    (weaken run (λ c m. load_leaves (place_of old) s dump.rows clock c m))
end_leaves old clock dump s before now whole run refused (NotLoaded why) to =
    refused why (refused_for old clock dump why whole to)

-- ---- it was refused

module _ (old : Opened) (clock : Moment) (dump : Dump) (found : Refusal) (whole : old.kept.broken ≡ false)
    (not_loaded : (masters : List Master) → MayLoad old clock dump masters → ⊥)
    (only : (why : Refusal) → LoadRefused old clock dump why → found ≡ why) where
  pub refused_as : (new : Opened) (taken out : Option (List ℕ)) (refused : Bool) → new ≡ old
      → out ≡ after_told taken (reply_text (Refused found)) → refused ≡ true
      → (end : LoadEnd) → LoadsTo (place_of old) old.kept.control.stash clock (Ok dump) end
      → LoadsAs end clock old new taken out refused
  refused_as new taken out refused same said told (Loaded other) to =
      absurd (not_loaded to.1.masters (may_load old clock dump whole to.1))
  refused_as new taken out refused same said told (NotLoaded why) to = record {
    out_is = said ∙ ap (λ (r : Refusal). after_told taken (reply_text (Refused r)))
        (only why (refused_for old clock dump why whole to));
    refused_is = told;
    holds = same;
  }

  pub refused_stops : (taken out : Option (List ℕ)) (now : View) → SaidPart (reply_text (Refused found)) taken out
      → RecoversTo (place_of old) now
      → (end : LoadEnd) → LoadsTo (place_of old) old.kept.control.stash clock (Ok dump) end
      → IsStopped (load_stage end clock (place_of old) taken) out now
  refused_stops taken out now part stands (Loaded other) to =
      absurd (not_loaded to.1.masters (may_load old clock dump whole to.1))
  refused_stops taken out now part stands (NotLoaded why) to =
      stops_said (NotLoaded why) clock (place_of old) taken out now
      (subst (λ (r : Refusal). SaidPart (reply_text (Refused r)) taken out)
      (only why (refused_for old clock dump why whole to)) part) stands

-- ---- by what was answered

any_ok : {T E : Type 0} (r : Result T E) (P : Type 0) → P → OnOk r P
any_ok (Ok x) P p = p
any_ok (Err e) P p = tt

-- nothing was done to the disk
pub idle_same : (p : Place) (others : List Place) (before now : View) → now ≡ before → RecoversTo p before
    → LeavesOnly before now (LeavesPart p others)
idle_same p others before now same stands =
    subst (λ (v : View). LeavesOnly before v (LeavesPart p others)) (sym same) (idle_leaves p others before stands)

recovers_same : (p : Place) (before now : View) → now ≡ before → RecoversTo p before → RecoversTo p now
recovers_same p before now same stands = subst (λ (v : View). RecoversTo p v) (sym same) stands

module _ (old new : Opened) (clock : Moment) (dump : Dump) (answer : Result Point Stop)
    (whole : old.kept.broken ≡ false)
    (complete : (masters : List Master) → MayLoad old clock dump masters → LoadsWith answer new.masters masters)
    (only : (why : Refusal) → LoadRefused old clock dump why → Refuses answer why) where
  -- it was loaded
  module _ (point : Point) (is : answer ≡ Ok point) (has : HasLoaded old new dump.rows clock) (text : List ℕ)
      (text_is : text ≡ reply_text (Done (reset_point clock (place_of old)))) where
    never : (why : Refusal) → LoadRefused old clock dump why → ⊥
    never why cause = subst (λ (a : Result Point Stop). Refuses a why) is (only why cause)

    pub if_loaded_as : (taken out : Option (List ℕ)) (r : Result Bool SessionHalt)
        → OnOk r (out ≡ after_told taken text) → IfOk r (λ refused. refused ≡ false)
        → (end : LoadEnd) → LoadsTo (place_of old) old.kept.control.stash clock (Ok dump) end
        → IfOk r (LoadsAs end clock old new taken out)
    if_loaded_as taken out (Ok refused) said done end to =
        loaded_as old new clock dump whole never has text text_is taken out refused said done end to
    if_loaded_as taken out (Err halt) said done end to = tt

    pub if_loaded_stops : (taken out : Option (List ℕ)) (now : View) (r : Result Bool SessionHalt)
        → OnErr r (SaidPart text taken out) → RecoversTo (place_of new) now
        → (end : LoadEnd) → LoadsTo (place_of old) old.kept.control.stash clock (Ok dump) end
        → OnErr r (IsStopped (load_stage end clock (place_of old) taken) out now)
    if_loaded_stops taken out now (Ok refused) part stands end to = tt
    if_loaded_stops taken out now (Err halt) part stands end to =
        loaded_stops old new clock dump whole never has text text_is taken out now part stands end to

    pub loaded_leaves : (s : State) (before now : View)
        → LeavesOnly before now (MayLeave (place_of old) s (Load dump.rows clock))
        → (end : LoadEnd) → LoadsTo (place_of old) old.kept.control.stash clock (Ok dump) end
        → LeavesOnly before now (LeavesPart (place_of old) (places_loaded end clock (place_of old)))
    loaded_leaves s before now run end to =
        end_leaves old clock dump s before now whole run (λ why cause. absurd (never why cause)) end to

  -- it was refused
  module _ (found : Refusal) (is : answer ≡ Err (stop.Refused found)) where
    not_loaded : (masters : List Master) → MayLoad old clock dump masters → ⊥
    not_loaded masters may =
        subst (λ (a : Result Point Stop). LoadsWith a new.masters masters) is (complete masters may)

    for_this : (why : Refusal) → LoadRefused old clock dump why → found ≡ why
    for_this why cause = subst (λ (a : Result Point Stop). Refuses a why) is (only why cause)

    pub if_refused_as : (taken out : Option (List ℕ)) (told : Refusal) (r : Result Bool SessionHalt)
        → told ≡ found → new ≡ old
        → OnOk r (out ≡ after_told taken (reply_text (Refused told))) → IfOk r (λ refused. refused ≡ true)
        → (end : LoadEnd) → LoadsTo (place_of old) old.kept.control.stash clock (Ok dump) end
        → IfOk r (LoadsAs end clock old new taken out)
    if_refused_as taken out told (Ok refused) same keeps said is_true end to =
        refused_as old clock dump found whole not_loaded for_this new taken out refused keeps
        (said ∙ ap (λ (w : Refusal). after_told taken (reply_text (Refused w))) same) is_true end to
    if_refused_as taken out told (Err halt) same keeps said is_true end to = tt

    pub if_refused_stops : (taken out : Option (List ℕ)) (before now : View) (told : Refusal)
        (r : Result Bool SessionHalt) → told ≡ found → now ≡ before
        → OnErr r (SaidPart (reply_text (Refused told)) taken out) → RecoversTo (place_of old) before
        → (end : LoadEnd) → LoadsTo (place_of old) old.kept.control.stash clock (Ok dump) end
        → OnErr r (IsStopped (load_stage end clock (place_of old) taken) out now)
    if_refused_stops taken out before now told (Ok refused) same keeps part stands end to = tt
    if_refused_stops taken out before now told (Err halt) same keeps part stands end to =
        refused_stops old clock dump found whole not_loaded for_this taken out now
        (subst (λ (w : Refusal). SaidPart (reply_text (Refused w)) taken out) same part)
        (recovers_same (place_of old) before now keeps stands) end to

  -- it was halted
  pub halted_leaves : (halt : Halt) (s : State) (before now : View) → answer ≡ Err (stop.Halt halt)
      → LeavesOnly before now (MayLeave (place_of old) s (Load dump.rows clock))
      → (answer ≡ Err (stop.Halt MemoryOut) → now ≡ before) → RecoversTo (place_of old) before
      → (end : LoadEnd) → LoadsTo (place_of old) old.kept.control.stash clock (Ok dump) end
      → LeavesOnly before now (LeavesPart (place_of old) (places_loaded end clock (place_of old)))
  halted_leaves halt s before now is run still stands end to = end_leaves old clock dump s before now whole run
      (λ why cause.
      let memory : halt ≡ MemoryOut = subst (λ (a : Result Point Stop). Refuses a why) is (only why cause) in
      idle_same (place_of old) [] before now (still (is ∙ ap (λ (h : Halt). Err (stop.Halt h)) memory)) stands)
      end to

-- what the dump that was loaded came to
pub has_loaded : (o : Opened) (clock : Moment) (dump : Dump) (masters : List Master) (r : Result Bool SessionHalt)
    → MayLoad o clock dump masters → OnOk r (HasEnd o clock (Ok dump))
has_loaded o clock dump masters r may =
    any_ok r _ (record { end = Loaded dump; is = (refl, is_loadable o clock dump masters may) })

-- and the one that was refused
pub has_refused : (o : Opened) (clock : Moment) (dump : Dump) (why : Refusal) (r : Result Bool SessionHalt)
    → o.kept.broken ≡ false → LoadRefused o clock dump why
    → OnOk r (HasEnd o clock (Ok dump))
has_refused o clock dump why r whole cause =
    any_ok r _ (record { end = NotLoaded why; is = is_cause o clock dump why whole cause })

-- ---- a text that is no dump

bad_end : (p : Place) (file : ℕ) (clock : Moment) (read : Result Dump ℕ) (line : ℕ) (end : LoadEnd) → read ≡ Err line
    → LoadsTo p file clock read end → end ≡ NotLoaded (DumpBad line)
bad_end p file clock read line end is to = subst (λ (r : Result Dump ℕ). LoadsTo p file clock r end) is to

pub has_bad : (o : Opened) (clock : Moment) (read : Result Dump ℕ) (line : ℕ) (r : Result Bool SessionHalt)
    → read ≡ Err line → OnOk r (HasEnd o clock read)
has_bad o clock read line r is = any_ok r _ (record {
  end = NotLoaded (DumpBad line);
  is = subst (λ (x : Result Dump ℕ). LoadsTo (place_of o) o.kept.control.stash clock x (NotLoaded (DumpBad line)))
      (sym is) refl;
})

pub bad_stops : (o : Opened) (clock : Moment) (read : Result Dump ℕ) (line : ℕ) (taken out : Option (List ℕ))
    (now : View) (r : Result Bool SessionHalt) → read ≡ Err line
    → OnErr r (SaidPart (reply_text (Refused (DumpBad line))) taken out) → RecoversTo (place_of o) now
    → (end : LoadEnd) → LoadsTo (place_of o) o.kept.control.stash clock read end
    → OnErr r (IsStopped (load_stage end clock (place_of o) taken) out now)
bad_stops o clock read line taken out now (Ok refused) is part stands end to = tt
bad_stops o clock read line taken out now (Err halt) is part stands end to =
    subst (λ (e : LoadEnd). IsStopped (load_stage e clock (place_of o) taken) out now)
    (sym (bad_end (place_of o) o.kept.control.stash clock read line end is to))
    (stops_said (NotLoaded (DumpBad line)) clock (place_of o) taken out now part stands)

-- ---- what was read, and the moment that was given

pub read_comes : (o : Opened) (left : Option (List ℕ)) (moments : Option (ℕ → Moment)) (clock given : Moment)
    (end : LoadEnd) (read : Result Dump ℕ)
    → (to : ComesTo o left moments clock end) → ((text : List ℕ) → left ≡ Some text → read ≡ judged text)
    → given ≡ clock
    → LoadsTo (place_of o) o.kept.control.stash given read end
read_comes o left moments clock given end read to is same =
    subst (λ (m : Moment). LoadsTo (place_of o) o.kept.control.stash m read end) (sym same)
    (subst (λ (r : Result Dump ℕ). LoadsTo (place_of o) o.kept.control.stash clock r end)
    (sym (is to.text to.text_is)) to.end_is)

pub gave_clock : (o : Opened) (left : Option (List ℕ)) (moments : Option (ℕ → Moment)) (clock given : Moment)
    (end : LoadEnd)
    → ComesTo o left moments clock end → IfSome moments (λ f. given ≡ f 0) → given ≡ clock
gave_clock o left moments clock given end to first =
    subst (λ (ms : Option (ℕ → Moment)). IfSome ms (λ f. given ≡ f 0)) to.moments_are first ∙ sym to.clock_is

pub has_come : (o : Opened) (left : Option (List ℕ)) (moments : Option (ℕ → Moment)) (given : Moment)
    (read : Result Dump ℕ) (text : List ℕ) (told : ℕ → Moment)
    → left ≡ Some text → moments ≡ Some told → read ≡ judged text → IfSome moments (λ f. given ≡ f 0)
    → (r : Result Bool SessionHalt) → OnOk r (HasEnd o given read)
    → OnOk r (HasComeTo o left moments)
has_come o left moments given read text told left_is moments_are read_is first (Err halt) has = tt
has_come o left moments given read text told left_is moments_are read_is first (Ok refused) has = record {
  clock = given;
  end = has.end;
  is = record {
    text = text;
    text_is = left_is;
    told = told;
    moments_are = moments_are;
    clock_is = subst (λ (ms : Option (ℕ → Moment)). IfSome ms (λ f. given ≡ f 0)) moments_are first;
    end_is = subst (λ (r : Result Dump ℕ). LoadsTo (place_of o) o.kept.control.stash given r has.end) read_is has.is;
  };
}
