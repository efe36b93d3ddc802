-- Names rekeyed one after another.
use Rattle.std.proofs.Common.{◌≡◌, ◌∙◌, ◌<◌, ◌≤◌, ◌+◌, drop, get_or, length, cond, ℕ, suc}
use Rattle.std.proofs.Common.{List, [], ◌∷◌, ◌++◌, Bool, true, false, if◌then◌else◌}
use Rattle.std.proofs.Common.{append-nil, append_assoc, refl, ap, sym, subst, inl, inr, arith}
use Rattle.std.specs.Prelude.{Option, Some, None, Result, Ok, Err, IfOk, IfSome, option_map, ⊤}
use Rattle.std.specs.List.{All, Contains, filter}
use Rattle.std.proofs.lemmas.List.{drop_more}
use Rattle.std.proofs.lemmas.List.Elements.{All-filter, All-map, All-same, All-weaker}
use Rattle.primary_answers.specs.Listing.{is_told, names_told}
use Rattle.princ_record.specs.RowLimits.{IsRow}
use Rattle.princ_record.specs.declared.princs.Princ.{Princ}
use Rattle.princ_rows.specs.Rows.{AreRows, RowLists, princ_keys}
use Rattle.iprop_truths.specs.Parts.{end_of}
use Rattle.kadm_commands.specs.declared.replies.Reply.TheVariants as reply
use Rattle.kadm_commands.specs.declared.replies.Totals.{Totals}
use Rattle.kdb_base.specs.Moment.{Moment}
use Rattle.kdb_base.specs.declared.outcomes.Refusal.{Refusal}
use Rattle.kdb_disk.specs.Files.{Files}
use Rattle.kdb_disk.specs.Frames.{IsCrashSafe}
use Rattle.kdb_disk.specs.declared.disk.Disk.{Ghosts}
use Rattle.kdb_disk.proofs.Runs.{then_on, weaken}
use Rattle.kdb_histories.specs.Asks.{Answer, Ask, Moved, NotMoved}
use Rattle.kdb_histories.specs.Calls.{Call, Perform}
use Rattle.kdb_histories.specs.Leaving.{Does}
use Rattle.kdb_histories.specs.Seen.{Keep, Plan, Put, Seen, Write, after_ask, answer_at}
use Rattle.kdb_histories.specs.Seen.{is_due, made_at, made_by, plan_at, seen}
use Rattle.kdb_histories.specs.Stages.{Stage, places}
use Rattle.kdb_places.specs.Places.{Place}
use Rattle.kdb_plain.specs.declared.states.State.{State}
use Rattle.kdb_ports.specs.Told.{later_bytes}
use Rattle.primary_core.specs.Opened.{HasState, MayLeave, Opened, place_of}
use Rattle.princ_name.proofs.OwnNames.{said_name}
use Rattle.princ_name.specs.Names.{IsName, NameParts, printed}
use Rattle.princ_name.specs.Printed.{IsPrinted}
use Rattle.princ_name.specs.Readings.{name_said}
use Rattle.princ_name.specs.Spelling.{Spells}
use Rattle.rekey_work.specs.declared.works.Settled.{Settled}
use Rattle.store_files.specs.Recovery.{LeavesPart, RecoversTo}
use Rattle.kadm_session.specs.Events.{AreRekeyings, IfGoesOn, IsDone, RecoversWhere, RekeyingsReach, ask_next}
use Rattle.kadm_session.specs.Deciding.{StandsAt}
use Rattle.session_base.specs.Draws.{bytes_of}
use Rattle.kadm_session.specs.Rekeying.{Progress, asked_more, begun, counted, one_more, progress, refused_by}
use Rattle.kadm_session.specs.Rekeying.{rekey_ask, rekeyed, rekeyed_reply, tally, unless_refused}
use Rattle.kadm_session.specs.RekeyedNames.{AreRekeyed, IsMoved, IsMovedBy, IsMoveSafe, IsRekeyed}
use Rattle.kadm_session.specs.RekeyedNames.{IsRekeyedPart, IsRekeyedSafe, totals_unless}
use Rattle.kadm_session.proofs.Leaving.{crash_made, done_own}

-- ---- names

-- a printed name is read as the name that prints so
pub printed_said : ((name : NameParts) (given : List ℕ) → IsName name → Spells (printed name) given name)
    → (word : List ℕ) → IsPrinted word → printed (name_said word []) ≡ word
printed_said law word is =
    ap printed (said_name word [] is.0 (subst (λ (w : List ℕ). Spells w [] is.0) (sym is.1.1) (law is.0 [] is.1.0)))
    ∙ sym is.1.1

-- the names of rows are printed ones, and few
pub told_printed : (glob : Option (List ℕ)) (names : List (List ℕ)) (r : RowLists)
    → names ≡ names_told glob (princ_keys r.princs) → AreRows r → All IsPrinted names
unfolding names_told
told_printed glob names r is rows =
    All-same IsPrinted names (names_told glob (princ_keys r.princs)) is
    (All-filter (is_told glob) IsPrinted (princ_keys r.princs)
    (All-map IsPrinted (λ (p : Princ). p.name) r.princs
    (All-weaker IsRow (λ (p : Princ). IsPrinted p.name) (λ p row. row.fits.name) r.princs rows.princs)))

filter_few : (test : List ℕ → Bool) (names : List (List ℕ)) → length (filter test names) ≤ length names
filter_few test [] = omega arith
filter_few test (name ∷ names) = one (test name) (filter_few test names)
  where
    one : (b : Bool) → length (filter test names) ≤ length names
        → length (cond b (name ∷ filter test names) (filter test names)) ≤ length (name ∷ names)
    one true few = omega (arith, few)
    one false few = omega (arith, few)

keys_many : (princs : List Princ) → length (princ_keys princs) ≡ length princs
keys_many [] = refl
keys_many (p ∷ princs) = omega (arith, keys_many princs)

pub told_few : (glob : Option (List ℕ)) (names : List (List ℕ)) (r : RowLists)
    → names ≡ names_told glob (princ_keys r.princs) → AreRows r → length names < 4294967295
unfolding names_told
told_few glob names r is rows =
    omega (arith, ap length is, filter_few (is_told glob) (princ_keys r.princs), keys_many r.princs, rows.few)

-- ---- places

pub part_front : (p : Place) (made more : List Place) (c : Files) → LeavesPart p made c → LeavesPart p (made ++ more) c
unfolding LeavesPart
part_front p [] [] c is = is
part_front p [] (q ∷ more) c is = inl is
part_front p (q ∷ made) more c (inl is) = inl is
part_front p (q ∷ made) more c (inr rest) = inr (part_front q made more c rest)

pub part_back : (p : Place) (made more : List Place) (c : Files) → LeavesPart (end_of p made) more c
    → LeavesPart p (made ++ more) c
unfolding LeavesPart
part_back p [] more c part = part
part_back p (q ∷ made) more c part = inr (part_back q made more c part)

pub end_append : (p : Place) (made more : List Place) → end_of p (made ++ more) ≡ end_of (end_of p made) more
end_append p [] more = refl
end_append p (q ∷ made) more = end_append q made more

end_among : (p : Place) (made more : List Place) → Contains (p ∷ made ++ more) (end_of p made)
end_among p [] more = (0, omega arith, refl)
end_among p (q ∷ made) more = let later = end_among q made more in (suc later.0, omega (arith, later.1), later.2)

realm_due : (due : Bool) (p first second other : Place) (a b d : Stage) → a.place.realm ≡ p.realm
    → b.place.realm ≡ p.realm → d.place.realm ≡ p.realm
    → (end_of p (places (if due then a ∷ b ∷ [] else d ∷ []))).realm ≡ p.realm
realm_due true p first second other a b d e f h = f
realm_due false p first second other a b d e f h = h

realm_made : (ask : Ask) (plan : Plan) (p : Place) → (end_of p (places (made_by ask plan p))).realm ≡ p.realm
realm_made ask Keep p = refl
realm_made ask (Put op) p = realm_due (is_due op p) p p p p _ _ _ refl refl refl
realm_made ask (Write bytes) p = refl

-- ---- one name

stands_moved : (ask : Ask) (o new : Opened) (s : State) (answer : Answer)
    → Does (place_of o) s (Perform ask) answer (place_of new)
    → HasState new (after_ask ask (seen (place_of o) s)).state → StandsAt new (after_ask ask (seen (place_of o) s))
stands_moved ask o new s answer does has = record {
  place_is = does.is ∙ ap (λ (made : List Stage). end_of (place_of o) (places made)) does.makes.is;
  shows = has;
}

moved_by : (ask : Ask) (o new : Opened) (s : State) (answer : Answer) (totals : Totals) (done : Result Totals Refusal)
    → done ≡ totals_unless (refused_by answer) (tally answer totals)
    → Does (place_of o) s (Perform ask) answer (place_of new) → HasState new (after_ask ask (seen (place_of o) s)).state
    → IsMoved ask totals (seen (place_of o) s) done new
moved_by ask o new s answer totals done is does has = record {
  stands = stands_moved ask o new s answer does has;
  done_is = is ∙ ap (λ (a : Answer). totals_unless (refused_by a) (tally a totals)) does.makes.answers;
  performs = done_own (place_of o) s ask answer does.made does.makes;
}

pub moved_on : (ask : Ask) (o new : Opened) (s : State) (settled : Settled) (totals more : Totals)
    → more ≡ counted settled totals
    → Does (place_of o) s (Perform ask) (Moved settled) (place_of new)
    → HasState new (after_ask ask (seen (place_of o) s)).state
    → IsMoved ask totals (seen (place_of o) s) (Ok more) new
moved_on ask o new s settled totals more is does has =
    moved_by ask o new s (Moved settled) totals (Ok more) (ap (λ (t : Totals). Ok t) is) does has

pub moved_not : (ask : Ask) (o new : Opened) (s : State) (why : Refusal) (totals : Totals)
    → Does (place_of o) s (Perform ask) (NotMoved why) (place_of new)
    → HasState new (after_ask ask (seen (place_of o) s)).state
    → IsMoved ask totals (seen (place_of o) s) (Err why) new
moved_not ask o new s why totals does has = moved_by ask o new s (NotMoved why) totals (Err why) refl does has

-- one event keeps the realm
pub moved_realm : (ask : Ask) (o new : Opened) (s : State) (totals : Totals) (done : Result Totals Refusal)
    → IsMoved ask totals (seen (place_of o) s) done new → (place_of new).realm ≡ (place_of o).realm
moved_realm ask o new s totals done moved =
    ap (λ (p : Place). p.realm) moved.stands.place_is ∙ realm_made ask (plan_at ask (seen (place_of o) s)) (place_of o)

made_told : Moment → List ℕ → Seen → Option (ℕ → ℕ) → List Place
made_told clock word at None = []
made_told clock word at (Some stream) = places (made_at (rekey_ask clock (bytes_of 512 stream) word) at)

made_told_so : (clock : Moment) (word : List ℕ) (at : Seen) (told : Option (ℕ → ℕ))
    → IfSome told (λ stream.
    made_told clock word at told ≡ places (made_at (rekey_ask clock (bytes_of 512 stream) word) at))
unfolding made_told
made_told_so clock word at None = tt
made_told_so clock word at (Some stream) = refl

-- nothing was drawn, and nothing was done
pub move_still : {D : Type 0} (g : Ghosts D) (old new : D) (word : List ℕ) (clock : Moment) (told : Option (ℕ → ℕ))
    (p : Place) (s : State)
    → ((made : List Place) → IsCrashSafe g old new (LeavesPart p made))
    → ((call : Call) → IsCrashSafe g old new (MayLeave p s call)) → IsMoveSafe g old new word clock told (seen p s)
move_still g old new word clock told p s safe may = record {
  made = made_told clock word (seen p s) told;
  are = made_told_so clock word (seen p s) told;
  safe = safe (made_told clock word (seen p s) told);
  reaches = by told;
}
  where
    by : (t : Option (ℕ → ℕ)) → IfSome t
        (λ stream. IsCrashSafe g old new (MayLeave p s (Perform (rekey_ask clock (bytes_of 512 stream) word))))
    by None = tt
    by (Some stream) = may (Perform (rekey_ask clock (bytes_of 512 stream) word))

-- with the bytes that were drawn
drawn_safe : {D : Type 0} (g : Ghosts D) (mid new : D) (word : List ℕ) (clock : Moment) (p : Place) (s : State)
    (left : Option (ℕ → ℕ)) (random : List ℕ)
    → IfSome left (λ stream. random ≡ bytes_of 512 stream)
    → IsCrashSafe g mid new (MayLeave p s (Perform (rekey_ask clock random word)))
    → IfSome left (λ stream.
    IsCrashSafe g mid new (MayLeave p s (Perform (rekey_ask clock (bytes_of 512 stream) word))))
drawn_safe g mid new word clock p s None random drawn safe = tt
drawn_safe g mid new word clock p s (Some stream) random drawn safe =
    subst (λ (r : List ℕ). IsCrashSafe g mid new (MayLeave p s (Perform (rekey_ask clock r word)))) drawn safe

-- whether it was done or not, with these bytes
pub move_drawn : {D : Type 0} (g : Ghosts D) (old new : D) (word : List ℕ) (clock : Moment) (told : Option (ℕ → ℕ))
    (p : Place) (s : State) (random : List ℕ)
    → IfSome told (λ stream. random ≡ bytes_of 512 stream)
    → IsCrashSafe g old new (MayLeave p s (Perform (rekey_ask clock random word)))
    → IsMoveSafe g old new word clock told (seen p s)
move_drawn g old new word clock told p s random drawn safe = record {
  made = places (made_at (rekey_ask clock random word) (seen p s));
  are = by told drawn;
  safe = crash_made g old new (rekey_ask clock random word) p s safe;
  reaches = drawn_safe g old new word clock p s told random drawn safe;
}
  where
    by : (t : Option (ℕ → ℕ)) → IfSome t (λ stream. random ≡ bytes_of 512 stream)
        → IfSome t (λ stream. places (made_at (rekey_ask clock random word) (seen p s))
        ≡ places (made_at (rekey_ask clock (bytes_of 512 stream) word) (seen p s)))
    by None d = tt
    by (Some stream) d = ap (λ (r : List ℕ). places (made_at (rekey_ask clock r word) (seen p s))) d

-- ---- one name after another

-- What is left comes to what all of them come to, and what it reaches they reach.
pub record IsGoing (words rest : List (List ℕ)) (clock : Moment) (stream : ℕ → ℕ) (at : Seen) (totals : Totals)
    (made : List Place) (later : Seen) (left : Option (ℕ → ℕ)) : Type 0 where
  pub now : ℕ → ℕ
  pub left_is : left ≡ Some now
  pub comes : rekeyed rest clock (progress later made totals None now) ≡ rekeyed words clock (begun at stream)
  pub performed : AreRekeyings rest clock (progress later made totals None now)
      → AreRekeyings words clock (begun at stream)
  pub reaches : (q : Place) → RekeyingsReach rest clock (progress later made totals None now) q
      → RekeyingsReach words clock (begun at stream) q

abbrev pub AreGoing : List (List ℕ) → List (List ℕ) → Moment → Option (ℕ → ℕ) → Seen → Totals → List Place → Seen
    → Option (ℕ → ℕ) → Type 0
AreGoing words rest clock None at totals made later left = left ≡ None
AreGoing words rest clock (Some stream) at totals made later left =
    IsGoing words rest clock stream at totals made later left

-- where they are told, a crash leaves a place that all of them reach
abbrev pub AreReached : {D : Type 0} → Ghosts D → D → D → List (List ℕ) → Moment → Option (ℕ → ℕ) → Seen → Type 0
AreReached g old now words clock told at =
    IfSome told (λ stream. IsCrashSafe g old now (RecoversWhere (RekeyingsReach words clock (begun at stream))))

-- So many were rekeyed: what is left comes to what all of them come to.
pub record IsUnderway {D : Type 0} (g : Ghosts D) (old now : D) (words rest : List (List ℕ)) (clock : Moment)
    (told : Option (ℕ → ℕ)) (at : Seen) (totals : Totals) (o : Opened) (left : Option (ℕ → ℕ)) : Type 0 where
  pub state : State
  pub has : HasState o state
  pub made : List Place
  pub ends : place_of o ≡ end_of at.place made
  pub safe : IsCrashSafe g old now (LeavesPart at.place made)
  pub reaches : AreReached g old now words clock told at
  pub goes : AreGoing words rest clock told at totals made (seen (place_of o) state) left

going_first : (words : List (List ℕ)) (clock : Moment) (told : Option (ℕ → ℕ)) (at : Seen)
    → AreGoing words words clock told at (record { updated = 0; already = 0; gone = 0 }) [] at told
going_first words clock None at = refl
going_first words clock (Some stream) at =
    record { now = stream; left_is = refl; comes = refl; performed = λ h. h; reaches = λ q h. h }

first_reached : (words : List (List ℕ)) (clock : Moment) (p : Progress) → RekeyingsReach words clock p p.at.place
unfolding RekeyingsReach
first_reached [] clock p = refl
first_reached (word ∷ words) clock p = inl (inl refl)

reached_first : {D : Type 0} (g : Ghosts D) (old : D) (words : List (List ℕ)) (clock : Moment) (told : Option (ℕ → ℕ))
    (p : Place) (s : State)
    → IsCrashSafe g old old (LeavesPart p []) → AreReached g old old words clock told (seen p s)
unfolding LeavesPart
reached_first g old words clock None p s safe = tt
reached_first g old words clock (Some stream) p s safe = record {
  told = λ tells. weaken (safe.told tells)
      (λ c is. record { place = p; is = is; reached = first_reached words clock (begun (seen p s) stream) });
}

pub underway_first : {D : Type 0} (g : Ghosts D) (old : D) (words : List (List ℕ)) (clock : Moment)
    (told : Option (ℕ → ℕ)) (o : Opened) (s : State) → HasState o s
    → IsCrashSafe g old old (LeavesPart (place_of o) [])
    → IsUnderway g old old words words clock told (seen (place_of o) s)
    (record { updated = 0; already = 0; gone = 0 }) o told
underway_first g old words clock told o s has safe = record {
  state = s;
  has = has;
  made = [];
  ends = refl;
  safe = safe;
  reaches = reached_first g old words clock told (place_of o) s safe;
  goes = going_first words clock told (seen (place_of o) s);
}

-- places behind those that were made
joined : {D : Type 0} (g : Ghosts D) (old mid new : D) (p q : Place) (made more : List Place) → q ≡ end_of p made
    → IsCrashSafe g old mid (LeavesPart p made) → IsCrashSafe g mid new (LeavesPart q more)
    → IsCrashSafe g old new (LeavesPart p (made ++ more))
joined g old mid new p q made more is first second = record {
  told = λ tells. then_on
      (weaken (first.told tells) (λ c part. part_front p made more c part))
      (second.told tells)
      (λ c part. part_back p made more c (subst (λ (x : Place). LeavesPart x more c) is part));
}

-- what was answered, where it was counted and where it was refused
not_refused : (why : Option Refusal) (t more : Totals) → Ok more ≡ totals_unless why t → (why ≡ None) × (t ≡ more)
not_refused None t more e = (refl, sym (ap value e))
  where
    value : Result Totals Refusal → Totals
    value (Ok x) = x
    value (Err why) = more
not_refused (Some why) t more e = absurd cc

is_refused : (why : Option Refusal) (t : Totals) (refusal : Refusal) → Err refusal ≡ totals_unless why t
    → why ≡ Some refusal
is_refused None t refusal e = absurd cc
is_refused (Some why) t refusal e = ap (λ (r : Result Totals Refusal). error r) (sym e)
  where
    error : Result Totals Refusal → Option Refusal
    error (Ok x) = None
    error (Err e) = Some e

goes_unless_none : (p later : Progress) → p.why ≡ None → later ≡ unless_refused p.why p later
goes_unless_none p later none = sym (ap (λ (w : Option Refusal). unless_refused w p later) none)

stops_where : (at : Seen) (made : List Place) (why : Option Refusal) (t : Totals) (stream : ℕ → ℕ) (refusal : Refusal)
    (later : Progress) → why ≡ Some refusal
    → unless_refused why (progress at made t why stream) later ≡ progress at made t (Some refusal) stream
stops_where at made why t stream refusal later some = rw some refl

-- a name was asked for with the bytes that came next
one_done : (word : List ℕ) (clock : Moment) (here : Seen) (totals : Totals) (made : List Place) (now : ℕ → ℕ)
    (random : List ℕ) → random ≡ bytes_of 512 now
    → IsDone (rekey_ask clock random word) here → IsDone (ask_next clock word (progress here made totals None now)) here
one_done word clock here totals made now random bytes done =
    subst (λ (r : List ℕ). IsDone (rekey_ask clock r word) here) bytes done

goes_behind : (why : Option Refusal) (Next End : Type 0) → why ≡ None → Next → IfGoesOn why Next End
goes_behind why Next End none next = subst (λ (w : Option Refusal). IfGoesOn w Next End) (sym none) next

-- where it was counted, the others go on from what it makes
next_is : (word : List ℕ) (clock : Moment) (here : Seen) (totals more : Totals) (made : List Place) (now : ℕ → ℕ)
    (random : List ℕ) (place : Place) → random ≡ bytes_of 512 now
    → refused_by (answer_at (rekey_ask clock random word) here) ≡ None
    → tally (answer_at (rekey_ask clock random word) here) totals ≡ more
    → place ≡ (after_ask (rekey_ask clock random word) here).place
    → progress (seen place (after_ask (rekey_ask clock random word) here).state)
    (made ++ places (made_at (rekey_ask clock random word) here)) more None (later_bytes 512 now)
    ≡ one_more clock word (progress here made totals None now)
next_is word clock here totals more made now random place bytes none same is =
    let ask = rekey_ask clock random word in
    (λ i. progress (seen (is i) (after_ask ask here).state) (made ++ places (made_at ask here)) (sym same i)
    (sym none i) (later_bytes 512 now))
    ∙ ap (λ (r : List ℕ). asked_more (rekey_ask clock r word) (progress here made totals None now)) bytes

going_next : (words : List (List ℕ)) (word : List ℕ) (rest : List (List ℕ)) (clock : Moment) (told : Option (ℕ → ℕ))
    (at here : Seen) (totals more : Totals) (made : List Place) (left left' : Option (ℕ → ℕ)) (random : List ℕ)
    (place : Place)
    → AreGoing words (word ∷ rest) clock told at totals made here left
    → IfSome left (λ stream. random ≡ bytes_of 512 stream) → left' ≡ option_map (later_bytes 512) left
    → Ok more ≡ totals_unless (refused_by (answer_at (rekey_ask clock random word) here))
    (tally (answer_at (rekey_ask clock random word) here) totals)
    → IsDone (rekey_ask clock random word) here
    → place ≡ (after_ask (rekey_ask clock random word) here).place
    → AreGoing words rest clock told at more (made ++ places (made_at (rekey_ask clock random word) here))
    (seen place (after_ask (rekey_ask clock random word) here).state) left'
unfolding rekeyed AreRekeyings RekeyingsReach
going_next words word rest clock None at here totals more made left left' random place going drawn later done performs
    is = later ∙ ap (option_map (later_bytes 512)) going
going_next words word rest clock (Some stream) at here totals more made left left' random place going drawn later
    done performs is =
    let now = going.now in
    let ask = rekey_ask clock random word in
    let p = progress here made totals None now in
    let bytes : random ≡ bytes_of 512 now =
    subst (λ (l : Option (ℕ → ℕ)). IfSome l (λ s. random ≡ bytes_of 512 s)) going.left_is drawn in
    let parts = not_refused (refused_by (answer_at ask here)) (tally (answer_at ask here) totals) more done in
    let next = next_is word clock here totals more made now random place bytes parts.0 parts.1 is in
    let none : (one_more clock word p).why ≡ None = sym (ap (λ (x : Progress). x.why) next) in
    let asked = one_done word clock here totals made now random bytes performs in
    record {
      now = later_bytes 512 now;
      left_is = later ∙ ap (option_map (later_bytes 512)) going.left_is;
      comes = ap (rekeyed rest clock) next
          ∙ goes_unless_none (one_more clock word p) (rekeyed rest clock (one_more clock word p)) none ∙ going.comes;
      performed = λ h. going.performed (
        asked,
        goes_behind (one_more clock word p).why (AreRekeyings rest clock (one_more clock word p)) ⊤ none
            (subst (AreRekeyings rest clock) next h),
      );
      reaches = λ q h. going.reaches q (inr (
        asked,
        goes_behind (one_more clock word p).why (RekeyingsReach rest clock (one_more clock word p) q) ⊥ none
            (subst (λ (x : Progress). RekeyingsReach rest clock x q) next h),
      ));
    }

-- what a crash leaves of one more is what all of them reach
reached_inside : {D : Type 0} (g : Ghosts D) (old mid new : D) (words : List (List ℕ))
    (word : List ℕ) (rest : List (List ℕ)) (clock : Moment) (told : Option (ℕ → ℕ)) (at : Seen) (p : Place) (s : State)
    (totals : Totals) (made : List Place) (left : Option (ℕ → ℕ))
    → AreReached g old mid words clock told at → AreGoing words (word ∷ rest) clock told at totals made (seen p s) left
    → IfSome left (λ stream.
    IsCrashSafe g mid new (MayLeave p s (Perform (rekey_ask clock (bytes_of 512 stream) word))))
    → AreReached g old new words clock told at
unfolding RekeyingsReach
reached_inside g old mid new words word rest clock None at p s totals made left was going safe = tt
reached_inside g old mid new words word rest clock (Some stream) at p s totals made left was going safe =
    let now = going.now in
    let ask = rekey_ask clock (bytes_of 512 now) word in
    let one : IsCrashSafe g mid new (MayLeave p s (Perform ask)) =
    subst (λ (l : Option (ℕ → ℕ)). IfSome l
    (λ b. IsCrashSafe g mid new (MayLeave p s (Perform (rekey_ask clock (bytes_of 512 b) word))))) going.left_is safe in
    record {
      told = λ tells. then_on (was.told tells) (one.told tells) (λ c leaves. record {
        place = leaves.place;
        is = leaves.is;
        reached = going.reaches leaves.place (inl leaves.may);
      });
    }

pub underway_next : {D : Type 0} (g : Ghosts D) (old mid new : D) (words : List (List ℕ)) (word : List ℕ)
    (rest : List (List ℕ)) (clock : Moment) (told : Option (ℕ → ℕ)) (at : Seen) (totals more : Totals) (o o' : Opened)
    (left left' : Option (ℕ → ℕ))
    → (was : IsUnderway g old mid words (word ∷ rest) clock told at totals o left)
    → IsMovedBy g mid new word clock left totals (seen (place_of o) was.state) (Ok more) o' left'
    → IsUnderway g old new words rest clock told at more o' left'
underway_next g old mid new words word rest clock told at totals more o o' left left' was moved =
    let here = seen (place_of o) was.state in
    let ask = rekey_ask clock moved.random word in
    let added = places (made_at ask here) in
    record {
      state = (after_ask ask here).state;
      has = moved.moved.stands.shows;
      made = was.made ++ added;
      ends = moved.moved.stands.place_is ∙ ap (λ (p : Place). end_of p added) was.ends
          ∙ sym (end_append at.place was.made added);
      safe = joined g old mid new at.place (place_of o) was.made added was.ends was.safe
          (crash_made g mid new ask (place_of o) was.state moved.safe);
      reaches = reached_inside g old mid new words word rest clock told at
          (place_of o) was.state totals was.made left was.reaches was.goes
          (drawn_safe g mid new word clock (place_of o) was.state left moved.random moved.drawn moved.safe);
      goes = going_next words word rest clock told at here totals more was.made left left' moved.random (place_of o')
          was.goes moved.drawn moved.rest moved.moved.done_is moved.moved.performs moved.moved.stands.place_is;
    }

-- ---- where it ends

going_refused : (words : List (List ℕ)) (word : List ℕ) (rest : List (List ℕ)) (clock : Moment) (told : Option (ℕ → ℕ))
    (at here : Seen) (totals : Totals) (made : List Place) (left left' : Option (ℕ → ℕ)) (random : List ℕ)
    (why : Refusal)
    → AreGoing words (word ∷ rest) clock told at totals made here left
    → IfSome left (λ stream. random ≡ bytes_of 512 stream) → left' ≡ option_map (later_bytes 512) left
    → Err why ≡ totals_unless (refused_by (answer_at (rekey_ask clock random word) here))
    (tally (answer_at (rekey_ask clock random word) here) totals)
    → AreRekeyed words clock told at (reply.Refused why) (after_ask (rekey_ask clock random word) here) left'
unfolding rekeyed
going_refused words word rest clock None at here totals made left left' random why going drawn later done =
    later ∙ ap (option_map (later_bytes 512)) going
going_refused words word rest clock (Some stream) at here totals made left left' random why going drawn later done =
    let now = going.now in
    let ask = rekey_ask clock random word in
    let added = made ++ places (made_at ask here) in
    let bytes : random ≡ bytes_of 512 now =
    subst (λ (l : Option (ℕ → ℕ)). IfSome l (λ s. random ≡ bytes_of 512 s)) going.left_is drawn in
    let refused = is_refused (refused_by (answer_at ask here)) (tally (answer_at ask here) totals) why done in
    let p = asked_more ask (progress here made totals None now) in
    let whole : progress (after_ask ask here) added (tally (answer_at ask here) totals) (Some why) (later_bytes 512 now)
    ≡ rekeyed words clock (begun at stream) =
    sym (stops_where (after_ask ask here) added (refused_by (answer_at ask here)) (tally (answer_at ask here) totals)
    (later_bytes 512 now) why (rekeyed rest clock p) refused)
    ∙ ap (λ (r : List ℕ). let p = asked_more (rekey_ask clock r word) (progress here made totals None now) in
    unless_refused p.why p (rekeyed rest clock p)) bytes
    ∙ going.comes in (
      ap rekeyed_reply whole,
      ap (λ (q : Progress). q.at) whole,
      later ∙ ap (option_map (later_bytes 512)) going.left_is ∙ ap (λ (q : Progress). Some q.stream) whole,
    )

-- it was the last of their events
performed_refused : (words : List (List ℕ)) (word : List ℕ) (rest : List (List ℕ)) (clock : Moment)
    (told : Option (ℕ → ℕ)) (at here : Seen) (totals : Totals) (made : List Place) (left : Option (ℕ → ℕ))
    (random : List ℕ) (why : Refusal)
    → AreGoing words (word ∷ rest) clock told at totals made here left
    → IfSome left (λ stream. random ≡ bytes_of 512 stream)
    → Err why ≡ totals_unless (refused_by (answer_at (rekey_ask clock random word) here))
    (tally (answer_at (rekey_ask clock random word) here) totals)
    → IsDone (rekey_ask clock random word) here
    → IfSome told (λ stream. AreRekeyings words clock (begun at stream))
unfolding AreRekeyings
performed_refused words word rest clock None at here totals made left random why going drawn done performs = tt
performed_refused words word rest clock (Some stream) at here totals made left random why going drawn done performs =
    let now = going.now in
    let ask = rekey_ask clock random word in
    let p = progress here made totals None now in
    let bytes : random ≡ bytes_of 512 now =
    subst (λ (l : Option (ℕ → ℕ)). IfSome l (λ s. random ≡ bytes_of 512 s)) going.left_is drawn in
    let refused = is_refused (refused_by (answer_at ask here)) (tally (answer_at ask here) totals) why done in
    let some : (one_more clock word p).why ≡ Some why =
    ap (λ (r : List ℕ). refused_by (answer_at (rekey_ask clock r word) here)) (sym bytes) ∙ refused in
    going.performed (
      one_done word clock here totals made now random bytes performs,
      subst (λ (w : Option Refusal). IfGoesOn w (AreRekeyings rest clock (one_more clock word p)) ⊤) (sym some) tt,
    )

-- a name was refused
pub rekeyed_refused : {D : Type 0} (g : Ghosts D) (old mid new : D) (words : List (List ℕ)) (word : List ℕ)
    (rest : List (List ℕ)) (clock : Moment) (told : Option (ℕ → ℕ)) (at : Seen) (totals : Totals) (why : Refusal)
    (o o' : Opened) (left left' : Option (ℕ → ℕ))
    → (was : IsUnderway g old mid words (word ∷ rest) clock told at totals o left)
    → IsMovedBy g mid new word clock left totals (seen (place_of o) was.state) (Err why) o' left'
    → IsRekeyed words clock told at (reply.Refused why) o' left'
rekeyed_refused g old mid new words word rest clock told at totals why o o' left left' was moved = record {
  later = after_ask (rekey_ask clock moved.random word) (seen (place_of o) was.state);
  stands = moved.moved.stands;
  are = going_refused words word rest clock told at (seen (place_of o) was.state) totals was.made left left'
      moved.random why was.goes moved.drawn moved.rest moved.moved.done_is;
  performed = performed_refused words word rest clock told at (seen (place_of o) was.state) totals was.made left
      moved.random why was.goes moved.drawn moved.moved.done_is moved.moved.performs;
}

going_all : (words : List (List ℕ)) (clock : Moment) (told : Option (ℕ → ℕ)) (at here : Seen) (totals : Totals)
    (made : List Place) (left : Option (ℕ → ℕ))
    → AreGoing words [] clock told at totals made here left
    → AreRekeyed words clock told at (reply.Rekeyed totals) here left
unfolding rekeyed
going_all words clock None at here totals made left going = going
going_all words clock (Some stream) at here totals made left going = (
  ap rekeyed_reply going.comes,
  ap (λ (q : Progress). q.at) going.comes,
  going.left_is ∙ ap (λ (q : Progress). Some q.stream) going.comes,
)

performed_all : (words : List (List ℕ)) (clock : Moment) (told : Option (ℕ → ℕ)) (at here : Seen) (totals : Totals)
    (made : List Place) (left : Option (ℕ → ℕ))
    → AreGoing words [] clock told at totals made here left
    → IfSome told (λ stream. AreRekeyings words clock (begun at stream))
unfolding AreRekeyings
performed_all words clock None at here totals made left going = tt
performed_all words clock (Some stream) at here totals made left going = going.performed tt

-- none is left
pub rekeyed_all : {D : Type 0} (g : Ghosts D) (old now : D) (words rest : List (List ℕ)) (clock : Moment)
    (told : Option (ℕ → ℕ)) (at : Seen) (totals : Totals) (o : Opened) (left : Option (ℕ → ℕ))
    → rest ≡ [] → IsUnderway g old now words rest clock told at totals o left
    → IsRekeyed words clock told at (reply.Rekeyed totals) o left
rekeyed_all g old now words rest clock told at totals o left none was =
    let here = seen (place_of o) was.state in
    let goes : AreGoing words [] clock told at totals was.made here left =
    subst (λ (r : List (List ℕ)). AreGoing words r clock told at totals was.made here left) none was.goes in
    record {
      later = here;
      stands = record { place_is = refl; shows = was.has };
      are = going_all words clock told at here totals was.made left goes;
      performed = performed_all words clock told at here totals was.made left goes;
    }

-- ---- a loop over the names

-- the name at a place, and those behind it
pub word_next : (names : List (List ℕ)) (i : ℕ) (item word : List ℕ) → i < length names → item ≡ get_or names i item
    → word ≡ item → drop i names ≡ word ∷ drop (i + 1) names
word_next names i item word lt is same =
    drop_more names i item lt ∙ ap (λ (w : List ℕ). w ∷ drop (i + 1) names) (sym (same ∙ is))

-- what holds of each of the names
pub word_has : (P : List ℕ → Type 0) (names : List (List ℕ)) (i : ℕ) (item word : List ℕ) → All P names
    → i < length names → item ≡ get_or names i item → word ≡ item → P word
word_has P names i item word all lt is same = subst P (sym (same ∙ is)) (all i item lt)

pub step_ok : {E : Type 0} (r : Result (Result Totals Refusal) E) (P : Result Totals Refusal → Type 0)
    (a b : Result Totals Refusal) → r ≡ Ok a → a ≡ b → IfOk r P → P b
step_ok {E} r P a b is same h = subst P same (subst (λ (x : Result (Result Totals Refusal) E). IfOk x P) is h)

-- the same, by the names that are left
pub underway_as : {D : Type 0} (g : Ghosts D) (old now : D) (words rest rest' : List (List ℕ)) (clock : Moment)
    (told : Option (ℕ → ℕ)) (at : Seen) (totals : Totals) (o : Opened) (left : Option (ℕ → ℕ))
    → rest ≡ rest' → IsUnderway g old now words rest clock told at totals o left
    → IsUnderway g old now words rest' clock told at totals o left
underway_as g old now words rest rest' clock told at totals o left same was = record {
  state = was.state;
  has = was.has;
  made = was.made;
  ends = was.ends;
  safe = was.safe;
  reaches = was.reaches;
  goes =
      subst (λ (r : List (List ℕ)). AreGoing words r clock told at totals was.made (seen (place_of o) was.state) left)
      same was.goes;
}

-- ---- what all of them make begins with what was made

more_unless : (why : Option Refusal) (made : List Place) (p later : Progress)
    → ((more : List Place) × (p.made ≡ made ++ more)) → ((more : List Place) × (later.made ≡ made ++ more))
    → (more : List Place) × ((unless_refused why p later).made ≡ made ++ more)
more_unless None made p later first second = second
more_unless (Some why) made p later first second = first

pub rekeyed_more : (words : List (List ℕ)) (clock : Moment) (p : Progress)
    → (more : List Place) × ((rekeyed words clock p).made ≡ p.made ++ more)
unfolding rekeyed
rekeyed_more [] clock p = ([], sym (append-nil p.made))
rekeyed_more (word ∷ words) clock p =
    let next = one_more clock word p in
    let added = places (made_at (rekey_ask clock (bytes_of 512 p.stream) word) p.at) in
    let others = rekeyed_more words clock next in
    more_unless next.why p.made next (rekeyed words clock next)
    (added, refl)
    (added ++ others.0, others.1 ∙ append_assoc p.made added others.0)

whole_made : List Place → List (List ℕ) → Moment → Seen → Option (ℕ → ℕ) → List Place
whole_made made words clock at None = made
whole_made made words clock at (Some stream) = (rekeyed words clock (begun at stream)).made

whole_made_so : (made : List Place) (words : List (List ℕ)) (clock : Moment) (at : Seen) (told : Option (ℕ → ℕ))
    → IfSome told (λ stream. whole_made made words clock at told ≡ (rekeyed words clock (begun at stream)).made)
unfolding whole_made
whole_made_so made words clock at None = tt
whole_made_so made words clock at (Some stream) = refl

whole_more : (words rest : List (List ℕ)) (clock : Moment) (told : Option (ℕ → ℕ)) (at here : Seen) (totals : Totals)
    (made : List Place) (left : Option (ℕ → ℕ))
    → AreGoing words rest clock told at totals made here left
    → (more : List Place) × (whole_made made words clock at told ≡ made ++ more)
unfolding whole_made
whole_more words rest clock None at here totals made left going = ([], sym (append-nil made))
whole_more words rest clock (Some stream) at here totals made left going =
    let others = rekeyed_more rest clock (progress here made totals None going.now) in
    (others.0, sym (ap (λ (q : Progress). q.made) going.comes) ∙ others.1)

front_safe : {D : Type 0} (g : Ghosts D) (old now : D) (p : Place) (made more whole : List Place) → whole ≡ made ++ more
    → IsCrashSafe g old now (LeavesPart p made) → IsCrashSafe g old now (LeavesPart p whole)
front_safe g old now p made more whole is safe = record {
  told = λ tells. weaken (safe.told tells)
      (λ c part. subst (λ (ps : List Place). LeavesPart p ps c) (sym is) (part_front p made more c part));
}

pub underway_safe : {D : Type 0} (g : Ghosts D) (old now : D) (words rest : List (List ℕ)) (clock : Moment)
    (told : Option (ℕ → ℕ)) (at : Seen) (totals : Totals) (o : Opened) (left : Option (ℕ → ℕ))
    → IsUnderway g old now words rest clock told at totals o left → IsRekeyedSafe g old now words clock told at
underway_safe g old now words rest clock told at totals o left was =
    let more = whole_more words rest clock told at (seen (place_of o) was.state) totals was.made left was.goes in
    record {
      made = whole_made was.made words clock at told;
      are = whole_made_so was.made words clock at told;
      safe = front_safe g old now at.place was.made more.0 (whole_made was.made words clock at told) more.1 was.safe;
      reaches = was.reaches;
    }

next_more : (words : List (List ℕ)) (word : List ℕ) (rest : List (List ℕ)) (clock : Moment) (told : Option (ℕ → ℕ))
    (at here : Seen) (totals : Totals) (made added : List Place) (left : Option (ℕ → ℕ))
    → AreGoing words (word ∷ rest) clock told at totals made here left
    → IfSome left (λ stream. added ≡ places (made_at (rekey_ask clock (bytes_of 512 stream) word) here))
    → (more : List Place) × (whole_made (made ++ added) words clock at told ≡ (made ++ added) ++ more)
unfolding whole_made rekeyed
next_more words word rest clock None at here totals made added left going is = ([], sym (append-nil (made ++ added)))
next_more words word rest clock (Some stream) at here totals made added left going is =
    let next = one_more clock word (progress here made totals None going.now) in
    let others = rekeyed_more rest clock next in
    let now : added ≡ places (made_at (rekey_ask clock (bytes_of 512 going.now) word) here) =
    subst (λ (l : Option (ℕ → ℕ)).
    IfSome l (λ s. added ≡ places (made_at (rekey_ask clock (bytes_of 512 s) word) here))) going.left_is is in
    let step =
    more_unless next.why next.made next (rekeyed rest clock next) ([], sym (append-nil next.made)) others in (
      step.0,
      sym (ap (λ (q : Progress). q.made) going.comes) ∙ step.1
          ∙ ap (λ (a : List Place). (made ++ a) ++ step.0) (sym now),
    )

-- it stopped at a name
pub stopped_safe : {D : Type 0} (g : Ghosts D) (old mid new : D) (words : List (List ℕ)) (word : List ℕ)
    (rest : List (List ℕ)) (clock : Moment) (told : Option (ℕ → ℕ)) (at : Seen) (totals : Totals) (o : Opened)
    (left : Option (ℕ → ℕ))
    → (was : IsUnderway g old mid words (word ∷ rest) clock told at totals o left)
    → IsMoveSafe g mid new word clock left (seen (place_of o) was.state) → IsRekeyedSafe g old new words clock told at
stopped_safe g old mid new words word rest clock told at totals o left was move =
    let made = was.made ++ move.made in
    let more = next_more words word rest clock told at (seen (place_of o) was.state) totals was.made move.made left
    was.goes move.are in
    record {
      made = whole_made made words clock at told;
      are = whole_made_so made words clock at told;
      safe = front_safe g old new at.place made more.0 (whole_made made words clock at told) more.1
          (joined g old mid new at.place (place_of o) was.made move.made was.ends was.safe move.safe);
      reaches = reached_inside g old mid new words word rest clock told at
          (place_of o) was.state totals was.made left was.reaches was.goes move.reaches;
    }

among : (words rest : List (List ℕ)) (clock : Moment) (told : Option (ℕ → ℕ)) (at here : Seen) (totals : Totals)
    (made : List Place) (left : Option (ℕ → ℕ)) (place : Place)
    → place ≡ end_of at.place made → AreGoing words rest clock told at totals made here left
    → IfSome told (λ stream. Contains (at.place ∷ (rekeyed words clock (begun at stream)).made) place)
among words rest clock None at here totals made left place is going = tt
among words rest clock (Some stream) at here totals made left place is going =
    let others = rekeyed_more rest clock (progress here made totals None going.now) in
    subst (λ (p : Place). Contains (at.place ∷ (rekeyed words clock (begun at stream)).made) p) (sym is)
    (subst (λ (ps : List Place). Contains (at.place ∷ ps) (end_of at.place made))
    (sym others.1 ∙ ap (λ (q : Progress). q.made) going.comes)
    (end_among at.place made others.0))

-- it stopped before a name, and the disk has the place that it came to
pub rekeyed_part : {D : Type 0} (g : Ghosts D) (old mid new : D) (words rest : List (List ℕ)) (clock : Moment)
    (told : Option (ℕ → ℕ)) (at : Seen) (totals : Totals) (o o' : Opened) (left : Option (ℕ → ℕ))
    → IsUnderway g old mid words rest clock told at totals o left → place_of o' ≡ place_of o
    → (g.tells → RecoversTo (place_of o') (g.view new))
    → IsRekeyedPart g new words clock told at
rekeyed_part g old mid new words rest clock told at totals o o' left was same recovered = record {
  place = place_of o';
  among = among words rest clock told at (seen (place_of o) was.state) totals was.made left (place_of o')
      (same ∙ was.ends) was.goes;
  stands = recovered;
}

-- ---- all of them end at the last of the places

ends_unless : (why : Option Refusal) (q : Place) (p later : Progress) → p.at.place ≡ end_of q p.made
    → later.at.place ≡ end_of q later.made
    → (unless_refused why p later).at.place ≡ end_of q (unless_refused why p later).made
ends_unless None q p later first second = second
ends_unless (Some why) q p later first second = first

pub rekeyed_ends : (words : List (List ℕ)) (clock : Moment) (q : Place) (p : Progress) → p.at.place ≡ end_of q p.made
    → (rekeyed words clock p).at.place ≡ end_of q (rekeyed words clock p).made
unfolding rekeyed
rekeyed_ends [] clock q p is = is
rekeyed_ends (word ∷ words) clock q p is =
    let next = one_more clock word p in
    let added = places (made_at (rekey_ask clock (bytes_of 512 p.stream) word) p.at) in
    let here : next.at.place ≡ end_of q next.made =
    ap (λ (x : Place). end_of x added) is ∙ sym (end_append q p.made added) in
    ends_unless next.why q next (rekeyed words clock next) here (rekeyed_ends words clock q next here)
