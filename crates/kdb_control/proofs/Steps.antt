-- How a run of calls on the control file goes on.
use Rattle.std.proofs.Common.{◌≡◌, ◌≢◌, ℕ, ◌≤◌, ◌<◌, ◌⊎◌, inl, inr, ⊎_elim, ◌+◌, List, [], ◌∷◌, ◌++◌, length}
use Rattle.std.proofs.Common.{get_or, take, drop, refl, sym, ◌∙◌, ap, subst, arith, length-drop, take-append-drop}
use Rattle.std.specs.Prelude.{Result, Ok, Err, OnOk, Option, Some, option_map}
use Rattle.std.proofs.lemmas.Bool.{cases_eq}
use Rattle.std.proofs.lemmas.List.{get_or-take, get_or-drop, drop-take, drop-drop}
use Rattle.kdb_disk.specs.Files.{Files, put}
use Rattle.kdb_disk.specs.View.{View, Torn, IsAfter, Looks}
use Rattle.kdb_disk.specs.Moments.{LeavesOnly, Stands, Keeps}
use Rattle.kdb_disk.proofs.Puts.{written-same, written-other, take-put, between-put}
use Rattle.kdb_disk.proofs.Puts.{length-put, put_split, get_or-put_before, get_or-put_behind}
use Rattle.kdb_disk.proofs.Runs.{started, then_on, weaken, at_end, looked}
use Rattle.kdb_disk.proofs.Runs.{stands_here, stands_other, no_shorter, stands_byte}
use Rattle.kdb_control.specs.declared.force.Force.{Force}
use Rattle.kdb_control.specs.declared.force.Force.TheVariants.{Is}
use Rattle.kdb_control.specs.Force.{in_force}
use Rattle.kdb_control.specs.Choice.{Choice}
use Rattle.kdb_control.specs.Bodies.{body, IsBody}
use Rattle.kdb_control.specs.Moments.{Leaves, LeavesEither, IsDurable, IsPlace, IsShut, IsReady}
use Rattle.kdb_control.specs.Moments.{IsFilled, HasInForce, IsFirst, without, force_of}
use Rattle.kdb_control.proofs.Effects.{gate_closed, shut_torn, begun_torn, without-put, gate_within}

-- nothing was done yet
leaves_now : {one : Force} {old : View} → IsDurable old → in_force (old.seen 0) ≡ one → (c : Files) → old.images c
    → Leaves one old c
leaves_now {old = old} durable is c now =
    record { before = c; was = now; others = λ g ne i. c g; here = ap in_force (durable.durable c now) ∙ is }

pub nothing_done : {one other : Force} {old : View} → IsDurable old → in_force (old.seen 0) ≡ one
    → LeavesOnly old old (LeavesEither one other old)
nothing_done {one} {other} {old} durable is =
    started old (LeavesEither one other old) (λ c now. inl (leaves_now durable is c now))

leaves_on : {one other force : Force} {old mid : View} {c : Files} → LeavesOnly old mid (LeavesEither one other old)
    → Leaves force mid c → Leaves force old c
leaves_on {force = force} {old = old} {c = c} run next =
    ⊎_elim
    (λ past. record {
      before = past.before;
      was = past.was;
      others = λ g ne. next.others g ne ∙ past.others g ne;
      here = next.here;
    })
    (λ past. record {
      before = past.before;
      was = past.was;
      others = λ g ne. next.others g ne ∙ past.others g ne;
      here = next.here;
    })
    (at_end run next.before next.was)

-- one run more
pub run_on : {one other : Force} {old mid new : View} → LeavesOnly old mid (LeavesEither one other old)
    → LeavesOnly mid new (LeavesEither one other mid) → LeavesOnly old new (LeavesEither one other old)
run_on run next = then_on run next (λ c has. ⊎_elim (λ l. inl (leaves_on run l)) (λ l. inr (leaves_on run l)) has)

-- what leaves the one leaves the one or another
pub or_other : {one other : Force} {old new : View} → LeavesOnly old new (LeavesEither one one old)
    → LeavesOnly old new (LeavesEither one other old)
or_other run = weaken run (λ c has. ⊎_elim (λ l. inl l) (λ l. inl l) has)

-- a torn write of the control file
pub torn_either : {one other : Force} {old new : View} (from n : ℕ) → IsDurable old
    → LeavesOnly old new (IsAfter (Torn 0 from n) old)
    → ((bytes : List ℕ) → length bytes ≤ n
    → (in_force (put from bytes (old.seen 0)) ≡ one) ⊎ (in_force (put from bytes (old.seen 0)) ≡ other))
    → LeavesOnly old new (LeavesEither one other old)
torn_either {one} {other} {old} {new} from n durable run forces = weaken run (λ c torn.
    let here : c 0 ≡ put from torn.went.bytes (old.seen 0) =
    ap (λ (files : Files). files 0) torn.went.is ∙ written-same 0 from torn.went.bytes torn.before
    ∙ ap (put from torn.went.bytes) (durable.durable torn.before torn.was) in
    let others : (g : ℕ) → g ≢ 0 → c g ≡ torn.before g =
    λ g ne. ap (λ (files : Files). files g) torn.went.is ∙ written-other 0 g from torn.went.bytes torn.before ne in
    ⊎_elim
    (λ is. inl (record { before = torn.before; was = torn.was; others = others; here = ap in_force here ∙ is }))
    (λ is. inr (record { before = torn.before; was = torn.was; others = others; here = ap in_force here ∙ is }))
    (forces torn.went.bytes torn.went.few))

-- calls that change no file
pub keeps_either : {one other : Force} {old new : View} → IsDurable old → in_force (old.seen 0) ≡ one → Keeps old new
    → LeavesOnly old new (LeavesEither one other old)
keeps_either durable is keeps = weaken keeps.leaves (λ c now. inl (leaves_now durable is c now))

pub durable_keeps : {old new : View} → IsDurable old → Keeps old new → IsDurable new
durable_keeps durable keeps = record {
  durable = λ c now. durable.durable c (at_end keeps.leaves c now) ∙ sym (ap (λ (files : Files). files 0) keeps.seen);
}

pub looks_keeps : {old new : View} → Looks old new → Keeps old new
looks_keeps {old} look = record { seen = look.seen; leaves = looked (started old old.images (λ c now. now)) look }

pub durable_stands : {old new : View} {from : ℕ} {bytes : List ℕ} → Stands 0 from bytes old new → IsDurable new
durable_stands stands = record { durable = stands.durable }

-- what a choice that is there has in force
pub force_some : {T : Type 0} (f : T → Choice) (o : Option T) (x : T) → o ≡ Some x
    → Is (f x) ≡ force_of (option_map f o)
force_some {T} f o x is = ap (λ (given : Option T). force_of (option_map f given)) (sym is)

pub same_force : {one same other : Force} {old new : View} → one ≡ same
    → LeavesOnly old new (LeavesEither one other old) → LeavesOnly old new (LeavesEither same other old)
same_force {other = other} {old = old} {new = new} is run =
    subst (λ (force : Force). LeavesOnly old new (LeavesEither force other old)) is run

-- calls that look come first
pub behind_look : {one other : Force} {old mid new : View} → IsDurable old → in_force (old.seen 0) ≡ one → Looks old mid
    → LeavesOnly mid new (LeavesEither one other mid) → LeavesOnly old new (LeavesEither one other old)
behind_look durable is look run = run_on (looked (nothing_done durable is) look) run

pub behind_keeps : {one other : Force} {old mid new : View} → IsDurable old → in_force (old.seen 0) ≡ one
    → Keeps old mid → LeavesOnly mid new (LeavesEither one other mid) → LeavesOnly old new (LeavesEither one other old)
behind_keeps durable is keeps run = run_on (keeps_either durable is keeps) run

-- every image has this in force
pub images_have : {one other : Force} {old : View} → HasInForce one old
    → LeavesOnly old old (LeavesEither one other old)
images_have {one} {other} {old} has = started old (LeavesEither one other old)
    (λ c now. inl (record { before = c; was = now; others = λ g ne i. c g; here = has c now }))

-- an open gate is closed
pub shut_either : {one other : Force} {old new : View} (at : ℕ) → IsPlace at → IsDurable old
    → in_force (old.seen 0) ≡ one → without at (old.seen 0) ≡ other
    → (get_or (old.seen 0) at 0 ≢ 165 → Keeps old new) → LeavesOnly old new (IsAfter (Torn 0 at 1) old)
    → LeavesOnly old new (LeavesEither one other old)
shut_either {old = old} at place durable is rest closed run = ⊎_elim
    (λ gate. torn_either at 1 durable run (λ bytes few. ⊎_elim (λ e. inl (e ∙ is)) (λ e. inr (e ∙ rest))
    (shut_torn at bytes (old.seen 0) place (gate_within at (old.seen 0) gate) gate few)))
    (λ other. keeps_either durable is (closed other))
    (cases_eq (get_or (old.seen 0) at 0) 165)

pub stands_shut : {old new : View} (at byte : ℕ) → IsPlace at → at ≤ length (old.seen 0)
    → Stands 0 at (byte ∷ []) old new → get_or (new.seen 0) at 0 ≢ 165 → IsShut at old new
stands_shut {old} {new} at byte place within stands gate = record {
  gate = gate;
  durable = durable_stands stands;
  others = λ g ne. stands_other g stands ne;
  rest = ap (without at) (stands_here stands)
      ∙ without-put at at (byte ∷ []) (old.seen 0) place (omega arith) (omega arith) within;
  front = ap (take at) (stands_here stands) ∙ take-put at at (byte ∷ []) (old.seen 0) (omega arith) within;
  long = no_shorter stands within;
}

keeps_shut : {old new : View} (at : ℕ) → IsDurable old → Keeps old new → get_or (new.seen 0) at 0 ≢ 165
    → IsShut at old new
keeps_shut {old} {new} at durable keeps gate =
    let same : new.seen 0 ≡ old.seen 0 = ap (λ (files : Files). files 0) keeps.seen in
    record {
      gate = gate;
      durable = durable_keeps durable keeps;
      others = λ g ne. ap (λ (files : Files). files g) keeps.seen;
      rest = ap (without at) same;
      front = ap (take at) same;
      long = omega (arith, ap (λ (l : List ℕ). length l) same);
    }

pub shut_ok : {T E : Type 0} (r : Result T E) {old new : View} (at : ℕ) → IsPlace at → at ≤ length (old.seen 0)
    → IsDurable old
    → (get_or (old.seen 0) at 0 ≢ 165 → Keeps old new)
    → (get_or (old.seen 0) at 0 ≡ 165 → OnOk r (Stands 0 at (0 ∷ []) old new)) → OnOk r (get_or (new.seen 0) at 0 ≢ 165)
    → OnOk r (IsShut at old new)
shut_ok (Ok x) {old} {new} at place within durable closed opened gate = ⊎_elim
    (λ is. stands_shut at 0 place within (opened is) gate)
    (λ other. keeps_shut at durable (closed other) gate)
    (cases_eq (get_or (old.seen 0) at 0) 165)
shut_ok (Err e) {old} {new} at place within durable closed opened gate = tt

pub shut_behind : {old mid new : View} {at : ℕ} → Looks old mid → IsShut at mid new → IsShut at old new
shut_behind {old} {mid} {new} {at} look shut =
    let same : mid.seen 0 ≡ old.seen 0 = ap (λ (files : Files). files 0) look.seen in
    record {
      gate = shut.gate;
      durable = shut.durable;
      others = λ g ne. shut.others g ne ∙ ap (λ (files : Files). files g) look.seen;
      rest = shut.rest ∙ ap (without at) same;
      front = shut.front ∙ ap (take at) same;
      long = omega (arith, shut.long, ap (λ (l : List ℕ). length l) same);
    }

-- a slot begins at the end
pub begun_either : {one other : Force} {old new : View} (at : ℕ) → IsPlace at → at ≡ length (old.seen 0)
    → IsDurable old → without at (old.seen 0) ≡ other → LeavesOnly old new (IsAfter (Torn 0 at 1) old)
    → LeavesOnly old new (LeavesEither one other old)
begun_either {old = old} at place end durable rest run =
    torn_either at 1 durable run (λ bytes few. inr (begun_torn at bytes (old.seen 0) place end few ∙ rest))

pub begun_shut : {old new : View} (at : ℕ) → IsPlace at → at ≡ length (old.seen 0) → Stands 0 at (0 ∷ []) old new
    → IsShut at old new
begun_shut at place end stands = stands_shut at 0 place (omega (arith, end)) stands
    (λ is. let zero : 0 ≡ 165 = sym (stands_byte stands (omega (arith, end))) ∙ is in absurd cc)

-- the body is filled in
pub filled : {old mid new : View} (at : ℕ) (next : Choice) (bytes : List ℕ) → IsPlace at → IsShut at old mid
    → at < length (mid.seen 0) → bytes ≡ body next → length bytes ≡ 63 → IsBody next → Stands 0 (at + 1) bytes mid new
    → IsFilled at next old new
filled {old} {mid} {new} at next bytes place shut begun is long fits stands =
    let here = stands_here stands in
    let within : at + 1 ≤ length (mid.seen 0) = omega (arith, begun) in
    record {
      ready = record {
        gate = λ e. shut.gate (sym (ap (λ (l : List ℕ). get_or l at 0) here
            ∙ get_or-put_before at (at + 1) bytes (mid.seen 0) 0 (omega arith) within) ∙ e);
        long = omega (arith, ap (λ (l : List ℕ). length l) here, length-put (at + 1) bytes (mid.seen 0) within, long);
        bytes = ap (λ (l : List ℕ). take 63 (drop (at + 1) l)) here
            ∙ ap (λ (n : ℕ). take n (drop (at + 1) (put (at + 1) bytes (mid.seen 0)))) (sym long)
            ∙ between-put (at + 1) bytes (mid.seen 0) within ∙ is;
        fits = fits;
        durable = durable_stands stands;
      };
      others = λ g ne. stands_other g stands ne ∙ shut.others g ne;
      rest = ap (without at) here
          ∙ without-put at (at + 1) bytes (mid.seen 0) place (omega arith) (omega (arith, long)) within ∙ shut.rest;
    }

-- what is ready in the first slot stays so while the second is closed
pub ready_on : {mid new : View} {next : Choice} → IsReady 0 next mid → IsShut 64 mid new → IsReady 0 next new
ready_on {mid} {new} {next} ready shut = record {
  gate = λ e. ready.gate (sym (get_or-take 64 (mid.seen 0) 0 0 (omega arith))
      ∙ ap (λ (l : List ℕ). get_or l 0 0) (sym shut.front) ∙ get_or-take 64 (new.seen 0) 0 0 (omega arith) ∙ e);
  long = omega (arith, ready.long, shut.long);
  bytes = sym (drop-take 1 63 (new.seen 0)) ∙ ap (drop 1) shut.front ∙ drop-take 1 63 (mid.seen 0) ∙ ready.bytes;
  fits = ready.fits;
  durable = shut.durable;
}

-- the other slot stays as it is while a gate is opened
pub other_stays : {old new : View} {byte : ℕ} (at : ℕ) → IsPlace at → at < length (old.seen 0)
    → Stands 0 at (byte ∷ []) old new → without at (new.seen 0) ≡ without at (old.seen 0)
other_stays {old} {new} {byte} at place within stands =
    ap (without at) (stands_here stands)
    ∙ without-put at at (byte ∷ []) (old.seen 0) place (omega arith) (omega arith) (omega (arith, within))

one_byte : (byte : ℕ) (xs : List ℕ) → length xs ≡ 1 → get_or xs 0 0 ≡ byte → xs ≡ byte ∷ []
one_byte byte [] long is = absurd (omega (arith, long))
one_byte byte (x ∷ []) long is = ap (λ (b : ℕ). b ∷ []) is
one_byte byte (x ∷ (y ∷ rest)) long is = absurd (omega (arith, long))

-- an open gate, a body, and a closed gate
first_bytes : (file bytes : List ℕ) → length file ≡ 65 → take 63 (drop 1 file) ≡ bytes → get_or file 64 0 ≡ 0
    → put 0 (165 ∷ []) file ≡ 165 ∷ (bytes ++ (0 ∷ []))
first_bytes file bytes long there gate =
    let last : drop 63 (drop 1 file) ≡ 0 ∷ [] = drop-drop 63 1 file
    ∙ one_byte 0 (drop 64 file) (omega (arith, length-drop 64 file, long)) (get_or-drop 64 file 0 0 ∙ gate) in
    put_split 0 (165 ∷ []) file
    ∙ ap (λ (l : List ℕ). 165 ∷ l) (sym (take-append-drop 63 (drop 1 file))
    ∙ ap (λ (l : List ℕ). l ++ drop 63 (drop 1 file)) there ∙ ap (λ (l : List ℕ). bytes ++ l) last)

-- the first choice is in force, behind which the second slot is closed
pub first_made : {T E : Type 0} (r : Result T E) (old mid new : List ℕ) (next : Choice) → get_or mid 64 0 ≢ 165
    → 64 < length mid
    → (length old ≤ 64 → (length mid ≡ 65) × (get_or mid 64 0 ≡ 0)) → take 63 (drop 1 mid) ≡ body next
    → OnOk r (in_force new ≡ Is next) → OnOk r (new ≡ put 0 (165 ∷ []) mid) → OnOk r (IsFirst next old new)
first_made (Ok x) old mid new next gate begun fresh bytes force opened =
    let same : get_or new 64 0 ≡ get_or mid 64 0 =
    ap (λ (l : List ℕ). get_or l 64 0) opened ∙ get_or-put_behind 64 0 (165 ∷ []) mid 0 (omega arith) (omega arith) in
    let shut : get_or new 64 0 ≢ 165 = λ e. gate (sym same ∙ e) in
    record {
      here = sym (gate_closed 64 new (inr refl) shut) ∙ force;
      gate = shut;
      begun = omega (arith, ap (λ (l : List ℕ). length l) opened, length-put 0 (165 ∷ []) mid (omega arith), begun);
      fresh = λ le. opened ∙ first_bytes mid (body next) (fresh le).0 bytes (fresh le).1;
    }
first_made (Err e) old mid new next gate begun fresh bytes force opened = tt
