-- How a run of calls on a log file goes on.
use Rattle.std.proofs.Common.{◌≡◌, ◌≢◌, ℕ, ◌+◌, ◌*◌, ◌<◌, ◌≤◌, ◌⊎◌, inl, inr, ⊎_elim}
use Rattle.std.proofs.Common.{List, [], ◌∷◌, length, get_or, sym, ◌∙◌, ap, subst, arith}
use Rattle.std.specs.Prelude.{Result, Ok, Err, OnOk}
use Rattle.std.proofs.lemmas.Bool.{cases_eq}
use Rattle.kdb_disk.specs.Files.{Files, put}
use Rattle.kdb_disk.specs.View.{View, Torn, IsAfter, Looks}
use Rattle.kdb_disk.specs.Moments.{LeavesOnly, Stands, Keeps}
use Rattle.kdb_disk.proofs.Puts.{written-same, written-other}
use Rattle.kdb_disk.proofs.Runs.{started, then_on, weaken, at_end, looked}
use Rattle.kdb_disk.proofs.Runs.{stands_here, stands_other, stands_byte, long_after}
use Rattle.update_log.specs.Slots.{SameBut, Shuts, Fills}
use Rattle.update_log.specs.Moments.{Leaves, IsDurable, MayShut, IsShut, IsFilled}
use Rattle.update_log.proofs.SlotWrites.{shut_torn, begun_torn, shut_already, body_torn, filled}
use Rattle.update_log.proofs.SlotWrites.{same_then, shut_then_filled, put_within, closed_gate}

-- nothing was done yet
pub leaves_image : {file : ℕ} {P : List ℕ → Type 0} {old : View} → ((c : Files) → old.images c → P (c file))
    → (c : Files) → old.images c → Leaves file P old c
leaves_image here c now = record { before = c; was = now; others = λ g ne i. c g; here = here c now }

pub nothing_done : {file : ℕ} {P : List ℕ → Type 0} {old : View} → ((c : Files) → old.images c → P (c file))
    → LeavesOnly old old (Leaves file P old)
nothing_done {file} {P} {old} here = started old (Leaves file P old) (leaves_image here)

-- with more that is known of the file
pub leaves_weaker : {file : ℕ} {P Q : List ℕ → Type 0} {old : View} {c : Files} → Leaves file P old c
    → ((bytes : List ℕ) → P bytes → Q bytes) → Leaves file Q old c
leaves_weaker {file} {c = c} has more =
    record { before = has.before; was = has.was; others = has.others; here = more (c file) has.here }

pub run_weaker : {file : ℕ} {P Q : List ℕ → Type 0} {old new : View} → LeavesOnly old new (Leaves file P old)
    → ((bytes : List ℕ) → P bytes → Q bytes) → LeavesOnly old new (Leaves file Q old)
run_weaker run more = weaken run (λ c has. leaves_weaker has more)

-- one run more
leaves_on : {file : ℕ} {P Q : List ℕ → Type 0} {old mid : View} {c : Files} → LeavesOnly old mid (Leaves file Q old)
    → Leaves file P mid c → Leaves file P old c
leaves_on run next =
    let past = at_end run next.before next.was in
    record {
      before = past.before;
      was = past.was;
      others = λ g ne. next.others g ne ∙ past.others g ne;
      here = next.here;
    }

pub run_on : {file : ℕ} {P : List ℕ → Type 0} {old mid new : View} → LeavesOnly old mid (Leaves file P old)
    → LeavesOnly mid new (Leaves file P mid) → LeavesOnly old new (Leaves file P old)
run_on run next = then_on run next (λ c has. leaves_on run has)

-- a torn write of the file, by what each image of it before makes of it
pub torn_each : {file : ℕ} {P : List ℕ → Type 0} {old new : View} (from n : ℕ)
    → LeavesOnly old new (IsAfter (Torn file from n) old)
    → ((c : Files) (bytes : List ℕ) → old.images c → length bytes ≤ n → P (put from bytes (c file)))
    → LeavesOnly old new (Leaves file P old)
torn_each {file} {P} from n run each = weaken run (λ c torn.
    record {
      before = torn.before;
      was = torn.was;
      others = λ g ne. ap (λ (files : Files). files g) torn.went.is
          ∙ written-other file g from torn.went.bytes torn.before ne;
      here = subst P
          (sym (ap (λ (files : Files). files file) torn.went.is ∙ written-same file from torn.went.bytes torn.before))
          (each torn.before torn.went.bytes torn.was torn.went.few);
    })

-- where it is durable
pub torn_leaves : {file : ℕ} {P : List ℕ → Type 0} {old new : View} (from n : ℕ) → IsDurable file old
    → LeavesOnly old new (IsAfter (Torn file from n) old)
    → ((bytes : List ℕ) → length bytes ≤ n → P (put from bytes (old.seen file)))
    → LeavesOnly old new (Leaves file P old)
torn_leaves {P = P} from n durable run each =
    torn_each from n run
    (λ c bytes now few. subst (λ (l : List ℕ). P (put from bytes l)) (sym (durable.durable c now)) (each bytes few))

-- calls that change no file
pub keeps_leaves : {file : ℕ} {P : List ℕ → Type 0} {old new : View} → ((c : Files) → old.images c → P (c file))
    → Keeps old new → LeavesOnly old new (Leaves file P old)
keeps_leaves here keeps = weaken keeps.leaves (leaves_image here)

pub durable_keeps : {file : ℕ} {old new : View} → IsDurable file old → Keeps old new → IsDurable file new
durable_keeps {file} durable keeps = record {
  durable =
      λ c now. durable.durable c (at_end keeps.leaves c now) ∙ sym (ap (λ (files : Files). files file) keeps.seen);
}

pub looks_keeps : {old new : View} → Looks old new → Keeps old new
looks_keeps {old} look = record { seen = look.seen; leaves = looked (started old old.images (λ c now. now)) look }

pub durable_stands : {file : ℕ} {old new : View} {from : ℕ} {bytes : List ℕ} → Stands file from bytes old new
    → IsDurable file new
durable_stands stands = record { durable = stands.durable }

same_image : {file block slot : ℕ} {old : View} → IsDurable file old → (c : Files) → old.images c
    → (c file ≡ old.seen file) ⊎ Shuts block slot (old.seen file) (c file)
same_image durable c now = inl (durable.durable c now)

-- ---- a gate is closed

pub shut_moments : {old new : View} (file at block slot : ℕ) → 2 ≤ block → at ≡ slot * block → IsDurable file old
    → (get_or (old.seen file) at 0 ≢ 165 → Keeps old new) → LeavesOnly old new (IsAfter (Torn file at 1) old)
    → LeavesOnly old new (MayShut file block slot old)
shut_moments {old} {new} file at block slot two is durable closed run = ⊎_elim
    (λ gate. torn_leaves at 1 durable run (λ bytes few.
    subst (λ (k : ℕ). (put k bytes (old.seen file) ≡ old.seen file)
    ⊎ Shuts block slot (old.seen file) (put k bytes (old.seen file))) (sym is)
    (shut_torn block slot bytes (old.seen file) (omega (arith, two))
    (subst (λ (k : ℕ). get_or (old.seen file) k 0 ≡ 165) is gate) few)))
    (λ other. keeps_leaves (same_image durable) (closed other))
    (cases_eq (get_or (old.seen file) at 0) 165)

stands_shut : {old new : View} (file at block slot : ℕ) → 2 ≤ block → at ≡ slot * block → at ≤ length (old.seen file)
    → at < length (new.seen file) → Stands file at (0 ∷ []) old new → IsShut file block slot old new
stands_shut {old} {new} file at block slot two is within begun stands =
    let here = stands_here stands in
    let gate : get_or (new.seen file) at 0 ≢ 165 = λ e. absurd (omega (arith, stands_byte stands within, e)) in
    let there : get_or (new.seen file) (slot * block) 0 ≢ 165 =
    subst (λ (k : ℕ). get_or (new.seen file) k 0 ≢ 165) is gate in
    record {
      shuts = record {
        others = subst (λ (l : List ℕ). SameBut block slot (old.seen file) l) (sym here)
            (put_within block slot at (0 ∷ []) (old.seen file) (omega (arith, is)) (omega (arith, is, two)) within);
        closed = closed_gate block slot (new.seen file) (omega (arith, two)) there;
      };
      gate = there;
      begun = omega (arith, is, begun);
      durable = durable_stands stands;
      others = λ g ne. stands_other g stands ne;
    }

keeps_shut : {old new : View} (file at block slot : ℕ) → 2 ≤ block → at ≡ slot * block → at < length (new.seen file)
    → IsDurable file old → get_or (old.seen file) at 0 ≢ 165 → Keeps old new → IsShut file block slot old new
keeps_shut {old} {new} file at block slot two is begun durable gate keeps =
    let same : new.seen file ≡ old.seen file = ap (λ (files : Files). files file) keeps.seen in
    let there : get_or (old.seen file) (slot * block) 0 ≢ 165 =
    subst (λ (k : ℕ). get_or (old.seen file) k 0 ≢ 165) is gate in
    record {
      shuts = subst (λ (l : List ℕ). Shuts block slot (old.seen file) l) (sym same)
          (shut_already block slot (old.seen file) (omega (arith, two)) there);
      gate = subst (λ (l : List ℕ). get_or l (slot * block) 0 ≢ 165) (sym same) there;
      begun = omega (arith, is, begun);
      durable = durable_keeps durable keeps;
      others = λ g ne. ap (λ (files : Files). files g) keeps.seen;
    }

pub shut_ok : {T E : Type 0} (r : Result T E) (old new : View) (file at block slot : ℕ) → 2 ≤ block → at ≡ slot * block
    → at < length (old.seen file) → IsDurable file old
    → (get_or (old.seen file) at 0 ≢ 165 → Keeps old new)
    → (get_or (old.seen file) at 0 ≡ 165 → OnOk r (Stands file at (0 ∷ []) old new))
    → OnOk r (length (new.seen file) ≡ length (old.seen file)) → OnOk r (IsShut file block slot old new)
shut_ok (Ok x) old new file at block slot two is within durable closed opened long = ⊎_elim
    (λ gate. stands_shut file at block slot two is (omega (arith, within)) (omega (arith, within, long)) (opened gate))
    (λ other. keeps_shut file at block slot two is (omega (arith, within, long)) durable other (closed other))
    (cases_eq (get_or (old.seen file) at 0) 165)
shut_ok (Err e) old new file at block slot two is within durable closed opened long = tt

-- ---- a slot begins at the file's end

pub begun_moments : {old new : View} (file at block slot : ℕ) → 2 ≤ block → at ≡ slot * block
    → at ≡ length (old.seen file) → IsDurable file old → LeavesOnly old new (IsAfter (Torn file at 1) old)
    → LeavesOnly old new (MayShut file block slot old)
begun_moments {old} {new} file at block slot two is end durable run = torn_leaves at 1 durable run (λ bytes few.
    inr (subst (λ (k : ℕ). Shuts block slot (old.seen file) (put k bytes (old.seen file))) (sym is)
    (begun_torn block slot bytes (old.seen file) two (sym is ∙ end) few)))

pub begun_shut : {old new : View} (file at block slot : ℕ) → 2 ≤ block → at ≡ slot * block → at ≡ length (old.seen file)
    → Stands file at (0 ∷ []) old new → IsShut file block slot old new
begun_shut {old} {new} file at block slot two is end stands =
    let within : at ≤ length (old.seen file) = omega (arith, end) in
    stands_shut file at block slot two is within
    (omega (arith, long_after old.seen new.seen file at (0 ∷ []) stands.seen within)) stands

-- ---- calls that look come first

pub behind_look : {old mid new : View} {file block slot : ℕ} → IsDurable file old → Looks old mid
    → LeavesOnly mid new (MayShut file block slot mid) → LeavesOnly old new (MayShut file block slot old)
behind_look {old} {mid} {file = file} {block = block} {slot = slot} durable look run =
    let same : mid.seen file ≡ old.seen file = ap (λ (files : Files). files file) look.seen in
    let moved = run_weaker run (λ bytes has. subst (λ (l : List ℕ). (bytes ≡ l) ⊎ Shuts block slot l bytes) same has) in
    run_on (keeps_leaves (same_image durable) (looks_keeps look)) moved

pub shut_behind : {old mid new : View} {file block slot : ℕ} → Looks old mid → IsShut file block slot mid new
    → IsShut file block slot old new
shut_behind {old} {mid} {new} {file} {block} {slot} look shut = record {
  shuts = subst (λ (l : List ℕ). Shuts block slot l (new.seen file))
      (ap (λ (files : Files). files file) look.seen) shut.shuts;
  gate = shut.gate;
  begun = shut.begun;
  durable = shut.durable;
  others = λ g ne. shut.others g ne ∙ ap (λ (files : Files). files g) look.seen;
}

-- ---- the body is filled in

pub fill_moments : {old mid new : View} (file at block slot n : ℕ) → n + 1 ≡ block
    → 1 ≤ n → at ≡ slot * block → LeavesOnly old mid (MayShut file block slot old) → IsShut file block slot old mid
    → LeavesOnly mid new (IsAfter (Torn file (at + 1) n) mid)
    → LeavesOnly old new (MayShut file block slot old)
fill_moments {old} {mid} {new} file at block slot n whole some is so_far shut run =
    let there : slot * block + 1 ≡ at + 1 = omega (arith, is) in
    run_on so_far (torn_leaves (at + 1) n shut.durable run (λ bytes few.
    let torn = body_torn block slot bytes (mid.seen file) (omega (arith, whole)) shut.begun shut.gate
    (omega (arith, whole, few)) in
    inr (subst (λ (k : ℕ). Shuts block slot (old.seen file) (put k bytes (mid.seen file))) there
    (record { others = same_then shut.shuts.others torn.others; closed = torn.closed }))))

pub fill_ok : {old mid new : View} (file at block slot : ℕ) (body : List ℕ) → length body + 1 ≡ block
    → 1 ≤ length body → at ≡ slot * block → IsShut file block slot old mid → Stands file (at + 1) body mid new
    → IsFilled file block slot body old new
fill_ok {old} {mid} {new} file at block slot body whole some is shut stands =
    let there : slot * block + 1 ≡ at + 1 = omega (arith, is) in
    let here : put (slot * block + 1) body (mid.seen file) ≡ new.seen file =
    ap (λ (k : ℕ). put k body (mid.seen file)) there ∙ sym (stands_here stands) in
    record {
      fills = shut_then_filled shut.shuts.others (subst (λ (l : List ℕ). Fills block slot body (mid.seen file) l) here
          (filled block slot body (mid.seen file) (omega (arith, whole)) shut.begun shut.gate (omega (arith, whole))));
      durable = durable_stands stands;
      others = λ g ne. stands_other g stands ne ∙ shut.others g ne;
    }
