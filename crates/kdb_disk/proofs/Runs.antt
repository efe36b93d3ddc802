-- How a run of device calls goes on: what a crash at any moment of it may leave.
use Rattle.std.proofs.Common.{◌≡◌, ◌≢◌, ℕ, ◌+◌, ◌-◌, ◌≤◌, inl, inr, ⊎_elim, max, List, [], ◌∷◌}
use Rattle.std.proofs.Common.{◌++◌, length, get_or, take, drop, sym, ◌∙◌, ap, subst, arith}
use Rattle.std.proofs.Common.{length-append, length-take, length-drop, take-append-drop}
use Rattle.std.proofs.lemmas.Bool.{cases_eq, cases_lt}
use Rattle.kdb_disk.specs.Files.{Files, put, written}
use Rattle.kdb_disk.specs.View.{View, Torn, Frayed, IsAfter, Follows, Elapses, Looks}
use Rattle.kdb_disk.specs.Moments.{IsSettled, AreSettled, LeavesOnly, Stands, Keeps, Whole}
use Rattle.kdb_disk.proofs.Puts.{same_files, length-put, drop-put_behind, get_or-put_in, with_file_own}
use Rattle.kdb_disk.proofs.Puts.{written-same, written-other, written_join, written_nothing, written_there}

-- before the first call
pub started : (old : View) (P : Files → Type 0) → ((c : Files) → old.images c → P c) → LeavesOnly old old P
started old P here =
    record { later = omega arith; each = λ c left. here c (old.only_now c left); before = λ t c le left. inl left }

-- one call more, after which a crash leaves what has P
pub goes_on : {old mid new : View} {P : Files → Type 0} → LeavesOnly old mid P → Elapses mid new
    → ((c : Files) → new.images c → P c) → LeavesOnly old new P
goes_on {old} so_far time here = record {
  later = omega (arith, so_far.later, time.later);
  each = λ c left. ⊎_elim (so_far.each c) (here c) (time.nothing_else old.moment c so_far.later left);
  before = λ t c le left. ⊎_elim (so_far.before t c le) (λ now. inr (here c now))
      (time.nothing_else t c (omega (arith, le, so_far.later)) left);
}

-- what a crash may leave now is what it left at some moment
pub at_end : {old new : View} {P : Files → Type 0} → LeavesOnly old new P → (c : Files) → new.images c → P c
at_end {old} {new} run c now = run.each c (new.counts_now old.moment c run.later now)

-- one call more, which changes no file
pub looked : {old mid new : View} {P : Files → Type 0} → LeavesOnly old mid P → Looks mid new → LeavesOnly old new P
looked run look = goes_on run look.time (λ c now. at_end run c (look.images c now))

pub weaken : {old new : View} {P Q : Files → Type 0} → LeavesOnly old new Q → ((c : Files) → Q c → P c)
    → LeavesOnly old new P
weaken run here = record {
  later = run.later;
  each = λ c left. here c (run.each c left);
  before = λ t c le left. ⊎_elim (λ past. inl past) (λ now. inr (here c now)) (run.before t c le left);
}

-- one run more
pub then_on : {old mid new : View} {P Q : Files → Type 0} → LeavesOnly old mid P → LeavesOnly mid new Q
    → ((c : Files) → Q c → P c) → LeavesOnly old new P
then_on {old} so_far next here = record {
  later = omega (arith, so_far.later, next.later);
  each = λ c left. ⊎_elim (so_far.each c) (here c) (next.before old.moment c so_far.later left);
  before = λ t c le left.
      ⊎_elim (so_far.before t c le) (λ now. inr (here c now)) (next.before t c (omega (arith, le, so_far.later)) left);
}

-- the first call
pub first_step : {old new : View} {P : Files → Type 0} {step : Files → Files → Type 0}
    → ((c : Files) → old.images c → P c) → Follows step old new → Elapses old new
    → ((d c : Files) → P d → step d c → P c) → LeavesOnly old new P
first_step {old} {new} {P} here follows time keeps = goes_on (started old P here) time
    (λ c now. let from = follows c now in keeps from.before c (here from.before from.was) from.went)

-- one call more, by what each image of before has and its step keeps
pub stepped : {old mid new : View} {P : Files → Type 0} {step : Files → Files → Type 0} → LeavesOnly old mid P
    → Follows step mid new → Elapses mid new → ((d c : Files) → P d → step d c → P c) → LeavesOnly old new P
stepped run follows time keeps = goes_on run time
    (λ c now. let from = follows c now in keeps from.before c (at_end run from.before from.was) from.went)

-- a write of nothing
pub torn_nothing : (file at n : ℕ) (c : Files) → Torn file at n c c
torn_nothing file at n c = record { bytes = []; few = omega arith; is = sym (written_nothing file at c) }

-- a write
pub wrote : {old new : View} (file at n : ℕ) → Follows (Torn file at n) old new → Elapses old new
    → LeavesOnly old new (IsAfter (Torn file at n) old)
wrote {old} {new} file at n follows time =
    goes_on (started old (IsAfter (Torn file at n) old)
    (λ c now. record { before = c; was = now; went = torn_nothing file at n c })) time follows

-- over a settled disk a torn write is torn from what is read
pub torn_seen : {old : View} {file at n : ℕ} {c : Files} → IsSettled old → IsAfter (Torn file at n) old c
    → Torn file at n old.seen c
torn_seen {old} {file} {at} {n} {c} settled from =
    subst (λ (d : Files). Torn file at n d c) (settled.only from.before from.was) from.went

-- a run over a settled disk, by what each torn write of it may leave
pub torn_first : {old new : View} {file at n : ℕ} {P : Files → Type 0} → IsSettled old
    → LeavesOnly old new (IsAfter (Torn file at n) old) → ((c : Files) → Torn file at n old.seen c → P c)
    → LeavesOnly old new P
torn_first settled run here = weaken run (λ c from. here c (torn_seen settled from))

pub torn_next : {old mid new : View} {file at n : ℕ} {P : Files → Type 0} → LeavesOnly old mid P → IsSettled mid
    → LeavesOnly mid new (IsAfter (Torn file at n) mid) → ((c : Files) → Torn file at n mid.seen c → P c)
    → LeavesOnly old new P
torn_next so_far settled run here = then_on so_far run (λ c from. here c (torn_seen settled from))

-- nothing was done yet, over a settled disk
pub started_settled : {old : View} {P : Files → Type 0} → IsSettled old → P old.seen → LeavesOnly old old P
started_settled {old} {P} settled here = started old P (λ c now. subst P (sym (settled.only c now)) here)

-- a write that was synced over a settled disk leaves it settled
pub settled_after : {old new : View} {file at n : ℕ} {bytes : List ℕ} → IsSettled old
    → LeavesOnly old new (IsAfter (Torn file at n) old) → Stands file at bytes old new → IsSettled new
settled_after {old} {new} {file} {at} {n} {bytes} settled run stands = record {
  only = λ c now.
      let torn = torn_seen settled (at_end run c now) in
      same_files c new.seen (λ g. ⊎_elim
      (λ is. ap c is ∙ stands.durable c now ∙ ap new.seen (sym is))
      (λ other. ap (λ (files : Files). files g) torn.is ∙ written-other file g at torn.bytes old.seen other
      ∙ sym (written-other file g at bytes old.seen other) ∙ sym (ap (λ (files : Files). files g) stands.seen))
      (cases_eq g file));
}

-- what is read of the file after it
pub stands_here : {old new : View} {file at : ℕ} {bytes : List ℕ} → Stands file at bytes old new
    → new.seen file ≡ put at bytes (old.seen file)
stands_here {old} {new} {file} {at} {bytes} stands =
    ap (λ (files : Files). files file) stands.seen ∙ written-same file at bytes old.seen

-- and of another
pub stands_other : {old new : View} {file at : ℕ} {bytes : List ℕ} (g : ℕ) → Stands file at bytes old new → g ≢ file
    → new.seen g ≡ old.seen g
stands_other {old} {new} {file} {at} {bytes} g stands other =
    ap (λ (files : Files). files g) stands.seen ∙ written-other file g at bytes old.seen other

pub long_after : (old new : Files) (file at : ℕ) (bytes : List ℕ) → new ≡ written file at bytes old
    → at ≤ length (old file) → length (new file) ≡ max (length (old file)) (at + length bytes)
long_after old new file at bytes is within =
    ap (λ (files : Files). length (files file)) is ∙ ap length (written-same file at bytes old)
    ∙ length-put at bytes (old file) within

-- the file is no shorter after it
pub no_shorter : {old new : View} {file at : ℕ} {bytes : List ℕ} → Stands file at bytes old new
    → at ≤ length (old.seen file) → length (old.seen file) ≤ length (new.seen file)
no_shorter {old} {new} {file} {at} {bytes} stands within =
    omega (arith, long_after old.seen new.seen file at bytes stands.seen within)

-- within the file a torn write leaves as many bytes as it has
pub torn_whole : {file at n : ℕ} {old new : Files} → Torn file at n old new → at + n ≤ length (old file)
    → Whole file at n old new
torn_whole {file} {at} {n} {old} {new} torn within =
    let few = torn.few in
    let end = at + length torn.bytes in
    let k = n - length torn.bytes in
    let rest = take k (drop end (old file)) in
    let start : at ≤ length (old file) = omega arith in
    let long : length rest ≡ k = omega (arith, length-take k (drop end (old file)), length-drop end (old file)) in
    let files = written file at torn.bytes old in
    let here : files file ≡ put at torn.bytes (old file) = written-same file at torn.bytes old in
    let same : take k (drop end (files file)) ≡ rest = ap (λ (l : List ℕ). take k (drop end l)) here
    ∙ ap (take k) (drop-put_behind end at torn.bytes (old file) (omega arith) start) in
    let reaches : end + k ≤ length (files file) =
    omega (arith, ap length here, length-put at torn.bytes (old file) start) in
    record {
      bytes = torn.bytes ++ rest;
      long = omega (arith, length-append torn.bytes rest, long);
      is = torn.is ∙ sym (written_there file end k files reaches) ∙ ap (λ (l : List ℕ). written file end l files) same
          ∙ written_join file at end torn.bytes rest old start (omega arith);
    }

-- calls that change no file
pub kept : (v : View) → Keeps v v
kept v = record { seen = λ i. v.seen; leaves = started v v.images (λ c now. now) }

pub keeps_on : {old mid new : View} → Keeps old mid → Looks mid new → Keeps old new
keeps_on so_far look = record { seen = look.seen ∙ so_far.seen; leaves = looked so_far.leaves look }

pub keeps_then : {old mid new : View} → Keeps old mid → Keeps mid new → Keeps old new
keeps_then so_far next =
    record { seen = next.seen ∙ so_far.seen; leaves = then_on so_far.leaves next.leaves (at_end so_far.leaves) }

-- a run goes on by calls that change no file
pub kept_on : {old mid new : View} {P : Files → Type 0} → LeavesOnly old mid P → Keeps mid new → LeavesOnly old new P
kept_on run keeps = then_on run keeps.leaves (at_end run)

-- such calls come first
pub kept_first : {old mid new : View} {P : Files → Type 0} → Keeps old mid → LeavesOnly mid new P
    → ((c : Files) → old.images c → P c) → LeavesOnly old new P
kept_first keeps run here = then_on (weaken keeps.leaves here) run (λ c has. has)

pub settled_looks : {old new : View} → IsSettled old → Looks old new → IsSettled new
settled_looks settled look = record { only = λ c now. settled.only c (look.images c now) ∙ sym look.seen }

pub settled_keeps : {old new : View} → IsSettled old → Keeps old new → IsSettled new
settled_keeps settled keeps = record { only = λ c now. settled.only c (at_end keeps.leaves c now) ∙ sym keeps.seen }

-- no file is settled yet
pub settled_none : (v : View) → AreSettled 0 v
settled_none v = record { only = λ c file now lt. absurd (omega arith) }

-- one file more is synced
pub settled_more : {mid new : View} {n : ℕ} → AreSettled n mid → Looks mid new
    → ((c : Files) → new.images c → c n ≡ mid.seen n) → AreSettled (n + 1) new
settled_more {mid} {new} {n} so_far look durable = record {
  only = λ c file now lt. ⊎_elim
      (λ is. ap c is ∙ durable c now ∙ ap mid.seen (sym is) ∙ ap (λ (files : Files). files file) (sym look.seen))
      (λ other. so_far.only c file (look.images c now) (omega (arith, other))
      ∙ ap (λ (files : Files). files file) (sym look.seen))
      (cases_eq file n);
}

pub settled_all : {v : View} (n : ℕ) → 7 ≤ n → AreSettled n v → IsSettled v
settled_all {v} n seven are = record {
  only = λ c now. same_files c v.seen (λ file. ⊎_elim
      (λ lt. are.only c file now (omega arith))
      (λ ge. v.no_more c file now ge)
      (cases_lt file 7));
}

-- nothing was written yet
pub torn_none : (file at n : ℕ) (v : View) → LeavesOnly v v (IsAfter (Torn file at n) v)
torn_none file at n v =
    started v (IsAfter (Torn file at n) v) (λ c now. record { before = c; was = now; went = torn_nothing file at n c })

-- a look alone leaves no more than a write does
pub looks_torn : {old new : View} (file at n : ℕ) → Looks old new → LeavesOnly old new (IsAfter (Torn file at n) old)
looks_torn {old} file at n look = looked (torn_none file at n old) look

-- a write behind a look
pub torn_behind : {old mid new : View} {file at n : ℕ} → Looks old mid
    → LeavesOnly mid new (IsAfter (Torn file at n) mid) → LeavesOnly old new (IsAfter (Torn file at n) old)
torn_behind {old} {mid} {new} {file} {at} {n} look run =
    then_on (looks_torn file at n look) run
    (λ c from. record { before = from.before; was = look.images from.before from.was; went = from.went })

-- the byte that was written is read
pub stands_byte : {old new : View} {file at byte : ℕ} → Stands file at (byte ∷ []) old new → at ≤ length (old.seen file)
    → get_or (new.seen file) at 0 ≡ byte
stands_byte {old} {new} {file} {at} {byte} stands within =
    ap (λ (l : List ℕ). get_or l at 0) (stands_here stands)
    ∙ ap (λ (i : ℕ). get_or (put at (byte ∷ []) (old.seen file)) i 0) (omega arith)
    ∙ get_or-put_in 0 at (byte ∷ []) (old.seen file) 0 (omega arith) within

-- a call that changes no file is a write of nothing, and a cut of nothing
pub looks_as_torn : {old new : View} (file at n : ℕ) → Looks old new → Follows (Torn file at n) old new
looks_as_torn file at n look = λ c now. record { before = c; was = look.images c now; went = torn_nothing file at n c }

pub frayed_nothing : (file len : ℕ) (c : Files) → Frayed file len c c
frayed_nothing file len c = record {
  bytes = drop len (c file);
  few = omega (arith, length-take len (c file), length-drop len (c file));
  is = sym (with_file_own file (take len (c file) ++ drop len (c file)) c (take-append-drop len (c file)));
}

pub looks_as_frayed : {old new : View} (file len : ℕ) → Looks old new → Follows (Frayed file len) old new
looks_as_frayed file len look =
    λ c now. record { before = c; was = look.images c now; went = frayed_nothing file len c }
