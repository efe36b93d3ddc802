-- Runs in which one file may get any content.
use Rattle.std.proofs.Common.{◌≡◌, ℕ, ◌+◌, ◌≤◌, List, [], ◌++◌, length, take, drop, sym, ◌∙◌, ap, arith, length-take}
use Rattle.std.proofs.Math.Seq.{take-add}
use Rattle.kdb_disk.specs.Files.{Files, put, with_file, written}
use Rattle.kdb_disk.specs.View.{View, Torn, Frayed, IsAfter, Follows, Elapses, Looks}
use Rattle.kdb_disk.specs.Moments.{LeavesOnly, Differs, Replaced}
use Rattle.kdb_disk.proofs.Puts.{put_end, written_join, with_file-same, with_file-with_file, with_file_own}
use Rattle.kdb_disk.proofs.Runs.{first_step, stepped, then_on, at_end}

pub differs_none : (file : ℕ) (c : Files) → Differs file c c
differs_none file c = record { content = c file; is = sym (with_file_own file (c file) c (λ i. c file)) }

pub frayed_differs : {file len : ℕ} {a b : Files} → Frayed file len a b → Differs file a b
frayed_differs {file} {len} {a} frayed = record { content = take len (a file) ++ frayed.bytes; is = frayed.is }

pub torn_differs : {file at n : ℕ} {a b : Files} → Torn file at n a b → Differs file a b
unfolding written
torn_differs {file} {at} {n} {a} torn = record { content = put at torn.bytes (a file); is = torn.is }

pub differs_on : {file : ℕ} {a b c : Files} → Differs file a b → Differs file b c → Differs file a c
differs_on {file} {a} {b} {c} first second = record {
  content = second.content;
  is =
      second.is ∙ ap (with_file file second.content) first.is ∙ with_file-with_file file second.content first.content a;
}

-- nothing was done yet
pub started_differs : (file : ℕ) (v : View) (c : Files) → v.images c → IsAfter (Differs file) v c
started_differs file v c now = record { before = c; was = now; went = differs_none file c }

pub after_differs : {file : ℕ} {old : View} {b c : Files} → IsAfter (Differs file) old b → Differs file b c
    → IsAfter (Differs file) old c
after_differs from more = record { before = from.before; was = from.was; went = differs_on from.went more }

-- a cut
pub cut_differs : {file len : ℕ} {old new : View} → Follows (Frayed file len) old new → Elapses old new
    → LeavesOnly old new (IsAfter (Differs file) old)
cut_differs {file} {len} {old} follows time =
    first_step (started_differs file old) follows time (λ d c from step. after_differs from (frayed_differs step))

-- a torn write more of that file
pub torn_more : {file at n : ℕ} {old mid new : View} → LeavesOnly old mid (IsAfter (Differs file) old)
    → LeavesOnly mid new (IsAfter (Torn file at n) mid) → LeavesOnly old new (IsAfter (Differs file) old)
torn_more run more =
    then_on run more (λ c from. after_differs (at_end run from.before from.was) (torn_differs from.went))

-- one write more, of a run that left any content of that file
pub wrote_more : {file at n : ℕ} {old mid new : View} → LeavesOnly old mid (IsAfter (Differs file) old)
    → Follows (Torn file at n) mid new → Elapses mid new → LeavesOnly old new (IsAfter (Differs file) old)
wrote_more run follows time = stepped run follows time (λ d c from step. after_differs from (torn_differs step))

-- one run more that does
pub differs_run : {file : ℕ} {old mid new : View} → LeavesOnly old mid (IsAfter (Differs file) old)
    → LeavesOnly mid new (IsAfter (Differs file) mid) → LeavesOnly old new (IsAfter (Differs file) old)
differs_run run more = then_on run more (λ c from. after_differs (at_end run from.before from.was) from.went)

-- an empty file that is written and synced has what was written
pub replaced_after : {file : ℕ} {content : List ℕ} {old mid late new : View}
    → Replaced file [] old mid → late.seen ≡ written file 0 content mid.seen → Looks late new
    → ((c : Files) → new.images c → c file ≡ late.seen file) → Replaced file content old new
unfolding written
replaced_after {file} {content} {old} {mid} {late} {new} empty wrote look durable =
    let was : mid.seen file ≡ [] = ap (λ (files : Files). files file) empty.seen ∙ with_file-same file [] old.seen in
    let here : put 0 content (mid.seen file) ≡ content = ap (put 0 content) was ∙ put_end 0 content [] (λ i. 0) in
    record {
      seen = look.seen ∙ wrote ∙ ap (λ (l : List ℕ). with_file file l mid.seen) here
          ∙ ap (with_file file content) empty.seen ∙ with_file-with_file file content [] old.seen;
      durable = λ c now. durable c now ∙ ap (λ (files : Files). files file) wrote
          ∙ with_file-same file (put 0 content (mid.seen file)) mid.seen ∙ here;
    }

-- what an emptied file reads
pub emptied_reads : {file : ℕ} {old mid : View} → Replaced file [] old mid → mid.seen file ≡ []
emptied_reads {file} {old} empty = ap (λ (files : Files). files file) empty.seen ∙ with_file-same file [] old.seen

-- a piece more of the content
pub piece_more : (file at n : ℕ) (content piece : List ℕ) (before now after : Files) → before file ≡ []
    → at + n ≤ length content → piece ≡ take n (drop at content) → now ≡ written file 0 (take at content) before
    → after ≡ written file at piece now
    → after ≡ written file 0 (take (at + n) content) before
piece_more file at n content piece before now after empty within is was wrote =
    let front = take at content in
    let none : 0 ≤ length (before file) = omega arith in
    wrote
    ∙ ap (λ (l : List ℕ). written file at l now) is
    ∙ ap (written file at (take n (drop at content))) was
    ∙ written_join file 0 at front (take n (drop at content)) before none (omega (arith, length-take at content))
    ∙ ap (λ (l : List ℕ). written file 0 l before) (sym (take-add at n content))

-- a file that was cut to nothing and synced
pub emptied : {file : ℕ} {old mid new : View} → mid.seen ≡ with_file file (take 0 (old.seen file)) old.seen
    → Looks mid new → ((c : Files) → new.images c → c file ≡ mid.seen file) → Replaced file [] old new
emptied {file} {old} {mid} {new} cut look durable = record {
  seen = look.seen ∙ cut;
  durable = λ c now. durable c now ∙ ap (λ (files : Files). files file) cut ∙ with_file-same file [] old.seen;
}
