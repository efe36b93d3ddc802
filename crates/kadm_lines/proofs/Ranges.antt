-- Lines cut out of a window, and ranges of its bytes.
use Rattle.std.proofs.Common.{◌≡◌, ℕ, suc, ◌+◌, ◌-◌, ◌<◌, ◌≤◌, ◌==◌, true, false, if◌then◌else◌, List, [], ◌∷◌, ◌++◌}
use Rattle.std.proofs.Common.{length, take, drop, refl, sym, ap, ◌∙◌, append_assoc, slice_index, slice_range, arith}
use Rattle.std.proofs.lemmas.Bool.{eqb-true}
use Rattle.std.proofs.lemmas.List.{take-append-drop, drop_more, get_or-take, take-take}
use Rattle.std.proofs.lemmas.List.{drop-take, drop-drop, length-take-le, take_at, drop_at}
use Rattle.std.proofs.lemmas.List.Edits.{between_none, length-between}
use Rattle.std.proofs.lemmas.Slice.{between_is}
use Rattle.std.proofs.Math.Seq.{take-add}
use Rattle.memchr.specs.Find.{is_byte}
use Rattle.kadm_lines.specs.Windows.{IsWindow, lacks_feed, Parts}

pub lacks-none : lacks_feed [] ≡ true
unfolding lacks_feed
lacks-none = refl

pub lacks-append : (xs ys : List ℕ) → lacks_feed xs ≡ true → lacks_feed ys ≡ true → lacks_feed (xs ++ ys) ≡ true
unfolding lacks_feed
lacks-append [] ys front back = back
lacks-append (b ∷ xs) ys front back =
    elim (b == 10) as (λ v. (if v then false else lacks_feed xs) ≡ true
    → (if v then false else lacks_feed (xs ++ ys)) ≡ true) [
      | true ↦ λ h. h
      | false ↦ λ h. lacks-append xs ys h back
    ] front

-- what a search that finds nothing says
pub lacks-nowhere : (xs : List ℕ) → ((k : ℕ) → k < length xs → is_byte 10 (slice_index xs k) ≡ true → ⊥)
    → lacks_feed xs ≡ true
unfolding lacks_feed
lacks-nowhere [] none = refl
lacks-nowhere (b ∷ xs) none =
    elim (b == 10) as (λ v. ((b == 10) ≡ v) → (if v then false else lacks_feed xs) ≡ true) [
      | true ↦ λ is. absurd (none 0 (omega arith) is)
      | false ↦ λ is. lacks-nowhere xs (λ k lt at. none (suc k) (omega arith) at)
    ] refl

-- what a search that finds a place says
pub parts-at : (xs : List ℕ) (k : ℕ) → k < length xs → is_byte 10 (slice_index xs k) ≡ true
    → ((j : ℕ) → j < k → is_byte 10 (slice_index xs j) ≡ true → ⊥) → Parts xs (take k xs) (drop (k + 1) xs)
parts-at xs k lt is none = record {
  whole = sym (take-append-drop k xs) ∙ ap (λ t. take k xs ++ t)
      (drop_more xs k 0 lt ∙ ap (λ b. b ∷ drop (k + 1) xs) (eqb-true (slice_index xs k) 10 is));
  clear =
      let len : length (take k xs) ≡ k = length-take-le k xs (omega arith) in
      lacks-nowhere (take k xs)
      (λ j below at. none j (omega arith) (ap (λ b. is_byte 10 b) (sym (get_or-take k xs j 0 (omega arith))) ∙ at));
}

pub range-joins : (xs : List ℕ) (a b c : ℕ) → a ≤ b → b ≤ c
    → slice_range xs a c ≡ slice_range xs a b ++ slice_range xs b c
range-joins xs a b c ab bc =
    let split : c - a ≡ (b - a) + (c - b) = omega arith in
    let back : a + (b - a) ≡ b = omega arith in
    ap (λ n. take n (drop a xs)) split
    ∙ take-add (b - a) (c - b) (drop a xs)
    ∙ ap (λ t. take (b - a) (drop a xs) ++ take (c - b) t) (drop-drop (b - a) a xs ∙ ap (λ n. drop n xs) back)

pub range-front : (xs : List ℕ) (c e p : ℕ) → p ≤ e - c → take p (slice_range xs c e) ≡ slice_range xs c (c + p)
range-front xs c e p le =
    let same : p ≡ (c + p) - c = omega arith in
    take-take p (e - c) (drop c xs) le ∙ ap (λ n. take n (drop c xs)) same

pub range-back : (xs : List ℕ) (c e p : ℕ) → p ≤ e - c → drop p (slice_range xs c e) ≡ slice_range xs (c + p) e
range-back xs c e p le =
    let whole : e - c ≡ p + (e - (c + p)) = omega arith in
    ap (λ n. drop p (take n (drop c xs))) whole
    ∙ drop-take p (e - (c + p)) (drop c xs)
    ∙ ap (λ t. take (e - (c + p)) t) (drop-drop p c xs)

-- a line feed in the part that was looked at last ends a line of the whole
pub cut-line : (xs : List ℕ) (start clear end place : ℕ) → start ≤ clear → clear ≤ end → place < end - clear
    → lacks_feed (slice_range xs start clear) ≡ true
    → Parts (slice_range xs clear end) (take place (slice_range xs clear end))
    (drop (place + 1) (slice_range xs clear end))
    → Parts (slice_range xs start end) (slice_range xs start (clear + place)) (slice_range xs (clear + place + 1) end)
cut-line xs start clear end place sc ce lt front parts =
    let before = slice_range xs start clear in
    let line = take place (slice_range xs clear end) in
    let others = drop (place + 1) (slice_range xs clear end) in
    let line_is : line ≡ slice_range xs clear (clear + place) = range-front xs clear end place (omega arith) in
    let same : clear + (place + 1) ≡ clear + place + 1 = omega arith in
    let others_is : others ≡ slice_range xs (clear + place + 1) end =
    range-back xs clear end (place + 1) (omega arith) ∙ ap (λ n. slice_range xs n end) same in
    let joined : before ++ line ≡ slice_range xs start (clear + place) =
    ap (λ t. before ++ t) line_is ∙ sym (range-joins xs start clear (clear + place) sc (omega arith)) in
    record {
      whole =
          range-joins xs start clear end sc ce
          ∙ ap (λ t. before ++ t) parts.whole
          ∙ sym (append_assoc before line (10 ∷ others))
          ∙ ap (λ t. t ++ (10 ∷ others)) joined
          ∙ ap (λ t. slice_range xs start (clear + place) ++ (10 ∷ t)) others_is;
      clear = ap (λ t. lacks_feed t) (sym joined) ∙ lacks-append before line front parts.clear;
    }

-- a range that was looked at in two parts
pub lacks-range : (xs : List ℕ) (start clear end : ℕ) → start ≤ clear → clear ≤ end
    → lacks_feed (slice_range xs start clear) ≡ true → lacks_feed (slice_range xs clear end) ≡ true
    → lacks_feed (slice_range xs start end) ≡ true
lacks-range xs start clear end sc ce front back =
    ap (λ t. lacks_feed t) (range-joins xs start clear end sc ce) ∙ lacks-append _ _ front back

-- bytes before a place that a read leaves
pub range-kept : (old new : List ℕ) (from a b : ℕ) → b ≤ from → take from new ≡ take from old
    → slice_range new a b ≡ slice_range old a b
range-kept old new from a b le kept =
    let front : take b new ≡ take b old =
    sym (take-take b from new le) ∙ ap (λ t. take b t) kept ∙ take-take b from old le in
    between_is new a b ∙ ap (λ t. drop a t) front ∙ sym (between_is old a b)

-- what is pending after a read: what was, and the bytes that were read
pub range-read : (old new : List ℕ) (start end n : ℕ) → start ≤ end → take end new ≡ take end old
    → slice_range new start (end + n) ≡ slice_range old start end ++ slice_range new end (end + n)
range-read old new start end n le kept =
    range-joins new start end (end + n) le (omega arith)
    ∙ ap (λ t. t ++ slice_range new end (end + n)) (range-kept old new end start end (omega arith) kept)

-- what a slice of a vector's bytes became, written back
pub written-back : (old now new : List ℕ) (len : ℕ) → length new ≡ length now → length now ≡ len
    → take len (new ++ drop (length new) old) ≡ new
written-back old now new len size same = take_at new (drop (length new) old) len (size ∙ same)

-- what was pending is the front of what is pending after a read
pub front-read : (old now new pending : List ℕ) (start end n : ℕ) → start ≤ end → now ≡ old
    → take end new ≡ take end now
    → slice_range old start end ≡ pending → take (length pending) (slice_range new start (end + n)) ≡ pending
front-read old now new pending start end n le same kept is =
    let whole : slice_range new start (end + n) ≡ pending ++ slice_range new end (end + n) =
    range-read old new start end n le (kept ∙ ap (λ t. take end t) same)
    ∙ ap (λ t. t ++ slice_range new end (end + n)) is in
    ap (λ t. take (length pending) t) whole ∙ take_at pending (slice_range new end (end + n)) (length pending) refl

-- and what was read is the rest
pub rest-read : (old now new pending : List ℕ) (start end n : ℕ) → start ≤ end → now ≡ old → take end new ≡ take end now
    → slice_range old start end ≡ pending
    → drop (length pending) (slice_range new start (end + n)) ≡ slice_range new end (end + n)
rest-read old now new pending start end n le same kept is =
    let whole : slice_range new start (end + n) ≡ pending ++ slice_range new end (end + n) =
    range-read old new start end n le (kept ∙ ap (λ t. take end t) same)
    ∙ ap (λ t. t ++ slice_range new end (end + n)) is in
    ap (λ t. drop (length pending) t) whole ∙ drop_at pending (slice_range new end (end + n)) (length pending) refl

-- a read behind what is pending keeps a window a window
pub window-read : (old now new : List ℕ) (text text_end start clear end last : ℕ)
    → IsWindow old text text_end start clear end
    → now ≡ old → take end new ≡ take end now → length new ≡ length now → end ≤ last → last ≤ 131072
    → IsWindow new text text_end start clear last
window-read old now new text text_end start clear end last was same kept size le room = record {
  full = size ∙ ap length same ∙ was.full;
  text_order = was.text_order;
  text_within = was.text_within;
  start_order = was.start_order;
  clear_order = omega arith;
  within = room;
  lacks = ap (λ t. lacks_feed t) (range-kept old new end start clear was.clear_order (kept ∙ ap (λ t. take end t) same))
      ∙ was.lacks;
}

pub lacks-empty : (bytes : List ℕ) (at : ℕ) → lacks_feed (slice_range bytes at at) ≡ true
lacks-empty bytes at = ap (λ t. lacks_feed t) (between_none bytes at) ∙ lacks-none

-- a place in the part that was not looked at
pub place-within : (bytes now : List ℕ) (text text_end start clear end place : ℕ)
    → IsWindow bytes text text_end start clear end
    → now ≡ bytes → place < length (slice_range now clear end) → place < end - clear
place-within bytes now text text_end start clear end place was same lt =
    let len : length now ≡ length bytes = ap length same in
    let full : length bytes ≡ 131072 = was.full in
    let within : end ≤ 131072 = was.within in
    omega (arith, length-between now clear end (omega arith))

-- a line that was cut off is the text
pub window-cut : (bytes : List ℕ) (text text_end start clear end place : ℕ)
    → IsWindow bytes text text_end start clear end
    → place < end - clear → IsWindow bytes start (clear + place) (clear + place + 1) (clear + place + 1) end
window-cut bytes text text_end start clear end place was lt = record {
  full = was.full;
  text_order = omega arith;
  text_within = omega arith;
  start_order = omega arith;
  clear_order = omega arith;
  within = was.within;
  lacks = lacks-empty bytes (clear + place + 1);
}

-- a window that holds no text, and was looked at to its end
pub window-clear : (bytes : List ℕ) (text text_end start clear end : ℕ) → IsWindow bytes text text_end start clear end
    → lacks_feed (slice_range bytes start end) ≡ true → IsWindow bytes 0 0 start end end
window-clear bytes text text_end start clear end was lacks = record {
  full = was.full;
  text_order = omega arith;
  text_within = omega arith;
  start_order = omega arith;
  clear_order = omega arith;
  within = was.within;
  lacks = lacks;
}
