-- Lines that are joined, and words that are kept.
use Rattle.std.proofs.Common.{◌≡◌, ℕ, ◌+◌, ◌-◌, ◌<◌, ◌≤◌, ◌==◌, cond, if◌then◌else◌, not, slice_index, Bool, true}
use Rattle.std.proofs.Common.{false, Option, Some, None, List, [], ◌∷◌, ◌++◌, length, take, drop, map, filter, get_or}
use Rattle.std.proofs.Common.{nat_lt, refl, sym, ap, subst, ◌∙◌, append_assoc, append-nil, length-append, arith}
use Rattle.std.specs.List.{All, slice_split, onto_first}
use Rattle.std.proofs.lemmas.List.{drop_more, drop-map, drop_all, length-map, length-drop, length-take}
use Rattle.std.proofs.lemmas.List.Elements.{filter-append, All-cons, All-head, All-nil, All-tail, All-weaker}
use Rattle.std.proofs.lemmas.List.Splits.{length-slice_split}
use Rattle.std.proofs.lemmas.Bool.{le-ltb, lt-ltb}
use denote.Ref.{Bor}
use Rattle.acl_text.specs.Joining.{TakesPiece, has_more, lines_with}
use Rattle.acl_text.specs.Texts.{before_lines, carried, is_feed, is_skipped, is_word, lines_from, lines_of, onto_line}
use Rattle.acl_text.specs.Reading.{IsNumbered}
use Rattle.acl_text.specs.declared.texts.Joiner.{Joiner}
use Rattle.acl_text.specs.declared.texts.Line.{Line}

onto_twice : (n m : ℕ) (a b : List ℕ) (lines : List Line)
    → onto_line n a (onto_line m b lines) ≡ onto_line n (a ++ b) lines
unfolding onto_line
onto_twice n m a b [] = refl
onto_twice n m a b (line ∷ lines) =
    ap (λ (text : List ℕ). record { number = n; text = text } ∷ lines) (sym (append_assoc a b line.text))

before_nothing : (n : ℕ) (text : List ℕ) (front : Option (List ℕ)) (lines : List Line)
    → onto_line n [] (before_lines n text front lines) ≡ before_lines n text front lines
unfolding onto_line
before_nothing n text None lines = refl
before_nothing n text (Some front) lines = onto_twice n n [] front lines

-- no text before the lines
pub onto_nothing : (n : ℕ) (texts : List (List ℕ)) → onto_line n [] (lines_from n texts) ≡ lines_from n texts
unfolding lines_from onto_line
onto_nothing n [] = refl
onto_nothing n (text ∷ []) = refl
onto_nothing n (text ∷ next ∷ texts) = before_nothing n text (carried text) (lines_from (n + 1) (next ∷ texts))

carried_lines : (n : ℕ) (piece front : List ℕ) (pieces : List (List ℕ)) → carried piece ≡ Some front
    → has_more pieces ≡ true
    → lines_from n (piece ∷ pieces) ≡ onto_line n front (lines_from (n + 1) pieces)
unfolding lines_from
carried_lines n piece front [] is more = absurd (cc)
carried_lines n piece front (next ∷ pieces) is more =
    ap (λ (o : Option (List ℕ)). before_lines n piece o (lines_from (n + 1) (next ∷ pieces))) is

ended_lines : (n : ℕ) (piece : List ℕ) (pieces : List (List ℕ)) (more : Bool) → has_more pieces ≡ more
    → (more ≡ true → carried piece ≡ None)
    → lines_from n (piece ∷ pieces) ≡ record { number = n; text = piece } ∷ lines_from (n + 1) pieces
unfolding lines_from
ended_lines n piece [] more is none = refl
ended_lines n piece (next ∷ pieces) more is none =
    ap (λ (o : Option (List ℕ)). before_lines n piece o (lines_from (n + 1) (next ∷ pieces))) (none (sym is))

-- a piece that goes on is put behind the text of the line that is begun
pub takes_front : (at : ℕ) (piece front : List ℕ) (more : Bool) (old new : Joiner) → more ≡ true
    → carried piece ≡ Some front
    → new.lines.items ≡ old.lines.items → new.text.items ≡ old.text.items ++ front → new.first ≡ old.first
    → TakesPiece at piece more old new
takes_front at piece front more old new is carries lines text first = record {
  lines = λ (pieces : List (List ℕ)). λ has.
      ap (λ (done : List Line). done ++ onto_line (new.first + 1) new.text.items (lines_from (at + 1 + 1) pieces)) lines
      ∙ ap (λ (n : ℕ). old.lines.items ++ onto_line (n + 1) new.text.items (lines_from (at + 1 + 1) pieces)) first
      ∙ ap (λ (t : List ℕ). old.lines.items ++ onto_line (old.first + 1) t (lines_from (at + 1 + 1) pieces)) text
      ∙ ap (λ (ls : List Line). old.lines.items ++ ls)
      (sym (onto_twice (old.first + 1) (at + 1) old.text.items front (lines_from (at + 1 + 1) pieces)))
      ∙ ap (λ (ls : List Line). old.lines.items ++ onto_line (old.first + 1) old.text.items ls)
      (sym (carried_lines (at + 1) piece front pieces carries (has ∙ is)));
}

onto_line-cons : (n : ℕ) (text : List ℕ) (line : Line) (lines : List Line)
    → onto_line n text (line ∷ lines) ≡ record { number = n; text = text ++ line.text } ∷ lines
unfolding onto_line
onto_line-cons n text line lines = refl

-- another piece ends the line
pub takes_end : (at : ℕ) (piece : List ℕ) (more : Bool) (old new : Joiner) → (more ≡ true → carried piece ≡ None)
    → new.lines.items ≡ old.lines.items ++ record { number = old.first + 1; text = old.text.items ++ piece } ∷ []
    → new.text.items ≡ [] → new.first ≡ at + 1 → TakesPiece at piece more old new
takes_end at piece more old new none lines text first = record {
  lines = λ (pieces : List (List ℕ)). λ has.
      let rest = lines_from (at + 1 + 1) pieces in
      let line : Line = record { number = old.first + 1; text = old.text.items ++ piece } in
      ap (λ (done : List Line). done ++ onto_line (new.first + 1) new.text.items rest) lines
      ∙ ap (λ (n : ℕ). (old.lines.items ++ line ∷ []) ++ onto_line (n + 1) new.text.items rest) first
      ∙ ap (λ (t : List ℕ). (old.lines.items ++ line ∷ []) ++ onto_line (at + 1 + 1) t rest) text
      ∙ ap (λ (ls : List Line). (old.lines.items ++ line ∷ []) ++ ls) (onto_nothing (at + 1 + 1) pieces)
      ∙ append_assoc old.lines.items (line ∷ []) rest
      ∙ ap (λ (ls : List Line). old.lines.items ++ ls)
      (sym (onto_line-cons (old.first + 1) old.text.items (record { number = at + 1; text = piece }) rest))
      ∙ ap (λ (ls : List Line). old.lines.items ++ onto_line (old.first + 1) old.text.items ls)
      (sym (ended_lines (at + 1) piece pieces more has none));
}

pub begins : (joiner : Joiner) (pieces : List (List ℕ)) → joiner.lines.items ≡ [] → joiner.text.items ≡ []
    → joiner.first ≡ 0
    → lines_with joiner 0 pieces ≡ lines_from 1 pieces
begins joiner pieces lines text first =
    ap (λ (done : List Line). done ++ onto_line (joiner.first + 1) joiner.text.items (lines_from 1 pieces)) lines
    ∙ ap (λ (n : ℕ). onto_line (n + 1) joiner.text.items (lines_from 1 pieces)) first
    ∙ ap (λ (t : List ℕ). onto_line 1 t (lines_from 1 pieces)) text
    ∙ onto_nothing 1 pieces

pub ends : (joiner : Joiner) (at : ℕ) → lines_with joiner at [] ≡ joiner.lines.items
unfolding onto_line lines_from
ends joiner at = append-nil joiner.lines.items

-- ---- the texts behind references

pub more_is : (n m : ℕ) (xs : List (List ℕ)) → length xs ≡ m - n → has_more xs ≡ nat_lt n m
more_is n m [] is = sym (le-ltb n m (omega arith))
more_is n m (x ∷ xs) is = sym (lt-ltb n m (omega arith))

pub texts_at : (xs : List (Bor (List ℕ))) (i : ℕ) (d : Bor (List ℕ)) → i < length xs
    → drop i (map (λ p. p.now) xs) ≡ (get_or xs i d).now ∷ drop (i + 1) (map (λ p. p.now) xs)
texts_at xs i d lt =
    drop-map (λ (p : Bor (List ℕ)). p.now) i xs
    ∙ ap (λ (ys : List (Bor (List ℕ))). map (λ p. p.now) ys) (drop_more xs i d lt)
    ∙ ap (λ (ys : List (List ℕ)). (get_or xs i d).now ∷ ys) (sym (drop-map (λ (p : Bor (List ℕ)). p.now) (i + 1) xs))

pub texts_end : (xs : List (Bor (List ℕ))) (i : ℕ) → length xs ≤ i → drop i (map (λ p. p.now) xs) ≡ []
texts_end xs i le = drop-map (λ (p : Bor (List ℕ)). p.now) i xs
    ∙ ap (λ (ys : List (Bor (List ℕ))). map (λ p. p.now) ys) (drop_all i xs le)

pub more_behind : (xs : List (Bor (List ℕ))) (i : ℕ) → has_more (drop i (map (λ p. p.now) xs)) ≡ nat_lt i (length xs)
more_behind xs i =
    let texts : List (List ℕ) = map (λ (p : Bor (List ℕ)). p.now) xs in
    let count : length texts ≡ length xs = length-map xs (λ (p : Bor (List ℕ)). p.now) in
    more_is i (length xs) (drop i texts) (length-drop i texts ∙ ap (λ (n : ℕ). n - i) count)

-- a piece is taken, and those behind it are left
pub taken_on : (xs : List (Bor (List ℕ))) (i : ℕ) (d : Bor (List ℕ)) (old new : Joiner) → i < length xs
    → TakesPiece i (get_or xs i d).now (nat_lt (i + 1) (length xs)) old new
    → lines_with new (i + 1) (drop (i + 1) (map (λ p. p.now) xs)) ≡ lines_with old i (drop i (map (λ p. p.now) xs))
taken_on xs i d old new lt takes =
    takes.lines (drop (i + 1) (map (λ (p : Bor (List ℕ)). p.now) xs)) (more_behind xs (i + 1))
    ∙ ap (λ (ts : List (List ℕ)). lines_with old i ts) (sym (texts_at xs i d lt))

pub word_kept : (xs : List (Bor (List ℕ))) (i : ℕ) (d : Bor (List ℕ)) (old new : List (List ℕ)) → i < length xs
    → new ≡ old ++ filter is_word ((get_or xs i d).now ∷ [])
    → new ++ filter is_word (drop (i + 1) (map (λ p. p.now) xs)) ≡ old ++ filter is_word (drop i (map (λ p. p.now) xs))
word_kept xs i d old new lt is =
    let rest : List (List ℕ) = drop (i + 1) (map (λ (p : Bor (List ℕ)). p.now) xs) in
    let here : List (List ℕ) = (get_or xs i d).now ∷ [] in
    ap (λ (ws : List (List ℕ)). ws ++ filter is_word rest) is
    ∙ append_assoc old (filter is_word here) (filter is_word rest)
    ∙ ap (λ (ws : List (List ℕ)). old ++ ws) (sym (filter-append is_word here rest))
    ∙ ap (λ (ts : List (List ℕ)). old ++ filter is_word ts) (sym (texts_at xs i d lt))

-- ---- numbers of lines

-- how many bytes texts take, with a line feed behind each
weight : List (List ℕ) → ℕ
weight [] = 0
weight (text ∷ texts) = length text + 1 + weight texts

weight-onto : (byte : ℕ) (texts : List (List ℕ)) → 1 ≤ length texts → weight (onto_first byte texts) ≡ weight texts + 1
unfolding weight
weight-onto byte [] some = absurd (omega arith)
weight-onto byte (text ∷ texts) some = omega arith

weight-step : (b : Bool) (byte : ℕ) (bytes : List ℕ) (texts : List (List ℕ)) → 1 ≤ length texts
    → weight texts ≡ length bytes + 1
    → weight (cond b ([] ∷ texts) (onto_first byte texts)) ≡ length (byte ∷ bytes) + 1
unfolding weight
weight-step true byte bytes texts some is = omega arith
weight-step false byte bytes texts some is = omega (arith, weight-onto byte texts some)

weight-split : (text : List ℕ) → weight (slice_split is_feed text) ≡ length text + 1
unfolding weight
weight-split [] = refl
weight-split (byte ∷ text) =
    let count = length-slice_split is_feed text in
    weight-step (is_feed byte) byte text (slice_split is_feed text) (omega (arith, count)) (weight-split text)

-- a line has this number or a later one, and ends within these bytes
IsWithin : ℕ → ℕ → Line → Type 0
IsWithin number end line = (number ≤ line.number) × (line.number + length line.text + 1 ≤ end)

within_wider : (n m inner end : ℕ) (line : Line) → n ≤ m → inner ≤ end → IsWithin m inner line → IsWithin n end line
unfolding IsWithin
within_wider n m inner end line low high h = (omega (arith, h.0), omega (arith, h.1))

here_within : (n end : ℕ) (text : List ℕ) → n + length text + 1 ≤ end
    → IsWithin n end (record { number = n; text = text })
unfolding IsWithin
here_within n end text le = (omega arith, le)

onto_within : (n inner end : ℕ) (front : List ℕ) (line : Line) → inner + length front ≤ end
    → IsWithin (n + 1) inner line
    → IsWithin n end (record { number = n; text = front ++ line.text })
unfolding IsWithin
onto_within n inner end front line le h = (omega arith, omega (arith, h.0, h.1, length-append front line.text))

all_onto : (n inner end : ℕ) (front : List ℕ) (lines : List Line) → inner + length front ≤ end
    → All (IsWithin (n + 1) inner) lines
    → All (IsWithin n end) (onto_line n front lines)
unfolding onto_line
all_onto n inner end front [] le all = All-nil (IsWithin n end)
all_onto n inner end front (line ∷ lines) le all =
    All-cons (IsWithin n end) (record { number = n; text = front ++ line.text }) lines
    (onto_within n inner end front line le (All-head (IsWithin (n + 1) inner) line lines all))
    (All-weaker (IsWithin (n + 1) inner) (IsWithin n end)
    (λ x h. within_wider n (n + 1) inner end x (omega arith) (omega arith) h) lines
    (All-tail (IsWithin (n + 1) inner) line lines all))

short_by : (b : Bool) (text front : List ℕ) → (if b then Some (take (length text - 1) text) else None) ≡ Some front
    → length front ≤ length text
short_by true text front is =
    let same : take (length text - 1) text ≡ front = cc in
    omega (arith, ap length same, length-take (length text - 1) text)
short_by false text front is = absurd (cc)

carried_short : (text front : List ℕ) → carried text ≡ Some front → length front ≤ length text
unfolding carried
carried_short text front is = short_by (slice_index text (length text - 1) == 92) text front is

all_before : (n inner : ℕ) (text : List ℕ) (front : Option (List ℕ)) (lines : List Line) → carried text ≡ front
    → n + 1 ≤ inner
    → All (IsWithin (n + 1) inner) lines → All (IsWithin n (inner + length text)) (before_lines n text front lines)
all_before n inner text None lines is some all =
    All-cons (IsWithin n (inner + length text)) (record { number = n; text = text }) lines
    (here_within n (inner + length text) text (omega arith))
    (All-weaker (IsWithin (n + 1) inner) (IsWithin n (inner + length text))
    (λ x h. within_wider n (n + 1) inner (inner + length text) x (omega arith) (omega arith) h) lines all)
all_before n inner text (Some front) lines is some all =
    all_onto n inner (inner + length text) front lines (omega (arith, carried_short text front is)) all

all_within : (n : ℕ) (texts : List (List ℕ)) → All (IsWithin n (n + weight texts)) (lines_from n texts)
unfolding lines_from weight
all_within n [] = All-nil (IsWithin n (n + 0))
all_within n (text ∷ []) =
    All-cons (IsWithin n (n + (length text + 1 + 0))) (record { number = n; text = text }) []
    (here_within n (n + (length text + 1 + 0)) text (omega arith))
    (All-nil (IsWithin n (n + (length text + 1 + 0))))
all_within n (text ∷ next ∷ texts) =
    let inner = n + 1 + weight (next ∷ texts) in
    let rest : All (IsWithin (n + 1) inner) (lines_from (n + 1) (next ∷ texts)) = all_within (n + 1) (next ∷ texts) in
    let sum : inner + length text ≡ n + weight (text ∷ next ∷ texts) = omega arith in
    subst (λ (end : ℕ). All (IsWithin n end) (before_lines n text (carried text) (lines_from (n + 1) (next ∷ texts))))
    sum
    (all_before n inner text (carried text) (lines_from (n + 1) (next ∷ texts)) refl (omega arith) rest)

said_some : (text : List ℕ) → not (is_skipped text) ≡ true → 1 ≤ length text
unfolding is_skipped
said_some [] said = absurd (cc)
said_some (byte ∷ text) said = omega arith

number_fits : (bytes : ℕ) (line : Line) → bytes < 4294967296 → IsWithin 1 (1 + (bytes + 1)) line → IsNumbered line
unfolding IsWithin
number_fits bytes line short h said = omega (arith, h.1, said_some line.text said)

-- the number of each line that says something fits, in a text that is short enough
pub all_numbered : (text : List ℕ) → length text < 4294967296 → All IsNumbered (lines_of text)
unfolding lines_of
all_numbered text short =
    let all : All (IsWithin 1 (1 + (length text + 1))) (lines_from 1 (slice_split is_feed text)) =
    subst (λ (n : ℕ). All (IsWithin 1 (1 + n)) (lines_from 1 (slice_split is_feed text))) (weight-split text)
    (all_within 1 (slice_split is_feed text)) in
    All-weaker (IsWithin 1 (1 + (length text + 1))) IsNumbered (λ x h. number_fits (length text) x short h)
    (lines_from 1 (slice_split is_feed text)) all
