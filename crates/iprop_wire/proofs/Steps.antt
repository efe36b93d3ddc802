-- Bytes that are judged together lead to what they lead to one by one.
use Rattle.std.proofs.Common.{◌≡◌, ℕ, ◌+◌, ◌-◌, ◌<◌, ◌≤◌, true, false, List, [], ◌∷◌, ◌++◌, length}
use Rattle.std.proofs.Common.{take, drop, refl, sym, ap, subst, ◌∙◌, append_assoc, arith, inl, inr}
use Rattle.std.specs.Prelude.{min, nat_eq, slice_index, Option, Some, None, is_some, Result, Ok, Err}
use Rattle.std.proofs.lemmas.Bool.{cases_lt, false≢true, lt-ltb, le-ltb}
use Rattle.std.proofs.lemmas.List.{get_or_append_left, length-append, length-take, take-append-le, take-append-drop}
use Rattle.byteorder.specs.Endian.{big_number}
use Rattle.byteorder.specs.Numbers.{big_from-take}
use Rattle.iprop_wire.specs.Answers.{Advances, IsHeld, IsPart, Settles, begun, need, state_of}
use Rattle.iprop_wire.specs.Decoding.{Begun, State, Going, Waits, Broken, Spent, Takes, fed}
use Rattle.iprop_wire.specs.Decoding.{is_going, is_length, is_sound, may_come, settled, taken}
use Rattle.iprop_wire.specs.declared.faults.FrameFault.{FrameFault}
use Rattle.iprop_wire.specs.declared.faults.FrameFault.TheVariants as fault
use Rattle.iprop_wire.specs.declared.messages.Message.{Message}
use Rattle.iprop_wire.specs.declared.progress.Progress.{Progress}

-- ---- what is held of a frame

pub settled_by : (b : Begun) (h : List ℕ) → IsPart b h → settled b h ≡ Going b h
unfolding settled
settled_by b h part =
    elim (cases_lt (length h) 4) [
      | inl lt ↦ rw (lt-ltb _ _ lt) refl
      | inr le ↦
          elim (cases_lt (length h) 5) [
            | inl few ↦ rw (le-ltb _ _ le, part.length_good le, lt-ltb _ _ few) refl
            | inr more ↦ rw (
              le-ltb _ _ le,
              part.length_good le,
              le-ltb _ _ more,
              part.kind_good more,
              lt-ltb _ _ (part.short le),
            ) refl
          ]
    ]

need_length : (h : List ℕ) → length h < 4 → need h ≡ 4 - length h
unfolding need
need_length h lt = rw (lt-ltb _ _ lt) refl

need_kind : (h : List ℕ) → length h ≡ 4 → need h ≡ 1
unfolding need
need_kind h is = rw is refl

need_behind : (h : List ℕ) → 5 ≤ length h → need h ≡ 4 + big_number 4 h - length h
unfolding need
need_behind h le =
    let no : nat_eq (length h) 4 ≡ false = grind arith in
    rw (le-ltb (length h) 4 (omega arith), no) refl

pub need_some : (b : Begun) (h : List ℕ) → IsPart b h → 0 < need h
need_some b h part =
    elim (cases_lt (length h) 4) [
      | inl lt ↦ let e = need_length h lt in omega arith
      | inr le ↦
          elim (cases_lt (length h) 5) [
            | inl few ↦ let e = need_kind h (omega arith) in omega arith
            | inr more ↦ let e = need_behind h more in let s = part.short le in omega arith
          ]
    ]

pub same_number : (h xs : List ℕ) → 4 ≤ length h → big_number 4 (h ++ xs) ≡ big_number 4 h
same_number h xs le =
    sym (big_from-take 0 4 4 (h ++ xs) (omega arith)) ∙ ap (big_number 4) (take-append-le 4 h xs le)
    ∙ big_from-take 0 4 4 h (omega arith)

pub same_kind : (h xs : List ℕ) → 5 ≤ length h → slice_index (h ++ xs) 4 ≡ slice_index h 4
same_kind h xs le = get_or_append_left h xs 0 4 (omega arith)

-- a byte with which the next judgement is still to come
still_part : (b : Begun) (h : List ℕ) (x : ℕ) → IsPart b h → 1 < need h
    → IsPart b (h ++ (x ∷ [])) × (need (h ++ (x ∷ [])) + 1 ≡ need h)
still_part b h x part more =
    let len = length-append h (x ∷ []) in
    elim (cases_lt (length h) 4) [
      | inl lt ↦
          let was = need_length h lt in
          let is = need_length (h ++ (x ∷ [])) (omega arith) in (
            record {
              length_good = λ le. absurd (omega arith);
              kind_good = λ le. absurd (omega arith);
              short = λ le. absurd (omega arith);
            },
            omega arith,
          )
      | inr le ↦
          elim (cases_lt (length h) 5) [
            | inl few ↦ let was = need_kind h (omega arith) in absurd (omega arith)
            | inr many ↦
                let was = need_behind h many in
                let is = need_behind (h ++ (x ∷ [])) (omega arith) in
                let number = same_number h (x ∷ []) le in
                let short = part.short le in (
                  record {
                    length_good = λ _. ap is_length number ∙ part.length_good le;
                    kind_good = λ _. ap (may_come b) (same_kind h (x ∷ []) many) ∙ part.kind_good many;
                    short = λ _. omega arith;
                  },
                  omega arith,
                )
          ]
    ]

-- as many bytes as are judged together
pub fed_front : (b : Begun) (h xs ys : List ℕ) → IsPart b h → 0 < length xs → length xs ≤ need h
    → (fed (Going b h) (xs ++ ys) ≡ fed (settled b (h ++ xs)) ys)
    × (taken (Going b h) (xs ++ ys) ≡ length xs + taken (settled b (h ++ xs)) ys)
unfolding fed taken
fed_front b h [] ys part lt le = absurd (omega arith)
fed_front b h (x ∷ []) ys part lt le = (refl, refl)
fed_front b h (x ∷ y ∷ xs) ys part lt le =
    let more = still_part b h x part (omega arith) in
    let goes = settled_by b (h ++ (x ∷ [])) more.0 in
    let behind = fed_front b (h ++ (x ∷ [])) (y ∷ xs) ys more.0 (omega arith) (omega arith) in
    let all = append_assoc h (x ∷ []) (y ∷ xs) in (
      ap (λ (s : State). fed s (y ∷ xs ++ ys)) goes ∙ behind.0 ∙ ap (λ (t : List ℕ). fed (settled b t) ys) all,
      ap (λ (s : State). 1 + taken s (y ∷ xs ++ ys)) goes ∙ ap (λ (n : ℕ). 1 + n) behind.1
          ∙ ap (λ (t : List ℕ). 1 + (length (y ∷ xs) + taken (settled b t) ys)) all ∙ omega arith,
    )

-- ---- a step over bytes

step : (b : Begun) (h bytes : List ℕ) (count : ℕ) (new : State) → IsPart b h → 0 < count → count ≤ need h
    → count ≤ length bytes → settled b (h ++ take count bytes) ≡ new → is_sound new ≡ true
    → Advances bytes (Going b h) count new
step b h bytes count new part some le within is sound =
    let front = take count bytes in
    let len : length front ≡ count = omega (arith, length-take count bytes) in
    let whole = take-append-drop count bytes in
    let moves = fed_front b h front (drop count bytes) part (omega arith) (omega arith) in
    record {
      some = some;
      within = within;
      leads = ap (λ (s : State). fed s (drop count bytes)) (sym is) ∙ sym moves.0 ∙ ap (fed (Going b h)) whole;
      counts = ap (λ (s : State). count + taken s (drop count bytes)) (sym is)
          ∙ ap (λ (n : ℕ). n + taken (settled b (h ++ front)) (drop count bytes)) (sym len) ∙ sym moves.1
          ∙ ap (taken (Going b h)) whole;
      sound = sound;
    }

pub fed_broken : (bytes : List ℕ) → fed Broken bytes ≡ Broken
unfolding fed
fed_broken [] = refl
fed_broken (x ∷ bytes) = refl

breaks : (b : Begun) (h bytes : List ℕ) (count : ℕ) → IsPart b h → 0 < count → count ≤ need h → count ≤ length bytes
    → settled b (h ++ take count bytes) ≡ Broken
    → fed (Going b h) bytes ≡ Broken
breaks b h bytes count part some le within is =
    let front = take count bytes in
    let len : length front ≡ count = omega (arith, length-take count bytes) in
    let moves = fed_front b h front (drop count bytes) part (omega arith) (omega arith) in
    ap (fed (Going b h)) (sym (take-append-drop count bytes)) ∙ moves.0
    ∙ ap (λ (s : State). fed s (drop count bytes)) is ∙ fed_broken (drop count bytes)

-- what was settled is what is kept
settles_sound : (message : Option Message) (after : State) (b : Begun) (h : List ℕ) → Settles (Ok message) after b h
    → (after ≡ state_of message None b h) × (is_sound (state_of message None b h) ≡ true)
settles_sound None after b h given = (given.0, refl)
settles_sound (Some message) after b h given = (given.0, refl)

-- a decoder that takes bytes
pub advanced : (waiting message : Option Message) (fault : Option FrameFault) (p new : Progress)
    (held left bytes : List ℕ) (s : State) (count : ℕ)
    → state_of waiting fault (begun p) held ≡ s → IsHeld waiting fault p held → is_going s ≡ true → 0 < length bytes
    → count ≡ min (need held) (length bytes)
    → Settles (Ok message) (settled (begun p) (held ++ take count bytes)) (begun new) left
    → Advances bytes s count (state_of message fault (begun new) left)
advanced None message None p new held left bytes s count is kept going some count_is given =
    let more = need_some (begun p) held kept.1 in
    let leads = settles_sound message (settled (begun p) (held ++ take count bytes)) (begun new) left given in
    subst (λ (t : State). Advances bytes t count (state_of message None (begun new) left)) is
    (step (begun p) held bytes count (state_of message None (begun new) left) kept.1 (omega arith) (omega arith)
    (omega arith) leads.0 leads.1)
advanced None message (Some fault.BadFrame) p new held left bytes s count is kept going some count_is given =
    absurd (false≢true (ap is_going is ∙ going))
advanced None message (Some fault.MemoryOut) p new held left bytes s count is kept going some count_is given =
    absurd (false≢true (ap is_going is ∙ going))
advanced (Some m) message fault p new held left bytes s count is kept going some count_is given =
    absurd (false≢true (ap is_going is ∙ going))

pub broke : (waiting : Option Message) (fault : Option FrameFault) (p new : Progress) (held left bytes : List ℕ)
    (s : State) (count : ℕ)
    → state_of waiting fault (begun p) held ≡ s → IsHeld waiting fault p held → is_going s ≡ true → 0 < length bytes
    → count ≡ min (need held) (length bytes)
    → settled (begun p) (held ++ take count bytes) ≡ Broken → fed s bytes ≡ Broken
broke None None p new held left bytes s count is kept going some count_is given =
    let more = need_some (begun p) held kept.1 in
    ap (λ (t : State). fed t bytes) (sym is)
    ∙ breaks (begun p) held bytes count kept.1 (omega arith) (omega arith) (omega arith) given
broke None (Some fault.BadFrame) p new held left bytes s count is kept going some count_is given =
    absurd (false≢true (ap is_going is ∙ going))
broke None (Some fault.MemoryOut) p new held left bytes s count is kept going some count_is given =
    absurd (false≢true (ap is_going is ∙ going))
broke (Some m) fault p new held left bytes s count is kept going some count_is given =
    absurd (false≢true (ap is_going is ∙ going))

-- the fault that was answered is that of a break
pub broke_by : (waiting : Option Message) (failed : Option FrameFault) (p new : Progress) (held left bytes : List ℕ)
    (s : State) (count : ℕ) (e : FrameFault)
    → state_of waiting failed (begun p) held ≡ s → IsHeld waiting failed p held → is_going s ≡ true → 0 < length bytes
    → count ≡ min (need held) (length bytes)
    → Settles (Err e) (settled (begun p) (held ++ take count bytes)) (begun new) left
    → ◌≡◌ {A = Result ℕ FrameFault} (Err e) (Err fault.BadFrame) → fed s bytes ≡ Broken
broke_by waiting failed p new held left bytes s count fault.BadFrame is kept going some count_is given same =
    broke waiting failed p new held left bytes s count is kept going some count_is given
broke_by waiting failed p new held left bytes s count fault.MemoryOut is kept going some count_is given same = absurd cc

-- ---- a run of steps

-- no byte more is taken
pub stands : (s : State) (rest : List ℕ) → is_sound s ≡ true → (is_going s ≡ true → rest ≡ [])
    → (fed s rest ≡ s) × (taken s rest ≡ 0)
unfolding fed taken
stands s [] sound ends = (refl, refl)
stands (Going b h) (x ∷ rest) sound ends = absurd (not_empty (ends refl))
  where
    not_empty : x ∷ rest ≡ [] → ⊥
    not_empty e = absurd cc
stands (Waits m) (x ∷ rest) sound ends = (refl, refl)
stands Broken (x ∷ rest) sound ends = absurd (false≢true sound)
stands Spent (x ∷ rest) sound ends = absurd (false≢true sound)

-- the loop ended
pub stopped : (old s : State) (piece rest : List ℕ) → fed s rest ≡ fed old piece
    → taken old piece + length rest ≡ length piece + taken s rest → length rest ≤ length piece
    → is_sound s ≡ true → (is_going s ≡ true → rest ≡ []) → Takes piece old (length piece - length rest) s
stopped old s piece rest leads counts within sound ends =
    let still = stands s rest sound ends in
    record { count_is = omega (arith, counts, within, still.1); leads = sym still.0 ∙ leads; sound = sound }

-- a message waits
pub waits_on : (waiting : Option Message) (failed : Option FrameFault) (b : Begun) (h : List ℕ) (s : State)
    (piece : List ℕ)
    → state_of waiting failed b h ≡ s → is_some waiting ≡ true → Takes piece s 0 s
waits_on None failed b h s piece is some = absurd (false≢true some)
waits_on (Some m) failed b h s piece is some =
    let still = stands s piece (ap is_sound (sym is)) (λ going. absurd (false≢true (ap is_going is ∙ going))) in
    record { count_is = sym still.1; leads = sym still.0; sound = ap is_sound (sym is) }

-- it was refused before
pub stays_broken : (waiting : Option Message) (failed : Option FrameFault) (e : FrameFault) (b : Begun) (h : List ℕ)
    (s : State) (piece : List ℕ)
    → state_of waiting failed b h ≡ s → is_some waiting ≡ false → failed ≡ Some e
    → ◌≡◌ {A = Result ℕ FrameFault} (Err e) (Err fault.BadFrame) → fed s piece ≡ Broken
stays_broken (Some m) failed e b h s piece is none some same = absurd (false≢true (sym none))
stays_broken None failed fault.BadFrame b h s piece is none some same =
    ap (λ (t : State). fed t piece) (sym is ∙ ap (λ (o : Option FrameFault). state_of None o b h) some)
    ∙ fed_broken piece
stays_broken None failed fault.MemoryOut b h s piece is none some same = absurd cc
