-- Words before and behind a blank.
use Rattle.std.proofs.Common.{◌≡◌, ℕ, zero, suc, ◌+◌, ◌-◌, ◌<◌, ◌==◌, true, false, if◌then◌else◌, List, [], ◌∷◌}
use Rattle.std.proofs.Common.{length, take, drop, Option, Some, None, refl, sym, ap, ◌∙◌, slice_index, arith}
use Rattle.std.proofs.lemmas.List.{take_rest}
use Rattle.memchr.specs.Find.{IsFirstByte, is_byte}
use Rattle.dump_text.specs.Readings.{before_blank, behind_blank}

at_blank : (text : List ℕ) (k : ℕ) → k < length text → is_byte 32 (slice_index text k) ≡ true
    → ((j : ℕ) → j < k → is_byte 32 (slice_index text j) ≡ true → ⊥)
    → (take k text ≡ before_blank text) × (drop (suc k) text ≡ behind_blank text)
unfolding before_blank behind_blank
at_blank [] k lt is none = absurd (omega arith)
at_blank (b ∷ text) zero lt is none = rw is (refl, refl)
at_blank (b ∷ text) (suc k) lt is none =
    elim (b == 32) as (λ v. ((b == 32) ≡ v) → (b ∷ take k text ≡ (if v then [] else b ∷ before_blank text))
    × (drop (suc k) text ≡ (if v then text else behind_blank text))) [
      | true ↦ λ e. absurd (none 0 (omega arith) e)
      | false ↦ λ e.
          let rest = at_blank text k (omega arith) is (λ j below at. none (suc j) (omega arith) at) in
          (ap (λ (t : List ℕ). b ∷ t) rest.0, rest.1)
    ] refl

no_blank : (text : List ℕ) → ((j : ℕ) → j < length text → is_byte 32 (slice_index text j) ≡ true → ⊥)
    → (text ≡ before_blank text) × ([] ≡ behind_blank text)
unfolding before_blank behind_blank
no_blank [] none = (refl, refl)
no_blank (b ∷ text) none =
    elim (b == 32) as (λ v. ((b == 32) ≡ v)
    → (b ∷ text ≡ (if v then [] else b ∷ before_blank text)) × ([] ≡ (if v then text else behind_blank text))) [
      | true ↦ λ e. absurd (none 0 (omega arith) e)
      | false ↦ λ e.
          let rest = no_blank text (λ j below at. none (suc j) (omega arith) at) in
          (ap (λ (t : List ℕ). b ∷ t) rest.0, rest.1)
    ] refl

pub found_blank : (text : List ℕ) (r : Option ℕ) (k : ℕ) → IsFirstByte (is_byte 32) text r → r ≡ Some k
    → (take k text ≡ before_blank text) × (take (length text - (k + 1)) (drop (k + 1) text) ≡ behind_blank text)
found_blank text None k first is = cc
found_blank text (Some j) k first is =
    let same : j ≡ k = cc in
    let at = at_blank text j first.0.high first.1 (λ i lt e. first.0.before i (omega arith) lt e) in
    let next : suc j ≡ k + 1 = omega arith in (
      ap (λ (n : ℕ). take n text) (sym same) ∙ at.0,
      take_rest text (k + 1) ∙ ap (λ (n : ℕ). drop n text) (sym next) ∙ at.1,
    )

pub missed_blank : (text : List ℕ) (r : Option ℕ) → IsFirstByte (is_byte 32) text r → r ≡ None
    → (text ≡ before_blank text) × (take (length text - length text) (drop (length text) text) ≡ behind_blank text)
missed_blank text None first is =
    let none = no_blank text (λ j lt e. first j (omega arith) lt e) in
    let short : length text - length text ≡ 0 = omega arith in
    (none.0, ap (λ (n : ℕ). take n (drop (length text) text)) short ∙ none.1)
missed_blank text (Some j) first is = cc
