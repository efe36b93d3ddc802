-- A unit in a window of its file.
use Rattle.std.proofs.Common.{◌≡◌, ℕ, ◌≤◌, ⊎_elim, List, [], ◌++◌, length}
use Rattle.std.proofs.Common.{take, drop, sym, ◌∙◌, ap, arith, length-append}
use Rattle.std.specs.Prelude.{min}
use Rattle.std.proofs.lemmas.Bool.{cases_lt}
use Rattle.std.proofs.lemmas.List.{nil_from_length, append-nil, take_all, take-append-le, drop_all}

-- Where the window has a unit, or all that is left, its front is that of what is left.
pub window_front : (unit count : ℕ) (held more left bytes : List ℕ) → left ≡ held ++ more
    → count ≡ min unit (length held) → min unit (length left) ≤ length held → bytes ≡ take count held
    → take unit left ≡ bytes
window_front unit count held more left bytes split is enough front = ⊎_elim
    (λ short.
    let long = ap (λ (l : List ℕ). length l) split ∙ length-append held more in
    let none : more ≡ [] = nil_from_length more (omega (arith, long, enough, short)) in
    let all : left ≡ held = split ∙ ap (λ (l : List ℕ). held ++ l) none ∙ append-nil held in
    ap (take unit) all ∙ take_all unit held (omega (arith, short))
    ∙ sym (take_all count held (omega (arith, is, short))) ∙ sym front)
    (λ whole.
    let same : unit ≡ count = omega (arith, is, whole) in
    ap (take unit) split ∙ take-append-le unit held more whole ∙ ap (λ (n : ℕ). take n held) same ∙ sym front)
    (cases_lt (length held) unit)

-- and behind it stands what is left behind it
pub window_rest : (unit count : ℕ) (held more left : List ℕ) → left ≡ held ++ more → count ≡ min unit (length held)
    → min unit (length left) ≤ length held → drop count left ≡ drop unit left
window_rest unit count held more left split is enough = ⊎_elim
    (λ short.
    let long = ap (λ (l : List ℕ). length l) split ∙ length-append held more in
    drop_all count left (omega (arith, is, long, enough, short))
    ∙ sym (drop_all unit left (omega (arith, long, enough, short))))
    (λ whole. let same : count ≡ unit = omega (arith, is, whole) in ap (λ (n : ℕ). drop n left) same)
    (cases_lt (length held) unit)
