-- Serials and the slots in which they stand.
use Rattle.std.proofs.Common.{◌≡◌, ◌≢◌, ℕ, ◌+◌, ◌-◌, ◌%◌, ◌<◌, ◌≤◌, ◌⊎◌, inl, inr, ⊎_elim, sym, ◌∙◌, ap, arith}
use Rattle.std.proofs.lemmas.Bool.{cases_lt}
use Rattle.std.proofs.Math.Nat.{mod-lt, mod-eq_of_lt, mod-add-mod, add-mod_right}
use Rattle.kdb_base.specs.declared.moments.Point.{Point}
use Rattle.update_log.specs.Slots.{slot_of}

-- a step of less than a round
step_within : (r d m : ℕ) → 0 < d → d < m → r < m → (r + d) % m ≢ r
step_within r d m pos lt small is = ⊎_elim
    (λ under. absurd (omega (arith, sym (mod-eq_of_lt under) ∙ is, pos)))
    (λ over.
    let left = (r + d) - m in
    let split : r + d ≡ left + m = omega (arith, over) in
    let here : (r + d) % m ≡ left =
    ap (λ (n : ℕ). n % m) split ∙ add-mod_right left m ∙ mod-eq_of_lt (omega (arith, split, small, lt)) in
    absurd (omega (arith, sym here ∙ is, split, lt)))
    (cases_lt (r + d) m)

mod_apart : (a d m : ℕ) → 0 < d → d < m → (a + d) % m ≢ a % m
mod_apart a d m pos lt is = step_within (a % m) d m pos lt (mod-lt a (omega (arith, lt))) (mod-add-mod a m d ∙ is)

-- within a round no two serials have one slot
pub slots_apart : (base : Point) (size a b : ℕ) → base.sno ≤ a → a < b → b ≤ a + size
    → slot_of base size a ≢ slot_of base size b
unfolding slot_of
slots_apart base size a b from lt near is =
    let d = b - a in
    let there : b - base.sno ≡ (a - base.sno) + d = omega (arith, from, lt) in
    mod_apart (a - base.sno) d (size + 1) (omega (arith, lt)) (omega (arith, near, lt))
    (sym (is ∙ ap (λ (n : ℕ). n % (size + 1)) there))

-- after a round comes the same slot
pub slot_again : (base : Point) (size a b : ℕ) → base.sno ≤ a → b ≡ a + (size + 1)
    → slot_of base size b ≡ slot_of base size a
unfolding slot_of
slot_again base size a b from is =
    let there : b - base.sno ≡ (a - base.sno) + (size + 1) = omega (arith, from, is) in
    ap (λ (n : ℕ). n % (size + 1)) there ∙ add-mod_right (a - base.sno) (size + 1)

pub slot_low : (base : Point) (size sno : ℕ) → slot_of base size sno ≤ size
unfolding slot_of
slot_low base size sno = let lt : (sno - base.sno) % (size + 1) < size + 1 =
    mod-lt (sno - base.sno) (omega arith) in omega (arith, lt)

step_next : (r m : ℕ) → r < m → ((r + 1) % m ≡ 0) ⊎ ((r + 1) % m ≡ r + 1)
step_next r m small = ⊎_elim
    (λ under. inr (mod-eq_of_lt under))
    (λ over. let split : r + 1 ≡ 0 + m = omega (arith, over, small) in
    inl (ap (λ (n : ℕ). n % m) split ∙ add-mod_right 0 m ∙ mod-eq_of_lt (omega (arith, small))))
    (cases_lt (r + 1) m)

-- the next serial has the first slot or the next one
pub slot_next : (base : Point) (size a b : ℕ) → base.sno ≤ a → b ≡ a + 1
    → (slot_of base size b ≡ 0) ⊎ (slot_of base size b ≡ slot_of base size a + 1)
unfolding slot_of
slot_next base size a b from is =
    let m = size + 1 in
    let n = a - base.sno in
    let there : b - base.sno ≡ n + 1 = omega (arith, from, is) in
    let here : (b - base.sno) % m ≡ (n % m + 1) % m = ap (λ (k : ℕ). k % m) there ∙ sym (mod-add-mod n m 1) in
    ⊎_elim (λ e. inl (here ∙ e)) (λ e. inr (here ∙ e)) (step_next (n % m) m (mod-lt n (omega arith)))
