-- What the class of a byte says of its tests.
use Rattle.std.proofs.Common.{◌≡◌, ℕ, ◌==◌, Bool, true, false, ◌||◌, ◌&&◌, not, refl}
use Rattle.princ_name.specs.Bytes.{is_refused, is_sign, is_plain}

no_test : (r x y z : Bool) → (not r && not (x || y || z)) ≡ true → (r ≡ false) × (x ≡ false) × (y ≡ false) × (z ≡ false)
no_test false false false false h = (refl, refl, refl, refl)
no_test true x y z h = absurd (cc)
no_test false true y z h = absurd (cc)
no_test false false true z h = absurd (cc)
no_test false false false true h = absurd (cc)

-- a plain byte passes none of the tests
pub plain_tests : (b : ℕ) → is_plain b ≡ true
    → (is_refused b ≡ false) × ((b == 47) ≡ false) × ((b == 64) ≡ false) × ((b == 92) ≡ false)
unfolding is_plain is_sign
plain_tests b plain = no_test (is_refused b) (b == 47) (b == 64) (b == 92) plain

all_tests : (r x y z : Bool) → r ≡ false → x ≡ false → y ≡ false → z ≡ false → (not r && not (x || y || z)) ≡ true
all_tests false false false false hr hx hy hz = refl
all_tests true x y z hr hx hy hz = absurd (cc)
all_tests false true y z hr hx hy hz = absurd (cc)
all_tests false false true z hr hx hy hz = absurd (cc)
all_tests false false false true hr hx hy hz = absurd (cc)

pub tests_plain : (b : ℕ) → is_refused b ≡ false → (b == 47) ≡ false → (b == 64) ≡ false → (b == 92) ≡ false
    → is_plain b ≡ true
unfolding is_plain is_sign
tests_plain b r slash at back = all_tests (is_refused b) (b == 47) (b == 64) (b == 92) r slash at back
