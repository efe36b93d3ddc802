use Rattle.std.proofs.Common.{List, ℕ, true, false, ◌∷◌, [], ◌≡◌, ◌&&◌, nat_eq, refl}
use Rattle.std.specs.List.{fold, list_all}
use Rattle.kdb_format.specs.Zeros.{still_zero, all_zero}

stays : (bytes : List ℕ) → fold still_zero false bytes ≡ false
stays [] = refl
stays (byte ∷ bytes) = stays bytes

-- a byte that is not zero decides, wherever it stands
fold_is_all : (bytes : List ℕ) → fold still_zero true bytes ≡ list_all (λ byte. nat_eq byte 0) bytes
fold_is_all [] = refl
fold_is_all (byte ∷ bytes) =
    elim (nat_eq byte 0) as (λ zero. fold still_zero zero bytes ≡ (zero && list_all (λ byte. nat_eq byte 0) bytes)) [
      | true ↦ fold_is_all bytes
      | false ↦ stays bytes
    ]

pub zeros_are_all : (bytes : List ℕ) → all_zero bytes ≡ list_all (λ byte. nat_eq byte 0) bytes
unfolding all_zero
zeros_are_all bytes = fold_is_all bytes
