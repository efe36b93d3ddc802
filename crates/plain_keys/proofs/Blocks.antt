-- How many bytes of a random block keys of distinct types want.
use Rattle.std.proofs.Common.{◌≡◌, ℕ, ◌+◌, ◌*◌, ◌≤◌, List, [], ◌∷◌, refl, arith}
use Rattle.std.specs.Prelude.{cond, nat_eq}
use Rattle.std.specs.List.{sum_by}
use Rattle.std.proofs.lemmas.List.Sums.{sum_by-cons}
use Rattle.kdb_base.specs.Etypes.{number_of}
use Rattle.kdb_base.specs.declared.keys.Etype.{Etype}
use Rattle.kdb_base.specs.declared.keys.Etype.TheVariants.{Aes128, Aes256, Aes128Sha2, Aes256Sha2}
use Rattle.plain_keys.specs.Keys.{AreOnce, drawn_len}

abbrev one : Etype → Etype → ℕ
one etype other = cond (nat_eq (number_of other) (number_of etype)) 1 0

abbrev often : Etype → List Etype → ℕ
often etype etypes = sum_by (one etype) etypes

drawn_is : (e : Etype)
    → drawn_len e ≡ 32 * one Aes128 e + 48 * one Aes256 e + 32 * one Aes128Sha2 e + 48 * one Aes256Sha2 e
drawn_is Aes128 = refl
drawn_is Aes256 = refl
drawn_is Aes128Sha2 = refl
drawn_is Aes256Sha2 = refl

drawn_by_type : (etypes : List Etype) → sum_by drawn_len etypes
    ≡ 32 * often Aes128 etypes + 48 * often Aes256 etypes + 32 * often Aes128Sha2 etypes + 48 * often Aes256Sha2 etypes
drawn_by_type [] = refl
drawn_by_type (e ∷ etypes) =
    omega (
      arith,
      drawn_is e,
      drawn_by_type etypes,
      sum_by-cons drawn_len e etypes,
      sum_by-cons (one Aes128) e etypes,
      sum_by-cons (one Aes256) e etypes,
      sum_by-cons (one Aes128Sha2) e etypes,
      sum_by-cons (one Aes256Sha2) e etypes,
    )

pub once_drawn : (etypes : List Etype) → AreOnce etypes → sum_by drawn_len etypes ≤ 160
once_drawn etypes once =
    let a : often Aes128 etypes ≤ 1 = once Aes128 in
    let b : often Aes256 etypes ≤ 1 = once Aes256 in
    let c : often Aes128Sha2 etypes ≤ 1 = once Aes128Sha2 in
    let d : often Aes256Sha2 etypes ≤ 1 = once Aes256Sha2 in
    omega (arith, drawn_by_type etypes)
