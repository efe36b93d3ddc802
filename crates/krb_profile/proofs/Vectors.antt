-- A vector of RFC 3961, appendix A.1, so that a wrong step of the definition does not check.
use Rattle.std.proofs.Common.{◌≡◌, [], ◌∷◌, codes, refl}
use Rattle.krb_profile.specs.NFold.{bit_of, cyclic_bit, copied_bit, number_of, first_common}
use Rattle.krb_profile.specs.NFold.{least_common_multiple, sum_of_pieces, residue, n_folded}

pub n_folded-password : n_folded (codes "password") 7 ≡ 0x78 ∷ 0xa0 ∷ 0x7b ∷ 0x6c ∷ 0xaf ∷ 0x85 ∷ 0xfa ∷ []
unfolding bit_of cyclic_bit copied_bit number_of first_common least_common_multiple sum_of_pieces residue n_folded
n_folded-password = refl
