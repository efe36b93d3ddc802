-- What is sealed and wrapped under a key that has as many bytes as its type asks is opened by it.
use Rattle.std.proofs.Common.{◌≡◌, ℕ, ◌<◌, Bool, true, false, List, ◌++◌, length}
use Rattle.std.proofs.Common.{refl, sym, ap, subst, ◌^◌, length-append, arith}
use Rattle.std.proofs.lemmas.List.{length-take-le}
use Rattle.std.proofs.lemmas.List.Elements.{All-from_recursion, recursion_from_All}
use Rattle.aes_cts.specs.BlockKeys.{AreBytes}
use Rattle.aes_cts.specs.Stealing.{cts}
use Rattle.aes_cts.proofs.Lengths.{length-cts_at}
use Rattle.aes_cts.proofs.Sums as sums
use Rattle.kdb_base.specs.Etypes.{key_len, tag_len}
use Rattle.kdb_base.specs.Key.{Key}
use Rattle.krb_hmac.specs.Hmac.{hmac}
use Rattle.krb_hmac.proofs.Lengths.{length-hmac}
use Rattle.krb_profile.specs.Profile.{IsSealed, sealed}
use Rattle.krb_profile.specs.Sha1 as Sha1
use Rattle.krb_profile.proofs.Cases.{from_sha1, from_sha2, sealed_sha1, sealed_sha2}
use Rattle.krb_profile.proofs.KeyBytes.{derived_long, kdf_long}
use Rattle.krb_profile.proofs.Parts.{tag_is_twelve}
use Rattle.sha2_profile.specs.Sha2.{is_sha2}
use Rattle.sha2_profile.specs.Sha2 as Sha2
use Rattle.sha2_profile.proofs.Lengths.{length-tag}
use Rattle.kdb_format.specs.Spellings.{little}
use Rattle.master_keys.specs.Wrapping.{Unwraps, wrapped}
use Rattle.row_keys.proofs.Whole.{IsWhole}

abbrev IsByte : ℕ → Type 0
IsByte b = b < 2 ^ 8

pub both_bytes : (xs ys : List ℕ) → AreBytes xs → AreBytes ys → AreBytes (xs ++ ys)
both_bytes xs ys h k = All-from_recursion IsByte (xs ++ ys)
    (sums.AreBytes-append xs ys (recursion_from_All IsByte xs h) (recursion_from_All IsByte ys k))

module _ (key : Key) (usage : ℕ) (confounder plain : List ℕ) (long : length key.bytes ≡ key_len key.etype)
    (whole : length confounder ≡ 16)
    (bytes : AreBytes (confounder ++ plain)) where
  tag_1 : is_sha2 key.etype ≡ false → (text : List ℕ) → length (Sha1.tag key usage text) ≡ tag_len key.etype
  unfolding Sha1.tag
  tag_1 other text =
      length-take-le (tag_len key.etype) (hmac (Sha1.integrity_key key usage) text)
      (omega (arith, length-hmac (Sha1.integrity_key key usage) text, tag_is_twelve key.etype other))

  text_1 : length (cts (Sha1.encryption_key key usage) (confounder ++ plain)) ≡ length (confounder ++ plain)
  unfolding Sha1.encryption_key Sha1.usage_key
  text_1 = length-cts_at (Sha1.encryption_key key usage) (confounder ++ plain) (derived_long key _ long)

  text_2 : is_sha2 key.etype ≡ true
      → length (cts (Sha2.encryption_key key usage) (confounder ++ plain)) ≡ length (confounder ++ plain)
  unfolding Sha2.encryption_key Sha2.usage_key
  text_2 is = length-cts_at (Sha2.encryption_key key usage) (confounder ++ plain) (kdf_long key.etype key.bytes _ is)

  sealed_1 : is_sha2 key.etype ≡ false → Sha1.IsSealed key usage (Sha1.sealed key usage confounder plain) plain
  unfolding Sha1.sealed
  sealed_1 other = record {
    confounder = confounder;
    whole = whole;
    bytes = bytes;
    long = omega (
      arith,
      length-append (cts (Sha1.encryption_key key usage) (confounder ++ plain))
          (Sha1.tag key usage (confounder ++ plain)),
      text_1,
      tag_1 other (confounder ++ plain),
      whole,
      length-append confounder plain,
    );
    is = refl;
  }

  sealed_2 : is_sha2 key.etype ≡ true → Sha2.IsSealed key usage (Sha2.sealed key usage confounder plain) plain
  unfolding Sha2.sealed
  sealed_2 is =
      let text = cts (Sha2.encryption_key key usage) (confounder ++ plain) in
      record {
        confounder = confounder;
        whole = whole;
        bytes = bytes;
        long = omega (
          arith,
          length-append text (Sha2.tag key usage text),
          text_2 is,
          length-tag key usage text,
          whole,
          length-append confounder
              plain,
        );
        is = refl;
      }

  pub is_sealed : IsSealed key usage (sealed key usage confounder plain) plain
  is_sealed = by_kind (is_sha2 key.etype) refl
    where
      by_kind : (kind : Bool) → is_sha2 key.etype ≡ kind → IsSealed key usage (sealed key usage confounder plain) plain
      by_kind false other =
          subst (λ (blob : List ℕ). IsSealed key usage blob plain) (sym (sealed_sha1 key usage confounder plain other))
          (from_sha1 key usage (Sha1.sealed key usage confounder plain) plain other (sealed_1 other))
      by_kind true is =
          subst (λ (blob : List ℕ). IsSealed key usage blob plain) (sym (sealed_sha2 key usage confounder plain is))
          (from_sha2 key usage (Sha2.sealed key usage confounder plain) plain is (sealed_2 is))

-- a whole key, wrapped under a whole master key
pub is_wrapped : (master key : Key) (confounder : List ℕ) → IsWhole master → IsWhole key → length confounder ≡ 16
    → AreBytes confounder
    → Unwraps master key.etype (wrapped master key confounder) key
unfolding wrapped
is_wrapped master key confounder m k whole bytes = record {
  of_type = refl;
  long = k.long;
  text = sealed master 0 confounder key.bytes;
  blob_is = ap (λ (n : ℕ). little 2 n ++ sealed master 0 confounder key.bytes) k.long;
  sealed = is_sealed master 0 confounder key.bytes m.long whole (both_bytes confounder key.bytes bytes k.bytes);
}
