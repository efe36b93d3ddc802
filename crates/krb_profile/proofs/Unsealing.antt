-- Lemmas on what a text sealed under the types of RFC 3962 holds.
use Rattle.std.proofs.Common.{◌≡◌, ℕ, ◌+◌, ◌-◌, ◌≤◌, refl, false, List, ◌++◌, length, take, drop, length-take-le, arith}
use Rattle.std.proofs.lemmas.List.{take-append-drop, length-drop}
use Rattle.aes_cts.specs.BlockKeys.{AreBytes}
use Rattle.aes_cts.specs.Stealing.{cts}
use Rattle.kdb_base.specs.Etypes.{tag_len}
use Rattle.kdb_base.specs.Key.{Key}
use Rattle.krb_hmac.specs.Hmac.{hmac}
use Rattle.krb_hmac.proofs.Lengths.{length-hmac}
use Rattle.sha2_profile.specs.Sha2.{is_sha2}
use Rattle.sha2_profile.proofs.Parts.{begins, ends, joined_is}
use Rattle.krb_profile.specs.Sha1.{encryption_key, integrity_key, tag, sealed, IsSealed}
use Rattle.krb_profile.proofs.Parts.{tag_is_twelve}

pub length-tag : (key : Key) (usage : ℕ) (text : List ℕ) → is_sha2 key.etype ≡ false
    → length (tag key usage text) ≡ tag_len key.etype
unfolding tag
length-tag key usage text other =
    let digest = length-hmac (integrity_key key usage) text in
    length-take-le (tag_len key.etype) (hmac (integrity_key key usage) text)
    (omega (arith, digest, tag_is_twelve key.etype other))

-- the two parts that are written
pub sealed_in_parts : (key : Key) (usage n : ℕ) (confounder plain text cipher found : List ℕ)
    → text ≡ confounder ++ plain →
    cipher ≡ cts (encryption_key key usage) text → n ≡ tag_len key.etype
    → take (tag_len key.etype) found ≡ tag key usage text →
    cipher ++ take n found ≡ sealed key usage confounder plain
unfolding sealed
sealed_in_parts key usage n confounder plain text cipher found is enciphered len tagged =
    rw (enciphered, len, tagged, is) refl

-- what a sealed blob begins with
pub sealed_holds : (key : Key) (usage : ℕ) (blob plain : List ℕ) → is_sha2 key.etype ≡ false
    → (s : IsSealed key usage blob plain) →
    cts (encryption_key key usage) (s.confounder ++ plain) ≡ take (length blob - tag_len key.etype) blob
unfolding sealed
sealed_holds key usage blob plain other s =
    begins (λ (text : List ℕ). cts (encryption_key key usage) text) (tag key usage) (tag_len key.etype)
    (λ text. length-tag key usage text other) (s.confounder ++ plain) blob s.is

-- and what it ends with
pub sealed_tag : (key : Key) (usage : ℕ) (blob plain : List ℕ) → is_sha2 key.etype ≡ false
    → (s : IsSealed key usage blob plain) →
    tag key usage (s.confounder ++ plain) ≡ drop (length blob - tag_len key.etype) blob
unfolding sealed
sealed_tag key usage blob plain other s =
    ends (λ (text : List ℕ). cts (encryption_key key usage) text) (tag key usage) (tag_len key.etype)
    (λ text. length-tag key usage text other) (s.confounder ++ plain) blob s.is

-- a text that was decrypted and has its tag
pub sealed_told : (key : Key) (usage : ℕ) (blob text : List ℕ) → is_sha2 key.etype ≡ false
    → 16 + tag_len key.etype ≤ length blob → AreBytes text →
    length text ≡ length blob - tag_len key.etype
    → cts (encryption_key key usage) text ≡ take (length blob - tag_len key.etype) blob →
    tag key usage text ≡ drop (length blob - tag_len key.etype) blob → IsSealed key usage blob (drop 16 text)
unfolding sealed
sealed_told key usage blob text other long bytes same holds tagged = record {
  confounder = take 16 text;
  whole = length-take-le 16 text (omega arith);
  bytes = rw (take-append-drop 16 text) bytes;
  long = omega (arith, length-drop 16 text);
  is = rw (take-append-drop 16 text)
      (joined_is (λ (t : List ℕ). cts (encryption_key key usage) t) (tag key usage) (tag_len key.etype)
      (λ t. length-tag key usage t other) text blob holds tagged);
}
