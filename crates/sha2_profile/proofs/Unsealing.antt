-- Lemmas on what a sealed text holds.
use Rattle.std.proofs.Common.{◌≡◌, ℕ, ◌+◌, ◌-◌, ◌≤◌, ◌∙◌, ap, sym, refl, List, [], ◌++◌}
use Rattle.std.proofs.Common.{length, take, drop, replicate, length-take-le, arith}
use Rattle.std.proofs.lemmas.List.{take_at, take-append-drop, length-drop, append-nil}
use Rattle.aes_cts.specs.BlockKeys.{AreBytes}
use Rattle.aes_cts.specs.Stealing.{cts}
use Rattle.kdb_base.specs.Etypes.{tag_len}
use Rattle.kdb_base.specs.Key.{Key}
use Rattle.sha2_profile.specs.Hmacs.{hmac_of}
use Rattle.sha2_profile.specs.Sha2.{encryption_key, integrity_key, tag, sealed, IsSealed}
use Rattle.sha2_profile.proofs.Lengths.{length-tag}
use Rattle.sha2_profile.proofs.Parts.{begins, ends, joined_is}

-- a tag that is written over the front of a buffer
pub tag_written : (key : Key) (usage size : ℕ) (written rest text : List ℕ) → length written ≡ size →
    written ≡ take size (hmac_of key.etype (integrity_key key usage) (replicate 16 0 ++ (text ++ [])))
    → size ≡ tag_len key.etype →
    take (tag_len key.etype) (written ++ rest) ≡ tag key usage text
unfolding tag
tag_written key usage size written rest text long is same =
    take_at written rest (tag_len key.etype) (long ∙ same)
    ∙ is ∙ rw (same, append-nil text) refl

-- the two parts that are written
pub sealed_in_parts : (key : Key) (usage n : ℕ) (confounder plain text cipher found : List ℕ)
    → text ≡ confounder ++ plain →
    cipher ≡ cts (encryption_key key usage) text → n ≡ tag_len key.etype
    → take (tag_len key.etype) found ≡ tag key usage cipher →
    cipher ++ take n found ≡ sealed key usage confounder plain
unfolding sealed
sealed_in_parts key usage n confounder plain text cipher found is enciphered len tagged =
    let same : cipher ≡ cts (encryption_key key usage) (confounder ++ plain) = rw is at enciphered in
    rw (len, tagged, same) refl

module _ (key : Key) (usage : ℕ) (blob plain : List ℕ) (s : IsSealed key usage blob plain) where
  in_parts : blob ≡ cts (encryption_key key usage) (s.confounder ++ plain)
      ++ tag key usage (cts (encryption_key key usage) (s.confounder ++ plain))
  unfolding sealed
  in_parts = s.is

  -- what a sealed blob begins with
  pub sealed_holds : cts (encryption_key key usage) (s.confounder ++ plain)
      ≡ take (length blob - tag_len key.etype) blob
  sealed_holds =
      begins (λ (text : List ℕ). cts (encryption_key key usage) text)
      (λ (text : List ℕ). tag key usage (cts (encryption_key key usage) text)) (tag_len key.etype)
      (λ text. length-tag key usage (cts (encryption_key key usage) text)) (s.confounder ++ plain) blob in_parts

  -- and what it ends with
  pub sealed_tag : tag key usage (take (length blob - tag_len key.etype) blob)
      ≡ drop (length blob - tag_len key.etype) blob
  sealed_tag =
      ap (tag key usage) (sym sealed_holds)
      ∙ ends (λ (text : List ℕ). cts (encryption_key key usage) text)
      (λ (text : List ℕ). tag key usage (cts (encryption_key key usage) text)) (tag_len key.etype)
      (λ text. length-tag key usage (cts (encryption_key key usage) text)) (s.confounder ++ plain) blob in_parts

-- a text that was decrypted from what has its tag
pub sealed_told : (key : Key) (usage : ℕ) (blob text : List ℕ) → 16 + tag_len key.etype ≤ length blob → AreBytes text →
    length text ≡ length blob - tag_len key.etype
    → cts (encryption_key key usage) text ≡ take (length blob - tag_len key.etype) blob →
    tag key usage (take (length blob - tag_len key.etype) blob) ≡ drop (length blob - tag_len key.etype) blob
    → IsSealed key usage blob (drop 16 text)
unfolding sealed
sealed_told key usage blob text long bytes same holds tagged = record {
  confounder = take 16 text;
  whole = length-take-le 16 text (omega arith);
  bytes = rw (take-append-drop 16 text) bytes;
  long = omega (arith, length-drop 16 text);
  is = rw (take-append-drop 16 text)
      (joined_is (λ (t : List ℕ). cts (encryption_key key usage) t)
      (λ (t : List ℕ). tag key usage (cts (encryption_key key usage) t)) (tag_len key.etype)
      (λ t. length-tag key usage (cts (encryption_key key usage) t)) text blob holds (rw holds tagged));
}
