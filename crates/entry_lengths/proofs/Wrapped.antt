-- A key is as long, wrapped, as its type and the master key's tell, whatever the confounder's bytes are.
use Rattle.std.proofs.Common.{◌≡◌, ℕ, ◌+◌, Bool, true, false, List, [], ◌∷◌, ◌++◌, length, refl, arith}
use Rattle.std.specs.Int.{w32, to_be_bytes}
use Rattle.std.specs.Prelude.{if◌then◌else◌}
use Rattle.std.proofs.lemmas.List.{length-append}
use Rattle.aes_cts.proofs.Lengths.{length-cts_at}
use Rattle.aes_cts.specs.Stealing.{cts}
use Rattle.kdb_base.specs.Etypes.{key_len, tag_len}
use Rattle.kdb_base.specs.Key.{Key}
use Rattle.kdb_format.specs.Numbers.{length-little}
use Rattle.kdb_format.specs.Spellings.{little}
use Rattle.krb_profile.proofs.KeyBytes.{derived_long, kdf_long}
use Rattle.krb_profile.proofs.Unsealing as first_tags
use Rattle.krb_profile.specs.Profile.{sealed}
use Rattle.krb_profile.specs.Sha1 as sha1
use Rattle.master_keys.specs.Wrapping.{wrapped, wrapped_len}
use Rattle.sha2_profile.proofs.Lengths as second_tags
use Rattle.sha2_profile.specs.Sha2 as sha2
use Rattle.sha2_profile.specs.Sha2.{is_sha2}

module _ (key : Key) (usage : ℕ) (confounder plain : List ℕ) (long : length key.bytes ≡ key_len key.etype) where
  -- under a key of RFC 3962
  first_long : is_sha2 key.etype ≡ false
      → length (sha1.sealed key usage confounder plain) ≡ length confounder + length plain + tag_len key.etype
  unfolding sha1.sealed sha1.encryption_key sha1.usage_key
  first_long other =
      let text = confounder ++ plain in
      let inner = derived_long key (to_be_bytes w32 usage ++ 0xaa ∷ []) long in
      omega (
        arith,
        length-append confounder plain,
        length-append (cts (sha1.encryption_key key usage) text) (sha1.tag key usage text),
        length-cts_at (sha1.encryption_key key usage) text inner,
        first_tags.length-tag key usage text other,
      )

  -- and of RFC 8009
  second_long : is_sha2 key.etype ≡ true
      → length (sha2.sealed key usage confounder plain) ≡ length confounder + length plain + tag_len key.etype
  unfolding sha2.sealed sha2.encryption_key sha2.usage_key
  second_long other =
      let inner = kdf_long key.etype key.bytes (to_be_bytes w32 usage ++ 0xaa ∷ []) other in
      let text = cts (sha2.encryption_key key usage) (confounder ++ plain) in
      omega (
        arith,
        length-append confounder plain,
        length-append text (sha2.tag key usage text),
        length-cts_at (sha2.encryption_key key usage) (confounder ++ plain) inner,
        second_tags.length-tag key usage text,
      )

  by_type : (test : Bool) → is_sha2 key.etype ≡ test
      → length (if test then sha2.sealed key usage confounder plain else sha1.sealed key usage confounder plain)
      ≡ length confounder + length plain + tag_len key.etype
  by_type true is = second_long is
  by_type false is = first_long is

  sealed_long : length (sealed key usage confounder plain) ≡ length confounder + length plain + tag_len key.etype
  unfolding sealed
  sealed_long = by_type (is_sha2 key.etype) refl

pub wrapped_long : (master key : Key) (confounder : List ℕ) → length master.bytes ≡ key_len master.etype
    → length key.bytes ≡ key_len key.etype → length confounder ≡ 16
    → length (wrapped master key confounder) ≡ wrapped_len master.etype key.etype
unfolding wrapped wrapped_len
wrapped_long master key confounder whole long sixteen =
    omega (
      arith,
      whole,
      long,
      sixteen,
      length-append (little 2 (length key.bytes)) (sealed master 0 confounder key.bytes),
      length-little 2 (length key.bytes),
      sealed_long master 0 confounder key.bytes whole,
    )
