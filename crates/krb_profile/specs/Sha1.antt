-- The encryption types of RFC 3962: the simplified profile of RFC 3961, section 5, with AES and HMAC-SHA1.
use Rattle.std.specs.Prelude.{◌≡◌, ◌≢◌, ℕ, ◌+◌, ◌-◌, ◌≤◌, List, [], ◌∷◌, ◌++◌, length, take, drop, codes}
use Rattle.std.specs.Int.{w32, to_be_bytes}
use Rattle.aes_cts.specs.BlockKeys.{AreBytes}
use Rattle.aes_cts.specs.Cipher.{cipher}
use Rattle.aes_cts.specs.Stealing.{cts}
use Rattle.kdb_base.specs.Etypes.{key_len, tag_len}
use Rattle.kdb_base.specs.Key.{Key}
use Rattle.kdb_base.specs.declared.keys.Etype.{Etype}
use Rattle.krb_hmac.specs.Hmac.{hmac}
use Rattle.krb_hmac.specs.Pbkdf2.{pbkdf2}
use Rattle.krb_profile.specs.NFold.{n_folded}

-- the first two blocks of DR (RFC 3961, 5.1): the n-fold enciphered, and that enciphered again
unfoldable pub stream : List ℕ → List ℕ → List ℕ
stream key constant = cipher key (n_folded constant 16) ++ cipher key (cipher key (n_folded constant 16))

-- DK (RFC 3961, 5.1), whose random-to-key is the identity (RFC 3962, 6)
unfoldable pub derived : Key → List ℕ → List ℕ
derived key constant = take (key_len key.etype) (stream key.bytes constant)

-- the key of a usage, and of one of its purposes (RFC 3961, 5.3)
unfoldable pub usage_key : Key → ℕ → ℕ → List ℕ
usage_key key usage purpose = derived key (to_be_bytes w32 usage ++ purpose ∷ [])

-- Ke (RFC 3961, 5.3)
unfoldable pub encryption_key : Key → ℕ → List ℕ
encryption_key key usage = usage_key key usage 0xaa

-- Ki (RFC 3961, 5.3)
unfoldable pub integrity_key : Key → ℕ → List ℕ
integrity_key key usage = usage_key key usage 0x55

-- the tag of a plain text that begins with its confounder (RFC 3961, 5.3)
unfoldable pub tag : Key → ℕ → List ℕ → List ℕ
tag key usage text = take (tag_len key.etype) (hmac (integrity_key key usage) text)

-- what a plain text is sealed to (RFC 3961, 5.3)
unfoldable pub sealed : Key → ℕ → List ℕ → List ℕ → List ℕ
sealed key usage confounder plain =
    cts (encryption_key key usage) (confounder ++ plain) ++ tag key usage (confounder ++ plain)

-- the key of a password and a salt in so many rounds (RFC 3962, 4)
unfoldable pub string_key : Etype → List ℕ → List ℕ → ℕ → List ℕ
string_key etype password salt count =
    derived (record { etype = etype; bytes = pbkdf2 password salt count (key_len etype) }) (codes "kerberos")

-- the blob is what the plain text is sealed to, under some confounder
pub record IsSealed (key : Key) (usage : ℕ) (blob plain : List ℕ) : Type 0 where
  pub confounder : List ℕ
  pub whole : length confounder ≡ 16
  pub bytes : AreBytes (confounder ++ plain)
  pub long : length blob ≡ 16 + tag_len key.etype + length plain
  pub is : blob ≡ sealed key usage confounder plain

-- all of the blob but its last bytes is the cipher text of a text whose tag those bytes are not
pub record IsMistagged (key : Key) (usage : ℕ) (blob : List ℕ) : Type 0 where
  pub long : 16 + tag_len key.etype ≤ length blob
  pub text : List ℕ
  pub bytes : AreBytes text
  pub holds : cts (encryption_key key usage) text ≡ take (length blob - tag_len key.etype) blob
  pub differs : tag key usage text ≢ drop (length blob - tag_len key.etype) blob
