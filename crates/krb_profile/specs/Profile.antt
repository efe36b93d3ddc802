-- The encryption types of RFC 3962 and of RFC 8009, by cases.
use Rattle.std.specs.Prelude.{◌≡◌, ℕ, ◌+◌, List, ◌++◌, length, true, false, if◌then◌else◌}
use Rattle.aes_cts.specs.BlockKeys.{AreBytes}
use Rattle.kdb_base.specs.Etypes.{tag_len}
use Rattle.kdb_base.specs.Key.{Key}
use Rattle.kdb_base.specs.declared.keys.Etype.{Etype}
use Rattle.krb_profile.specs.Sha1 as Sha1
use Rattle.sha2_profile.specs.Sha2.{is_sha2}
use Rattle.sha2_profile.specs.Sha2 as Sha2

-- what a plain text is sealed to
unfoldable pub sealed : Key → ℕ → List ℕ → List ℕ → List ℕ
sealed key usage confounder plain =
    if is_sha2 key.etype
    then Sha2.sealed key usage confounder plain
    else Sha1.sealed key usage confounder plain

-- the key of a password and a salt in so many rounds
unfoldable pub string_key : Etype → List ℕ → List ℕ → ℕ → List ℕ
string_key etype password salt count =
    if is_sha2 etype
    then Sha2.string_key etype password salt count
    else Sha1.string_key etype password salt count

-- the blob is what the plain text is sealed to, under some confounder
pub record IsSealed (key : Key) (usage : ℕ) (blob plain : List ℕ) : Type 0 where
  pub confounder : List ℕ
  pub whole : length confounder ≡ 16
  pub bytes : AreBytes (confounder ++ plain)
  pub long : length blob ≡ 16 + tag_len key.etype + length plain
  pub is : blob ≡ sealed key usage confounder plain

-- the blob's tag is not that of what it holds
pub record IsMistagged (key : Key) (usage : ℕ) (blob : List ℕ) : Type 0 where
  pub sha1 : is_sha2 key.etype ≡ false → Sha1.IsMistagged key usage blob
  pub sha2 : is_sha2 key.etype ≡ true → Sha2.IsMistagged key usage blob
