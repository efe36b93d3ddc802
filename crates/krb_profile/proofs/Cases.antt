-- The definitions of all types are those of the type's own standard.
use Rattle.std.proofs.Common.{◌≡◌, ℕ, ◌∙◌, sym, refl, true, false, List}
use Rattle.kdb_base.specs.Key.{Key}
use Rattle.sha2_profile.specs.Sha2.{is_sha2}
use Rattle.sha2_profile.specs.Sha2 as Sha2
use Rattle.krb_profile.specs.Profile.{sealed, IsSealed, IsMistagged}
use Rattle.krb_profile.specs.Sha1 as Sha1

pub sealed_sha1 : (key : Key) (usage : ℕ) (confounder plain : List ℕ) → is_sha2 key.etype ≡ false
    → sealed key usage confounder plain ≡ Sha1.sealed key usage confounder plain
unfolding sealed
sealed_sha1 key usage confounder plain other = rw other refl

pub sealed_sha2 : (key : Key) (usage : ℕ) (confounder plain : List ℕ) → is_sha2 key.etype ≡ true
    → sealed key usage confounder plain ≡ Sha2.sealed key usage confounder plain
unfolding sealed
sealed_sha2 key usage confounder plain is = rw is refl

pub to_sha1 : (key : Key) (usage : ℕ) (blob plain : List ℕ) → is_sha2 key.etype ≡ false → IsSealed key usage blob plain
    → Sha1.IsSealed key usage blob plain
to_sha1 key usage blob plain other s =
    record {
      confounder = s.confounder;
      whole = s.whole;
      bytes = s.bytes;
      long = s.long;
      is = s.is ∙ sealed_sha1 key usage s.confounder plain other;
    }

pub from_sha1 : (key : Key) (usage : ℕ) (blob plain : List ℕ) → is_sha2 key.etype ≡ false
    → Sha1.IsSealed key usage blob plain → IsSealed key usage blob plain
from_sha1 key usage blob plain other s =
    record {
      confounder = s.confounder;
      whole = s.whole;
      bytes = s.bytes;
      long = s.long;
      is = s.is ∙ sym (sealed_sha1 key usage s.confounder plain other);
    }

pub to_sha2 : (key : Key) (usage : ℕ) (blob plain : List ℕ) → is_sha2 key.etype ≡ true → IsSealed key usage blob plain
    → Sha2.IsSealed key usage blob plain
to_sha2 key usage blob plain is s =
    record {
      confounder = s.confounder;
      whole = s.whole;
      bytes = s.bytes;
      long = s.long;
      is = s.is ∙ sealed_sha2 key usage s.confounder plain is;
    }

pub from_sha2 : (key : Key) (usage : ℕ) (blob plain : List ℕ) → is_sha2 key.etype ≡ true
    → Sha2.IsSealed key usage blob plain → IsSealed key usage blob plain
from_sha2 key usage blob plain is s =
    record {
      confounder = s.confounder;
      whole = s.whole;
      bytes = s.bytes;
      long = s.long;
      is = s.is ∙ sym (sealed_sha2 key usage s.confounder plain is);
    }

pub mistagged_sha1 : (key : Key) (usage : ℕ) (blob : List ℕ) → is_sha2 key.etype ≡ false
    → Sha1.IsMistagged key usage blob → IsMistagged key usage blob
mistagged_sha1 key usage blob other m = record { sha1 = λ _. m; sha2 = λ is. absurd cc }

pub mistagged_sha2 : (key : Key) (usage : ℕ) (blob : List ℕ) → is_sha2 key.etype ≡ true
    → Sha2.IsMistagged key usage blob → IsMistagged key usage blob
mistagged_sha2 key usage blob is m = record { sha1 = λ other. absurd cc; sha2 = λ _. m }
