-- What the calls of a standard's keys tell is what the calls of all types tell.
use Rattle.std.proofs.Common.{◌≡◌, ◌≢◌, ◌↔◌, ℕ, ◌+◌, ◌<◌, ◌∙◌, sym, subst, true, false, List, length, Result, Ok, Err}
use Rattle.std.specs.Prelude.{IfOk, MatchResult}
use Rattle.kdb_base.specs.Etypes.{tag_len}
use Rattle.kdb_base.specs.declared.outcomes.MemoryOut.{MemoryOut}
use Rattle.sha2_profile.specs.KeyUses.{KeyUse}
use Rattle.sha2_profile.specs.Sha2.{is_sha2}
use Rattle.sha2_profile.specs.Sha2 as Sha2
use Rattle.sha2_profile.specs.declared.faults.UnsealFault.{UnsealFault}
use Rattle.sha2_profile.specs.declared.faults.UnsealFault.TheVariants as fault
use Rattle.krb_profile.specs.Profile.{sealed, IsSealed, IsMistagged}
use Rattle.krb_profile.specs.Sha1 as Sha1
use Rattle.krb_profile.proofs.Cases.{sealed_sha1, sealed_sha2, to_sha1, to_sha2, from_sha1}
use Rattle.krb_profile.proofs.Cases.{from_sha2, mistagged_sha1, mistagged_sha2}

map_ok : {X E : Type 0} {P Q : X → Type 0} (result : Result X E) → ((x : X) → P x → Q x) → IfOk result P → IfOk result Q
map_ok (Ok x) f h = f x h
map_ok (Err e) f h = h

-- what a seal tells
pub record Seals (u : KeyUse) (confounder plain : List ℕ) (result : Result (List ℕ) MemoryOut) : Type 0 where
  pub bytes : IfOk result (λ blob. blob ≡ sealed u.key u.usage confounder plain)
  pub sealed : IfOk result (λ blob. IsSealed u.key u.usage blob plain)

pub seals_1 : (u v : KeyUse) (confounder plain : List ℕ) (result : Result (List ℕ) MemoryOut)
    → is_sha2 u.key.etype ≡ false → u ≡ v →
    IfOk result (λ blob. blob ≡ Sha1.sealed u.key u.usage confounder plain)
    → IfOk result (λ blob. Sha1.IsSealed u.key u.usage blob plain) →
    Seals v confounder plain result
seals_1 u v confounder plain result other same bytes is =
    subst (λ (w : KeyUse). Seals w confounder plain result) same (record {
      bytes = map_ok result (λ blob h. h ∙ sym (sealed_sha1 u.key u.usage confounder plain other)) bytes;
      sealed = map_ok result (λ blob h. from_sha1 u.key u.usage blob plain other h) is;
    })

pub seals_2 : (u v : KeyUse) (confounder plain : List ℕ) (result : Result (List ℕ) MemoryOut)
    → is_sha2 u.key.etype ≡ true → u ≡ v →
    IfOk result (λ blob. blob ≡ Sha2.sealed u.key u.usage confounder plain)
    → IfOk result (λ blob. Sha2.IsSealed u.key u.usage blob plain) →
    Seals v confounder plain result
seals_2 u v confounder plain result kind same bytes is =
    subst (λ (w : KeyUse). Seals w confounder plain result) same (record {
      bytes = map_ok result (λ blob h. h ∙ sym (sealed_sha2 u.key u.usage confounder plain kind)) bytes;
      sealed = map_ok result (λ blob h. from_sha2 u.key u.usage blob plain kind h) is;
    })

-- what an unsealing tells
pub record Unseals (u : KeyUse) (blob : List ℕ) (result : Result (List ℕ) UnsealFault) : Type 0 where
  pub ok : IfOk result (λ plain. IsSealed u.key u.usage blob plain)
  pub short : (result ≡ Err fault.Short) ↔ (length blob < 16 + tag_len u.key.etype)
  pub bad_tag : result ≡ Err fault.BadTag → IsMistagged u.key u.usage blob
  pub after_seal : (plain : List ℕ) → IsSealed u.key u.usage blob plain
      → MatchResult result (λ text. text ≡ plain) (λ f. f ≡ fault.MemoryOut)
  pub wrong_tag : IsMistagged u.key u.usage blob → MatchResult result (λ _. ⊥) (λ f. f ≢ fault.Short)
  pub bad_tag_sha2 : is_sha2 u.key.etype ≡ true → IsMistagged u.key u.usage blob → result ≡ Err fault.BadTag

pub unseals_1 : (u v : KeyUse) (blob : List ℕ) (result : Result (List ℕ) UnsealFault)
    → is_sha2 u.key.etype ≡ false → u ≡ v →
    IfOk result (λ plain. Sha1.IsSealed u.key u.usage blob plain)
    → (result ≡ Err fault.Short) ↔ (length blob < 16 + tag_len u.key.etype) →
    (result ≡ Err fault.BadTag → Sha1.IsMistagged u.key u.usage blob) →
    ((plain : List ℕ) → Sha1.IsSealed u.key u.usage blob plain
    → MatchResult result (λ text. text ≡ plain) (λ f. f ≡ fault.MemoryOut)) →
    (Sha1.IsMistagged u.key u.usage blob → MatchResult result (λ _. ⊥) (λ f. f ≢ fault.Short)) → Unseals v blob result
unseals_1 u v blob result other same ok short bad_tag after_seal wrong_tag =
    subst (λ (w : KeyUse). Unseals w blob result) same (record {
      ok = map_ok result (λ plain h. from_sha1 u.key u.usage blob plain other h) ok;
      short = short;
      bad_tag = λ e. mistagged_sha1 u.key u.usage blob other (bad_tag e);
      after_seal = λ plain s. after_seal plain (to_sha1 u.key u.usage blob plain other s);
      wrong_tag = λ m. wrong_tag (m.sha1 other);
      bad_tag_sha2 = λ kind m. absurd cc;
    })

not_short : (result : Result (List ℕ) UnsealFault) → result ≡ Err fault.BadTag
    → MatchResult result (λ _. ⊥) (λ f. f ≢ fault.Short)
not_short result e = subst (λ (r : Result (List ℕ) UnsealFault). MatchResult r (λ _. ⊥) (λ f. f ≢ fault.Short)) (sym e)
    (λ same. absurd cc)

pub unseals_2 : (u v : KeyUse) (blob : List ℕ) (result : Result (List ℕ) UnsealFault)
    → is_sha2 u.key.etype ≡ true → u ≡ v →
    IfOk result (λ plain. Sha2.IsSealed u.key u.usage blob plain)
    → (result ≡ Err fault.Short) ↔ (length blob < 16 + tag_len u.key.etype) →
    (result ≡ Err fault.BadTag) ↔ Sha2.IsMistagged u.key u.usage blob →
    ((plain : List ℕ) → Sha2.IsSealed u.key u.usage blob plain
    → MatchResult result (λ text. text ≡ plain) (λ f. f ≡ fault.MemoryOut)) →
    Unseals v blob result
unseals_2 u v blob result kind same ok short bad_tag after_seal =
    subst (λ (w : KeyUse). Unseals w blob result) same (record {
      ok = map_ok result (λ plain h. from_sha2 u.key u.usage blob plain kind h) ok;
      short = short;
      bad_tag = λ e. mistagged_sha2 u.key u.usage blob kind (bad_tag.0 e);
      after_seal = λ plain s. after_seal plain (to_sha2 u.key u.usage blob plain kind s);
      wrong_tag = λ m. not_short result (bad_tag.1 (m.sha2 kind));
      bad_tag_sha2 = λ _ m. bad_tag.1 (m.sha2 kind);
    })
