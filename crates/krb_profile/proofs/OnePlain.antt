-- A blob is sealed from one text.
use Rattle.std.proofs.Common.{◌≡◌, ℕ, ◌-◌, ◌≤◌, ◌∙◌, ap, sym, refl, Bool, true, false}
use Rattle.std.proofs.Common.{List, ◌++◌, length, take, drop, length-append, arith}
use Rattle.std.proofs.lemmas.List.{drop_at}
use Rattle.std.proofs.lemmas.List.Elements.{recursion_from_All}
use Rattle.aes_cts.specs.BlockKeys.{IsKeyLong}
use Rattle.aes_cts.specs.BlockKeys as Blocks
use Rattle.aes_cts.specs.Stealing.{cts}
use Rattle.aes_cts.proofs.OneText.{one_text}
use Rattle.aes_cts.proofs.Sums.{AreBytes}
use Rattle.kdb_base.specs.Etypes.{key_len, tag_len}
use Rattle.kdb_base.specs.Key.{Key}
use Rattle.sha2_profile.specs.Sha2.{is_sha2}
use Rattle.sha2_profile.specs.Sha2 as Sha2
use Rattle.sha2_profile.proofs.Unsealing as Unsealing2
use Rattle.krb_profile.specs.Profile.{IsSealed}
use Rattle.krb_profile.specs.Sha1 as Sha1
use Rattle.krb_profile.proofs.Cases.{to_sha1, to_sha2}
use Rattle.krb_profile.proofs.KeyBytes.{kdf_long, kdf_bytes, derived_long, derived_bytes}
use Rattle.krb_profile.proofs.Unsealing as Unsealing1

-- under one key of AES, two confounders and texts with one cipher text
one_behind : (key front a b p q : List ℕ) → IsKeyLong key → AreBytes key → length a ≡ 16 → length b ≡ 16 →
    Blocks.AreBytes (a ++ p) → Blocks.AreBytes (b ++ q) → cts key (a ++ p) ≡ front → cts key (b ++ q) ≡ front → p ≡ q
one_behind key front a b p q long bytes whole_a whole_b bytes_a bytes_b first second =
    let low : 16 ≤ length (a ++ p) = omega (arith, length-append a p, whole_a) in
    let same = one_text key long bytes (a ++ p) (b ++ q) (recursion_from_All _ (a ++ p) bytes_a)
    (recursion_from_All _ (b ++ q) bytes_b) low (first ∙ sym second) in
    sym (drop_at a p 16 whole_a) ∙ ap (drop 16) same ∙ drop_at b q 16 whole_b

pub one_sha1 : (key : Key) (usage : ℕ) (blob p q : List ℕ) → is_sha2 key.etype ≡ false
    → length key.bytes ≡ key_len key.etype → AreBytes key.bytes →
    Sha1.IsSealed key usage blob p → Sha1.IsSealed key usage blob q → p ≡ q
unfolding Sha1.encryption_key Sha1.usage_key
one_sha1 key usage blob p q other long bytes s t =
    one_behind (Sha1.encryption_key key usage) (take (length blob - tag_len key.etype) blob) s.confounder
    t.confounder p q
    (derived_long key _ long) (derived_bytes key _ long bytes) s.whole t.whole s.bytes t.bytes
    (Unsealing1.sealed_holds key usage blob p other s) (Unsealing1.sealed_holds key usage blob q other t)

pub one_sha2 : (key : Key) (usage : ℕ) (blob p q : List ℕ) → is_sha2 key.etype ≡ true →
    Sha2.IsSealed key usage blob p → Sha2.IsSealed key usage blob q → p ≡ q
unfolding Sha2.encryption_key Sha2.usage_key
one_sha2 key usage blob p q is s t =
    one_behind (Sha2.encryption_key key usage) (take (length blob - tag_len key.etype) blob) s.confounder
    t.confounder p q
    (kdf_long key.etype key.bytes _ is) (kdf_bytes key.etype key.bytes _ (key_len key.etype) is) s.whole t.whole
    s.bytes t.bytes
    (Unsealing2.sealed_holds key usage blob p s) (Unsealing2.sealed_holds key usage blob q t)

pub one_plain : (key : Key) (usage : ℕ) (blob p q : List ℕ) → length key.bytes ≡ key_len key.etype
    → AreBytes key.bytes →
    IsSealed key usage blob p → IsSealed key usage blob q → p ≡ q
one_plain key usage blob p q long bytes s t = by_kind (is_sha2 key.etype) refl
  where
    by_kind : (kind : Bool) → is_sha2 key.etype ≡ kind → p ≡ q
    by_kind false other = one_sha1 key usage blob p q other long bytes (to_sha1 key usage blob p other s)
        (to_sha1 key usage blob q other t)
    by_kind true is = one_sha2 key usage blob p q is (to_sha2 key usage blob p is s) (to_sha2 key usage blob q is t)
