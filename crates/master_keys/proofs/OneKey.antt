-- A blob holds one key.
use Rattle.std.proofs.Common.{◌≡◌, ℕ, List, length, sym, ap, subst, ◌∙◌}
use Rattle.std.proofs.lemmas.List.{append_cancel_left}
use Rattle.aes_cts.specs.BlockKeys.{AreBytes}
use Rattle.kdb_base.specs.Etypes.{key_len}
use Rattle.kdb_base.specs.Key.{Key}
use Rattle.kdb_base.specs.declared.keys.Etype.{Etype}
use Rattle.kdb_format.specs.Spellings.{little}
use Rattle.krb_profile.specs.Profile.{IsSealed}
use Rattle.master_keys.specs.Wrapping.{Unwraps}

-- a blob is sealed from one text
abbrev pub SealedOnce : Type 0
SealedOnce = (key : Key) (usage : ℕ) (blob one other : List ℕ) → length key.bytes ≡ key_len key.etype
    → AreBytes key.bytes → IsSealed key usage blob one → IsSealed key usage blob other → one ≡ other

same_key : (one other : Key) → one.etype ≡ other.etype → one.bytes ≡ other.bytes → one ≡ other
same_key one other e b =
    let made : Etype → List ℕ → Key = λ (t : Etype) (bytes : List ℕ). record { etype = t; bytes = bytes } in
    ap (λ (t : Etype). made t one.bytes) e ∙ ap (λ (bytes : List ℕ). made other.etype bytes) b

pub one_key : SealedOnce → (master : Key) (etype : Etype) (blob : List ℕ) (one other : Key)
    → length master.bytes ≡ key_len master.etype → AreBytes master.bytes
    → Unwraps master etype blob one → Unwraps master etype blob other → one ≡ other
one_key once master etype blob one other long bytes s t =
    let texts : s.text ≡ t.text =
    append_cancel_left (little 2 (key_len etype)) s.text t.text (sym s.blob_is ∙ t.blob_is) in
    let sealed : IsSealed master 0 t.text one.bytes =
    subst (λ (text : List ℕ). IsSealed master 0 text one.bytes) texts s.sealed in
    same_key one other (s.of_type ∙ sym t.of_type)
    (once master 0 t.text one.bytes other.bytes long bytes sealed t.sealed)
