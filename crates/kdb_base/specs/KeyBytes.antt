-- The bytes that a key is kept in: its own, and zeros.
use Rattle.std.specs.Prelude.{◌≡◌, ℕ, ◌-◌, List, ◌++◌, take, drop, replicate}
use Rattle.std.proofs.Common.{◌∙◌, ap, sym}
use Rattle.std.proofs.lemmas.List.{take-append-drop}
use Rattle.kdb_base.specs.declared.keys.PlainKey.TheInside.{Inside}
use Rattle.kdb_base.specs.Etypes.{key_len}

-- a key and the zeros after it are what it is kept in
pub with_zeros : (k : Inside) → drop (key_len k.etype) k.bytes ≡ replicate (32 - key_len k.etype) 0 →
    ◌≡◌ {A = Inside}
    (record { etype = k.etype; bytes = take (key_len k.etype) k.bytes ++ replicate (32 - key_len k.etype) 0 }) k
with_zeros k zeros =
    let whole : take (key_len k.etype) k.bytes ++ replicate (32 - key_len k.etype) 0 ≡ k.bytes =
    ap (λ (rest : List ℕ). take (key_len k.etype) k.bytes ++ rest) (sym zeros)
    ∙ take-append-drop (key_len k.etype) k.bytes in
    let kept : List ℕ → Inside = λ (bytes : List ℕ). record { etype = k.etype; bytes = bytes } in
    ap kept whole
