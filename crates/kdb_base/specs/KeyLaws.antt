-- The test of two keys is true of one key alone.
use Rattle.std.proofs.Common.{◌≡◌, ℕ, true, List, refl, ap, ◌∙◌, eqb-true}
use Rattle.std.specs.Prelude.{nat_eq}
use Rattle.std.specs.Str.{bytes_eq}
use Rattle.std.proofs.lemmas.Bool.{and_parts, eq-eqb}
use Rattle.std.proofs.lemmas.Slice.Eq.{bytes_eq-Decides}
use Rattle.kdb_base.specs.EtypeLaws.{same_etype}
use Rattle.kdb_base.specs.Etypes.{number_of}
use Rattle.kdb_base.specs.Key.{Key, is_same_key}
use Rattle.kdb_base.specs.declared.keys.Etype.{Etype}

pub same_keys : (a b : Key) → is_same_key a b ≡ true → a ≡ b
same_keys a b e =
    let parts = and_parts (nat_eq (number_of a.etype) (number_of b.etype)) (bytes_eq a.bytes b.bytes) e in
    ap (λ (t : Etype). let k : Key = record { etype = t; bytes = a.bytes } in k)
    (same_etype a.etype b.etype (eqb-true (number_of a.etype) (number_of b.etype) parts.0))
    ∙ ap (λ (x : List ℕ). let k : Key = record { etype = b.etype; bytes = x } in k)
    ((bytes_eq-Decides a.bytes b.bytes).0 parts.1)

pub keys_same : (a b : Key) → a ≡ b → is_same_key a b ≡ true
keys_same a b e =
    let numbers = eq-eqb (number_of b.etype) (number_of b.etype) refl in
    let bytes = (bytes_eq-Decides b.bytes b.bytes).1 refl in
    let own : is_same_key b b ≡ true = rw (numbers, bytes) refl in
    rw e own
