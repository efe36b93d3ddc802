-- What a test of two keys by `!=` tells of them.
use Rattle.std.proofs.Common.{◌≡◌, Bool, true, false, refl, sym, ap, ◌∙◌}
use Rattle.std.specs.Prelude.{not}
use Rattle.kdb_base.specs.Key.{Key, is_same_key}
use Rattle.kdb_base.specs.KeyLaws.{keys_same, same_keys}

if_not_other : (test : Bool) → not test ≡ false → test ≡ true
if_not_other true e = refl
if_not_other false e = absurd cc

pub not_other : (a b : Key) (other : Bool) → other ≡ not (is_same_key a b) → other ≡ false → a ≡ b
not_other a b other is e = same_keys a b (if_not_other (is_same_key a b) (sym is ∙ e))

pub not_same : (a b : Key) (other : Bool) → other ≡ not (is_same_key a b) → other ≡ true → a ≡ b → ⊥
not_same a b other is e same =
    let never : not true ≡ true = sym (ap not (keys_same a b same)) ∙ sym is ∙ e in
    absurd cc
