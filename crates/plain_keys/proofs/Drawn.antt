-- Random keys, one after another.
use Rattle.std.proofs.Common.{◌≡◌, ℕ, ◌+◌, ◌<◌, ◌≤◌, List, [], ◌∷◌, ◌++◌, length}
use Rattle.std.proofs.Common.{get_or, take, drop, subst, append_assoc, ◌∙◌, arith}
use Rattle.std.specs.List.{sum_by}
use Rattle.std.proofs.lemmas.List.{drop_more, length-drop}
use Rattle.std.proofs.lemmas.List.Sums.{sum_by-cons}
use Rattle.kdb_base.specs.Etypes.{key_len}
use Rattle.kdb_base.specs.Key.{Key}
use Rattle.kdb_base.specs.declared.keys.Etype.{Etype}
use Rattle.plain_keys.specs.Keys.{drawn_len, random_keys}

-- what is made, and what comes of the types and the bytes that are left
pub record IsDrawn (made : List Key) (left random : List ℕ) (rest etypes : List Etype) : Type 0 where
  pub keys : made ++ random_keys left rest ≡ random_keys random etypes
  pub enough : sum_by drawn_len rest ≤ length left

pub next_drawn : (made : List Key) (left random : List ℕ) (etypes : List Etype) (i : ℕ) (d : Etype) → i < length etypes
    → IsDrawn made left random (drop i etypes) etypes
    → IsDrawn (made ++ record { etype = get_or etypes i d; bytes = take (key_len (get_or etypes i d)) left } ∷ [])
    (drop (drawn_len (get_or etypes i d)) left) random (drop (i + 1) etypes) etypes
unfolding random_keys
next_drawn made left random etypes i d lt f =
    let e = get_or etypes i d in
    let rest = drop (i + 1) etypes in
    let key : Key = record { etype = e; bytes = take (key_len e) left } in
    let more = drop_more etypes i d lt in
    let here : IsDrawn made left random (e ∷ rest) etypes =
    subst (λ (es : List Etype). IsDrawn made left random es etypes) more f in
    let sum = sum_by-cons drawn_len e rest in
    let enough = here.enough in
    record {
      keys = append_assoc made (key ∷ []) (random_keys (drop (drawn_len e) left) rest) ∙ here.keys;
      enough = omega (arith, length-drop (drawn_len e) left);
    }

-- enough bytes for the next key
pub bytes_there : (made : List Key) (left random : List ℕ) (etypes : List Etype) (i : ℕ) (d : Etype) → i < length etypes
    → IsDrawn made left random (drop i etypes) etypes → drawn_len (get_or etypes i d) ≤ length left
bytes_there made left random etypes i d lt f =
    let e = get_or etypes i d in
    let rest = drop (i + 1) etypes in
    let here : IsDrawn made left random (e ∷ rest) etypes =
    subst (λ (es : List Etype). IsDrawn made left random es etypes) (drop_more etypes i d lt) f in
    let sum = sum_by-cons drawn_len e rest in
    let enough = here.enough in omega arith
