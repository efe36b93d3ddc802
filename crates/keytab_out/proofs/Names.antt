-- The parts of a name are short.
use Rattle.std.proofs.Common.{◌≡◌, ℕ, ◌+◌, ◌*◌, ◌^◌, ◌<◌, ◌≤◌, Bool, true, false, cond}
use Rattle.std.proofs.Common.{List, [], ◌∷◌, length, refl, inl, inr, arith, ◌⊎◌}
use Rattle.std.specs.Prelude.{nat_eq}
use Rattle.std.specs.List.{All, AllByRecursion, flat_map}
use Rattle.std.proofs.lemmas.List.{length-append}
use Rattle.std.proofs.lemmas.List.Elements.{All-from_recursion}
use Rattle.kdb_format.specs.Lengths.{length-counted}
use Rattle.kdb_format.specs.Spellings.{counted}
use Rattle.princ_name.specs.Bytes.{is_sign, printed_byte}
use Rattle.princ_name.specs.Names.{IsName, NameParts, printed, printed_parts, printed_text}

truth : (b : Bool) → (b ≡ true) ⊎ (b ≡ false)
truth true = inl refl
truth false = inr refl

one_of : (b : Bool) (xs ys : List ℕ) → 1 ≤ length xs → 1 ≤ length ys → 1 ≤ length (cond b xs ys)
one_of true xs ys some other = some
one_of false xs ys some other = other

some_printed : (b : ℕ) → 1 ≤ length (printed_byte b)
unfolding printed_byte
some_printed b =
    one_of (nat_eq b 10) _ _ (omega arith)
    (one_of (nat_eq b 9) _ _ (omega arith)
    (one_of (nat_eq b 8) _ _ (omega arith)
    (one_of (nat_eq b 0) _ _ (omega arith)
    (one_of (is_sign b) _ _ (omega arith) (omega arith)))))

text_longer : (text : List ℕ) → length text ≤ length (printed_text text)
unfolding printed_text
text_longer [] = omega arith
text_longer (b ∷ text) =
    omega (arith, length-append (printed_byte b) (flat_map printed_byte text), some_printed b, text_longer text)

parts_shorter : (n : ℕ) (parts : List (List ℕ)) → length (printed_parts parts) ≤ n
    → AllByRecursion (λ part. length part ≤ n) parts
unfolding printed_parts
parts_shorter n [] le = tt
parts_shorter n (part ∷ []) le = (let longer = text_longer part in omega arith, tt)
parts_shorter n (part ∷ next ∷ parts) le =
    let longer = text_longer part in
    let whole = length-append (printed_text part) (47 ∷ printed_parts (next ∷ parts)) in
    (omega arith, parts_shorter n (next ∷ parts) (omega arith))

pub realm_short : (name : NameParts) → IsName name → length name.realm ≤ 255
unfolding printed
realm_short name is =
    let short = is.short in
    let longer = text_longer name.realm in
    let whole = length-append (printed_parts name.parts) (64 ∷ printed_text name.realm) in
    omega arith

pub parts_short : (name : NameParts) → IsName name → All (λ part. length part < 2 ^ 16) name.parts
unfolding printed
parts_short name is =
    let short = is.short in
    let whole = length-append (printed_parts name.parts) (64 ∷ printed_text name.realm) in
    All-from_recursion (λ (part : List ℕ). length part < 2 ^ 16) name.parts
    (weaker name.parts (parts_shorter 255 name.parts (omega arith)))
  where
    weaker : (parts : List (List ℕ)) → AllByRecursion (λ (part : List ℕ). length part ≤ 255) parts
        → AllByRecursion (λ (part : List ℕ). length part < 2 ^ 16) parts
    weaker [] h = tt
    weaker (part ∷ parts) h = (let le = h.0 in omega arith, weaker parts h.1)

-- what the parts take, each behind its length
counted_parts : (parts : List (List ℕ))
    → length (flat_map counted parts) ≤ 2 * length parts + length (printed_parts parts)
unfolding printed_parts
counted_parts [] = omega arith
counted_parts (part ∷ []) = let longer =
    text_longer part in omega (arith, length-append (counted part) [], length-counted part)
counted_parts (part ∷ next ∷ parts) =
    let longer = text_longer part in
    let whole = length-append (printed_text part) (47 ∷ printed_parts (next ∷ parts)) in
    omega (
      arith,
      length-append (counted part) (flat_map counted (next ∷ parts)),
      length-counted part,
      counted_parts (next ∷ parts),
    )

pub parts_room : (name : NameParts) → IsName name → length (flat_map counted name.parts) ≤ 287
unfolding printed
parts_room name is =
    let short = is.short in
    let few = is.few in
    let whole = length-append (printed_parts name.parts) (64 ∷ printed_text name.realm) in
    omega (arith, counted_parts name.parts)
