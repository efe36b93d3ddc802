-- Who made the last change, and when: seconds, a name, and a zero byte.
use Rattle.std.proofs.Common.{◌≡◌, ℕ, suc, ◌+◌, ◌-◌, ◌^◌, ◌<◌, true, eqb, ltb, List, [], ◌∷◌, ◌++◌, length, take}
use Rattle.std.proofs.Common.{drop, get_or, Some, None, refl, sym, ap, subst, ◌∙◌, append_assoc, arith, drop-cons}
use Rattle.std.specs.Prelude.{nat_eq, option_map, position, Contains}
use Rattle.std.specs.List.{position_or_len}
use Rattle.std.proofs.lemmas.List.{take-append-drop, take_rest, take_at, drop_at, get_or-take}
use Rattle.std.proofs.lemmas.List.{get_or_append_left, get_or-append-add, length-append, length-take}
use Rattle.std.proofs.lemmas.List.Sums.{position_or_len_is}
use Rattle.std.proofs.lemmas.Bool.{eqb-true, ne_eqb, both_ways, eq-eqb, lt-ltb}
use Rattle.std.proofs.lemmas.List.Quantifiers.{position-Some}
use Rattle.kdb_format.specs.Readings.{Reading, ◌>>=◌, done, little_at, whole}
use Rattle.kdb_format.specs.Spellings.{little}
use Rattle.kdb_format.specs.Numbers.{length-little}
use Rattle.kdb_format.specs.Fields.{IsField}
use Rattle.kdb_format.specs.Laws.{same_field, first_field, last_field, little_field}
use Rattle.tagged_data.specs.Contents.{IsContent, whole_content, map_some}

-- the bytes before the first zero byte, which is taken too
unfoldable pub ended_at : Reading (List ℕ)
ended_at = λ bytes. option_map (λ i. (take i bytes, drop (i + 1) bytes)) (position (λ b. nat_eq b 0) bytes)

-- a text, and a zero byte
unfoldable pub ended : List ℕ → List ℕ
ended text = text ++ 0 ∷ []

-- a text without a zero byte
abbrev pub IsUnbroken : List ℕ → Type 0
IsUnbroken text = ¬ Contains text 0

-- where the first zero byte is, what stands before it and behind it
zero_at : (bytes : List ℕ) (i : ℕ) → position (λ b. eqb b 0) bytes ≡ Some i
    → (bytes ≡ (take i bytes ++ 0 ∷ []) ++ drop (i + 1) bytes) × IsUnbroken (take i bytes)
zero_at bytes i e =
    let p = position-Some (λ (b : ℕ). eqb b 0) bytes i 0 e in
    let here : get_or bytes i 0 ≡ 0 = eqb-true _ _ p.1 in
    let split : drop i bytes ≡ 0 ∷ drop (i + 1) bytes =
    drop-cons bytes i 0 p.0 ∙ ap (λ (b : ℕ). b ∷ drop (suc i) bytes) here ∙ ap (λ (n : ℕ). 0 ∷ drop n bytes)
    (let e : suc i ≡ i + 1 = omega arith in e) in
    let parts : bytes ≡ (take i bytes ++ 0 ∷ []) ++ drop (i + 1) bytes =
    sym (take-append-drop i bytes) ∙ ap (λ (b : List ℕ). take i bytes ++ b) split
    ∙ sym (append_assoc (take i bytes) (0 ∷ []) (drop (i + 1) bytes)) in (
      parts,
      λ (k, lt, is).
          let below : k < i = omega (arith, length-take i bytes) in
          let at : get_or bytes k 0 ≡ 0 = sym (get_or-take i bytes k 0 below) ∙ is in
          both_ways (eqb (get_or bytes k 0) 0) (p.2 k below) (eq-eqb (get_or bytes k 0) 0 at),
    )

at_seam : (text rest : List ℕ) → get_or (text ++ 0 ∷ rest) (length text) 0 ≡ 0
at_seam text rest = ap (λ (n : ℕ). get_or (text ++ 0 ∷ rest) n 0)
    (let e : length text ≡ length text + 0 = omega arith in e) ∙ get_or-append-add text (0 ∷ rest) 0 0

-- the first zero byte is the one after a text without any
at_end : (text rest : List ℕ) → IsUnbroken text
    → position (λ b. eqb b 0) ((text ++ 0 ∷ []) ++ rest) ≡ Some (length text)
at_end text rest f =
    let bytes = (text ++ 0 ∷ []) ++ rest in
    let whole : bytes ≡ text ++ 0 ∷ rest = append_assoc text (0 ∷ []) rest in
    let long : length text < length bytes = omega (arith, ap length whole, length-append text (0 ∷ rest)) in
    let last : get_or bytes (length text) 0 ≡ 0 =
    ap (λ (b : List ℕ). get_or b (length text) 0) whole ∙ at_seam text rest in
    let place : position_or_len (λ b. eqb b 0) bytes ≡ length text =
    position_or_len_is (λ (b : ℕ). eqb b 0) bytes (length text) 0 (omega arith)
    (λ k lt. ne_eqb (get_or bytes k 0) 0 (λ e. f (
      k,
      lt,
      sym (get_or_append_left text (0 ∷ rest) 0 k lt) ∙ ap (λ (b : List ℕ). get_or b k 0) (sym whole) ∙ e,
    )))
    (λ _. eq-eqb (get_or bytes (length text) 0) 0 last) in
    let here : ltb (length text) (length bytes) ≡ true = lt-ltb _ _ long in
    rw (place, here) refl

-- the same, as slices give the parts
pub ended_is : (bytes : List ℕ) (i : ℕ) → position (λ b. eqb b 0) bytes ≡ Some i
    → ended_at bytes ≡ Some (take i bytes, take (length bytes - (i + 1)) (drop (i + 1) bytes))
unfolding ended_at
ended_is bytes i e =
    rw e (ap (λ (r : List ℕ). let x : List ℕ × List ℕ = (take i bytes, r) in Some x) (sym (take_rest bytes (i + 1))))

pub not_ended : (bytes : List ℕ) → position (λ b. eqb b 0) bytes ≡ None → ended_at bytes ≡ None
unfolding ended_at
not_ended bytes e = ap (option_map (λ (i : ℕ). let x : List ℕ × List ℕ = (take i bytes, drop (i + 1) bytes) in x)) e

pub ended_field : IsField ended_at ended IsUnbroken
unfolding ended_at ended
ended_field = record {
  spelled = λ bytes text rest fits e.
      let a = map_some (λ (i : ℕ). let x : List ℕ × List ℕ = (take i bytes, drop (i + 1) bytes) in x)
      (position (λ b. eqb b 0) bytes) (text, rest) e in
      subst (λ (x : List ℕ × List ℕ). bytes ≡ (x.0 ++ 0 ∷ []) ++ x.1) a.2 (zero_at bytes a.0 a.1).0;
  fits = λ bytes text rest fits e.
      let a = map_some (λ (i : ℕ). let x : List ℕ × List ℕ = (take i bytes, drop (i + 1) bytes) in x)
      (position (λ b. eqb b 0) bytes) (text, rest) e in
      subst (λ (x : List ℕ × List ℕ). IsUnbroken x.0) a.2 (zero_at bytes a.0 a.1).1;
  again = λ text rest f.
      let bytes = (text ++ 0 ∷ []) ++ rest in
      let front : take (length text) bytes ≡ text =
      ap (take (length text)) (append_assoc text (0 ∷ []) rest) ∙ take_at text (0 ∷ rest) (length text) refl in
      let behind : drop (length text + 1) bytes ≡ rest =
      drop_at (text ++ 0 ∷ []) rest (length text + 1) (length-append text (0 ∷ [])) in
      ap (option_map (λ (i : ℕ). let x : List ℕ × List ℕ = (take i bytes, drop (i + 1) bytes) in x))
      (at_end text rest f) ∙ rw (front, behind) refl;
}

-- seconds since 1970, and the name
unfoldable pub modifier_at : Reading (ℕ × List ℕ)
modifier_at = do
  secs ← little_at 4
  name ← ended_at
  done (secs, name)

unfoldable pub modifier_text : ℕ × List ℕ → List ℕ
modifier_text m = little 4 m.0 ++ ended m.1

pub record IsModifier (m : ℕ × List ℕ) : Type 0 where
  pub secs : m.0 < 2 ^ 32
  pub name : IsUnbroken m.1

pub length-modifier_text : (m : ℕ × List ℕ) → length (modifier_text m) ≡ 5 + length m.1
unfolding modifier_text ended
length-modifier_text m =
    omega (arith, length-append (little 4 m.0) (m.1 ++ 0 ∷ []), length-append m.1 (0 ∷ []), length-little 4 m.0)

pub modifier_field : IsField modifier_at modifier_text IsModifier
unfolding modifier_at modifier_text
modifier_field = same_field
    (first_field (little_field 4) (λ (m : ℕ × List ℕ). m.0) (λ secs _.
    last_field ended_field (λ (m : ℕ × List ℕ). m.1) (λ name. (secs, name)) (λ _ _. (refl, refl))
    (λ m k. ap (λ (n : ℕ). let p : ℕ × List ℕ = (n, m.1) in p) (sym k))))
    (λ m f. (refl, record { secs = f.0; name = f.1 }))
    (λ m f. (f.secs, f.name))

pub modifier_content : IsContent (whole modifier_at) modifier_text IsModifier
modifier_content = whole_content modifier_field
