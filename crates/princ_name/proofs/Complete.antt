-- A spelled word is read as it is spelled, and has no fault.
use Rattle.std.proofs.Common.{◌≡◌, ℕ, ◌+◌, Bool, true, false, Option, Some, None, List, [], ◌∷◌, ◌++◌, length}
use Rattle.std.proofs.Common.{inl, inr, refl, sym, ap, ◌∙◌, append_assoc, append-nil, length-append, arith}
use Rattle.princ_name.specs.Bytes.{is_refused}
use Rattle.princ_name.specs.Faults.{fault_from, first_fault}
use Rattle.princ_name.specs.Reading.{Said, says, before_plain, before_escaped, before_sign, empty_part}
use Rattle.princ_name.specs.Spelling.{SpellsText, SpellsPart, SpellsParts, SpellsWithRealm, is_bare}
use Rattle.princ_name.specs.declared.parts.Part.{Part}
use Rattle.princ_name.proofs.Takes.{says-plain, fault-plain}
use Rattle.princ_name.proofs.Sound.{plain-bare}

-- another first text
abbrev with_first : Part → Said → Said
with_first part said = record { first = part; others = said.others; realm_at = said.realm_at }

pub read_text : (text front : List ℕ) (at next : ℕ) (mark : Option ℕ) (rest : List ℕ) → next ≡ at + length front
    → SpellsText text front
    → (says next false mark rest).first ≡ empty_part
    → says at false mark (front ++ rest)
    ≡ with_first (record { text = text; bare = is_bare front }) (says next false mark rest)
unfolding SpellsText is_bare says before_plain before_escaped
read_text [] front at next mark rest here h stops =
    let same : at ≡ next = omega (arith, ap length h) in
    rw (h, same) (ap (λ (p : Part). with_first p (says next false mark rest)) stops)
read_text (b ∷ text) front at next mark rest here h stops = elim h.2 [
  | inl plain ↦
      let is : front ≡ b ∷ h.1 = h.4 ∙ ap (λ p. p ++ h.1) plain.1 in
      let more : next ≡ at + 1 + length h.1 = omega (arith, ap length is) in
      rw is (says-plain at b mark (h.1 ++ rest) plain.0
      ∙ ap (λ s. before_plain b s) (read_text text h.1 (at + 1) next mark rest more h.3 stops)
      ∙ ap (λ (w : Bool). with_first (record { text = b ∷ text; bare = w }) (says next false mark rest))
      (sym (plain-bare b h.1 plain.0)))
  | inr behind ↦
      let is : front ≡ 92 ∷ behind.0 ∷ h.1 = h.4 ∙ ap (λ p. p ++ h.1) behind.3 in
      let more : next ≡ at + 1 + 1 + length h.1 = omega (arith, ap length is) in
      rw (is, behind.2)
      (ap (λ s. before_escaped behind.0 s) (read_text text h.1 (at + 1 + 1) next mark rest more h.3 stops))
]

pub faultless_text : (text front : List ℕ) (at next : ℕ) (realm : Bool) (rest : List ℕ) → next ≡ at + length front
    → SpellsText text front
    → fault_from at false realm (front ++ rest) ≡ fault_from next false realm rest
unfolding SpellsText fault_from is_refused
faultless_text [] front at next realm rest here h =
    let same : at ≡ next = omega (arith, ap length h) in
    rw (h, same) refl
faultless_text (b ∷ text) front at next realm rest here h = elim h.2 [
  | inl plain ↦
      let is : front ≡ b ∷ h.1 = h.4 ∙ ap (λ p. p ++ h.1) plain.1 in
      let more : next ≡ at + 1 + length h.1 = omega (arith, ap length is) in
      rw is (fault-plain at b realm (h.1 ++ rest) plain.0 ∙ faultless_text text h.1 (at + 1) next realm rest more h.3)
  | inr behind ↦
      let is : front ≡ 92 ∷ behind.0 ∷ h.1 = h.4 ∙ ap (λ p. p ++ h.1) behind.3 in
      let more : next ≡ at + 1 + 1 + length h.1 = omega (arith, ap length is) in
      let allowed = behind.1 in
      rw (is, allowed) (faultless_text text h.1 (at + 1 + 1) next realm rest more h.3)
]

part_read : (part : Part) (front : List ℕ) (said : Said) → SpellsPart part front
    → with_first (record { text = part.text; bare = is_bare front }) said ≡ with_first part said
part_read part front said h = ap (λ (w : Bool). with_first (record { text = part.text; bare = w }) said) (sym h.bare)

says-between : (at : ℕ) (rest : List ℕ) → says at false None (47 ∷ rest) ≡ before_sign (says (at + 1) false None rest)
unfolding says
says-between at rest = refl

before_sign-first : (said : Said) → (before_sign said).first ≡ empty_part
unfolding before_sign
before_sign-first said = refl

says-at : (at : ℕ) (rest : List ℕ)
    → says at false None (64 ∷ rest) ≡ before_sign (says (at + 1) false (Some (at + 1)) rest)
unfolding says
says-at at rest = refl

says-end : (at : ℕ) (mark : Option ℕ)
    → says at false mark [] ≡ record { first = empty_part; others = []; realm_at = mark }
unfolding says
says-end at mark = refl

fault-between : (at : ℕ) (rest : List ℕ) → fault_from at false false (47 ∷ rest) ≡ fault_from (at + 1) false false rest
unfolding fault_from is_refused
fault-between at rest = refl

fault-at : (at : ℕ) (rest : List ℕ) → fault_from at false false (64 ∷ rest) ≡ fault_from (at + 1) false true rest
unfolding fault_from is_refused
fault-at at rest = refl

fault-end : (at : ℕ) (realm : Bool) → fault_from at false realm [] ≡ None
unfolding fault_from
fault-end at realm = refl

-- the components of a word, before its end or its realm
pub read_parts : (p : Part) (ps : List Part) (front : List ℕ) (at next : ℕ) (tail : List ℕ) → next ≡ at + length front
    → SpellsParts SpellsPart (p ∷ ps) front → (says next false None tail).first ≡ empty_part
    → says at false None (front ++ tail) ≡ record {
      first = p;
      others = ps ++ (says next false None tail).others;
      realm_at = (says next false None tail).realm_at;
    }
unfolding SpellsParts before_sign
read_parts p [] front at next tail here h stops =
    read_text p.text front at next None tail here h.text stops ∙ part_read p front (says next false None tail) h
read_parts p (q ∷ ps) front at next tail here h stops =
    let middle = at + length h.0 in
    let whole : front ++ tail ≡ h.0 ++ 47 ∷ (h.1 ++ tail) =
    ap (λ w. w ++ tail) h.4 ∙ append_assoc h.0 (47 ∷ h.1) tail in
    let more : next ≡ middle + 1 + length h.1 = omega (arith, ap length h.4, length-append h.0 (47 ∷ h.1)) in
    ap (λ w. says at false None w) whole
    ∙ read_text p.text h.0 at middle None (47 ∷ (h.1 ++ tail)) refl h.2.text (ap (λ s. s.first)
    (says-between middle (h.1 ++ tail)) ∙ before_sign-first (says (middle + 1) false None (h.1 ++ tail)))
    ∙ part_read p h.0 (says middle false None (47 ∷ (h.1 ++ tail))) h.2
    ∙ ap (λ s. with_first p s) (says-between middle (h.1 ++ tail))
    ∙ ap (λ s. with_first p (before_sign s)) (read_parts q ps h.1 (middle + 1) next tail more h.3 stops)

pub faultless_parts : (p : Part) (ps : List Part) (front : List ℕ) (at next : ℕ) (tail : List ℕ)
    → next ≡ at + length front
    → SpellsParts SpellsPart (p ∷ ps) front
    → fault_from at false false (front ++ tail) ≡ fault_from next false false tail
unfolding SpellsParts
faultless_parts p [] front at next tail here h = faultless_text p.text front at next false tail here h.text
faultless_parts p (q ∷ ps) front at next tail here h =
    let middle = at + length h.0 in
    let whole : front ++ tail ≡ h.0 ++ 47 ∷ (h.1 ++ tail) =
    ap (λ w. w ++ tail) h.4 ∙ append_assoc h.0 (47 ∷ h.1) tail in
    let more : next ≡ middle + 1 + length h.1 = omega (arith, ap length h.4, length-append h.0 (47 ∷ h.1)) in
    ap (λ w. fault_from at false false w) whole
    ∙ faultless_text p.text h.0 at middle false (47 ∷ (h.1 ++ tail)) refl h.2.text
    ∙ fault-between middle (h.1 ++ tail)
    ∙ faultless_parts q ps h.1 (middle + 1) next tail more h.3

-- a word without a realm
pub read_without : (p : Part) (ps : List Part) (word : List ℕ) → SpellsParts SpellsPart (p ∷ ps) word
    → (says 0 false None word ≡ record { first = p; others = ps; realm_at = None }) × (first_fault word ≡ None)
unfolding first_fault
read_without p ps word h =
    let end = length word in
    let here : end ≡ 0 + length word = omega arith in
    let stops : (says end false None []).first ≡ empty_part = ap (λ s. s.first) (says-end end None) in (
      ap (λ w. says 0 false None w) (sym (append-nil word))
          ∙ read_parts p ps word 0 end [] here h stops
          ∙ ap (λ (s : Said). with_first p (record { first = s.first; others = ps ++ s.others; realm_at = s.realm_at }))
          (says-end end None)
          ∙ ap (λ (o : List Part). with_first p (record { first = p; others = o; realm_at = None })) (append-nil ps),
      ap (λ w. fault_from 0 false false w) (sym (append-nil word)) ∙ faultless_parts p ps word 0 end [] here h
          ∙ fault-end end false,
    )

-- a word with a realm
pub read_with : (p : Part) (ps : List Part) (realm : Part) (word : List ℕ)
    (s : SpellsWithRealm SpellsPart word (p ∷ ps) realm)
    → (says 0 false None word ≡ record { first = p; others = ps ++ realm ∷ []; realm_at = Some (length s.front + 1) })
    × (first_fault word ≡ None)
unfolding first_fault before_sign
read_with p ps realm word s =
    let middle = length s.front in
    let here : middle ≡ 0 + length s.front = omega arith in
    let end = middle + 1 + length s.back in
    let last : Said = record { first = realm; others = []; realm_at = Some (middle + 1) } in
    let stops : (says middle false None (64 ∷ s.back)).first ≡ empty_part =
    ap (λ t. t.first) (says-at middle s.back)
    ∙ before_sign-first (says (middle + 1) false (Some (middle + 1)) s.back) in
    let behind : says (middle + 1) false (Some (middle + 1)) s.back ≡ last =
    ap (λ w. says (middle + 1) false (Some (middle + 1)) w) (sym (append-nil s.back))
    ∙ read_text realm.text s.back (middle + 1) end (Some (middle + 1)) [] refl s.spells_realm.text
    (ap (λ t. t.first) (says-end end (Some (middle + 1))))
    ∙ part_read realm s.back (says end false (Some (middle + 1)) []) s.spells_realm
    ∙ ap (λ t. with_first realm t) (says-end end (Some (middle + 1))) in (
      ap (λ w. says 0 false None w) s.whole
          ∙ read_parts p ps s.front 0 middle (64 ∷ s.back) here s.spells_parts stops
          ∙ ap (λ (t : Said). with_first p (record { first = t.first; others = ps ++ t.others; realm_at = t.realm_at }))
          (says-at middle s.back)
          ∙ ap (λ (t : Said). with_first p
          (record { first = p; others = ps ++ (before_sign t).others; realm_at = (before_sign t).realm_at })) behind,
      ap (λ w. fault_from 0 false false w) s.whole
          ∙ faultless_parts p ps s.front 0 middle (64 ∷ s.back) here s.spells_parts
          ∙ fault-at middle s.back
          ∙ ap (λ w. fault_from (middle + 1) false true w) (sym (append-nil s.back))
          ∙ faultless_text realm.text s.back (middle + 1) end true [] refl s.spells_realm.text
          ∙ fault-end end true,
    )
