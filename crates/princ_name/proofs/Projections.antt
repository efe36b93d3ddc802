-- Words of components and of their texts alone.
use Rattle.std.proofs.Common.{◌≡◌, ℕ, None, List, [], ◌∷◌, ◌++◌, map, inl, inr, refl, sym, ap, ◌∙◌}
use Rattle.princ_name.specs.Faults.{first_fault}
use Rattle.princ_name.specs.Names.{NameParts}
use Rattle.princ_name.specs.Spelling.{SpellsText, SpellsPart, SpellsParts, SpellsWithRealm, SpellsWord, Spells, is_bare}
use Rattle.princ_name.specs.Whole.{given_part, name_of}
use Rattle.princ_name.specs.declared.parts.Part.{Part}
use Rattle.princ_name.proofs.Shapes.{same_shape, word_read}

pub texts_spelled : (ps : List Part) (word : List ℕ) → SpellsParts SpellsPart ps word
    → SpellsParts SpellsText (map (λ p. p.text) ps) word
unfolding SpellsParts
texts_spelled [] word h = h
texts_spelled (p ∷ []) word h = h.text
texts_spelled (p ∷ q ∷ ps) word h = (h.0, h.1, h.2.text, texts_spelled (q ∷ ps) h.1 h.3, h.4)

unfoldable pub realm_texts : (word : List ℕ) (ps : List Part) (realm : Part) → SpellsWithRealm SpellsPart word ps realm
    → SpellsWithRealm SpellsText word (map (λ p. p.text) ps) realm.text
realm_texts word ps realm h = record {
  front = h.front;
  back = h.back;
  spells_parts = texts_spelled ps h.front h.spells_parts;
  spells_realm = h.spells_realm.text;
  whole = h.whole;
}

pub word_texts : (word given : List ℕ) (ps : List Part) (realm : Part)
    → SpellsWord SpellsPart word (given_part given) ps realm
    → Spells word given (name_of ps realm)
word_texts word given ps realm (inl h) = inl (texts_spelled ps word h.0, ap (λ (p : Part). p.text) h.1)
word_texts word given ps realm (inr h) = inr (realm_texts word ps realm h)

-- the parts of which these are the texts
pub record Lifted (texts : List (List ℕ)) (word : List ℕ) : Type 0 where
  pub parts : List Part
  pub texts_are : map (λ p. p.text) parts ≡ texts
  pub spelled : SpellsParts SpellsPart parts word

before_lifted : (t : List ℕ) (front back word : List ℕ) (texts : List (List ℕ)) (ps : List Part) → SpellsText t front
    → map (λ p. p.text) ps ≡ texts
    → SpellsParts SpellsPart ps back → word ≡ front ++ 47 ∷ back → Lifted (t ∷ texts) word
unfolding SpellsParts
before_lifted t front back word texts [] h are spelled whole = absurd spelled
before_lifted t front back word texts (p ∷ ps) h are spelled whole = record {
  parts = (record { text = t; bare = is_bare front }) ∷ p ∷ ps;
  texts_are = ap (λ (ts : List (List ℕ)). t ∷ ts) are;
  spelled = (front, back, record { text = h; bare = refl }, spelled, whole);
}

pub lifted : (texts : List (List ℕ)) (word : List ℕ) → SpellsParts SpellsText texts word → Lifted texts word
unfolding SpellsParts
lifted [] word h = absurd h
lifted (t ∷ []) word h = record {
  parts = (record { text = t; bare = is_bare word }) ∷ [];
  texts_are = refl;
  spelled = record { text = h; bare = refl };
}
lifted (t ∷ u ∷ texts) word h =
    let rest = lifted (u ∷ texts) h.1 h.3 in
    before_lifted t h.0 h.1 word (u ∷ texts) rest.parts h.2 rest.texts_are rest.spelled h.4

pub record LiftedName (word given : List ℕ) (name : NameParts) : Type 0 where
  pub parts : List Part
  pub realm : Part
  pub is : name_of parts realm ≡ name
  pub spelled : SpellsWord SpellsPart word (given_part given) parts realm

pub lifted_name : (word given : List ℕ) (name : NameParts) → Spells word given name → LiftedName word given name
lifted_name word given name (inl h) =
    let l = lifted name.parts word h.0 in
    record {
      parts = l.parts;
      realm = given_part given;
      is = ap (λ (ps : List (List ℕ)). record { parts = ps; realm = given }) l.texts_are
          ∙ ap (λ (r : List ℕ). record { parts = name.parts; realm = r }) (sym h.1);
      spelled = inl (l.spelled, refl);
    }
lifted_name word given name (inr h) =
    let l = lifted name.parts h.front h.spells_parts in
    record {
      parts = l.parts;
      realm = record { text = name.realm; bare = is_bare h.back };
      is = ap (λ (ps : List (List ℕ)). record { parts = ps; realm = name.realm }) l.texts_are;
      spelled = inr (record {
        front = h.front;
        back = h.back;
        spells_parts = l.spelled;
        spells_realm = record { text = h.spells_realm; bare = refl };
        whole = h.whole;
      });
    }

name_is : (ps qs : List Part) (r s : Part) → ps ≡ qs → r ≡ s → name_of ps r ≡ name_of qs s
name_is ps qs r s same alike = ap (λ (xs : List Part). name_of xs r) same ∙ ap (λ (p : Part). name_of qs p) alike

-- a word spells one name
pub one_name : (word given : List ℕ) (a b : NameParts) → Spells word given a → Spells word given b → a ≡ b
one_name word given a b ha hb =
    let la = lifted_name word given a ha in
    let lb = lifted_name word given b hb in
    let same = same_shape word (given_part given) la.realm lb.realm la.parts lb.parts la.spelled lb.spelled in
    sym la.is ∙ name_is la.parts lb.parts la.realm lb.realm same.0 same.1 ∙ lb.is

-- and has no fault
pub name_faultless : (word given : List ℕ) (name : NameParts) → Spells word given name → first_fault word ≡ None
name_faultless word given name h =
    let l = lifted_name word given name h in
    (word_read word (given_part given) l.realm l.parts l.spelled).faultless
