-- What taking a byte of each kind does, whatever follows.
use Rattle.std.proofs.Common.{◌≡◌, ℕ, ◌+◌, Bool, true, false, ◌&&◌, Option, Some, None, is_some, List, []}
use Rattle.std.proofs.Common.{◌∷◌, ◌++◌, ◌⊎◌, inl, inr, refl, sym, ap, ◌∙◌, append_assoc, append-nil}
use Rattle.princ_name.specs.Bytes.{is_refused, is_plain, escaped}
use Rattle.princ_name.specs.Faults.{fault_from}
use Rattle.princ_name.specs.Reading.{Said, says, before_plain, before_escaped}
use Rattle.princ_name.specs.Reading.{before_sign, joined, texts_with, empty_part}
use Rattle.princ_name.specs.Steps.{Takes, fault_of}
use Rattle.princ_name.specs.declared.parts.Part.{Part}
use Rattle.princ_name.specs.declared.reading.Reading.{Reading}
use Rattle.princ_name.specs.ByteLaws.{plain_tests}

pub says-plain : (at b : ℕ) (mark : Option ℕ) (rest : List ℕ) → is_plain b ≡ true
    → says at false mark (b ∷ rest) ≡ before_plain b (says (at + 1) false mark rest)
unfolding says
says-plain at b mark rest plain = rw ((plain_tests b plain).3, (plain_tests b plain).1, (plain_tests b plain).2) refl

pub fault-plain : (at b : ℕ) (realm : Bool) (rest : List ℕ) → is_plain b ≡ true
    → fault_from at false realm (b ∷ rest) ≡ fault_from (at + 1) false realm rest
unfolding fault_from
fault-plain at b realm rest plain =
    rw ((plain_tests b plain).0, (plain_tests b plain).3, (plain_tests b plain).1, (plain_tests b plain).2) refl

part_is : (s t : List ℕ) (v w : Bool) → s ≡ t → v ≡ w
    → ◌≡◌ {A = Part} (record { text = s; bare = v }) (record { text = t; bare = w })
part_is s t v w same alike = rw (same, alike) refl

joined-plain : (text : List ℕ) (old : Bool) (b : ℕ) (part : Part)
    → joined (text ++ b ∷ []) old part ≡ joined text old (record { text = b ∷ part.text; bare = part.bare })
unfolding joined
joined-plain text old b part = part_is _ _ _ _ (append_assoc text (b ∷ []) part.text) refl

and_none : (old : Bool) → false ≡ (old && false)
and_none true = refl
and_none false = refl

joined-escaped : (text : List ℕ) (old : Bool) (b : ℕ) (part : Part)
    → joined (text ++ b ∷ []) false part ≡ joined text old (record { text = b ∷ part.text; bare = false })
unfolding joined
joined-escaped text old b part = part_is _ _ _ _ (append_assoc text (b ∷ []) part.text) (and_none old)

texts-plain : (texts : List Part) (text : List ℕ) (old : Bool) (b : ℕ) (said : Said) →
    texts_with texts (text ++ b ∷ []) old said ≡ texts_with texts text old (before_plain b said)
unfolding texts_with before_plain
texts-plain texts text old b said = ap (λ (p : Part). texts ++ p ∷ said.others) (joined-plain text old b said.first)

texts-escaped : (texts : List Part) (text : List ℕ) (old : Bool) (b : ℕ) (said : Said) →
    texts_with texts (text ++ escaped b ∷ []) false said ≡ texts_with texts text old (before_escaped b said)
unfolding texts_with before_escaped
texts-escaped texts text old b said =
    ap (λ (p : Part). texts ++ p ∷ said.others) (joined-escaped text old (escaped b) said.first)

-- a byte that stands for itself
pub takes-plain : (at byte : ℕ) (old new : Reading) → is_plain byte ≡ true → old.behind_slash ≡ false
    → new.behind_slash ≡ false
    → new.texts.items ≡ old.texts.items → new.text.items ≡ old.text.items ++ byte ∷ []
    → new.bare ≡ old.bare → new.realm_at ≡ old.realm_at → Takes at byte old new
unfolding before_plain
takes-plain at byte old new plain was is texts text bare mark = record {
  texts = λ rest. rw (texts, text, bare, is, mark, was)
      (texts-plain old.texts.items old.text.items old.bare byte (says (at + 1) false old.realm_at rest)
      ∙ ap (λ s. texts_with old.texts.items old.text.items old.bare s)
      (sym (says-plain at byte old.realm_at rest plain)));
  mark = λ rest. rw (is, mark, was) (ap (λ s. s.realm_at) (sym (says-plain at byte old.realm_at rest plain)));
  fault = λ rest. rw (is, mark, was) (sym (fault-plain at byte (is_some old.realm_at) rest plain));
}

-- a byte behind a backslash
pub takes-escaped : (at byte : ℕ) (old new : Reading) → is_refused byte ≡ false → old.behind_slash ≡ true
    → new.behind_slash ≡ false
    → new.texts.items ≡ old.texts.items → new.text.items ≡ old.text.items ++ escaped byte ∷ []
    → new.bare ≡ false → new.realm_at ≡ old.realm_at → Takes at byte old new
unfolding says fault_from before_escaped
takes-escaped at byte old new allowed was is texts text bare mark = record {
  texts = λ rest. rw (texts, text, bare, is, mark, was)
      (texts-escaped old.texts.items old.text.items old.bare byte (says (at + 1) false old.realm_at rest));
  mark = λ rest. rw (is, mark, was) refl;
  fault = λ rest. rw (is, mark, was, allowed) refl;
}

-- a backslash
pub takes-slash : (at byte : ℕ) (old new : Reading) → byte ≡ 92 → old.behind_slash ≡ false → new.behind_slash ≡ true
    → new.texts.items ≡ old.texts.items → new.text.items ≡ old.text.items → new.bare ≡ old.bare
    → new.realm_at ≡ old.realm_at → Takes at byte old new
unfolding says fault_from is_refused
takes-slash at byte old new here was is texts text bare mark = record {
  texts = λ rest. rw (here, texts, text, bare, is, mark, was) refl;
  mark = λ rest. rw (here, is, mark, was) refl;
  fault = λ rest. rw (here, is, mark, was) refl;
}

pub joined-none : (part : Part) → joined [] true part ≡ part
unfolding joined
joined-none part = refl

and_all : (bare : Bool) → (bare && true) ≡ bare
and_all true = refl
and_all false = refl

pub joined-end : (text : List ℕ) (bare : Bool) → joined text bare empty_part ≡ record { text = text; bare = bare }
unfolding joined
joined-end text bare = part_is _ _ _ _ (append-nil text) (and_all bare)

texts-sign : (texts : List Part) (text : List ℕ) (bare : Bool) (said : Said) →
    texts_with (texts ++ record { text = text; bare = bare } ∷ []) [] true said
    ≡ texts_with texts text bare (before_sign said)
unfolding texts_with before_sign
texts-sign texts text bare said =
    let here : Part = record { text = text; bare = bare } in
    append_assoc texts (here ∷ []) (joined [] true said.first ∷ said.others)
    ∙ ap (λ (p : Part). texts ++ here ∷ p ∷ said.others) (joined-none said.first)
    ∙ ap (λ (p : Part). texts ++ p ∷ said.first ∷ said.others) (sym (joined-end text bare))

-- the facts of a sign that ends a text
pub record EndsText (old new : Reading) : Type 0 where
  pub was : old.behind_slash ≡ false
  pub is : new.behind_slash ≡ false
  pub none : old.realm_at ≡ None
  pub texts : new.texts.items ≡ old.texts.items ++ record { text = old.text.items; bare = old.bare } ∷ []
  pub text : new.text.items ≡ []
  pub bare : new.bare ≡ true

-- a / between components
pub takes-between : (at byte : ℕ) (old new : Reading) → byte ≡ 47 → EndsText old new → new.realm_at ≡ None
    → Takes at byte old new
unfolding says fault_from is_refused before_sign
takes-between at byte old new here ends mark =
    let was = ends.was in let is = ends.is in let none = ends.none in let texts = ends.texts in let text =
    ends.text in let bare = ends.bare in
    record {
      texts = λ rest. rw (here, texts, text, bare, is, mark, was, none)
          (texts-sign old.texts.items old.text.items old.bare (says (at + 1) false None rest));
      mark = λ rest. rw (here, is, mark, was, none) refl;
      fault = λ rest. rw (here, is, mark, was, none) refl;
    }

-- an @ before the realm
pub takes-at : (at byte : ℕ) (old new : Reading) → byte ≡ 64 → EndsText old new → new.realm_at ≡ Some (at + 1)
    → Takes at byte old new
unfolding says fault_from is_refused before_sign
takes-at at byte old new here ends mark =
    let was = ends.was in let is = ends.is in let none = ends.none in let texts = ends.texts in let text =
    ends.text in let bare = ends.bare in
    record {
      texts = λ rest. rw (here, texts, text, bare, is, mark, was)
          (texts-sign old.texts.items old.text.items old.bare (says (at + 1) false (Some (at + 1)) rest));
      mark = λ rest. rw (here, is, mark, was) refl;
      fault = λ rest. rw (here, is, mark, was, none) refl;
    }

-- faults of a byte
pub fault-refused : (at byte : ℕ) (old : Reading) (rest : List ℕ) → is_refused byte ≡ true
    → fault_of at old (byte ∷ rest) ≡ Some at
unfolding fault_from
fault-refused at byte old rest refused = rw refused refl

pub fault-sign : (at byte : ℕ) (old : Reading) (rest : List ℕ) → (byte ≡ 47) ⊎ (byte ≡ 64) → old.behind_slash ≡ false
    → is_some old.realm_at ≡ true → fault_of at old (byte ∷ rest) ≡ Some at
unfolding fault_from is_refused
fault-sign at byte old rest (inl is) clear marked = rw (is, clear, marked) refl
fault-sign at byte old rest (inr is) clear marked = rw (is, clear, marked) refl
