-- A word without a fault is spelled as it is read.
use Rattle.std.proofs.Common.{◌≡◌, ℕ, ◌+◌, Bool, true, false, Some, None, List, [], ◌∷◌, ◌++◌, length, ◌⊎◌, inl}
use Rattle.std.proofs.Common.{inr, refl, sym, ap, subst, ◌∙◌, append_assoc, length-append, if◌then◌else◌, arith}
use Rattle.princ_name.specs.Bytes.{is_refused, is_plain, escaped}
use Rattle.princ_name.specs.Faults.{fault_from}
use Rattle.princ_name.specs.Reading.{Said, says, before_plain, before_escaped, before_sign, empty_part}
use Rattle.princ_name.specs.Spelling.{SpellsText, SpellsPart, SpellsParts, is_bare}
use Rattle.princ_name.specs.declared.parts.Part.{Part}
use Rattle.princ_name.proofs.ByteKinds.{kind_of, allowed_behind, ended_behind}
use Rattle.princ_name.specs.ByteLaws.{plain_tests}
use Rattle.princ_name.proofs.Takes.{says-plain}

pub nothing_spelled : SpellsPart empty_part []
unfolding SpellsText is_bare
nothing_spelled = record { text = refl; bare = refl }

-- a byte that stands for itself is no backslash
pub plain-bare : (b : ℕ) (word : List ℕ) → is_plain b ≡ true → is_bare (b ∷ word) ≡ is_bare word
unfolding is_bare
plain-bare b word plain = rw (plain_tests b plain).3 refl

plain_part : (b : ℕ) (part : Part) → is_plain b ≡ true → (word : List ℕ) → SpellsPart part word
    → SpellsPart (record { text = b ∷ part.text; bare = part.bare }) (b ∷ word)
unfolding SpellsText
plain_part b part plain word h = record {
  text = (b ∷ [], word, inl (plain, refl), h.text, refl);
  bare = h.bare ∙ sym (plain-bare b word plain);
}

escaped_part : (c : ℕ) (part : Part) → is_refused c ≡ false → (word : List ℕ) → SpellsPart part word
    → SpellsPart (record { text = escaped c ∷ part.text; bare = false }) (92 ∷ c ∷ word)
unfolding SpellsText is_bare
escaped_part c part allowed word h = record {
  text = (92 ∷ c ∷ [], word, inr (c, allowed, refl, refl), h.text, refl);
  bare = refl;
}

-- bytes that change the first component alone
before_parts : (p q : Part) (ps : List Part) (pre word : List ℕ)
    → ((w : List ℕ) → SpellsPart p w → SpellsPart q (pre ++ w))
    → SpellsParts SpellsPart (p ∷ ps) word → SpellsParts SpellsPart (q ∷ ps) (pre ++ word)
unfolding SpellsParts
before_parts p q [] pre word step h = step word h
before_parts p q (n ∷ ps) pre word step h =
    (pre ++ h.0, h.1, step h.0 h.2, h.3, ap (λ w. pre ++ w) h.4 ∙ sym (append_assoc pre h.0 (47 ∷ h.1)))

-- a word with a realm, from this place on
pub record WithRealm (said : Said) (start : ℕ) (word : List ℕ) : Type 0 where
  pub ps : List Part
  pub realm : Part
  pub others_are : said.others ≡ ps ++ realm ∷ []
  pub front : List ℕ
  pub back : List ℕ
  pub first_spelled : SpellsParts SpellsPart (said.first ∷ ps) front
  pub realm_spelled : SpellsPart realm back
  pub whole : word ≡ front ++ 64 ∷ back
  pub place : said.realm_at ≡ Some (start + length front + 1)

pub record NoRealm (said : Said) (word : List ℕ) : Type 0 where
  pub none : said.realm_at ≡ None
  pub spelled : SpellsParts SpellsPart (said.first ∷ said.others) word

abbrev pub Parted : Said → ℕ → List ℕ → Type 0
Parted said start word = NoRealm said word ⊎ WithRealm said start word

pub record IsText (k : ℕ) (said : Said) (word : List ℕ) : Type 0 where
  pub alone : said.others ≡ []
  pub place : said.realm_at ≡ Some k
  pub spelled : SpellsPart said.first word

parted_before : (said new : Said) (start next : ℕ) (pre word : List ℕ) → next ≡ start + length pre
    → new.others ≡ said.others → new.realm_at ≡ said.realm_at
    → ((w : List ℕ) → SpellsPart said.first w → SpellsPart new.first (pre ++ w))
    → Parted said next word → Parted new start (pre ++ word)
parted_before said new start next pre word at others mark step (inl h) = inl (record {
  none = mark ∙ h.none;
  spelled = rw others (before_parts said.first new.first said.others pre word step h.spelled);
})
parted_before said new start next pre word at others mark step (inr h) =
    let sum : next + length h.front + 1 ≡ start + length (pre ++ h.front) + 1 =
    omega (arith, length-append pre h.front) in
    inr (record {
      ps = h.ps;
      realm = h.realm;
      others_are = others ∙ h.others_are;
      front = pre ++ h.front;
      back = h.back;
      first_spelled = before_parts said.first new.first h.ps pre h.front step h.first_spelled;
      realm_spelled = h.realm_spelled;
      whole = ap (λ w. pre ++ w) h.whole ∙ sym (append_assoc pre h.front (64 ∷ h.back));
      place = mark ∙ h.place ∙ ap Some sum;
    })

parted_between : (said : Said) (at : ℕ) (rest : List ℕ) → Parted said (at + 1) rest
    → Parted (before_sign said) at (47 ∷ rest)
unfolding before_sign SpellsParts
parted_between said at rest (inl h) =
    inl (record { none = h.none; spelled = ([], rest, nothing_spelled, h.spelled, refl) })
parted_between said at rest (inr h) =
    let sum : at + 1 + length h.front + 1 ≡ at + length (47 ∷ h.front) + 1 = omega arith in
    inr (record {
      ps = said.first ∷ h.ps;
      realm = h.realm;
      others_are = ap (λ (o : List Part). said.first ∷ o) h.others_are;
      front = 47 ∷ h.front;
      back = h.back;
      first_spelled = ([], h.front, nothing_spelled, h.first_spelled, refl);
      realm_spelled = h.realm_spelled;
      whole = ap (λ w. 47 ∷ w) h.whole;
      place = h.place ∙ ap Some sum;
    })

parted_at : (said : Said) (at : ℕ) (rest : List ℕ) → IsText (at + 1) said rest
    → Parted (before_sign said) at (64 ∷ rest)
unfolding before_sign SpellsParts
parted_at said at rest h =
    let sum : at + 1 ≡ at + 0 + 1 = omega arith in
    inr (record {
      ps = [];
      realm = said.first;
      others_are = ap (λ (o : List Part). said.first ∷ o) h.alone;
      front = [];
      back = rest;
      first_spelled = nothing_spelled;
      realm_spelled = h.spelled;
      whole = refl;
      place = h.place ∙ ap Some sum;
    })

-- the word with the backslash that was read last
abbrev shown : Bool → List ℕ → List ℕ
shown behind word = if behind then 92 ∷ word else word

abbrev start_of : Bool → ℕ → ℕ → Type 0
start_of true start at = at ≡ start + 1
start_of false start at = at ≡ start

pub sound_text : (k at : ℕ) (behind : Bool) (word : List ℕ) → fault_from at behind true word ≡ None
    → IsText k (says at behind (Some k) word) (shown behind word)
unfolding says before_plain before_escaped
sound_text k at true [] h = absurd (ended_behind at true h)
sound_text k at false [] h = record { alone = refl; place = refl; spelled = nothing_spelled }
sound_text k at true (c ∷ rest) h =
    let ok = allowed_behind at true c rest h in
    let before = sound_text k (at + 1) false rest ok.1 in
    record { alone = before.alone; place = before.place; spelled = escaped_part c _ ok.0 rest before.spelled }
sound_text k at false (c ∷ rest) h = elim (kind_of at true c rest h) [
  | inl plain ↦
      let before = sound_text k (at + 1) false rest plain.faultless in
      subst (λ (s : Said). IsText k s (c ∷ rest)) (sym (says-plain at c (Some k) rest plain.plain))
      (record { alone = before.alone; place = before.place; spelled = plain_part c _ plain.plain rest before.spelled })
  | inr other ↦ elim other [
    | inl slash ↦ subst (λ (b : ℕ). IsText k (says at false (Some k) (b ∷ rest)) (b ∷ rest)) (sym slash.is)
        (sound_text k (at + 1) true rest slash.faultless)
    | inr sign ↦ elim sign [ inl between ↦ absurd (cc (between.before)) | inr mark ↦ absurd (cc (mark.before)) ]
  ]
]

pub sound : (start at : ℕ) (behind : Bool) (word : List ℕ) → start_of behind start at
    → fault_from at behind false word ≡ None
    → Parted (says at behind None word) start (shown behind word)
unfolding says SpellsParts before_plain before_escaped
sound start at true [] here h = absurd (ended_behind at false h)
sound start at false [] here h = inl (record { none = refl; spelled = nothing_spelled })
sound start at true (c ∷ rest) here h =
    let ok = allowed_behind at false c rest h in
    let said = says (at + 1) false None rest in
    parted_before said (before_escaped c said) start (at + 1) (92 ∷ c ∷ []) rest (omega arith) refl refl
    (λ w s. escaped_part c said.first ok.0 w s) (sound (at + 1) (at + 1) false rest refl ok.1)
sound start at false (c ∷ rest) here h = elim (kind_of at false c rest h) [
  | inl plain ↦
      let said = says (at + 1) false None rest in
      subst (λ (s : Said). Parted s start (c ∷ rest)) (sym (says-plain at c None rest plain.plain))
      (parted_before said (before_plain c said) start (at + 1) (c ∷ []) rest (omega arith) refl refl
      (λ w s. plain_part c said.first plain.plain w s) (sound (at + 1) (at + 1) false rest refl plain.faultless))
  | inr other ↦ elim other [
    | inl slash ↦ subst (λ (b : ℕ). Parted (says at false None (b ∷ rest)) start (b ∷ rest)) (sym slash.is)
        (sound start (at + 1) true rest (omega arith) slash.faultless)
    | inr sign ↦ elim sign [
      | inl between ↦ subst (λ (b : ℕ). Parted (says at false None (b ∷ rest)) start (b ∷ rest)) (sym between.is)
          (subst (λ (n : ℕ). Parted (before_sign (says (at + 1) false None rest)) n (47 ∷ rest)) here
          (parted_between (says (at + 1) false None rest) at rest
          (sound (at + 1) (at + 1) false rest refl between.faultless)))
      | inr mark ↦ subst (λ (b : ℕ). Parted (says at false None (b ∷ rest)) start (b ∷ rest)) (sym mark.is)
          (subst (λ (n : ℕ). Parted (before_sign (says (at + 1) false (Some (at + 1)) rest)) n (64 ∷ rest)) here
          (parted_at (says (at + 1) false (Some (at + 1)) rest) at rest
          (sound_text (at + 1) (at + 1) false rest mark.faultless)))
    ]
  ]
]
