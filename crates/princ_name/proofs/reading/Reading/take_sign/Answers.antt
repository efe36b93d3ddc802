-- The text that ends goes behind the others.
use Rattle.std.proofs.Common.{◌≡◌, ℕ, false, Option, Some, None, is_some, List}
use Rattle.std.proofs.Common.{[], ◌∷◌, ◌++◌, ◌⊎◌, inl, inr, refl, sym, ap, ◌∙◌}
use Rattle.princ_name.proofs.Takes.{takes-between, takes-at, fault-sign}
use Rattle.princ_name.proofs.reading.Reading.take_sign.Goals as goal

none_is : (o : Option ℕ) → is_some o ≡ false → o ≡ None
none_is None h = refl
none_is (Some n) h = absurd (cc)

other_sign : (b : ℕ) → (b ≡ 47) ⊎ (b ≡ 64) → (b ≡ 64 → ⊥) → b ≡ 47
other_sign b (inl is) not = is
other_sign b (inr is) not = absurd (not is)

pub returns-then-is_some-clause-fault : goal.returns-then-is_some-clause-fault
returns-then-is_some-clause-fault c = λ offset is rest.
    let same : c.args.at ≡ offset = cc in
    fault-sign c.args.at c.args.byte c.args.self.now rest c.requires.sign c.requires.clear
    (sym c.is_some.ensures ∙ c.if-is_some.true) ∙ ap Some same

pub returns-then-byte-eq64-clause-taken : goal.returns-then-byte-eq64-clause-taken
returns-then-byte-eq64-clause-taken c = takes-at c.args.at c.args.byte c.args.self.now _ c.if-byte-eq64.true (record {
  was = c.requires.clear;
  is = c.requires.clear;
  none = none_is _ (sym c.is_some.ensures ∙ c.if-is_some.false);
  texts = c.in_ok-push.ensures.items
      ∙ ap (λ (t : List ℕ). c.args.self.now.texts.items ++ (record { text = t; bare = c.args.self.now.bare }) ∷ [])
      (c.from_vec.ensures ∙ ap (λ v. v.items) c.replace-text.ensures.value);
  text = ap (λ v. v.items) c.replace-text.ensures.after ∙ c.new.ensures.items;
  bare = refl;
}) refl

pub returns-else-byte-eq64-clause-taken : goal.returns-else-byte-eq64-clause-taken
returns-else-byte-eq64-clause-taken c = takes-between c.args.at c.args.byte c.args.self.now _
    (other_sign c.args.byte c.requires.sign c.if-byte-eq64.false) (record {
      was = c.requires.clear;
      is = c.requires.clear;
      none = none_is _ (sym c.is_some.ensures ∙ c.if-is_some.false);
      texts = c.in_ok-push.ensures.items
          ∙ ap (λ (t : List ℕ). c.args.self.now.texts.items ++ (record { text = t; bare = c.args.self.now.bare }) ∷ [])
          (c.from_vec.ensures ∙ ap (λ v. v.items) c.replace-text.ensures.value);
      text = ap (λ v. v.items) c.replace-text.ensures.after ∙ c.new.ensures.items;
      bare = refl;
    }) (none_is _ (sym c.is_some.ensures ∙ c.if-is_some.false))
