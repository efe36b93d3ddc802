-- The last text is the realm, or the last component.
use Rattle.std.proofs.Common.{◌≡◌, ℕ, true, false, Option, Some, None, is_some, List, sym, ap, ◌∙◌, refl}
use Rattle.princ_name.specs.Whole.{given_part}
use Rattle.princ_name.proofs.Shapes.{shape_given, shape_own}
use Rattle.princ_name.proofs.whole.with_realm.Goals as goal

some_not : (o : Option ℕ) → is_some o ≡ true → o ≡ None → ⊥
some_not None h none = cc
some_not (Some n) h none = cc

none_is : (o : Option ℕ) → is_some o ≡ false → o ≡ None
none_is None h = refl
none_is (Some n) h = absurd (cc)

pub returns-then-is_some : goal.returns-then-is_some
returns-then-is_some c = λ word h.
    shape_own word c.args.given.now _ _ _ _ _ (some_not _ (sym c.is_some.ensures ∙ c.if-is_some.true)) refl refl h

pub returns : goal.returns
returns c =
    λ word h. shape_given word c.args.given.now _ _ _ _ _ (none_is _ (sym c.is_some.ensures ∙ c.if-is_some.false))
    c.in_ok-push.ensures.items (ap (λ (t : List ℕ). given_part t) c.in_ok-text.ensures) h
