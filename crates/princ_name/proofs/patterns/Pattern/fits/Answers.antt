-- By the pattern's form.
use Rattle.std.proofs.Common.{◌≡◌, ◌∙◌, Bool, true, false, List, ℕ, refl, subst, sym, ap}
use Rattle.princ_name.specs.Patterns.{MatchesPart, MatchesParts}
use Rattle.princ_name.specs.Shape.{shape_of}
use Rattle.princ_name.specs.declared.parts.Part.{Part}
use Rattle.princ_name.proofs.Matching.{shape_matches, shape_matched, every_matches}
use Rattle.princ_name.proofs.patterns.Pattern.fits.Goals as goal

holds : (b : Bool) → (b ≡ false → ⊥) → b ≡ true
holds true h = refl
holds false h = absurd (h refl)

pub returns-in-Any : goal.returns-in-Any
returns-in-Any c =
    (λ _. every_matches c.args.self.now c.args.name.now (sym c.self.view_is ∙ ap shape_of c.in-Any.is), λ _. refl)

pub returns-then-not-parts_match : goal.returns-then-not-parts_match
returns-then-not-parts_match c =
    let is = sym c.self.view_is ∙ ap shape_of c.in-Parts.is in (
      λ f. absurd (cc),
      λ m. absurd (c.parts_match.ensures.no c.if-not-parts_match.true
          (subst (λ (ts : List (List ℕ)). MatchesParts c.deref.result.now ts) (sym c.parts.ensures.value)
          (subst (λ (ps : List Part). MatchesParts ps c.args.name.now.parts) (sym c.deref.ensures.value)
          (shape_matched c.args.self.now _ _ c.args.name.now is m).0))),
    )

pub returns-else-not-parts_match : goal.returns-else-not-parts_match
returns-else-not-parts_match c =
    let is = sym c.self.view_is ∙ ap shape_of c.in-Parts.is in (
      λ f. shape_matches c.args.self.now _ _ c.args.name.now is
          (subst (λ (ts : List (List ℕ)). MatchesParts c.in-Parts.parts.items ts) c.parts.ensures.value
          (subst (λ (ps : List Part). MatchesParts ps c.parts.result.now) c.deref.ensures.value
          (c.parts_match.ensures.yes c.if-not-parts_match.false)))
          (subst (λ (t : List ℕ). MatchesPart c.in-Parts.realm t) c.realm.ensures.value (c.part_matches.ensures.yes f)),
      λ m. holds c.part_matches.result (λ none. c.part_matches.ensures.no none
          (subst (λ (t : List ℕ). MatchesPart c.in-Parts.realm t) (sym c.realm.ensures.value)
          (shape_matched c.args.self.now _ _ c.args.name.now is m).1)),
    )
