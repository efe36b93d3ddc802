-- Each wildcard is found at its place.
use Rattle.std.proofs.Common.{◌+◌, take, refl, subst, sym, ap, ◌∙◌}
use Rattle.princ_name.specs.Found.{IsFound}
use Rattle.princ_name.specs.Patterns.{wild_places}
use Rattle.princ_name.specs.declared.patterns.Found.{Found}
use Rattle.princ_name.proofs.Matching.{found_none, found_wild, found_plain, realm_wild, realm_plain}
use Rattle.princ_name.proofs.patterns.hits_among.Goals as goal
use Rattle.princ_name.proofs.patterns.hits_among.Goals.{then-any, else-any, then-any_realm, else-any_realm}

pub loop-place-init : goal.loop-place-init
loop-place-init c = found_none c.none-found.result c.none-found.ensures

pub loop-place-preserved : goal.loop-place-preserved
loop-place-preserved c = elim c.if-any.branch [
  | then-any w ↦
      subst (λ (f : Found). IsFound (wild_places 0 (take (c.loop-place.place + 1) c.args.parts.now)) f) (sym w.found-is)
      (found_wild c.args.parts.now
      c.loop-place.place _ c.index-parts-place.result c.loop-place.found _ c.loop-place-test.true c.index-parts-place.is
      (sym c.is_any-any.ensures ∙ w.if-any.true) refl c.loop-place.invariant w.add.ensures)
  | else-any w ↦
      subst (λ (f : Found). IsFound (wild_places 0 (take (c.loop-place.place + 1) c.args.parts.now)) f) (sym w.found-is)
      (found_plain c.args.parts.now c.loop-place.place c.index-parts-place.result c.loop-place.found
      c.loop-place-test.true c.index-parts-place.is (sym c.is_any-any.ensures ∙ w.if-any.false) c.loop-place.invariant)
]

pub returns : goal.returns
returns c = elim c.if-any_realm.branch [
  | then-any_realm w ↦ ap (λ (f : Found). f.at) w.found-is
      ∙ (realm_wild c.args.parts.now c.loop-place.place _ c.args.realm.now c.loop-place.found _ c.loop-place-test.false
      (sym c.is_any-any_realm.ensures ∙ w.if-any_realm.true) refl c.loop-place.invariant
      w.add-then-any_realm.ensures).at_is
  | else-any_realm w ↦ ap (λ (f : Found). f.at) w.found-is
      ∙ (realm_plain c.args.parts.now c.loop-place.place c.args.realm.now c.loop-place.found c.loop-place-test.false
      (sym c.is_any-any_realm.ensures ∙ w.if-any_realm.false) c.loop-place.invariant).at_is
]
