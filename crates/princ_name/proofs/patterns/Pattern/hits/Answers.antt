-- By the pattern's form, which is within the limits of names.
use Rattle.std.proofs.Common.{◌∷◌, ◌++◌, [], List, length, sym, ap, ◌∙◌, arith}
use Rattle.princ_name.specs.Patterns.{first_of, wild_places}
use Rattle.princ_name.specs.Shape.{shape_of}
use Rattle.princ_name.specs.declared.parts.Part.{Part}
use Rattle.princ_name.proofs.Matching.{every_hits, parts_hits, within_few}
use Rattle.princ_name.proofs.patterns.Pattern.hits.Goals as goal

pub hits_among-requires : goal.hits_among-requires
hits_among-requires c =
    let few = within_few _ c.in-Parts.parts.items c.in-Parts.realm (ap shape_of c.in-Parts.is) c.self.invariant in
    omega (arith, few, ap length c.deref.ensures.value)

pub returns-in-Any : goal.returns-in-Any
returns-in-Any c = c.none.ensures ∙ every_hits c.args.self.now (sym c.self.view_is ∙ ap shape_of c.in-Any.is)

pub returns-in-Parts : goal.returns-in-Parts
returns-in-Parts c =
    c.hits_among.ensures
    ∙ ap (λ (ps : List Part). first_of 9 (wild_places 0 (ps ++ c.in-Parts.realm ∷ []))) c.deref.ensures.value
    ∙ parts_hits c.args.self.now c.in-Parts.parts.items c.in-Parts.realm
    (sym c.self.view_is ∙ ap shape_of c.in-Parts.is)
