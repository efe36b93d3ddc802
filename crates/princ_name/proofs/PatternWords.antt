-- A word that was read whole, as a pattern.
use Rattle.std.proofs.Common.{◌≡◌, ◌≢◌, ℕ, List, [], ◌∷◌, Ok, Err, refl, ap, ◌∙◌}
use Rattle.princ_name.specs.Patterns.{SpellsPattern, AnswersPattern}
use Rattle.princ_name.specs.Shape.{PatternShape, Every, Parts}
use Rattle.princ_name.specs.Whole.{AnswersParts, IsWhole, given_part}
use Rattle.princ_name.specs.declared.parts.Part.{Part}
use Rattle.princ_name.specs.declared.whole.Whole.{Whole}
use Rattle.princ_name.specs.declared.faults.NameFault.{NameFault}
use Rattle.princ_name.specs.declared.faults.NameFault.TheVariants.{BadName, MemoryOut}
use Rattle.princ_name.proofs.Shapes.{at_word, same_shape}
use Rattle.princ_name.proofs.Parsed.{PartsFail}

pub every_spelled : (word given : List ℕ) → word ≡ 42 ∷ [] → SpellsPattern word given Every
unfolding SpellsPattern
every_spelled word given is = is

pub every_only : (word given : List ℕ) (pattern : PatternShape) → word ≡ 42 ∷ [] → SpellsPattern word given pattern
    → AnswersPattern pattern (Ok Every)
unfolding SpellsPattern AnswersPattern
every_only word given Every is h = refl
every_only word given (Parts parts realm) is h = absurd (h.0 is)

pub parts_spelled : (word given : List ℕ) (w : Whole) → word ≢ 42 ∷ [] → IsWhole word given w
    → SpellsPattern word given (Parts w.parts.items w.realm)
unfolding SpellsPattern
parts_spelled word given w other h = (other, at_word word given w.parts.items w.realm w.realm_at h.spelled, h.name)

pub parts_only : (word given : List ℕ) (w : Whole) (pattern : PatternShape) → word ≢ 42 ∷ [] → IsWhole word given w
    → SpellsPattern word given pattern
    → AnswersPattern pattern (Ok (Parts w.parts.items w.realm))
unfolding SpellsPattern AnswersPattern
parts_only word given w Every other whole h = absurd (other h)
parts_only word given w (Parts parts realm) other whole h =
    let same = same_shape word (given_part given) w.realm realm w.parts.items parts
    (at_word word given w.parts.items w.realm w.realm_at whole.spelled) h.1 in
    ap (λ (ps : List Part). Parts ps w.realm) same.0 ∙ ap (λ (r : Part). Parts parts r) same.1

pub fault_only : (word given : List ℕ) (fault : NameFault) (pattern : PatternShape) → word ≢ 42 ∷ []
    → PartsFail word given fault → SpellsPattern word given pattern
    → AnswersPattern pattern (Err fault)
unfolding SpellsPattern AnswersPattern AnswersParts
fault_only word given MemoryOut pattern other fails h = tt
fault_only word given (BadName at) Every other fails h = absurd (other h)
fault_only word given (BadName at) (Parts parts realm) other fails h = fails parts realm h.1 h.2
