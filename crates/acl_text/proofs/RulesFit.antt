-- The restrictions of rules are those of their words.
use Rattle.std.proofs.Common.{◌≡◌, Bool, true, false, List, [], ◌∷◌, ℕ, Option, Some, None, find, refl, subst}
use Rattle.std.specs.Prelude.{IfSome, Ok, cond}
use Rattle.std.specs.List.{All, AllByRecursion, filter_map}
use Rattle.std.specs.Option.{option_and_then}
use Rattle.std.proofs.lemmas.List.Elements.{All-from_recursion, recursion_from_All}
use Rattle.acl_text.proofs.LimitsFit.{limits_fit}
use Rattle.acl_text.specs.Decisions.{applies, decided_by, decision}
use Rattle.acl_text.specs.Limits.{HasLimits, IsLimits}
use Rattle.acl_text.specs.Patterns.{target_in}
use Rattle.acl_text.specs.Restrictions.{limits_in}
use Rattle.acl_text.specs.Rules.{is_bad, only_letters, rule_behind, rule_in, rule_of, rules_of, unless_bad}
use Rattle.acl_text.specs.Texts.{words_of}
use Rattle.acl_text.specs.declared.limits.Limits.{Limits}
use Rattle.acl_text.specs.declared.rules.AclLine.{AclLine}
use Rattle.acl_text.specs.declared.texts.Line.{Line}
use Rattle.princ_name.specs.Names.{NameParts}
use Rattle.princ_name.specs.PatternReadings.{pattern_in}
use Rattle.princ_name.specs.Shape.{PatternShape}

-- ---- one rule

then_fits : {A : Type 0} (found : Option A) (f : A → Option AclLine) (rule : AclLine)
    → option_and_then f found ≡ Some rule
    → ((x : A) → found ≡ Some x → f x ≡ Some rule → HasLimits rule) → HasLimits rule
then_fits None f rule e each = absurd (cc)
then_fits (Some x) f rule e each = each x refl e

abbrev made : ℕ → PatternShape → List ℕ → Option PatternShape → Option Limits → AclLine
made number client letters target limits =
    record { number = number; client = client; letters = letters; target = target; limits = limits }

made_fits : (line rule : AclLine) → HasLimits line → ◌≡◌ {A = Option AclLine} (Some line) (Some rule) → HasLimits rule
made_fits line rule fits e = let same : line ≡ rule = cc in subst HasLimits same fits

behind_fits : (number : ℕ) (realm : List ℕ) (client : PatternShape) (letters : List ℕ) (words : List (List ℕ))
    (rule : AclLine)
    → rule_behind number realm client letters words ≡ Some rule → HasLimits rule
behind_fits number realm client letters [] rule e = made_fits (made number client letters None None) rule tt e
behind_fits number realm client letters (word ∷ words) rule e =
    then_fits (target_in word realm client)
    (λ target. option_and_then (λ limits. Some (made number client letters (Some target) limits)) (limits_in words))
    rule e
    (λ target _ f. then_fits (limits_in words) (λ limits. Some (made number client letters (Some target) limits)) rule f
    (λ limits is g. made_fits (made number client letters (Some target) limits) rule (limits_fit words limits is) g))

words_rule : (realm : List ℕ) (number : ℕ) (words : List (List ℕ)) (rule : AclLine)
    → rule_of realm number words ≡ Some rule → HasLimits rule
unfolding rule_of
words_rule realm number [] rule e = absurd (cc)
words_rule realm number (client ∷ []) rule e = absurd (cc)
words_rule realm number (client ∷ letters ∷ words) rule e =
    then_fits (pattern_in client realm)
    (λ pattern. option_and_then (λ known. rule_behind number realm pattern known words) (only_letters letters)) rule e
    (λ pattern _ f. then_fits (only_letters letters) (λ known. rule_behind number realm pattern known words) rule f
    (λ known _ g. behind_fits number realm pattern known words rule g))

line_rule : (realm : List ℕ) (line : Line) (rule : AclLine) → rule_in realm line ≡ Some rule → HasLimits rule
unfolding rule_in
line_rule realm line rule e = words_rule realm line.number (words_of line.text) rule e

-- ---- all rules

one_more : (realm : List ℕ) (line : Line) (lines : List Line) (found : Option AclLine) → rule_in realm line ≡ found
    → AllByRecursion HasLimits (filter_map (rule_in realm) lines)
    → AllByRecursion HasLimits (filter_map (rule_in realm) (line ∷ lines))
one_more realm line lines None is rest = rw is rest
one_more realm line lines (Some rule) is rest = rw is ((line_rule realm line rule is, rest))

lines_fit : (realm : List ℕ) (lines : List Line) → AllByRecursion HasLimits (filter_map (rule_in realm) lines)
lines_fit realm [] = tt
lines_fit realm (line ∷ lines) = one_more realm line lines (rule_in realm line) refl (lines_fit realm lines)

no_bad : (bad : Option Line) (all rules : List AclLine) → unless_bad bad all ≡ Ok rules → all ≡ rules
no_bad None all rules e = cc
no_bad (Some line) all rules e = absurd (cc)

pub rules_fit : (realm : List ℕ) (lines : List Line) (rules : List AclLine) → rules_of realm lines ≡ Ok rules
    → All HasLimits rules
unfolding rules_of
rules_fit realm lines rules e =
    subst (λ (rs : List AclLine). All HasLimits rs)
    (no_bad (find (is_bad realm) lines) (filter_map (rule_in realm) lines) rules e)
    (All-from_recursion HasLimits (filter_map (rule_in realm) lines) (lines_fit realm lines))

-- ---- decisions

step_fits : (here : Bool) (line : AclLine) (rest : Option AclLine) → HasLimits line → IfSome rest HasLimits
    → IfSome (cond here (Some line) rest) HasLimits
step_fits true line rest fits behind = fits
step_fits false line rest fits behind = behind

found_fits : (p : AclLine → Bool) (lines : List AclLine) → AllByRecursion HasLimits lines
    → IfSome (find p lines) HasLimits
found_fits p [] all = tt
found_fits p (line ∷ lines) all = step_fits (p line) line (find p lines) all.0 (found_fits p lines all.1)

decided_fits : (letter : ℕ) (found : Option AclLine) → IfSome found HasLimits
    → IfSome (decided_by letter found).limits IsLimits
decided_fits letter None fits = tt
decided_fits letter (Some line) fits = fits

pub decision_fits : (lines : List AclLine) (client : NameParts) (letter : ℕ) (target : Option NameParts)
    → All HasLimits lines
    → IfSome (decision lines client letter target).limits IsLimits
unfolding decision
decision_fits lines client letter target all =
    decided_fits letter (find (applies client target) lines)
    (found_fits (applies client target) lines (recursion_from_All HasLimits lines all))
