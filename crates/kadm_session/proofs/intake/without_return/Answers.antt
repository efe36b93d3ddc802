use Rattle.std.proofs.Common.{◌≡◌, ◌≢◌, ◌++◌, ◌∷◌, [], ℕ, List, Bor, subst}
use Rattle.std.specs.Prelude.{Option}
use Rattle.std.specs.Option.{MatchOption}
use Rattle.std.proofs.lemmas.Bool.Decides.{Decides-eqb}
use Rattle.std.proofs.lemmas.Slice.Eq.{strip_suffix_is}
use Rattle.kadm_session.proofs.Coming.{no_return, return_stripped}
use Rattle.kadm_session.proofs.intake.without_return.Goals as goal

pub returns-in-Some : goal.returns-in-Some
returns-in-Some c =
    let text = c.args.text.now in
    let cases = strip_suffix_is Decides-eqb text (13 ∷ []) c.strip_suffix.result c.strip_suffix.ensures.cases in
    return_stripped text c.in-Some.front.now
    (subst (λ (r : Option (Bor (List ℕ))).
    MatchOption r ((front : List ℕ) → text ≢ front ++ 13 ∷ []) (λ x. text ≡ x.now ++ 13 ∷ [])) c.in-Some.is cases)

pub returns-in-None : goal.returns-in-None
returns-in-None c =
    let text = c.args.text.now in
    let cases = strip_suffix_is Decides-eqb text (13 ∷ []) c.strip_suffix.result c.strip_suffix.ensures.cases in
    no_return text
    (subst (λ (r : Option (Bor (List ℕ))).
    MatchOption r ((front : List ℕ) → text ≢ front ++ 13 ∷ []) (λ x. text ≡ x.now ++ 13 ∷ [])) c.in-None.is cases)
