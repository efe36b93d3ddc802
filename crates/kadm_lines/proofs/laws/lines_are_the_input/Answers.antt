-- By induction over the bytes: each is a line feed, or goes to the front of the first line behind it.
use Rattle.std.proofs.Common.{◌≡◌, ℕ, ◌==◌, true, false, if◌then◌else◌, List, [], ◌∷◌, refl, sym, ap, ◌∙◌}
use Rattle.std.proofs.lemmas.Bool.{eqb-true}
use Rattle.kadm_lines.specs.Laws.{IsInputOf, AreLines, bytes_of}
use Rattle.kadm_lines.specs.Lines.{Line, lines_of, onto_first}
use Rattle.kadm_lines.specs.Windows.{lacks_feed}
use Rattle.kadm_lines.proofs.laws.lines_are_the_input.Goals as goal

lacks-onto : (b : ℕ) (bytes : List ℕ) → (b == 10) ≡ false → lacks_feed bytes ≡ true → lacks_feed (b ∷ bytes) ≡ true
unfolding lacks_feed
lacks-onto b bytes other lacks = rw other lacks

-- a byte that is no line feed at the front of the first line
onto-input : (b : ℕ) (bytes : List ℕ) (lines : List Line) → (b == 10) ≡ false → IsInputOf bytes lines
    → IsInputOf (b ∷ bytes) (onto_first b lines)
unfolding onto_first bytes_of AreLines lacks_feed
onto-input b bytes [] other input = record {
  whole = ap (λ t. b ∷ t) input.whole;
  each = (lacks-onto b [] other refl, (λ _. (refl, λ is. cc)), tt);
}
onto-input b bytes (line ∷ lines) other input = record {
  whole = ap (λ t. b ∷ t) input.whole;
  each = (lacks-onto b line.bytes other input.each.0, (λ is. ((input.each.1 is).0, λ none. cc)), input.each.2);
}

feed-input : (b : ℕ) (bytes : List ℕ) (lines : List Line) → b ≡ 10 → IsInputOf bytes lines
    → IsInputOf (b ∷ bytes) (record { bytes = []; ended = true } ∷ lines)
unfolding bytes_of AreLines lacks_feed
feed-input b bytes lines is input = record {
  whole = ap (λ t. 10 ∷ t) input.whole ∙ ap (λ n. n ∷ bytes) (sym is);
  each = (refl, (λ none. absurd (cc)), input.each);
}

lines-input : (bytes : List ℕ) → IsInputOf bytes (lines_of bytes)
unfolding lines_of bytes_of AreLines
lines-input [] = record { whole = refl; each = tt }
lines-input (b ∷ bytes) =
    elim (b == 10) as (λ v. ((b == 10) ≡ v) → IsInputOf (b ∷ bytes) (if v then record {
      bytes = [];
      ended = true;
    } ∷ lines_of bytes else onto_first b (lines_of bytes))) [
      | true ↦ λ is. feed-input b bytes (lines_of bytes) (eqb-true b 10 is) (lines-input bytes)
      | false ↦ λ is. onto-input b bytes (lines_of bytes) is (lines-input bytes)
    ] refl

pub returns : goal.returns
returns c = lines-input
