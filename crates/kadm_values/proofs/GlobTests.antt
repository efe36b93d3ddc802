-- The test of a glob is true exactly where the glob matches.
use Rattle.std.proofs.Common.{◌≡◌, ◌⊎◌, ℕ, zero, suc, Bool, true, false, ◌||◌, eqb, List}
use Rattle.std.proofs.Common.{[], ◌∷◌, length, drop, inl, inr, refl, sym, ap, ◌∙◌}
use Rattle.std.specs.List.{list_any}
use Rattle.std.proofs.lemmas.Bool.{or_cases, and_parts, and_from, eqb-true}
use Rattle.std.proofs.lemmas.Bool.Decides.{eqb_tells}
use Rattle.kadm_values.specs.Globs.{OneByte, Matches, matches, ends_of, leads}
use Rattle.kadm_values.proofs.GlobLemmas.{drop_none, no_bytes}

same_eqb : (a b : ℕ) → a ≡ b → eqb a b ≡ true
same_eqb a b e = elim (eqb_tells a b) [ inl same ↦ same.0 | inr other ↦ absurd (other.1 e) ]

or_first : (a b : Bool) → a ≡ true → (a || b) ≡ true
or_first a b e = rw e refl

or_second : (a b : Bool) → b ≡ true → (a || b) ≡ true
or_second true b e = refl
or_second false b e = e

-- ---- some end of a text

end_of : (test : List ℕ → Bool) (text : List ℕ) → list_any test (ends_of text) ≡ true
    → (n : ℕ) × (test (drop n text) ≡ true)
unfolding ends_of
end_of test [] e =
    elim (or_cases (test []) false e) [ inl here ↦ (0, here) | inr none ↦ absurd cc ]
end_of test (byte ∷ text) e =
    elim (or_cases (test (byte ∷ text)) (list_any test (ends_of text)) e) [
      | inl here ↦ (0, here)
      | inr later ↦ let rest = end_of test text later in (suc rest.0, rest.1)
    ]

is_end : (test : List ℕ → Bool) (text : List ℕ) (n : ℕ) → test (drop n text) ≡ true
    → list_any test (ends_of text) ≡ true
unfolding ends_of
is_end test [] n e = or_first (test []) false (ap test (sym (drop_none n)) ∙ e)
is_end test (byte ∷ text) zero e = or_first (test (byte ∷ text)) (list_any test (ends_of text)) e
is_end test (byte ∷ text) (suc n) e =
    or_second (test (byte ∷ text)) (list_any test (ends_of text)) (is_end test text n e)

-- ---- one byte

fits_of : (wanted byte : ℕ) → (eqb wanted 63 || eqb wanted byte) ≡ true → (wanted ≡ 63) ⊎ (wanted ≡ byte)
fits_of wanted byte e =
    elim (or_cases (eqb wanted 63) (eqb wanted byte) e) [
      | inl any ↦ inl (eqb-true wanted 63 any)
      | inr same ↦ inr (eqb-true wanted byte same)
    ]

fit_test : (wanted byte : ℕ) → (wanted ≡ 63) ⊎ (wanted ≡ byte) → (eqb wanted 63 || eqb wanted byte) ≡ true
fit_test wanted byte (inl any) = or_first (eqb wanted 63) (eqb wanted byte) (same_eqb wanted 63 any)
fit_test wanted byte (inr same) = or_second (eqb wanted 63) (eqb wanted byte) (same_eqb wanted byte same)

byte_of : (wanted : ℕ) (Rest : List ℕ → Type 0) (test : List ℕ → Bool)
    → ((text : List ℕ) → test text ≡ true → Rest text)
    → (text : List ℕ) → leads wanted test text ≡ true → OneByte wanted Rest text
unfolding leads
byte_of wanted Rest test meant [] e = absurd cc
byte_of wanted Rest test meant (byte ∷ text) e =
    let both = and_parts (eqb wanted 63 || eqb wanted byte) (test text) e in
    record { byte = byte; behind = text; text_is = refl; fits = fits_of wanted byte both.0; rest = meant text both.1 }

is_byte : (wanted : ℕ) (test : List ℕ → Bool) (byte : ℕ) (behind text : List ℕ) → text ≡ byte ∷ behind
    → (wanted ≡ 63) ⊎ (wanted ≡ byte)
    → test behind ≡ true → leads wanted test text ≡ true
unfolding leads
is_byte wanted test byte behind text is fits e =
    ap (leads wanted test) is ∙ and_from (eqb wanted 63 || eqb wanted byte) (test behind) (fit_test wanted byte fits) e

-- ---- the whole glob

star_first : (wanted : ℕ) (glob text : List ℕ) → eqb wanted 42 ≡ true
    → matches (wanted ∷ glob) text ≡ list_any (matches glob) (ends_of text)
unfolding matches
star_first wanted glob text e = rw e refl

byte_first : (wanted : ℕ) (glob text : List ℕ) → eqb wanted 42 ≡ false
    → matches (wanted ∷ glob) text ≡ leads wanted (matches glob) text
unfolding matches
byte_first wanted glob text e = rw e refl

pub test_matches : (glob text : List ℕ) → matches glob text ≡ true → Matches glob text
unfolding matches Matches
test_matches [] text e = no_bytes text (eqb-true (length text) 0 e)
test_matches (wanted ∷ glob) text e =
    elim (eqb_tells wanted 42) [
      | inl star ↦
          let rest = end_of (matches glob) text (sym (star_first wanted glob text star.0) ∙ e) in
          inl (star.1, record { skipped = rest.0; rest = test_matches glob (drop rest.0 text) rest.1 })
      | inr other ↦
          inr (
            other.1,
            byte_of wanted (Matches glob) (matches glob) (λ t h. test_matches glob t h) text
                (sym (byte_first wanted glob text other.0) ∙ e),
          )
    ]

pub matches_test : (glob text : List ℕ) → Matches glob text → matches glob text ≡ true
unfolding matches Matches
matches_test [] text m = same_eqb (length text) 0 (ap length m)
matches_test (wanted ∷ glob) text (inl star) =
    star_first wanted glob text (same_eqb wanted 42 star.0)
    ∙ is_end (matches glob) text star.1.skipped (matches_test glob (drop star.1.skipped text) star.1.rest)
matches_test (wanted ∷ glob) text (inr one) =
    let r = one.1 in
    elim (eqb_tells wanted 42) [
      | inl star ↦ absurd (one.0 star.1)
      | inr other ↦ byte_first wanted glob text other.0
          ∙ is_byte wanted (matches glob) r.byte r.behind text r.text_is r.fits (matches_test glob r.behind r.rest)
    ]

truth : (b : Bool) → (b ≡ true) ⊎ (b ≡ false)
truth true = inl refl
truth false = inr refl

-- an answer that is true only where the glob matches, and false only where it does not
pub answer_is_test : (glob text : List ℕ) (answer : Bool) → (answer ≡ true → Matches glob text)
    → (answer ≡ false → Matches glob text → ⊥) → answer ≡ matches glob text
answer_is_test glob text true where_true where_false = sym (matches_test glob text (where_true refl))
answer_is_test glob text false where_true where_false =
    elim (truth (matches glob text)) [
      | inl is ↦ absurd (where_false refl (test_matches glob text is))
      | inr is ↦ sym is
    ]
