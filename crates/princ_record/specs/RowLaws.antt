-- Rows: their tests, and their formats agree both ways.
use Rattle.std.proofs.Common.{◌≡◌, ℕ, ◌^◌, ◌<◌, true, leb, eqb, List, length, refl, ap, arith}
use Rattle.std.proofs.lemmas.Bool.{and_parts, and_from, eqb-true, eq-eqb, leb-true, le-leb}
use Rattle.std.proofs.lemmas.List.{nil_from_length}
use Rattle.kdb_base.specs.Limits.{longest_row_1}
use Rattle.kdb_format.specs.Readings.{inside}
use Rattle.kdb_format.specs.Spellings.{counted}
use Rattle.kdb_format.specs.Fields.{IsField}
use Rattle.kdb_format.specs.Laws.{same_field, first_field, big_field, checked_field, inside_field}
use Rattle.policy_rules.specs.Rules.{Rules}
use Rattle.tagged_data.specs.declared.string_attributes.StringAttribute.{StringAttribute}
use Rattle.princ_record.specs.Policies.{policy_at, policy, IsPolicy}
use Rattle.princ_record.specs.PolicyLaws.{policy_field}
use Rattle.princ_record.specs.Princs.{princ_at, princ, IsPrinc}
use Rattle.princ_record.specs.PrincLaws.{princ_field}
use Rattle.princ_record.specs.declared.princs.Princ.{Princ}
use Rattle.princ_record.specs.RowLimits.{may_be_long, IsRow, IsRow1, is_row, is_row_1, row_at, policy_row_at}
use Rattle.princ_record.specs.PolicyLaws.{policy_short}

pub row_from : (p : Princ) → IsPrinc p → is_row p ≡ true → IsRow p
unfolding is_row
row_from p f e = record { fits = f; short = leb-true _ _ e }

pub row_test : (p : Princ) → IsRow p → is_row p ≡ true
unfolding is_row
row_test p f = le-leb _ _ f.short

pub row_1_from : (p : Princ) → IsPrinc p → is_row_1 p ≡ true → IsRow1 p
unfolding is_row_1
row_1_from p f e =
    let both = and_parts (eqb (length p.strings) 0) (leb (length (princ p)) longest_row_1) e in
    record { fits = f; no_strings = nil_from_length p.strings (eqb-true _ _ both.0); short = leb-true _ _ both.1 }

pub row_1_test : (p : Princ) → IsRow1 p → is_row_1 p ≡ true
unfolding is_row_1
row_1_test p f =
    and_from (eqb (length p.strings) 0) (leb (length (princ p)) longest_row_1)
    (eq-eqb (length p.strings) 0 (ap (λ (xs : List StringAttribute). length xs) f.no_strings)) (le-leb _ _ f.short)

-- what may stand in format 1 may stand in format 2
pub row_1_is_row : (p : Princ) → IsRow1 p → IsRow p
row_1_is_row p f = let short = f.short in record { fits = f.fits; short = omega arith }

-- ---- with their length before them

pub row_field : IsField row_at (λ p. counted (princ p)) IsRow
unfolding row_at counted
row_field =
    let behind : (n : ℕ) → (n < 256 ^ 2) × (may_be_long n ≡ true)
    → IsField (inside n princ_at) princ (λ p. (length (princ p) ≡ n) × IsPrinc p) =
    λ n _. same_field (inside_field n princ_field) (λ p f. (refl, (f.1, f.0))) (λ p f. (f.1, f.0)) in
    same_field (first_field (checked_field may_be_long (big_field 2)) (λ (p : Princ). length (princ p)) behind)
    (λ p f. (refl, record { fits = f.1; short = leb-true _ _ f.0.1 }))
    (λ p f. let short = f.short in ((omega arith, le-leb _ _ f.short), f.fits))

pub policy_row_field : IsField policy_row_at (λ p. counted (policy p)) IsPolicy
unfolding policy_row_at counted
policy_row_field =
    let behind : (n : ℕ) → n < 256 ^ 2
    → IsField (inside n policy_at) policy (λ p. (length (policy p) ≡ n) × IsPolicy p) =
    λ n _. same_field (inside_field n policy_field) (λ p f. (refl, (f.1, f.0))) (λ p f. (f.1, f.0)) in
    same_field (first_field (big_field 2) (λ (p : Rules). length (policy p)) behind)
    (λ p f. (refl, f.1))
    (λ p f. let short = policy_short p f in (omega arith, f))
