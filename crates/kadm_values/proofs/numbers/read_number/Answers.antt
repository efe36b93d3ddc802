use Rattle.std.proofs.Common.{◌≡◌, true, arith, ap, ◌∙◌, sym, Some, None, rules}
use Rattle.std.specs.List.{list_all}
use Rattle.std.proofs.lemmas.Bool.Decides.{nat_tests}
use Rattle.kadm_values.specs.Numbers.{is_digit}
use Rattle.kadm_values.proofs.NumberLemmas.{number_is}
use Rattle.kadm_values.proofs.ReadingLemmas.{number_value}
use Rattle.kadm_values.proofs.numbers.read_number.Goals as goal

pub returns-clause-spelled : goal.returns-clause-spelled
returns-clause-spelled c =
    let few = c.if-text-gt10.false in
    let some = c.is_empty.ensures in
    let digits : list_all is_digit c.args.text.now ≡ true = cc in
    record {
      digits = record { some = grind (arith, nat_tests); digits = digits };
      few = few;
      value = number_is _ _ c.value_of_digits.ensures digits few;
    }

pub returns-clause-only : goal.returns-clause-only
returns-clause-only c = λ number s.
    ap Some (number_is _ _ c.value_of_digits.ensures s.digits.digits s.few ∙ sym s.value)

pub returns-then-is_empty-clause-value : goal.returns-then-is_empty-clause-value
returns-then-is_empty-clause-value c = number_value None c.args.text.now (search rules) (search rules)

pub returns-then-text-gt10-clause-value : goal.returns-then-text-gt10-clause-value
returns-then-text-gt10-clause-value c = number_value None c.args.text.now (search rules) (search rules)

pub returns-then-not-is_all_digits-clause-value : goal.returns-then-not-is_all_digits-clause-value
returns-then-not-is_all_digits-clause-value c = number_value None c.args.text.now (search rules) (search rules)

pub returns-clause-value : goal.returns-clause-value
returns-clause-value c = number_value _ _ (returns-clause-spelled c) (returns-clause-only c)
