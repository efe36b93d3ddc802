use Rattle.std.proofs.Common.{◌≡◌, List, ℕ, subst, ◌∙◌, sym}
use Rattle.kadm_values.specs.Times.{SpellsCivil}
use Rattle.kadm_values.proofs.times.read_civil.Goals as goal

pub returns-then-is_same-clause-spelled : goal.returns-then-is_same-clause-spelled
returns-then-is_same-clause-spelled c =
    let P : List ℕ → Type 0 = λ text. SpellsCivil text c.in-Some.secs in
    subst P (sym c.as_slice.ensures ∙ c.is_same.ensures.yes c.if-is_same.true) c.print_time.ensures.spelled

-- what it spells would be what was printed
pub returns-else-is_same-clause-only : goal.returns-else-is_same-clause-only
returns-else-is_same-clause-only c = λ secs s.
    let found = c.in-Some.ensures secs s in
    let same : secs ≡ c.in-Some.secs = cc in
    let P : ℕ → Type 0 = λ n. SpellsCivil c.args.text.now n in
    absurd
    (c.is_same.ensures.no c.if-is_same.false (c.as_slice.ensures ∙ sym (c.print_time.ensures.only _ (subst P same s))))
