use Rattle.std.proofs.Common.{List, drop, sym, ap, ◌∙◌, inl, inr}
use Rattle.std.specs.Prelude.{option_map}
use Rattle.princ_keys.specs.declared.keys.KeyItem.{KeyItem}
use Rattle.stash_opening.specs.Finding.{first_listed, keys_in}
use Rattle.stash_opening.proofs.Causes.{none_of_none, same_why}
use Rattle.stash_opening.proofs.Listed.{first_is_listed, first_key, found_with, no_keys, none_left, none_without}
use Rattle.stash_opening.proofs.finding.open_by.Goals as goal

pub returns-in_default-clause-complete : goal.returns-in_default-clause-complete
returns-in_default-clause-complete c masters o =
    none_of_none (keys_in (option_map (λ p. p.now) c.args.entry)) c.args.keys.now o.found
    (no_keys c.args.keys.now c.in_default.len_below) o.first

pub returns-in_default-entry-clause-refused : goal.returns-in_default-entry-clause-refused
returns-in_default-entry-clause-refused c why e = inr (inl (record {
  first = c.first-item.result;
  others = drop 1 c.args.keys.now;
  keys_are = first_key c.args.keys.now c.first-item.result c.in-len1-up.len_at_least c.first-item.is;
  none = none_without (option_map (λ p. p.now) c.args.entry) c.args.keys.now
      (ap (option_map (λ p. p.now)) (none_left c.args.entry c.in_default-entry.not-Some));
  why_is = same_why _ why e;
}))

pub open_found-requires : goal.open_found-requires
open_found-requires c =
    first_is_listed c.in-Some.entry.now.keys c.args.keys.now c.in-Some-first_listed.found
    (ap (λ (items : List KeyItem). first_listed items c.args.keys.now) (sym c.as_slice.ensures)
    ∙ sym c.first_listed.ensures ∙
    c.in-Some-first_listed.is)

pub returns-clause-refused : goal.returns-clause-refused
returns-clause-refused c why e = inr (inr (record {
  found = c.in-Some-first_listed.found;
  first = found_with _ c.in-Some.entry.now c.as_slice.result.now c.args.keys.now _
      (ap (option_map (λ p. p.now)) c.in-Some.is) c.as_slice.ensures
      c.first_listed.ensures ∙ c.in-Some-first_listed.is;
  own = c.in-Some.entry.now;
  there = ap (option_map (λ p. p.now)) c.in-Some.is;
  wrong = c.open_found.ensures.wrong why e;
  why_is = c.open_found.ensures.refused why e;
}))
