-- The first component has no / before it.
use Rattle.std.proofs.Common.{◌++◌, sym, ap, ◌∙◌, append-nil}
use Rattle.std.proofs.lemmas.List.{nil_from_length}
use Rattle.princ_name.specs.Names.{printed_parts}
use Rattle.princ_name.proofs.PrintedForms.{parts-split, parts-nil}
use Rattle.princ_name.proofs.printing.push_parts.Goals as goal

pub returns-in_ok-push_behind-in-Some : goal.returns-in_ok-push_behind-in-Some
returns-in_ok-push_behind-in-Some c =
    parts-split c.args.parts.now c.in-Some.first.now c.in-Some.others.now c.args.out.now.items c.push_text.new.out.items
    c.push_behind.new.out.items c.as_slice.result.now
    c.in-Some.ensures.cases.0 c.as_slice.ensures c.in_ok-push_text-in-Some.ensures c.in_ok-push_behind-in-Some.ensures

pub returns-in-None : goal.returns-in-None
returns-in-None c = sym (append-nil c.args.out.now.items) ∙ ap (λ w. c.args.out.now.items ++ w)
    (sym (ap printed_parts (nil_from_length _ c.in-None.ensures.cases) ∙ parts-nil))
