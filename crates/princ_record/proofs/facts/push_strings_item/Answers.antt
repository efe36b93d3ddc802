use Rattle.std.proofs.Common.{rules}
use Rattle.princ_record.proofs.Heads.{nothing_behind, one_behind}
use Rattle.princ_record.proofs.facts.push_strings_item.Goals as goal

pub returns-then-is_empty : goal.returns-then-is_empty
returns-then-is_empty c = nothing_behind _ _ (search rules)

pub returns : goal.returns
returns c =
    let e = one_behind c.args.out.now.items c.args.list.now (search rules) in
    rw (← e) c.push_strings_tag.ensures
