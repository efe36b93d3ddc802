use Rattle.std.proofs.Common.{◌≡◌, ◌<◌, List, ap, get_or, length, map, subst, sym, ◌∙◌}
use Rattle.policy_rules.specs.Rules.{Rules}
use Rattle.princ_record.specs.declared.princs.Princ.{Princ}
use Rattle.tab_reports.specs.Noting.{IsNoted}
use Rattle.tab_reports.proofs.Noted.{counted_few, none_counted, row_counted}
use Rattle.tab_reports.proofs.counting.users_of_each.Goals as goal

pub loop-row-init : goal.loop-row-init
loop-row-init c = none_counted c.args.rows.now.policies c.in_ok-users.users.items
    (c.in_ok-users.ensures ∙ ap (map (λ _. 0)) c.policies-policies.ensures.value)

pub note-requires-clause-few : goal.note-requires-clause-few
note-requires-clause-few c = counted_few c.args.rows.now c.loop-row.users.items c.loop-row.row-index
    c.princs-row-items.ensures.rows c.loop-row.invariant

pub loop-row-preserved : goal.loop-row-preserved
loop-row-preserved c =
    let princs = c.args.rows.now.princs in
    let i = c.loop-row.row-index in
    let p = c.get.result.now in
    let same : c.princs-row-items.result.now ≡ princs = c.princs-row-items.ensures.value in
    let is : p ≡ get_or princs i p =
    c.get.ensures ∙ c.row-item.is ∙ ap (λ (ps : List Princ). get_or ps i c.row-item.result) same
    ∙ ap (λ (d : Princ). get_or princs i d) (sym c.get.ensures) in
    let lt : i < length princs = subst (λ (ps : List Princ). i < length ps) same c.loop-row-test.true in
    let noted = subst (λ (qs : List Rules). IsNoted p qs c.loop-row.users.items c.note.new.users.items)
    c.policies-policies.ensures.value c.note.ensures in
    row_counted c.args.rows.now.policies princs i p c.loop-row.users.items c.note.new.users.items lt is
    c.loop-row.invariant noted
