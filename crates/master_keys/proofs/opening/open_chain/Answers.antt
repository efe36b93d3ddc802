use Rattle.std.proofs.Common.{List, map, reverse, sym, subst, ◌∙◌}
use Rattle.kdb_base.specs.Versions.{AreRising}
use Rattle.kdb_base.specs.declared.versions.Master.{Master}
use Rattle.master_keys.specs.Chain.{Lists}
use Rattle.master_keys.proofs.Chains.{not_listed, opened_keys, path_opens, same_masters}
use Rattle.master_keys.proofs.Errors.{handed_on}
use Rattle.master_keys.proofs.opening.open_chain.Goals as goal

pub returns-in_err-newest-clause-only : goal.returns-in_err-newest-clause-only
returns-in_err-newest-clause-only c masters o =
    handed_on c.from_residual.result _ _ c.from_residual.ensures.1 (c.in_err-newest.ensures.only o.newest o.leads)

pub returns-in_err-masters-clause-only : goal.returns-in_err-masters-clause-only
returns-in_err-masters-clause-only c masters o =
    let newest = c.new-newest.ensures ∙ c.in_ok-newest.ensures.only o.newest o.leads in
    handed_on c.from_residual-in_err-masters.result _ _ c.from_residual-in_err-masters.ensures.1
    (c.in_err-masters.ensures.only (reverse masters)
    (opened_keys o c.new-newest.result c.as_slice.result.now newest c.as_slice.ensures))

pub returns-then-not-are_rising-clause-only : goal.returns-then-not-are_rising-clause-only
returns-then-not-are_rising-clause-only c masters o =
    let newest = c.new-newest.ensures ∙ c.in_ok-newest.ensures.only o.newest o.leads in
    let same = same_masters o c.new-newest.result c.as_slice.result.now c.in_ok-masters.masters.items
    c.reverse.new.self.items newest c.as_slice.ensures c.in_ok-masters.ensures.only c.reverse.ensures.items in
    let rising =
    subst (λ (ms : List Master). AreRising (map (λ m. m.version) ms)) (sym (c.deref.ensures.value ∙ same)) o.rising in
    let yes = c.are_rising.ensures.1 rising in
    absurd cc

pub returns-then-not-has_master-clause-only : goal.returns-then-not-has_master-clause-only
returns-then-not-has_master-clause-only c masters o =
    let newest = c.new-newest.ensures ∙ c.in_ok-newest.ensures.only o.newest o.leads in
    let same = same_masters o c.new-newest.result c.as_slice.result.now c.in_ok-masters.masters.items
    c.reverse.new.self.items newest c.as_slice.ensures c.in_ok-masters.ensures.only c.reverse.ensures.items in
    let listed = subst (λ (ms : List Master). Lists ms c.args.version c.args.key.now)
    (sym (c.deref-2.ensures.value ∙ same)) o.lists in
    absurd (not_listed c.deref-2.result.now c.args.version c.args.key.now
    (c.has_master.ensures.no c.if-not-has_master.true) listed)

pub returns-clause-ok : goal.returns-clause-ok
returns-clause-ok c =
    let rising = c.are_rising.ensures.0 c.if-not-are_rising.false in
    let lists = c.has_master.ensures.yes c.if-not-has_master.false in
    rw c.from_vec.ensures
    (path_opens c.args.entry.now c.args.version c.args.key.now c.in_ok-newest.newest c.new-newest.result
    c.as_slice.result.now c.in_ok-masters.masters.items c.reverse.new.self.items
    c.in_ok-newest.ensures.ok c.new-newest.ensures c.as_slice.ensures c.in_ok-masters.ensures.ok c.reverse.ensures.items
    (rw (← c.deref.ensures.value) rising) (rw (← c.deref-2.ensures.value) lists))

pub returns-clause-only : goal.returns-clause-only
returns-clause-only c masters o =
    let newest = c.new-newest.ensures ∙ c.in_ok-newest.ensures.only o.newest o.leads in
    c.from_vec.ensures
    ∙ same_masters o c.new-newest.result c.as_slice.result.now c.in_ok-masters.masters.items c.reverse.new.self.items
    newest c.as_slice.ensures c.in_ok-masters.ensures.only c.reverse.ensures.items
