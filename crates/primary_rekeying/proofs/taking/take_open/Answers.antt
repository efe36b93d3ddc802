use Rattle.std.proofs.Common.{◌≢◌, List, None, Some, ap, subst, sym, ◌∙◌}
use Rattle.kdb_base.specs.declared.versions.Master.{Master}
use Rattle.kdb_model.specs.Rekeying.{take_to}
use Rattle.kdb_plain.specs.States.{master_of}
use Rattle.primary_rekeying.proofs.Taken.{active_there, can_take, take_gone, take_none, take_told}
use Rattle.primary_rekeying.proofs.taking.take_open.Goals as goal
use Rattle.princ_rows.specs.Rows.{AreRows, RowLists}
use Rattle.rekey_work.specs.Works.{IsOpenedBy, taken_as}
use Rattle.row_keys.specs.Lookups.{record_named}
use Rattle.store_files.specs.Kept.{Kept}

pub returns-in_default : goal.returns-in_default
returns-in_default c =
    λ s has. take_gone s c.args.now (record_named c.args.name.now c.args.primary.now.kept.rows.princs)
    (ap (λ (r : RowLists). record_named c.args.name.now r.princs)
    (sym (c.rows-rows.ensures ∙ ap (λ (k : Kept). k.rows) c.database.ensures)) ∙ sym c.in_default.ensures)

pub returns-in_default-2 : goal.returns-in_default-2
returns-in_default-2 c = λ s has.
    take_none s c.args.now (record_named c.args.name.now c.args.primary.now.kept.rows.princs) c.in-Some.princ.now
    (ap (λ (r : RowLists). record_named c.args.name.now r.princs)
    (sym (c.rows-rows.ensures ∙ ap (λ (k : Kept). k.rows) c.database.ensures)) ∙ sym c.in-Some.ensures)
    (sym (c.in_ok-active.ensures.version s has) ∙ c.in_default-2.is)

pub take-requires-clause-spelled : goal.take-requires-clause-spelled
take-requires-clause-spelled c =
    (can_take c.args.primary.now c.holds_opened.ensures.state c.args.name.now c.in-Some.princ.now
    c.holds_opened.ensures.has (subst AreRows (c.rows-rows.ensures ∙ ap (λ (k : Kept). k.rows) c.database.ensures)
    c.princs.ensures.rows) c.requires (ap (λ (r : RowLists). record_named c.args.name.now r.princs)
    (sym (c.rows-rows.ensures ∙ ap (λ (k : Kept). k.rows) c.database.ensures)) ∙ sym c.in-Some.ensures)).spelled

pub take-requires-clause-ordinary : goal.take-requires-clause-ordinary
take-requires-clause-ordinary c =
    (can_take c.args.primary.now c.holds_opened.ensures.state c.args.name.now c.in-Some.princ.now
    c.holds_opened.ensures.has (subst AreRows (c.rows-rows.ensures ∙ ap (λ (k : Kept). k.rows) c.database.ensures)
    c.princs.ensures.rows) c.requires (ap (λ (r : RowLists). record_named c.args.name.now r.princs)
    (sym (c.rows-rows.ensures ∙ ap (λ (k : Kept). k.rows) c.database.ensures)) ∙ sym c.in-Some.ensures)).ordinary

pub take-requires-clause-few : goal.take-requires-clause-few
take-requires-clause-few c =
    (can_take c.args.primary.now c.holds_opened.ensures.state c.args.name.now c.in-Some.princ.now
    c.holds_opened.ensures.has (subst AreRows (c.rows-rows.ensures ∙ ap (λ (k : Kept). k.rows) c.database.ensures)
    c.princs.ensures.rows) c.requires (ap (λ (r : RowLists). record_named c.args.name.now r.princs)
    (sym (c.rows-rows.ensures ∙ ap (λ (k : Kept). k.rows) c.database.ensures)) ∙ sym c.in-Some.ensures)).few

pub take-requires-clause-opened : goal.take-requires-clause-opened
take-requires-clause-opened c = subst (λ (m : List Master). IsOpenedBy m c.in-Some.princ.now) (sym c.masters.ensures)
    (can_take c.args.primary.now c.holds_opened.ensures.state c.args.name.now c.in-Some.princ.now
    c.holds_opened.ensures.has (subst AreRows (c.rows-rows.ensures ∙ ap (λ (k : Kept). k.rows) c.database.ensures)
    c.princs.ensures.rows) c.requires (ap (λ (r : RowLists). record_named c.args.name.now r.princs)
    (sym (c.rows-rows.ensures ∙ ap (λ (k : Kept). k.rows) c.database.ensures)) ∙ sym c.in-Some.ensures)).opened

pub take-requires-clause-listed : goal.take-requires-clause-listed
take-requires-clause-listed c =
    subst (λ (m : List Master). master_of m c.in-Some-2.active ≢ None) (sym c.masters.ensures)
    (active_there c.args.primary.now
    c.holds_opened.ensures.state c.args.now c.in-Some-2.active c.holds_opened.ensures.has
    (sym (c.in_ok-active.ensures.version c.holds_opened.ensures.state c.holds_opened.ensures.has) ∙ c.in-Some-2.is))

pub returns-in-Some-3 : goal.returns-in-Some-3
returns-in-Some-3 c = λ s has.
    take_told c.args.primary.now s c.args.now (record_named c.args.name.now c.args.primary.now.kept.rows.princs)
    c.in-Some.princ.now c.in-Some-2.active (Some c.in-Some-3.taken) has
    (ap (λ (r : RowLists). record_named c.args.name.now r.princs)
    (sym (c.rows-rows.ensures ∙ ap (λ (k : Kept). k.rows) c.database.ensures)) ∙ sym c.in-Some.ensures)
    (sym (c.in_ok-active.ensures.version s has) ∙ c.in-Some-2.is)
    (ap taken_as (sym c.in-Some-3.is) ∙ c.in_ok-taken.ensures
    ∙ ap (λ (m : List Master). take_to m c.in-Some.princ.now (Some c.in-Some-2.active)) c.masters.ensures)

pub returns-in-None : goal.returns-in-None
returns-in-None c = λ s has.
    take_told c.args.primary.now s c.args.now (record_named c.args.name.now c.args.primary.now.kept.rows.princs)
    c.in-Some.princ.now c.in-Some-2.active None has (ap (λ (r : RowLists). record_named c.args.name.now r.princs)
    (sym (c.rows-rows.ensures ∙ ap (λ (k : Kept). k.rows) c.database.ensures)) ∙ sym c.in-Some.ensures)
    (sym (c.in_ok-active.ensures.version s has) ∙ c.in-Some-2.is)
    (ap taken_as (sym c.in-None.is) ∙ c.in_ok-taken.ensures
    ∙ ap (λ (m : List Master). take_to m c.in-Some.princ.now (Some c.in-Some-2.active)) c.masters.ensures)
