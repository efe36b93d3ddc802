use Rattle.std.proofs.Common.{List, ℕ, ap, refl, subst, sym, ◌∙◌}
use Rattle.std.specs.Prelude.{option_map}
use Rattle.std.proofs.lemmas.Result.{IfOk-weaker}
use Rattle.kdb_histories.specs.Asks.{Settles}
use Rattle.kdb_model.specs.Laws.{IsPoint}
use Rattle.kdb_model.specs.Rekeying.{Taking}
use Rattle.primary_rekeying.proofs.FoundOut.{ok_value, settled_found, settled_may, settled_told}
use Rattle.primary_rekeying.proofs.Taken.{stored_fits}
use Rattle.primary_rekeying.proofs.finding.settled.Goals as goal
use Rattle.primary_rekeying.specs.Moving.{IsFoundOut}
use Rattle.princ_record.specs.declared.princs.Princ.{Princ}
use Rattle.princ_rows.specs.Rows.{AreRows, RowLists}
use Rattle.rekey_work.specs.Works.{settled_with}
use Rattle.rekey_work.specs.declared.works.Settled.TheVariants.{Updated}
use Rattle.row_keys.specs.Lookups.{record_named}
use Rattle.store_files.specs.Kept.{Kept}

pub settle-requires : goal.settle-requires
settle-requires c = stored_fits c.record_named-stored.result (λ stored. stored.now) c.as_slice.result.now
    c.rows-rows.result.now c.princs.ensures.rows c.record_named-stored.ensures

pub returns-clause-found_out : goal.returns-clause-found_out
returns-clause-found_out c = λ who named.
    IfOk-weaker c.settle.result _ _ (λ x is.
    subst (IsFoundOut c.args.primary.now (Settles who c.args.now c.args.work))
    (sym (is ∙ (settled_told (option_map (λ stored. stored.now) c.record_named-stored.result)
    (record_named c.args.work.taken.princ.name c.args.primary.now.kept.rows.princs) c.masters.result.now
    c.args.primary.now.masters c.in-Some.active c.args.work (c.record_named-stored.ensures
    ∙ (ap (λ (n : List ℕ). record_named n c.rows-rows.result.now.princs) (c.as_slice.ensures
    ∙ ap (λ (p : Princ). p.name) c.princ.ensures ∙ ap (λ (t : Taking). t.princ.name) c.taken.ensures)
    ∙ ap (λ (r : RowLists). record_named c.args.work.taken.princ.name r.princs)
    (c.rows-rows.ensures ∙ ap (λ (k : Kept). k.rows) c.database.ensures))) c.masters.ensures)))
    (settled_found (record {
      valid = record { later = c.valid_later.ensures.later; point = c.valid_later.ensures.point };
      row = c.records_have_their_lengths.ensures.row;
    }) c.blobs_hold_one_key.ensures c.principals_have_their_own_spellings.ensures c.args.primary.now c.args.now
    c.args.work c.in-Some.active
    (record {
      ready = (record {
        opened = c.holds_opened.ensures;
        clock_is = c.holds_moment.ensures;
        point_is = subst IsPoint c.point.ensures c.holds_point.ensures;
        rows = subst AreRows (c.rows-rows.ensures ∙ ap (λ (k : Kept). k.rows) c.database.ensures) c.princs.ensures.rows;
      });
      work = c.holds_work.ensures;
      active = λ s has. sym (c.in_ok-active.ensures.version s has) ∙ c.in-Some.is;
    }) who named (record_named c.args.work.taken.princ.name c.args.primary.now.kept.rows.princs) refl)) c.settle.ensures

pub returns-clause-may : goal.returns-clause-may
returns-clause-may c = λ made e.
    settled_may (record {
      valid = record { later = c.valid_later.ensures.later; point = c.valid_later.ensures.point };
      row = c.records_have_their_lengths.ensures.row;
    }) c.blobs_hold_one_key.ensures c.principals_have_their_own_spellings.ensures c.args.primary.now c.args.now
    c.args.work c.in-Some.active
    (record {
      ready = (record {
        opened = c.holds_opened.ensures;
        clock_is = c.holds_moment.ensures;
        point_is = subst IsPoint c.point.ensures c.holds_point.ensures;
        rows = subst AreRows (c.rows-rows.ensures ∙ ap (λ (k : Kept). k.rows) c.database.ensures) c.princs.ensures.rows;
      });
      work = c.holds_work.ensures;
      active = λ s has. sym (c.in_ok-active.ensures.version s has) ∙ c.in-Some.is;
    }) (record_named c.args.work.taken.princ.name c.args.primary.now.kept.rows.princs) made refl
    (sym (settled_told (option_map (λ stored. stored.now) c.record_named-stored.result)
    (record_named c.args.work.taken.princ.name c.args.primary.now.kept.rows.princs)
    c.masters.result.now c.args.primary.now.masters c.in-Some.active c.args.work (c.record_named-stored.ensures
    ∙ (ap (λ (n : List ℕ). record_named n c.rows-rows.result.now.princs) (c.as_slice.ensures
    ∙ ap (λ (p : Princ). p.name) c.princ.ensures ∙ ap (λ (t : Taking). t.princ.name) c.taken.ensures)
    ∙ ap (λ (r : RowLists). record_named c.args.work.taken.princ.name r.princs)
    (c.rows-rows.ensures ∙ ap (λ (k : Kept). k.rows) c.database.ensures))) c.masters.ensures)
    ∙ ok_value c.settle.result (settled_with (option_map (λ stored. stored.now) c.record_named-stored.result)
    c.masters.result.now c.in-Some.active c.args.work) (Updated made) c.settle.ensures e)
