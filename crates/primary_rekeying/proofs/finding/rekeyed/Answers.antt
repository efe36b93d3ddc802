use Rattle.std.proofs.Common.{List, false, ap, subst, sym, ◌∙◌}
use Rattle.kdb_base.specs.declared.versions.Master.{Master}
use Rattle.kdb_histories.specs.Asks.{RekeyedNow, at_clock}
use Rattle.kdb_model.specs.Laws.{IsPoint}
use Rattle.kdb_model.specs.Rekeying as model
use Rattle.kdb_model.specs.Rekeying.{Taking, take_of}
use Rattle.kdb_plain.specs.States.{master_of}
use Rattle.master_keys.specs.Rewrapping.{IsRewrapped}
use Rattle.primary_rekeying.proofs.FoundOut.{is_taken, never_already, never_ready, none_gone}
use Rattle.primary_rekeying.proofs.FoundOut.{now_already, now_gone, now_may, now_stored, updated_same}
use Rattle.primary_rekeying.proofs.finding.rekeyed.Goals as goal
use Rattle.primary_rekeying.specs.Moving.{IsStored, IsTake, MayStore}
use Rattle.primary_rekeying.specs.declared.taking.TakeAnswer.{TakeAnswer}
use Rattle.primary_rekeying.specs.declared.taking.TakeAnswer.TheVariants as answers
use Rattle.princ_record.specs.declared.princs.Princ.{Princ}
use Rattle.princ_rows.specs.Rows.{AreRows}
use Rattle.row_keys.specs.Lookups.{record_named}
use Rattle.store_files.specs.Kept.{Kept}

pub rewrap_ready-requires-clause-old : goal.rewrap_ready-requires-clause-old
rewrap_ready-requires-clause-old c =
    let s = c.holds_opened.ensures.state in
    let has = c.holds_opened.ensures.has in
    ap (λ (m : List Master). master_of m c.in-Ready.taken.princ.mkvno) (c.requires.ring ∙ sym has.masters_are)
    ∙ (is_taken s (at_clock c.args.now false) (record_named c.args.name.now c.args.primary.now.kept.rows.princs)
    c.in-Ready.taken
    (subst (λ (a : TakeAnswer).
    IsTake a (take_of s (at_clock c.args.now false) (record_named c.args.name.now c.args.primary.now.kept.rows.princs)))
    c.in-Ready.is (c.in_ok-taken.ensures s has))).old_is

pub rewrap_ready-requires-clause-fresh : goal.rewrap_ready-requires-clause-fresh
rewrap_ready-requires-clause-fresh c =
    let s = c.holds_opened.ensures.state in
    let has = c.holds_opened.ensures.has in
    ap (λ (m : List Master). master_of m c.in-Ready.taken.version) (c.requires.ring ∙ sym has.masters_are)
    ∙ (is_taken s (at_clock c.args.now false) (record_named c.args.name.now c.args.primary.now.kept.rows.princs)
    c.in-Ready.taken
    (subst (λ (a : TakeAnswer).
    IsTake a (take_of s (at_clock c.args.now false) (record_named c.args.name.now c.args.primary.now.kept.rows.princs)))
    c.in-Ready.is (c.in_ok-taken.ensures s has))).fresh_is

pub returns-in-Ok-clause-absent : goal.returns-in-Ok-clause-absent
returns-in-Ok-clause-absent c =
    λ none. absurd (never_ready c.in-Ready.taken (none_gone c.holds_opened.ensures.state (at_clock c.args.now false)
    (record_named c.args.name.now c.args.primary.now.kept.rows.princs) (answers.Ready c.in-Ready.taken) none
    (subst (λ (a : TakeAnswer). IsTake a (take_of c.holds_opened.ensures.state (at_clock c.args.now false)
    (record_named c.args.name.now c.args.primary.now.kept.rows.princs))) c.in-Ready.is
    (c.in_ok-taken.ensures c.holds_opened.ensures.state c.holds_opened.ensures.has))))

pub returns-in-Ok-clause-found_out : goal.returns-in-Ok-clause-found_out
returns-in-Ok-clause-found_out c = λ who named.
    subst (λ (p : Princ). IsStored c.args.primary.now (RekeyedNow who c.args.now c.args.random.now) p)
    (sym c.into_made.ensures.made)
    (now_stored (record {
      valid = record { later = c.valid_later.ensures.later; point = c.valid_later.ensures.point };
      row = c.records_have_their_lengths.ensures.row;
    }) c.blobs_hold_one_key.ensures c.args.primary.now c.args.now c.args.name.now c.args.random.now c.in-Ok.work
    (record {
      ready = (record {
        opened = c.holds_opened.ensures;
        clock_is = c.holds_moment.ensures;
        point_is = subst IsPoint c.point.ensures c.holds_point.ensures;
        rows = subst AreRows (c.rows.ensures ∙ ap (λ (k : Kept). k.rows) c.database.ensures) c.princs.ensures.rows;
      });
      work = c.holds_work.ensures;
      made = subst (λ (t : Taking). IsRewrapped t.princ t.old t.version t.fresh c.args.random.now c.in-Ok.work.made)
          (sym c.in-Ok.ensures.taken) c.in-Ok.ensures.made;
      takes = λ s has. subst (λ (a : TakeAnswer). IsTake a
          (take_of s (at_clock c.args.now false) (record_named c.args.name.now c.args.primary.now.kept.rows.princs)))
          c.in-Ready.is (c.in_ok-taken.ensures s has) ∙ ap model.Ready (sym c.in-Ok.ensures.taken);
    }) who named)

pub returns-in-Ok-clause-may : goal.returns-in-Ok-clause-may
returns-in-Ok-clause-may c = λ made e.
    subst (λ (p : Princ). MayStore c.args.primary.now c.args.now p)
    (sym c.into_made.ensures.made ∙ updated_same c.into_made.result made e)
    (now_may (record {
      valid = record { later = c.valid_later.ensures.later; point = c.valid_later.ensures.point };
      row = c.records_have_their_lengths.ensures.row;
    }) c.blobs_hold_one_key.ensures c.args.primary.now c.args.now c.args.name.now c.args.random.now c.in-Ok.work
    (record {
      ready = (record {
        opened = c.holds_opened.ensures;
        clock_is = c.holds_moment.ensures;
        point_is = subst IsPoint c.point.ensures c.holds_point.ensures;
        rows = subst AreRows (c.rows.ensures ∙ ap (λ (k : Kept). k.rows) c.database.ensures) c.princs.ensures.rows;
      });
      work = c.holds_work.ensures;
      made = subst (λ (t : Taking). IsRewrapped t.princ t.old t.version t.fresh c.args.random.now c.in-Ok.work.made)
          (sym c.in-Ok.ensures.taken) c.in-Ok.ensures.made;
      takes = λ s has. subst (λ (a : TakeAnswer). IsTake a
          (take_of s (at_clock c.args.now false) (record_named c.args.name.now c.args.primary.now.kept.rows.princs)))
          c.in-Ready.is (c.in_ok-taken.ensures s has) ∙ ap model.Ready (sym c.in-Ok.ensures.taken);
    }))

pub returns-in-Already-clause-absent : goal.returns-in-Already-clause-absent
returns-in-Already-clause-absent c = λ none. absurd (never_already (none_gone c.holds_opened.ensures.state
    (at_clock c.args.now false) (record_named c.args.name.now c.args.primary.now.kept.rows.princs) answers.Already none
    (subst (λ (a : TakeAnswer). IsTake a (take_of c.holds_opened.ensures.state
    (at_clock c.args.now false) (record_named c.args.name.now c.args.primary.now.kept.rows.princs))) c.in-Already.is
    (c.in_ok-taken.ensures c.holds_opened.ensures.state c.holds_opened.ensures.has))))

pub returns-in-Already-clause-found_out : goal.returns-in-Already-clause-found_out
returns-in-Already-clause-found_out c = λ who named.
    now_already c.args.primary.now c.args.now c.args.name.now who named c.args.random.now
    (λ s has. subst (λ (a : TakeAnswer). IsTake a (take_of s (at_clock c.args.now false)
    (record_named c.args.name.now c.args.primary.now.kept.rows.princs))) c.in-Already.is (c.in_ok-taken.ensures s has))

pub returns-in-Gone-clause-found_out : goal.returns-in-Gone-clause-found_out
returns-in-Gone-clause-found_out c = λ who named.
    now_gone c.args.primary.now c.args.now c.args.name.now who named c.args.random.now
    (λ s has. subst (λ (a : TakeAnswer). IsTake a (take_of s (at_clock c.args.now false)
    (record_named c.args.name.now c.args.primary.now.kept.rows.princs))) c.in-Gone.is (c.in_ok-taken.ensures s has))
