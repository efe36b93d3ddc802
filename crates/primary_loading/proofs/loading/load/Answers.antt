use Rattle.std.proofs.Common.{List, subst}
use Rattle.std.specs.Prelude.{OnOk}
use Rattle.kdb_base.specs.declared.moments.Point.{Point}
use Rattle.kdb_base.specs.declared.versions.Master.{Master}
use Rattle.kdb_disk.proofs.Runs.{started, weaken}
use Rattle.primary_core.specs.Opened.{IsWrittenAnew, place_of}
use Rattle.primary_loading.proofs.Given.{filled_with, halt_loads}
use Rattle.primary_loading.proofs.Loaded.{if_does, if_loads, load_leaves, load_stays}
use Rattle.primary_loading.proofs.loading.load.Goals as goal

pub returns-in-Ok-clause-does : goal.returns-in-Ok-clause-does
returns-in-Ok-clause-does g c s answer =
    if_does _ _ c.put_rows.result c.args.primary.now c.put_rows.new.primary c.args.dump.rows c.args.now s answer
    (if_loads _ _ c.put_rows.result c.args.primary.now c.put_rows.new.primary c.args.dump.rows c.in-Ok.masters
    c.in-Ok.base c.args.now c.in-Ok.ensures.base
    c.in-Ok.ensures.may.left c.put_rows.ensures.filled)

pub returns-in-Ok-clause-complete : goal.returns-in-Ok-clause-complete
returns-in-Ok-clause-complete g c masters may =
    filled_with c.put_rows.result c.args.primary.now c.put_rows.new.primary c.args.dump.rows c.in-Ok.masters
    c.in-Ok.base masters c.put_rows.ensures.filled
    c.put_rows.ensures.refused (c.in-Ok.ensures.complete masters may)

pub returns-in-Ok-clause-crash : goal.returns-in-Ok-clause-crash
returns-in-Ok-clause-crash g c s whole = record {
  told = λ t. weaken (c.put_rows.ensures.crash.told t)
      (λ f l. load_leaves (place_of c.args.primary.now) c.args.dump.rows c.in-Ok.masters c.in-Ok.base c.args.now
      c.in-Ok.ensures.base c.in-Ok.ensures.may.left s f
      c.put_rows.ensures.shown l);
}

pub returns-in-Err-clause-complete : goal.returns-in-Err-clause-complete
returns-in-Err-clause-complete g c masters may =
    halt_loads (List Master) c.in-Err.stop c.args.primary.now.masters masters (c.in-Err.ensures.complete masters may)

pub returns-in-Err-clause-crash : goal.returns-in-Err-clause-crash
returns-in-Err-clause-crash g c s whole = record {
  told = λ t. started _ _ (λ f i. load_stays (place_of c.args.primary.now) s c.args.dump.rows c.args.now f
      (c.what_is_kept_is_recovered.ensures _ (c.requires.on t whole) f i));
}

pub returns-in-Ok-clause-written : goal.returns-in-Ok-clause-written
returns-in-Ok-clause-written g c = λ t. subst (λ (base : Point). OnOk c.put_rows.result
    (IsWrittenAnew (g.D.Disk.view c.put_rows.new.disk) c.put_rows.new.primary.kept base)) c.in-Ok.ensures.base
    (c.put_rows.ensures.written t)
