use Rattle.std.proofs.lemmas.Result.{on_ok_weaker}
use Rattle.primary_core.specs.Opened.{place_of}
use Rattle.kadm_top.proofs.Loads.{has_loaded, load_runs, rests_on}
use Rattle.kadm_top.proofs.loading.load_opened.Goals as goal

pub returns-clause-load : goal.returns-clause-load
returns-clause-load g c = λ tells stream draws what is at.
    load_runs c.args.opened c.load_input-loaded.new.primary (g.S.Source.left c.args.source.now)
    (g.S.Source.left c.load_input-loaded.new.source) (g.C.Clock.moments c.args.clock.now)
    (g.C.Clock.moments c.load_input-loaded.new.clock) stream draws what
    (g.D.Disk.view c.args.disk.now) (g.D.Disk.view c.load_input-loaded.new.disk) (g.K.Sink.taken c.args.sink.now)
    (g.K.Sink.taken c.load_input-loaded.new.sink) c.load_input-loaded.result is at
    (record {
      ended = c.load_input-loaded.ensures.ended;
      stopped = c.load_input-loaded.ensures.stopped tells;
      rests = rests_on g.D.Disk.view c.args.disk.now c.load_input-loaded.new.disk (place_of c.args.opened)
          (g.K.Sink.taken c.args.sink.now) (g.K.Sink.taken c.load_input-loaded.new.sink) c.load_input-loaded.result
          (c.what_is_kept_is_recovered.ensures c.args.opened.kept (c.requires.on tells))
          c.load_input-loaded.ensures.rests;
      moments_are = c.load_input-loaded.ensures.moments tells;
      crash = c.load_input-loaded.ensures.crash tells;
      stands = on_ok_weaker c.load_input-loaded.result (c.what_is_kept_is_recovered-2.ensures _)
          (c.load_input-loaded.ensures.on tells);
      gone = c.load_input-loaded.ensures.clock;
      read = c.load_input-loaded.ensures.read;
    })

pub returns-clause-comes : goal.returns-clause-comes
returns-clause-comes g c = λ draws stream is.
    has_loaded c.args.opened (g.S.Source.left c.args.source.now)
    (g.C.Clock.moments c.args.clock.now) stream draws c.load_input-loaded.result is c.load_input-loaded.ensures.comes
