use Rattle.kadm_keytabs.specs.Removals.{removal_of}
use Rattle.kadm_top.proofs.KeytabRuns.{answered, says_so, written}
use Rattle.kadm_top.proofs.keytabs.write_removed.Goals as goal

pub returns-clause-written : goal.returns-clause-written
returns-clause-written g c = λ what is.
    written (removal_of c.args.name.now c.args.which) (g.S.Source.left c.args.source.now)
    (g.K.Sink.taken c.args.sink.now) (g.K.Sink.taken c.ktremove.new.sink) c.ktremove.result what
    (says_so g.K.Sink.taken (removal_of c.args.name.now c.args.which)
    (g.S.Source.left c.args.source.now) c.args.sink.now c.ktremove.new.sink c.ktremove.result c.ktremove.ensures.ended
    c.ktremove.ensures.cut c.ktremove.ensures.unwritten) is

pub returns-clause-answer : goal.returns-clause-answer
returns-clause-answer g c =
    answered (removal_of c.args.name.now c.args.which) (g.S.Source.left c.args.source.now)
    (g.K.Sink.taken c.args.sink.now) (g.K.Sink.taken c.ktremove.new.sink) c.ktremove.result
    (says_so g.K.Sink.taken (removal_of c.args.name.now c.args.which)
    (g.S.Source.left c.args.source.now) c.args.sink.now c.ktremove.new.sink c.ktremove.result c.ktremove.ensures.ended
    c.ktremove.ensures.cut c.ktremove.ensures.unwritten)
