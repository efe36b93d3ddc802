use Rattle.std.proofs.Common.{List}
use Rattle.kadm_keytabs.specs.Additions.{addition_by, keys_told, secs_at}
use Rattle.kadm_top.proofs.KeytabRuns.{answered, says_so, written}
use Rattle.kadm_top.proofs.keytabs.write_added.Goals as goal
use Rattle.stash_file.specs.Pieces.{Told}

pub returns-clause-written : goal.returns-clause-written
returns-clause-written g c = λ s what has is.
    let f = λ (entries : List Told).
    addition_by c.args.name.now (secs_at s c.args.moment) entries (keys_told s c.args.name.now) in
    written f (g.S.Source.left c.args.source.now) (g.K.Sink.taken c.args.sink.now)
    (g.K.Sink.taken c.ktadd_standing.new.sink) c.ktadd_standing.result what
    (says_so g.K.Sink.taken f (g.S.Source.left c.args.source.now) c.args.sink.now c.ktadd_standing.new.sink
    c.ktadd_standing.result
    (λ text e. c.ktadd_standing.ensures.ended s text has e) (λ text e. c.ktadd_standing.ensures.cut s text has e)
    c.ktadd_standing.ensures.unwritten) is

pub returns-clause-answer : goal.returns-clause-answer
returns-clause-answer g c = λ s has.
    let f = λ (entries : List Told).
    addition_by c.args.name.now (secs_at s c.args.moment) entries (keys_told s c.args.name.now) in
    answered f (g.S.Source.left c.args.source.now) (g.K.Sink.taken c.args.sink.now)
    (g.K.Sink.taken c.ktadd_standing.new.sink) c.ktadd_standing.result
    (says_so g.K.Sink.taken f (g.S.Source.left c.args.source.now) c.args.sink.now c.ktadd_standing.new.sink
    c.ktadd_standing.result
    (λ text e. c.ktadd_standing.ensures.ended s text has e) (λ text e. c.ktadd_standing.ensures.cut s text has e)
    c.ktadd_standing.ensures.unwritten)
