use Rattle.std.proofs.Common.{◌∙◌, ap}
use Rattle.std.specs.Prelude.{Err}
use Rattle.kadm_loading.proofs.Ends.{halted_leaves, has_loaded, has_refused, idle_same}
use Rattle.kadm_loading.proofs.Ends.{idle_some, if_loaded_as, if_loaded_stops, if_refused_as}
use Rattle.kadm_loading.proofs.Ends.{if_refused_stops, leaves_some, loaded_leaves, stops_unsaid}
use Rattle.kadm_loading.proofs.answering.load_printed.Goals as goal
use Rattle.kdb_histories.specs.Stages.{no_state}
use Rattle.primary_loading.specs.Opened.{place_of}

pub returns-in-Err-Refused-clause-ended : goal.returns-in-Err-Refused-clause-ended
returns-in-Err-Refused-clause-ended g c = λ end to.
    let is = c.in-Err-Refused.is ∙ ap Err c.in-Err-Refused.field-0-is in
    if_refused_as c.args.primary.now c.load.new.primary c.args.now c.args.dump c.load.result c.requires.whole
    c.load.ensures.complete c.load.ensures.only_refused
    c.in-Err-Refused.why is _ _ _ c.refuse.result c.in-Err-Refused.why-is
    (c.load.ensures.refused_keeps c.in-Err-Refused.why is).0 c.refuse.ensures.ok c.refuse.ensures.answer end to

pub returns-in-Err-Refused-clause-comes : goal.returns-in-Err-Refused-clause-comes
returns-in-Err-Refused-clause-comes g c =
    has_refused c.args.primary.now c.args.now c.args.dump c.in-Err-Refused.why c.refuse.result c.requires.whole
    (c.load.ensures.refused c.in-Err-Refused.why (c.in-Err-Refused.is ∙ ap Err c.in-Err-Refused.field-0-is))

pub returns-in-Err-Refused-clause-stopped : goal.returns-in-Err-Refused-clause-stopped
returns-in-Err-Refused-clause-stopped g c = λ tells end to.
    let is = c.in-Err-Refused.is ∙ ap Err c.in-Err-Refused.field-0-is in
    if_refused_stops c.args.primary.now c.load.new.primary c.args.now c.args.dump c.load.result c.requires.whole
    c.load.ensures.complete c.load.ensures.only_refused
    c.in-Err-Refused.why is _ _ (g.D.Disk.view c.args.disk.now) _ _ c.refuse.result c.in-Err-Refused.why-is
    (ap g.D.Disk.view (c.load.ensures.refused_keeps c.in-Err-Refused.why is).1)
    c.refuse.ensures.err (c.requires.stands tells) end to

pub returns-in-Err-Refused-clause-moments : goal.returns-in-Err-Refused-clause-moments
returns-in-Err-Refused-clause-moments g c = λ tells end to.
    let is = c.in-Err-Refused.is ∙ ap Err c.in-Err-Refused.field-0-is in
    idle_same (place_of c.args.primary.now) _ (g.D.Disk.view c.args.disk.now) _
    (ap g.D.Disk.view (c.load.ensures.refused_keeps c.in-Err-Refused.why is).1)
    (c.requires.stands tells)

pub returns-in-Err-Halt-clause-stopped : goal.returns-in-Err-Halt-clause-stopped
returns-in-Err-Halt-clause-stopped g c = λ tells end to.
    stops_unsaid end c.args.now (place_of c.args.primary.now) _
    (halted_leaves c.args.primary.now c.load.new.primary c.args.now c.args.dump c.load.result c.requires.whole
    c.load.ensures.complete c.load.ensures.only_refused
    c.in-Err-Halt.halt no_state (g.D.Disk.view c.args.disk.now) (g.D.Disk.view c.load.new.disk)
    (c.in-Err-Halt.is ∙ ap Err c.in-Err-Halt.field-0-is)
    ((c.load.ensures.crash no_state c.requires.whole).told tells)
    (λ memory. ap g.D.Disk.view (c.load.ensures.memory memory))
    (c.requires.stands tells) end to)

pub returns-in-Err-Halt-clause-moments : goal.returns-in-Err-Halt-clause-moments
returns-in-Err-Halt-clause-moments g c = λ tells end to.
    halted_leaves c.args.primary.now c.load.new.primary c.args.now c.args.dump c.load.result c.requires.whole
    c.load.ensures.complete c.load.ensures.only_refused
    c.in-Err-Halt.halt no_state (g.D.Disk.view c.args.disk.now) (g.D.Disk.view c.load.new.disk)
    (c.in-Err-Halt.is ∙ ap Err c.in-Err-Halt.field-0-is)
    ((c.load.ensures.crash no_state c.requires.whole).told tells)
    (λ memory. ap g.D.Disk.view (c.load.ensures.memory memory))
    (c.requires.stands tells) end to

pub returns-in-Ok-clause-ended : goal.returns-in-Ok-clause-ended
returns-in-Ok-clause-ended g c = λ end to.
    if_loaded_as c.args.primary.now c.load.new.primary c.args.now c.args.dump c.load.result c.requires.whole
    c.load.ensures.complete c.load.ensures.only_refused
    _ c.in-Ok.is c.in-Ok.ensures.loaded c.args.printed.now.text (c.requires.printed c.in-Ok.ensures.taken.left) _ _
    c.write_printed.result
    c.write_printed.ensures.ok c.write_printed.ensures.answer end to

pub returns-in-Ok-clause-comes : goal.returns-in-Ok-clause-comes
returns-in-Ok-clause-comes g c =
    has_loaded c.args.primary.now c.args.now c.args.dump c.load.new.primary.masters c.write_printed.result
    c.in-Ok.ensures.taken

pub returns-in-Ok-clause-stopped : goal.returns-in-Ok-clause-stopped
returns-in-Ok-clause-stopped g c = λ tells end to.
    if_loaded_stops c.args.primary.now c.load.new.primary c.args.now c.args.dump c.load.result c.requires.whole
    c.load.ensures.complete c.load.ensures.only_refused
    _ c.in-Ok.is c.in-Ok.ensures.loaded c.args.printed.now.text (c.requires.printed c.in-Ok.ensures.taken.left) _ _
    (g.D.Disk.view c.load.new.disk) c.write_printed.result
    c.write_printed.ensures.err (c.what_is_kept_is_recovered.ensures _ (c.in-Ok.ensures.on tells)) end to

pub returns-in-Ok-clause-moments : goal.returns-in-Ok-clause-moments
returns-in-Ok-clause-moments g c = λ tells end to.
    loaded_leaves c.args.primary.now c.load.new.primary c.args.now c.args.dump c.load.result c.requires.whole
    c.load.ensures.complete c.load.ensures.only_refused
    _ c.in-Ok.is c.in-Ok.ensures.loaded c.args.printed.now.text (c.requires.printed c.in-Ok.ensures.taken.left) no_state
    (g.D.Disk.view c.args.disk.now) (g.D.Disk.view c.load.new.disk)
    ((c.load.ensures.crash no_state c.requires.whole).told tells) end to

pub returns-in-Ok-clause-crash : goal.returns-in-Ok-clause-crash
returns-in-Ok-clause-crash g c = λ tells.
    leaves_some (place_of c.args.primary.now) no_state c.args.dump.rows c.args.now
    ((c.load.ensures.crash no_state c.requires.whole).told tells)

pub returns-in-Err-Refused-clause-crash : goal.returns-in-Err-Refused-clause-crash
returns-in-Err-Refused-clause-crash g c = λ tells.
    let is = c.in-Err-Refused.is ∙ ap Err c.in-Err-Refused.field-0-is in
    idle_some (place_of c.args.primary.now) (g.D.Disk.view c.args.disk.now) _
    (ap g.D.Disk.view (c.load.ensures.refused_keeps c.in-Err-Refused.why is).1) (c.requires.stands tells)

pub returns-in-Err-Halt-clause-crash : goal.returns-in-Err-Halt-clause-crash
returns-in-Err-Halt-clause-crash g c = λ tells.
    leaves_some (place_of c.args.primary.now) no_state c.args.dump.rows c.args.now
    ((c.load.ensures.crash no_state c.requires.whole).told tells)
