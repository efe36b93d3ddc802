use Rattle.std.proofs.Common.{ap, ◌∙◌}
use Rattle.update_log.specs.Logs.{Journal}
use Rattle.std.proofs.lemmas.Result.{on_ok_weaker}
use Rattle.store_switches.proofs.Switched.{IsReset, reset_leaves, reset_begins, reset_on, reset_force}
use Rattle.store_switches.proofs.switching.reset_files.Goals as goal

pub returns-in_err-write-clause-crash : goal.returns-in_err-write-clause-crash
returns-in_err-write-clause-crash g c tells k under =
    let is : IsReset c.args.now.now c.args.next.now c.args.log.now = record {
      newer = c.requires.format;
      next_is = c.requires.next;
      spare = c.requires.spare;
      some = c.requires.size;
      log_is = c.requires.log;
    } in
    reset_begins k under is (c.write.ensures.crash.told tells)

pub switch-requires-clause-now : goal.switch-requires-clause-now
switch-requires-clause-now g c tells =
    let is : IsReset c.args.now.now c.args.next.now c.args.log.now = record {
      newer = c.requires.format;
      next_is = c.requires.next;
      spare = c.requires.spare;
      some = c.requires.size;
      log_is = c.requires.log;
    } in
    reset_force is (c.requires.force tells) (c.write.ensures.crash.told tells)

pub returns-clause-crash : goal.returns-clause-crash
returns-clause-crash g c tells k under =
    let is : IsReset c.args.now.now c.args.next.now c.args.log.now = record {
      newer = c.requires.format;
      next_is = c.requires.next;
      spare = c.requires.spare;
      some = c.requires.size;
      log_is = c.requires.log;
    } in
    reset_leaves k under (record {
      reset = is;
      run = c.write.ensures.crash.told tells;
      has = c.in_ok-write.ensures.log tells;
      switch = c.switch.ensures.crash.told tells;
    })

pub returns-clause-on : goal.returns-clause-on
returns-clause-on g c tells k under =
    let is : IsReset c.args.now.now c.args.next.now c.args.log.now = record {
      newer = c.requires.format;
      next_is = c.requires.next;
      spare = c.requires.spare;
      some = c.requires.size;
      log_is = c.requires.log;
    } in
    on_ok_weaker c.switch.result
    (λ set. reset_on k under (record {
      reset = is;
      run = c.write.ensures.crash.told tells;
      has = c.in_ok-write.ensures.log tells;
      switch = c.switch.ensures.crash.told tells;
    }) (c.in_ok-write.ensures.durable tells) (c.in_ok-write.ensures.others tells) set)
    (c.switch.ensures.ok tells)

pub returns-clause-others : goal.returns-clause-others
returns-clause-others g c tells =
    on_ok_weaker c.switch.result
    (λ set f some other. set.others f some
    ∙ c.in_ok-write.ensures.others tells f (λ e. other (e ∙ ap (λ (j : Journal). j.file) c.requires.log)))
    (c.switch.ensures.ok tells)
