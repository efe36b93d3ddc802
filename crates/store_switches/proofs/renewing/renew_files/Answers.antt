use Rattle.std.proofs.Common.{ap, ◌∙◌}
use Rattle.std.proofs.lemmas.Result.{on_ok_weaker}
use Rattle.kdb_control.specs.Choice.{Choice}
use Rattle.kdb_disk.proofs.Puts.{with_file-other}
use Rattle.kdb_disk.specs.Files.{Files}
use Rattle.store_switches.proofs.Renewed.{IsToRenew, image_begins, image_stays, log_begins}
use Rattle.store_switches.proofs.Renewed.{renewal_force, renewal_leaves, renewal_on}
use Rattle.update_log.specs.Logs.{Journal}
use Rattle.store_switches.proofs.renewing.renew_files.Goals as goal

pub returns-in_err-write-clause-crash : goal.returns-in_err-write-clause-crash
returns-in_err-write-clause-crash g c tells k realm rows under rows_in =
    let to : IsToRenew c.args.now.now c.args.next.now c.args.image.now c.args.log.now =
    record { renewal = c.requires.next; file_is = c.requires.image; log_is = c.requires.log } in
    image_begins k realm rows under to (c.write.ensures.moments tells)

pub returns-in_err-write-2-clause-crash : goal.returns-in_err-write-2-clause-crash
returns-in_err-write-2-clause-crash g c tells k realm rows under rows_in =
    let to : IsToRenew c.args.now.now c.args.next.now c.args.image.now c.args.log.now =
    record { renewal = c.requires.next; file_is = c.requires.image; log_is = c.requires.log } in
    log_begins k realm rows under to (c.write.ensures.moments tells) (c.write-2.ensures.crash.told tells)

pub switch-requires-clause-now : goal.switch-requires-clause-now
switch-requires-clause-now g c tells =
    let to : IsToRenew c.args.now.now c.args.next.now c.args.image.now c.args.log.now =
    record { renewal = c.requires.next; file_is = c.requires.image; log_is = c.requires.log } in
    renewal_force to (c.requires.force tells) (c.write.ensures.moments tells) (c.write-2.ensures.crash.told tells)

pub switch-requires-clause-turn : goal.switch-requires-clause-turn
switch-requires-clause-turn g c = ap (λ (x : Choice). x.turn) c.requires.next.next_is

pub returns-clause-crash : goal.returns-clause-crash
returns-clause-crash g c tells k realm rows under rows_in =
    let to : IsToRenew c.args.now.now c.args.next.now c.args.image.now c.args.log.now =
    record { renewal = c.requires.next; file_is = c.requires.image; log_is = c.requires.log } in
    renewal_leaves k realm rows under rows_in (record {
      to = to;
      image_run = c.write.ensures.moments tells;
      written = c.in_ok-write.ensures.ok tells;
      log_run = c.write-2.ensures.crash.told tells;
      has = c.in_ok-write-2.ensures.log tells;
      switch = c.switch.ensures.crash.told tells;
    })

pub returns-clause-on : goal.returns-clause-on
returns-clause-on g c tells k realm rows under rows_in =
    let to : IsToRenew c.args.now.now c.args.next.now c.args.image.now c.args.log.now =
    record { renewal = c.requires.next; file_is = c.requires.image; log_is = c.requires.log } in
    on_ok_weaker c.switch.result
    (λ set. renewal_on k realm rows under rows_in (record {
      to = to;
      image_run = c.write.ensures.moments tells;
      written = c.in_ok-write.ensures.ok tells;
      log_run = c.write-2.ensures.crash.told tells;
      has = c.in_ok-write-2.ensures.log tells;
      switch = c.switch.ensures.crash.told tells;
    }) (c.in_ok-write-2.ensures.durable tells) (c.in_ok-write-2.ensures.others tells) set)
    (c.switch.ensures.ok tells)

pub returns-clause-written : goal.returns-clause-written
returns-clause-written g c tells =
    let to : IsToRenew c.args.now.now c.args.next.now c.args.image.now c.args.log.now =
    record { renewal = c.requires.next; file_is = c.requires.image; log_is = c.requires.log } in
    on_ok_weaker c.switch.result
    (λ set. image_stays to (c.in_ok-write.ensures.ok tells) (c.in_ok-write-2.ensures.others tells) set)
    (c.switch.ensures.ok tells)

pub returns-clause-others : goal.returns-clause-others
returns-clause-others g c tells =
    let old = (g.D.Disk.view c.args.disk.now).seen in
    on_ok_weaker c.switch.result
    (λ set file some image log. set.others file some
    ∙ c.in_ok-write-2.ensures.others tells file (λ e. log (e ∙ ap (λ (j : Journal). j.file) c.requires.log))
    ∙ ap (λ (files : Files). files file) (c.in_ok-write.ensures.ok tells).seen
    ∙ with_file-other c.args.image.now.cells.file file c.args.image.now.content old (λ e. image (e ∙ c.requires.image)))
    (c.switch.ensures.ok tells)
