use Rattle.std.proofs.Common.{◌≡◌, sym, ap, subst, ◌∙◌}
use Rattle.kdb_disk.specs.Files.{Files}
use Rattle.kdb_disk.proofs.Runs.{keeps_then}
use Rattle.update_log.specs.Logs.{Journal}
use Rattle.update_log.specs.Moments.{HasLog}
use Rattle.store_files.specs.Found.{stash_in, found_in}
use Rattle.store_opening.specs.Looking.{last_read}
use Rattle.store_opening.proofs.Looked.{damage_stops, fitting_kept, head_kept, looked_made}
use Rattle.store_opening.proofs.Redone.{log_kept}
use Rattle.std.specs.Prelude.{Err}
use Rattle.store_opening.proofs.looking.look.Goals as goal

pub plan_again-requires : goal.plan_again-requires
plan_again-requires g c = record {
  headed = c.in-Ok.ensures.headed;
  fitting = (c.in-Ok-read_cells.ensures.cells.cells, c.in-Ok-read_cells.ensures.cells.fitting);
}

pub returns-in-Ok-plan_again-clause-looked : goal.returns-in-Ok-plan_again-clause-looked
returns-in-Ok-plan_again-clause-looked g c =
    let h = c.in-Ok.headed in
    let last = last_read h.control h.log in
    let s = c.in-Ok-read_cells.scanned in
    let old = (g.D.Disk.view c.args.disk.now).seen in
    let mid = (g.D.Disk.view c.read_log.new.disk).seen in
    let fit = fitting_kept g.D.Disk.tells h.control last s old mid
    (λ tells. (c.read_log.ensures.keeps tells).seen) c.in-Ok-read_cells.ensures.cells in
    record {
      cells = fit.cells;
      again = c.in-Ok-plan_again.ensures.again fit.cells fit.fitting;
      read = λ tells.
          let keeps = keeps_then (c.read_log.ensures.keeps tells) (c.read_cells.ensures.keeps tells) in
          let stash = c.in-Ok-read_stash.stash in
          c.in-Ok-plan_again.ensures.looked fit.cells old
          (looked_made old h.control h.log (c.in-Ok.ensures.read tells) s fit.cells stash (fit.read tells) fit.fitting
          (sym (c.in-Ok-read_stash.ensures.found tells ∙ ap (stash_in h.control) keeps.seen)));
    }

pub returns-in-Ok-plan_again-clause-log : goal.returns-in-Ok-plan_again-clause-log
returns-in-Ok-plan_again-clause-log g c tells settled =
    subst (λ (j : Journal). HasLog j (g.D.Disk.view c.read_stash.new.disk)) (sym c.in-Ok-plan_again.ensures.log)
    (log_kept c.in-Ok.headed.log (keeps_then (c.read_cells.ensures.keeps tells) (c.read_stash.ensures.keeps tells))
    (c.in-Ok.ensures.log tells settled))

pub returns-in-Err-read_cells-clause-refused : goal.returns-in-Err-read_cells-clause-refused
returns-in-Err-read_cells-clause-refused g c tells r is =
    let h = c.in-Ok.headed in
    let keeps = c.read_log.ensures.keeps tells in
    let old = (g.D.Disk.view c.args.disk.now).seen in
    let mid = (g.D.Disk.view c.read_log.new.disk).seen in
    subst (λ (files : Files). found_in files ≡ Err r) keeps.seen (c.in-Err-read_cells.ensures.refused tells
    (head_kept h.control h.log old mid keeps.seen (c.in-Ok.ensures.read tells)) r cc)

pub returns-in-Err-read_cells-clause-stops : goal.returns-in-Err-read_cells-clause-stops
returns-in-Err-read_cells-clause-stops g c = damage_stops c.in-Err-read_cells.stop c.in-Err-read_cells.ensures.damage

pub returns-in-Err-read_cells-clause-keeps : goal.returns-in-Err-read_cells-clause-keeps
returns-in-Err-read_cells-clause-keeps g c tells =
    keeps_then (c.read_log.ensures.keeps tells) (c.read_cells.ensures.keeps tells)

pub returns-in-Err-read_stash-clause-keeps : goal.returns-in-Err-read_stash-clause-keeps
returns-in-Err-read_stash-clause-keeps g c tells =
    keeps_then (keeps_then (c.read_log.ensures.keeps tells) (c.read_cells.ensures.keeps tells))
    (c.read_stash.ensures.keeps tells)

pub returns-in-Ok-plan_again-clause-keeps : goal.returns-in-Ok-plan_again-clause-keeps
returns-in-Ok-plan_again-clause-keeps g c tells =
    keeps_then (keeps_then (c.read_log.ensures.keeps tells) (c.read_cells.ensures.keeps tells))
    (c.read_stash.ensures.keeps tells)

pub returns-in-Err-plan_again-clause-keeps : goal.returns-in-Err-plan_again-clause-keeps
returns-in-Err-plan_again-clause-keeps g c tells =
    keeps_then (keeps_then (c.read_log.ensures.keeps tells) (c.read_cells.ensures.keeps tells))
    (c.read_stash.ensures.keeps tells)
