use Rattle.std.proofs.Common.{refl, subst, sym}
use Rattle.std.proofs.lemmas.Result.{on_ok_weaker}
use Rattle.session_base.specs.Draws.{told_draws}
use Rattle.kadm_top.proofs.KeytabRuns.{filter_no_draw, filtered_run, filters_read, filters_run, no_draws}
use Rattle.kadm_top.proofs.keytabs.run_keytab.Goals as goal
use Rattle.kadm_top.specs.Openings.{Filters, HasKeytab, keytab_for}
use Rattle.keytab_words.specs.declared.words.KeytabWords.{KeytabWords}
use Rattle.store_files.specs.Found.{found_in}

pub returns-in-Remove-clause-run : goal.returns-in-Remove-clause-run
returns-in-Remove-clause-run g c = λ tells o opening.
    let left = g.S.Source.left c.args.source.now in
    let found = found_in (g.D.Disk.view c.args.disk.now).seen in
    let draws = told_draws (g.C.Clock.moments c.args.clock.now) (g.E.Entropy.stream c.args.entropy.now) in
    filters_run c.in-Remove.name c.in-Remove.which left o
    (subst (λ (w : KeytabWords). keytab_for w left found draws o) c.in-Remove.is opening)
    (λ what is. filtered_run what c.write_removed.result
    (c.write_removed.ensures.written what is) refl c.write_removed.ensures.read)

pub returns-in-Remove-clause-opening : goal.returns-in-Remove-clause-opening
returns-in-Remove-clause-opening g c = λ tells draws is.
    let left = g.S.Source.left c.args.source.now in
    let found = found_in (g.D.Disk.view c.args.disk.now).seen in
    let told = told_draws (g.C.Clock.moments c.args.clock.now) (g.E.Entropy.stream c.args.entropy.now) in
    on_ok_weaker c.write_removed.result (λ has. subst (λ (w : KeytabWords). HasKeytab w left found told)
    (sym c.in-Remove.is) (record { opening = Filters has.what; is = has.is }))
    c.write_removed.ensures.answer

pub returns-in-Remove-clause-unread : goal.returns-in-Remove-clause-unread
returns-in-Remove-clause-unread g c = λ tells o opening not.
    let left = g.S.Source.left c.args.source.now in
    let found = found_in (g.D.Disk.view c.args.disk.now).seen in
    let draws = told_draws (g.C.Clock.moments c.args.clock.now) (g.E.Entropy.stream c.args.entropy.now) in
    absurd (not (filters_read c.in-Remove.name c.in-Remove.which left o
    (subst (λ (w : KeytabWords). keytab_for w left found draws o) c.in-Remove.is opening)))

pub returns-in-Remove-clause-draws : goal.returns-in-Remove-clause-draws
returns-in-Remove-clause-draws g c = no_draws (g.E.Entropy.faults c.args.entropy.now) c.write_removed.result
    (filter_no_draw c.write_removed.result c.write_removed.ensures.halt)

pub returns-in-AddStanding-clause-draws : goal.returns-in-AddStanding-clause-draws
returns-in-AddStanding-clause-draws g c =
    no_draws (g.E.Entropy.faults c.args.entropy.now) c.add.result c.add.ensures.not_drawn
