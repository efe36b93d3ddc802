use Rattle.std.proofs.Common.{◌-◌, length, sym, subst, arith}
use Rattle.princ_rows.specs.declared.entries.Logged.{Logged}
use Rattle.update_log.specs.Logs.{Journal, ComesNext}
use Rattle.update_log.proofs.log.Log.place.Goals as goal

pub place_of-requires-clause-serial : goal.place_of-requires-clause-serial
place_of-requires-clause-serial c =
    let log = c.self.invariant.0 in
    let next : Logged = record { entry = c.args.entry.now; cell = c.args.cell } in
    let comes = subst (λ (j : Journal). ComesNext j.held next) (sym c.self.view_is) c.requires in
    omega (
      arith,
      comes.serial next,
      log.run.serials (length c.self.inside.held.items - 1) next (omega (arith, log.some)),
      log.some,
      log.from_base,
    )
