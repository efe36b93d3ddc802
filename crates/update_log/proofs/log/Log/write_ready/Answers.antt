use Rattle.std.proofs.Common.{◌≤◌, ◌<◌, sym, subst, ℕ, length, Some, arith}
use Rattle.std.proofs.lemmas.Result.{on_ok_weaker}
use Rattle.princ_rows.specs.declared.entries.Logged.{Logged}
use Rattle.update_log.specs.Logs.{Journal}
use Rattle.update_log.specs.Moments.{HasPrepared, IsDurable}
use Rattle.update_log.proofs.Journals.{place_within}
use Rattle.update_log.proofs.Preparing.{ready_plan, prepared_log, has_prepared}
use Rattle.update_log.proofs.log.Log.write_ready.Goals as goal

pub place-at-requires : goal.place-at-requires
place-at-requires g c =
    let next : Logged = record { entry = c.args.entry.now; cell = c.args.cell } in
    c.holds_prepared.ensures next c.requires.ready

pub write_next-requires-clause-body : goal.write_next-requires-clause-body
write_next-requires-clause-body g c =
    let block = c.holds_journal.ensures.block in
    (omega (arith, c.requires.body.long, block.0), omega (arith, c.requires.body.long, block.1))

pub write_next-requires-clause-within : goal.write_next-requires-clause-within
write_next-requires-clause-within g c tells =
    let log = c.args.self.now in
    let next : Logged = record { entry = c.args.entry.now; cell = c.args.cell } in
    let seen = (g.D.Disk.view c.args.disk.now).seen in
    let long = c.requires.body.long in
    let pos : 0 < log.block = omega (arith, long) in
    let holds = (c.requires.log tells).each seen (g.met.D.Disk.reads_as_image c.args.disk.now tells) in
    let comes = c.holds_prepared.ensures next c.requires.ready in
    let within = place_within pos holds comes in
    subst (λ (f : ℕ). c.place-at.result ≤ length (seen f)) (sym c.in_file.ensures.value)
    (omega (arith, c.place-at.ensures.value, within))

pub write_next-requires-clause-durable : goal.write_next-requires-clause-durable
write_next-requires-clause-durable g c tells =
    subst (λ (f : ℕ). IsDurable f (g.D.Disk.view c.args.disk.now)) (sym c.in_file.ensures.value)
    (c.requires.durable tells)

pub returns-clause-crash : goal.returns-clause-crash
returns-clause-crash g c = record {
  told = λ tells.
      let log = c.args.self.now in
      let next : Logged = record { entry = c.args.entry.now; cell = c.args.cell } in
      let comes = c.holds_prepared.ensures next c.requires.ready in
      let plan = ready_plan log next c.in_file.result c.place-at.result c.args.body.now c.in_file.ensures.value
      c.place-at.ensures.value comes c.requires.body in
      c.write_next.ensures.crash tells log next plan (c.requires.log tells);
}

pub returns-clause-prepared : goal.returns-clause-prepared
returns-clause-prepared g c tells =
    let log = c.args.self.now in
    let next : Logged = record { entry = c.args.entry.now; cell = c.args.cell } in
    let comes = c.holds_prepared.ensures next c.requires.ready in
    let plan = ready_plan log next c.in_file.result c.place-at.result c.args.body.now c.in_file.ensures.value
    c.place-at.ensures.value comes c.requires.body in
    on_ok_weaker c.write_next.result
    (λ prepares. subst (λ (j : Journal). HasPrepared j (g.D.Disk.view c.write_next.new.disk))
    (prepared_log log next c.requires.ready) (has_prepared log next prepares))
    (c.write_next.ensures.ok tells log next plan (c.requires.log tells))

pub returns-clause-others : goal.returns-clause-others
returns-clause-others g c tells =
    let log = c.args.self.now in
    let next : Logged = record { entry = c.args.entry.now; cell = c.args.cell } in
    let comes = c.holds_prepared.ensures next c.requires.ready in
    let plan = ready_plan log next c.in_file.result c.place-at.result c.args.body.now c.in_file.ensures.value
    c.place-at.ensures.value comes c.requires.body in
    on_ok_weaker c.write_next.result (λ prepares. prepares.others)
    (c.write_next.ensures.ok tells log next plan (c.requires.log tells))
