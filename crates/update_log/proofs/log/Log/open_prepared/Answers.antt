use Rattle.std.proofs.Common.{◌<◌, ℕ, [], ◌∷◌, length, sym, subst, ◌∙◌, ap}
use Rattle.std.proofs.lemmas.Result.{on_ok_weaker}
use Rattle.kdb_disk.specs.View.{Torn, IsAfter}
use Rattle.kdb_disk.specs.Moments.{LeavesOnly, Stands}
use Rattle.kdb_disk.proofs.Runs.{stands_other}
use Rattle.update_log.specs.Logs.{log_committed}
use Rattle.update_log.specs.Moments.{HasLog, IsDurable, ReadsOthers}
use Rattle.update_log.proofs.Leaving.{durable_stands}
use Rattle.update_log.proofs.Preparing.{some_of, commit_within, commit_moments, commit_holds}
use Rattle.update_log.proofs.log.Log.open_prepared.Goals as goal

pub open_gate-requires-clause-at : goal.open_gate-requires-clause-at
open_gate-requires-clause-at g c tells =
    let next = some_of c.args.self.now.prepared c.requires.ready in
    let at = c.prepared_place-at in
    subst (λ (f : ℕ). at.result < length ((g.D.Disk.view c.args.disk.now).seen f)) (sym c.in_file.ensures.value)
    (commit_within at.result at.ensures.block (c.requires.log tells) next.1 (at.ensures.value next.0 next.1))

pub returns-clause-crash : goal.returns-clause-crash
returns-clause-crash g c = record {
  told = λ tells.
      let next = some_of c.args.self.now.prepared c.requires.ready in
      let at = c.prepared_place-at in
      let old = g.D.Disk.view c.args.disk.now in
      let run =
      subst (λ (f : ℕ). LeavesOnly old (g.D.Disk.view c.open_gate.new.disk) (IsAfter (Torn f at.result 1) old))
      c.in_file.ensures.value (c.open_gate.ensures.moments tells) in
      commit_moments at.result at.ensures.size at.ensures.block (c.requires.log tells) next.1
      (at.ensures.value next.0 next.1) run;
}

pub returns-clause-log : goal.returns-clause-log
returns-clause-log g c tells =
    let next = some_of c.args.self.now.prepared c.requires.ready in
    let at = c.prepared_place-at in
    let old = g.D.Disk.view c.args.disk.now in
    let new = g.D.Disk.view c.open_gate.new.disk in
    let has = c.requires.log tells in
    let holds = has.stands.each old.seen (g.met.D.Disk.reads_as_image c.args.disk.now tells) in
    on_ok_weaker c.open_gate.result
    (λ written. commit_holds at.result at.ensures.size at.ensures.block has holds next.1
    (at.ensures.value next.0 next.1)
    (subst (λ (f : ℕ). Stands f at.result (165 ∷ []) old new) c.in_file.ensures.value written))
    (c.open_gate.ensures.ok tells)

pub returns-clause-durable : goal.returns-clause-durable
returns-clause-durable g c tells =
    let new = g.D.Disk.view c.open_gate.new.disk in
    on_ok_weaker c.open_gate.result (λ written.
    subst (λ (f : ℕ). IsDurable f new) c.in_file.ensures.value (durable_stands written)) (c.open_gate.ensures.ok tells)

pub returns-clause-others : goal.returns-clause-others
returns-clause-others g c tells =
    let old = g.D.Disk.view c.args.disk.now in
    let new = g.D.Disk.view c.open_gate.new.disk in
    on_ok_weaker c.open_gate.result (λ written. subst (λ (f : ℕ). ReadsOthers f old new) c.in_file.ensures.value
    (λ h ne. stands_other h written ne)) (c.open_gate.ensures.ok tells)
