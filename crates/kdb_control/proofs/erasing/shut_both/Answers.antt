use Rattle.std.proofs.Common.{◌≡◌, ◌∙◌, ap, length, arith}
use Rattle.std.proofs.lemmas.Result.{on_ok_weaker}
use Rattle.kdb_disk.specs.Files.{Files}
use Rattle.kdb_control.specs.declared.force.Force.TheVariants.{Nothing, Is}
use Rattle.kdb_control.specs.Force.{in_force}
use Rattle.kdb_control.specs.Moments.{without}
use Rattle.kdb_control.proofs.Effects.{both_shut, gate_closed, other_within}
use Rattle.kdb_control.proofs.Steps.{run_on, or_other, behind_keeps}
use Rattle.kdb_control.proofs.erasing.shut_both.Goals as goal

pub returns-in_err-shut_slot-clause-crash : goal.returns-in_err-shut_slot-clause-crash
returns-in_err-shut_slot-clause-crash g c = record {
  told = λ tells.
      let now = c.requires.now tells in
      let at = c.in_ok-older.older in
      let keeps = c.spare_place.ensures.keeps tells in
      let same : (g.D.Disk.view c.spare_place.new.disk).seen 0 ≡ (g.D.Disk.view c.args.disk.now).seen 0 =
      ap (λ (files : Files). files 0) keeps.seen in
      behind_keeps (c.requires.durable tells) now keeps
      (or_other (c.shut_slot.ensures.crash tells (Is c.args.now.now) (Is c.args.now.now) (ap in_force same ∙ now)
      (ap (without at) same ∙ c.in_ok-older.ensures.spare tells)));
}

pub returns-clause-crash : goal.returns-clause-crash
returns-clause-crash g c = record {
  told = λ tells.
      let now = c.requires.now tells in
      let at = c.in_ok-older.older in
      let keeps = c.spare_place.ensures.keeps tells in
      let same : (g.D.Disk.view c.spare_place.new.disk).seen 0 ≡ (g.D.Disk.view c.args.disk.now).seen 0 =
      ap (λ (files : Files). files 0) keeps.seen in
      let rest = ap (without at) same ∙ c.in_ok-older.ensures.spare tells in
      let shut = c.in_ok-shut_slot.ensures.ok tells in
      let mid = (g.D.Disk.view c.shut_slot.new.disk).seen 0 in
      behind_keeps (c.requires.durable tells) now keeps
      (run_on
      (or_other (c.shut_slot.ensures.crash tells (Is c.args.now.now) (Is c.args.now.now) (ap in_force same ∙ now) rest))
      (c.shut_slot-2.ensures.crash tells
      (Is c.args.now.now) Nothing (gate_closed at mid c.in_ok-older.ensures.place shut.gate ∙ shut.rest ∙ rest)
      (both_shut at c.other_place.result mid c.in_ok-older.ensures.place c.other_place.ensures.other shut.gate)));
}

pub returns-clause-ok : goal.returns-clause-ok
returns-clause-ok g c tells =
    let at = c.in_ok-older.older in
    let keeps = c.spare_place.ensures.keeps tells in
    let shut = c.in_ok-shut_slot.ensures.ok tells in
    let mid = (g.D.Disk.view c.shut_slot.new.disk).seen 0 in
    let end = (g.D.Disk.view c.shut_slot-2.new.disk).seen 0 in
    on_ok_weaker c.shut_slot-2.result (λ last. record {
      here = gate_closed c.other_place.result end c.other_place.ensures.place last.gate ∙ last.rest
          ∙ both_shut at c.other_place.result mid c.in_ok-older.ensures.place c.other_place.ensures.other shut.gate;
      durable = last.durable.durable;
      others = λ h ne. last.others h ne ∙ shut.others h ne ∙ ap (λ (files : Files). files h) keeps.seen;
    }) (c.shut_slot-2.ensures.ok tells)

pub shut_slot-requires-2-clause-within : goal.shut_slot-requires-2-clause-within
shut_slot-requires-2-clause-within g c tells =
    let keeps = c.spare_place.ensures.keeps tells in
    let same : length ((g.D.Disk.view c.spare_place.new.disk).seen 0)
    ≡ length ((g.D.Disk.view c.args.disk.now).seen 0) = ap (λ (files : Files). length (files 0)) keeps.seen in
    let within =
    other_within c.in_ok-older.older c.other_place.result c.args.now.now ((g.D.Disk.view c.args.disk.now).seen 0)
    c.in_ok-older.ensures.place c.other_place.ensures.other (c.in_ok-older.ensures.spare tells) in
    omega (arith, within, same, c.in_ok-shut_slot.ensures.length tells)
