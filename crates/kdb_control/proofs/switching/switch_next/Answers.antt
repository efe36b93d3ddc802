use Rattle.std.proofs.Common.{◌≡◌, ◌<◌, ◌∙◌, length, ap, arith}
use Rattle.std.specs.Prelude.{Some}
use Rattle.std.proofs.lemmas.Result.{on_ok_weaker}
use Rattle.kdb_disk.specs.Files.{Files}
use Rattle.kdb_control.specs.declared.force.Force.TheVariants.{Is}
use Rattle.kdb_control.specs.Force.{in_force}
use Rattle.kdb_control.specs.Moments.{without}
use Rattle.kdb_control.proofs.Effects.{still_holds}
use Rattle.kdb_control.proofs.Steps.{run_on, or_other, behind_keeps, other_stays}
use Rattle.kdb_control.proofs.switching.switch_next.Goals as goal

pub returns-in_err-fill_slot-clause-crash : goal.returns-in_err-fill_slot-clause-crash
returns-in_err-fill_slot-clause-crash g c = record {
  told = λ tells.
      let now = c.requires.now tells in
      let at = c.in_ok-at.at in
      let keeps = c.spare_place.ensures.keeps tells in
      let same : (g.D.Disk.view c.spare_place.new.disk).seen 0 ≡ (g.D.Disk.view c.args.disk.now).seen 0 =
      ap (λ (files : Files). files 0) keeps.seen in
      behind_keeps (c.requires.durable tells) now keeps
      (or_other (c.fill_slot.ensures.crash tells (Is c.args.now.now) (ap in_force same ∙ now)
      (ap (without at) same ∙ c.in_ok-at.ensures.spare tells)));
}

pub returns-clause-crash : goal.returns-clause-crash
returns-clause-crash g c = record {
  told = λ tells.
      let now = c.requires.now tells in
      let at = c.in_ok-at.at in
      let keeps = c.spare_place.ensures.keeps tells in
      let same : (g.D.Disk.view c.spare_place.new.disk).seen 0 ≡ (g.D.Disk.view c.args.disk.now).seen 0 =
      ap (λ (files : Files). files 0) keeps.seen in
      let rest = ap (without at) same ∙ c.in_ok-at.ensures.spare tells in
      let filled = c.in_ok-fill_slot.ensures.ok tells in
      behind_keeps (c.requires.durable tells) now keeps
      (run_on (or_other (c.fill_slot.ensures.crash tells (Is c.args.now.now) (ap in_force same ∙ now) rest))
      (c.open_slot.ensures.crash tells (Some c.args.now.now) c.args.next.now (record {
        ready = filled.ready;
        known = c.in_ok-at.ensures.turn;
        rest = filled.rest ∙ rest;
        turn = c.requires.turn;
      })));
}

pub returns-clause-ok : goal.returns-clause-ok
returns-clause-ok g c tells =
    let at = c.in_ok-at.at in
    let keeps = c.spare_place.ensures.keeps tells in
    let same : (g.D.Disk.view c.spare_place.new.disk).seen 0 ≡ (g.D.Disk.view c.args.disk.now).seen 0 =
    ap (λ (files : Files). files 0) keeps.seen in
    let filled = c.in_ok-fill_slot.ensures.ok tells in
    on_ok_weaker c.open_slot.result (λ set. record {
      here = set.here;
      durable = set.durable;
      others = λ h ne. set.others h ne ∙ filled.others h ne ∙ ap (λ (files : Files). files h) keeps.seen;
    })
    (c.open_slot.ensures.ok tells (Some c.args.now.now) c.args.next.now (record {
      ready = filled.ready;
      known = c.in_ok-at.ensures.turn;
      rest = filled.rest ∙ ap (without at) same ∙ c.in_ok-at.ensures.spare tells;
      turn = c.requires.turn;
    }))

pub returns-clause-kept : goal.returns-clause-kept
returns-clause-kept g c tells =
    let at = c.in_ok-at.at in
    let keeps = c.spare_place.ensures.keeps tells in
    let same : (g.D.Disk.view c.spare_place.new.disk).seen 0 ≡ (g.D.Disk.view c.args.disk.now).seen 0 =
    ap (λ (files : Files). files 0) keeps.seen in
    let filled = c.in_ok-fill_slot.ensures.ok tells in
    let mid = (g.D.Disk.view c.fill_slot.new.disk).seen 0 in
    let end = (g.D.Disk.view c.open_slot.new.disk).seen 0 in
    let begun : at < length mid = omega (arith, c.in_ok-fill_slot.ensures.length tells) in
    on_ok_weaker c.open_slot.result (λ stands. still_holds at end c.args.now.now c.in_ok-at.ensures.place
    (other_stays at c.in_ok-at.ensures.place begun stands ∙ filled.rest ∙ ap (without at) same
    ∙ c.in_ok-at.ensures.spare tells))
    (c.open_slot.ensures.stands tells)
