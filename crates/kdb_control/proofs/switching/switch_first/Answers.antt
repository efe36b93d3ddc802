use Rattle.std.proofs.Common.{◌≡◌, ◌≤◌, ◌∙◌, length, get_or, inl, inr, refl, arith}
use Rattle.std.specs.Prelude.{None}
use Rattle.std.proofs.lemmas.Result.{on_ok_weaker}
use Rattle.kdb_disk.proofs.Runs.{stands_here}
use Rattle.kdb_control.specs.declared.force.Force.TheVariants.{Nothing}
use Rattle.kdb_control.specs.Force.{in_force}
use Rattle.kdb_control.proofs.Effects.{nothing_without, gate_closed}
use Rattle.kdb_control.proofs.Steps.{run_on, or_other, ready_on, first_made}
use Rattle.kdb_control.proofs.switching.switch_first.Goals as goal

pub returns-in_err-fill_slot-clause-crash : goal.returns-in_err-fill_slot-clause-crash
returns-in_err-fill_slot-clause-crash g c = record {
  told = λ tells.
      let now = c.requires.now tells in
      or_other (c.fill_slot.ensures.crash tells Nothing now
      (nothing_without 0 ((g.D.Disk.view c.args.disk.now).seen 0) (inl refl) now));
}

pub returns-in_err-begin_slot-clause-crash : goal.returns-in_err-begin_slot-clause-crash
returns-in_err-begin_slot-clause-crash g c = record {
  told = λ tells.
      let now = c.requires.now tells in
      let rest = nothing_without 0 ((g.D.Disk.view c.args.disk.now).seen 0) (inl refl) now in
      let filled = c.in_ok-fill_slot.ensures.ok tells in
      let mid = (g.D.Disk.view c.fill_slot.new.disk).seen 0 in
      let still : in_force mid ≡ Nothing = gate_closed 0 mid (inl refl) filled.ready.gate ∙ filled.rest ∙ rest in
      run_on (or_other (c.fill_slot.ensures.crash tells Nothing now rest))
      (or_other (c.begin_slot.ensures.crash tells Nothing Nothing still (nothing_without 64 mid (inr refl) still)));
}

pub returns-clause-crash : goal.returns-clause-crash
returns-clause-crash g c = record {
  told = λ tells.
      let now = c.requires.now tells in
      let rest = nothing_without 0 ((g.D.Disk.view c.args.disk.now).seen 0) (inl refl) now in
      let filled = c.in_ok-fill_slot.ensures.ok tells in
      let mid = (g.D.Disk.view c.fill_slot.new.disk).seen 0 in
      let still : in_force mid ≡ Nothing = gate_closed 0 mid (inl refl) filled.ready.gate ∙ filled.rest ∙ rest in
      let second = nothing_without 64 mid (inr refl) still in
      let shut = c.in_ok-begin_slot.ensures.ok tells in
      let end = (g.D.Disk.view c.begin_slot.new.disk).seen 0 in
      let last : in_force end ≡ Nothing = gate_closed 64 end (inr refl) shut.gate ∙ shut.rest ∙ second in
      run_on (run_on (or_other (c.fill_slot.ensures.crash tells Nothing now rest))
      (or_other (c.begin_slot.ensures.crash tells Nothing Nothing still second)))
      (c.open_slot.ensures.crash tells None c.args.next.now (record {
        ready = ready_on filled.ready shut;
        known = tt;
        rest = nothing_without 0 end (inl refl) last;
        turn = c.requires.turn;
      }));
}

pub returns-clause-ok : goal.returns-clause-ok
returns-clause-ok g c tells =
    let now = c.requires.now tells in
    let rest = nothing_without 0 ((g.D.Disk.view c.args.disk.now).seen 0) (inl refl) now in
    let filled = c.in_ok-fill_slot.ensures.ok tells in
    let mid = (g.D.Disk.view c.fill_slot.new.disk).seen 0 in
    let still : in_force mid ≡ Nothing = gate_closed 0 mid (inl refl) filled.ready.gate ∙ filled.rest ∙ rest in
    let shut = c.in_ok-begin_slot.ensures.ok tells in
    let end = (g.D.Disk.view c.begin_slot.new.disk).seen 0 in
    let last : in_force end ≡ Nothing =
    gate_closed 64 end (inr refl) shut.gate ∙ shut.rest ∙ nothing_without 64 mid (inr refl) still in
    on_ok_weaker c.open_slot.result (λ set. record {
      here = set.here;
      durable = set.durable;
      others = λ h ne. set.others h ne ∙ shut.others h ne ∙ filled.others h ne;
    })
    (c.open_slot.ensures.ok tells None c.args.next.now (record {
      ready = ready_on filled.ready shut;
      known = tt;
      rest = nothing_without 0 end (inl refl) last;
      turn = c.requires.turn;
    }))

pub returns-clause-first : goal.returns-clause-first
returns-clause-first g c tells =
    let now = c.requires.now tells in
    let rest = nothing_without 0 ((g.D.Disk.view c.args.disk.now).seen 0) (inl refl) now in
    let filled = c.in_ok-fill_slot.ensures.ok tells in
    let mid = (g.D.Disk.view c.fill_slot.new.disk).seen 0 in
    let still : in_force mid ≡ Nothing = gate_closed 0 mid (inl refl) filled.ready.gate ∙ filled.rest ∙ rest in
    let shut = c.in_ok-begin_slot.ensures.ok tells in
    let end = (g.D.Disk.view c.begin_slot.new.disk).seen 0 in
    let last : in_force end ≡ Nothing =
    gate_closed 64 end (inr refl) shut.gate ∙ shut.rest ∙ nothing_without 64 mid (inr refl) still in
    let ready = ready_on filled.ready shut in
    let before = (g.D.Disk.view c.args.disk.now).seen 0 in
    let first_long = c.in_ok-fill_slot.ensures.length tells in
    let long = c.in_ok-begin_slot.ensures.length tells in
    let fresh : length before ≤ 64 → (length end ≡ 65) × (get_or end 64 0 ≡ 0) =
    λ le. (
      omega (arith, le, first_long, long),
      c.in_ok-begin_slot.ensures.zero tells (omega (arith, le, first_long)),
    ) in
    first_made c.open_slot.result before end ((g.D.Disk.view c.open_slot.new.disk).seen 0) c.args.next.now shut.gate
    (omega (arith, long)) fresh ready.bytes
    (on_ok_weaker c.open_slot.result (λ set. set.here) (c.open_slot.ensures.ok tells None c.args.next.now (record {
      ready = ready;
      known = tt;
      rest = nothing_without 0 end (inl refl) last;
      turn = c.requires.turn;
    })))
    (on_ok_weaker c.open_slot.result (λ stands. stands_here stands) (c.open_slot.ensures.stands tells))
