use Rattle.std.proofs.Common.{◌≡◌, ◌<◌, length, inl, arith, rules, ◌∙◌}
use Rattle.std.proofs.lemmas.Result.{on_ok_weaker}
use Rattle.kdb_control.proofs.Effects.{body_torn}
use Rattle.kdb_control.proofs.Steps.{run_on, torn_either, filled}
use Rattle.kdb_control.proofs.slots.fill_slot.Goals as goal

pub returns-in_err-begin_slot-clause-crash : goal.returns-in_err-begin_slot-clause-crash
returns-in_err-begin_slot-clause-crash g c tells one is rest = c.begin_slot.ensures.crash tells one one is rest

pub returns-clause-crash : goal.returns-clause-crash
returns-clause-crash g c tells one is rest =
    let shut = c.in_ok-begin_slot.ensures.ok tells in
    let begun : c.args.at < length ((g.D.Disk.view c.begin_slot.new.disk).seen 0) =
    omega (arith, c.in_ok-begin_slot.ensures.length tells) in
    let long : length c.write_body.result ≡ 63 = search rules in
    run_on (c.begin_slot.ensures.crash tells one one is rest)
    (torn_either _ _ shut.durable (c.fill_body.ensures.moments tells) (λ bytes few.
    inl (body_torn c.args.at bytes ((g.D.Disk.view c.begin_slot.new.disk).seen 0) c.requires.place begun shut.gate
    (omega (arith, few, long)) ∙ shut.rest ∙ rest)))

pub returns-clause-ok : goal.returns-clause-ok
returns-clause-ok g c tells =
    let begun : c.args.at < length ((g.D.Disk.view c.begin_slot.new.disk).seen 0) =
    omega (arith, c.in_ok-begin_slot.ensures.length tells) in
    let long : length c.write_body.result ≡ 63 = search rules in
    on_ok_weaker c.fill_body.result (λ stands.
    filled c.args.at c.args.next.now c.write_body.result c.requires.place
    (c.in_ok-begin_slot.ensures.ok tells) begun c.write_body.ensures.bytes long c.write_body.ensures.fits stands)
    (c.fill_body.ensures.ok tells)

pub returns-clause-length : goal.returns-clause-length
returns-clause-length g c tells =
    let long : length c.write_body.result ≡ 63 = search rules in
    on_ok_weaker c.fill_body.result (λ more. omega (arith, more, long, c.in_ok-begin_slot.ensures.length tells))
    (c.fill_body.ensures.length tells)
