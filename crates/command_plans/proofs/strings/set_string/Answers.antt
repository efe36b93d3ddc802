use Rattle.std.proofs.Common.{◌≡◌, true, false, sym, subst, rules}
use Rattle.command_plans.specs.Targets.{IsPut}
use Rattle.command_plans.proofs.StringPlans.{set_full, set_so, sets}
use Rattle.kdb_plain.specs.Strings.{has_room_for}
use Rattle.princ_rows.specs.declared.entries.Op.TheVariants as op
use Rattle.princ_record.specs.Princs.{IsPrinc}
use Rattle.princ_record.specs.declared.princs.Princ.{Princ}
use Rattle.command_plans.proofs.strings.set_string.Goals as goal

pub returns-then-not-has_room_for : goal.returns-then-not-has_room_for
returns-then-not-has_room_for c =
    let full : has_room_for c.args.c.now.key c.args.princ.now.strings ≡ false = search rules in
    set_full c.args.given.now c.args.c.now c.args.princ.now c.requires.target full

pub put-requires : goal.put-requires
put-requires c =
    let room : has_room_for c.args.c.now.key c.args.princ.now.strings ≡ true = search rules in
    subst IsPrinc (sym c.in_ok-made.ensures.princ) (set_so c.args.given.now c.args.c.now c.args.princ.now
    c.requires.target room c.in_ok-made.ensures.by c.requires.realm c.requires.command)

pub returns : goal.returns
returns c =
    let room : has_room_for c.args.c.now.key c.args.princ.now.strings ≡ true = search rules in
    sets c.args.given.now c.args.c.now c.args.princ.now c.requires.target c.put.result room c.in_ok-made.ensures.by
    c.requires.realm c.requires.command
    (subst (λ (p : Princ). IsPut op.PutPrinc p c.put.result) c.in_ok-made.ensures.princ c.put.ensures)
