use Rattle.std.proofs.Common.{◌∙◌, ap, refl}
use Rattle.kdb_histories.specs.Calls.{Perform}
use Rattle.kdb_places.specs.Places.{Place}
use Rattle.primary_core.specs.Opened.{place_of}
use Rattle.primary_core.specs.Changes.{change_places}
use Rattle.kadm_session.proofs.Leaving.{may_still}
use Rattle.kadm_session.proofs.Making.{change_realm, crash_changing, places_are}
use Rattle.kadm_session.proofs.Making.{shows_changed, stands_changed, stands_still}
use Rattle.kadm_session.proofs.commands.carry_out.Goals as goal

pub returns-in-None-clause-crash : goal.returns-in-None-clause-crash
returns-in-None-clause-crash g c = λ ask s clock is has.
    may_still g.D.Disk c.args.disk.now c.args.disk.now (place_of c.args.primary.now) s (Perform ask) refl
    (λ told. c.what_is_kept_is_recovered.ensures c.args.primary.now.kept (c.requires.on told))

pub returns-in-Ok-clause-realm : goal.returns-in-Ok-clause-realm
returns-in-Ok-clause-realm g c = ap (λ (p : Place). p.realm) c.in-Ok.ensures.place
    ∙ change_realm c.args.now c.in-Some.change.op (place_of c.args.primary.now)

pub make-requires-clause-may : goal.make-requires-clause-may
make-requires-clause-may g c = c.requires.may c.in-Some.change c.in-Some.is

pub returns-in-None-clause-stands : goal.returns-in-None-clause-stands
returns-in-None-clause-stands g c = λ ask s clock is has.
    stands_still c.decisions_are_asked.ensures.keeps c.args.primary.now ask c.args.judged.printed.reply
    c.args.judged.change s c.in-None.is is has

pub returns-in-Ok-clause-stands : goal.returns-in-Ok-clause-stands
returns-in-Ok-clause-stands g c = λ ask s clock is has.
    let o = c.args.primary.now in
    let reply = c.args.judged.printed.reply in
    let change = c.args.judged.change in
    stands_changed c.decisions_are_asked.ensures.place c.changes_make_places.ensures o c.make.new.self ask reply change
    c.in-Some.change s c.args.now clock c.in-Some.is is has
    c.in-Ok.ensures.place
    (shows_changed c.decisions_are_asked.ensures.leaves c.decisions_are_asked.ensures.masters o c.make.new.self ask
    reply change c.in-Some.change s c.args.now clock c.in-Some.is is has
    c.in-Ok.ensures.state)

pub returns-in-Ok-clause-crash : goal.returns-in-Ok-clause-crash
returns-in-Ok-clause-crash g c = λ ask s clock is has.
    let o = c.args.primary.now in
    crash_changing g.D.Disk c.args.disk.now c.make.new.disk o ask c.args.judged.printed.reply c.args.judged.change s
    (change_places c.args.now c.in-Some.change.op (place_of o)) is has
    (places_are c.changes_make_places.ensures o ask c.args.judged.printed.reply c.args.judged.change c.in-Some.change s
    c.args.now clock c.in-Some.is is has)
    c.make.ensures.crash

pub returns-in-Err-clause-crash : goal.returns-in-Err-clause-crash
returns-in-Err-clause-crash g c = λ ask s clock is has.
    let o = c.args.primary.now in
    crash_changing g.D.Disk c.args.disk.now c.make.new.disk o ask c.args.judged.printed.reply c.args.judged.change s
    (change_places c.args.now c.in-Some.change.op (place_of o)) is has
    (places_are c.changes_make_places.ensures o ask c.args.judged.printed.reply c.args.judged.change c.in-Some.change s
    c.args.now clock c.in-Some.is is has)
    c.make.ensures.crash
