use Rattle.std.proofs.Common.{refl}
use Rattle.kdb_histories.specs.Seen.{made_at, seen}
use Rattle.kdb_histories.specs.Stages.{places}
use Rattle.primary_core.specs.Opened.{place_of}
use Rattle.primary_core.specs.Changes.{change_places}
use Rattle.kadm_keytabs.proofs.Carried.{crash_changing, crash_still, places_are}
use Rattle.kadm_keytabs.proofs.Carried.{shows_changed, stands_changed, stands_still}
use Rattle.kadm_keytabs.proofs.judging.carry_out.Goals as goal

pub returns-in-None-clause-crash : goal.returns-in-None-clause-crash
returns-in-None-clause-crash g c = λ ask s clock is has.
    crash_still g.D.Disk c.args.disk.now c.args.disk.now (place_of c.args.primary.now)
    (places (made_at ask (seen (place_of c.args.primary.now) s))) refl
    (λ told. c.what_is_kept_is_recovered.ensures c.args.primary.now.kept (c.requires.on told))

pub make-requires-clause-may : goal.make-requires-clause-may
make-requires-clause-may g c = c.requires.may c.in-Some.change c.in-Some.is

pub returns-in-None-clause-stands : goal.returns-in-None-clause-stands
returns-in-None-clause-stands g c = λ ask s clock is has.
    stands_still c.decisions_are_asked.ensures.keeps c.args.primary.now ask c.args.judged.reply c.args.judged.change s
    c.in-None.is is has

pub returns-in-Ok-clause-stands : goal.returns-in-Ok-clause-stands
returns-in-Ok-clause-stands g c = λ ask s clock is has.
    let o = c.args.primary.now in
    let reply = c.args.judged.reply in
    let change = c.args.judged.change in
    stands_changed c.decisions_are_asked.ensures.place c.changes_make_places.ensures o c.make.new.self ask reply change
    c.in-Some.change s c.args.now clock c.in-Some.is is has
    c.in-Ok.ensures.place
    (shows_changed c.decisions_are_asked.ensures.leaves c.decisions_are_asked.ensures.masters o c.make.new.self ask
    reply change c.in-Some.change s c.args.now clock c.in-Some.is is has
    c.in-Ok.ensures.state)

pub returns-in-Ok-clause-crash : goal.returns-in-Ok-clause-crash
returns-in-Ok-clause-crash g c = λ ask s clock is has.
    let o = c.args.primary.now in
    crash_changing g.D.Disk c.args.disk.now c.make.new.disk (place_of o)
    (change_places c.args.now c.in-Some.change.op (place_of o)) (places (made_at ask (seen (place_of o) s)))
    (places_are c.changes_make_places.ensures o ask c.args.judged.reply c.args.judged.change c.in-Some.change s
    c.args.now clock c.in-Some.is is has)
    c.make.ensures.crash

pub returns-in-Err-clause-crash : goal.returns-in-Err-clause-crash
returns-in-Err-clause-crash g c = λ ask s clock is has.
    let o = c.args.primary.now in
    crash_changing g.D.Disk c.args.disk.now c.make.new.disk (place_of o)
    (change_places c.args.now c.in-Some.change.op (place_of o)) (places (made_at ask (seen (place_of o) s)))
    (places_are c.changes_make_places.ensures o ask c.args.judged.reply c.args.judged.change c.in-Some.change s
    c.args.now clock c.in-Some.is is has)
    c.make.ensures.crash
