use Rattle.kdb_histories.specs.Asks.{Replied}
use Rattle.kadm_session.proofs.Renewed.{reset_realm, reset_stands, reset_time}
use Rattle.kadm_session.proofs.renewing.reset.Goals as goal

pub returns-in-Ok-clause-stands : goal.returns-in-Ok-clause-stands
returns-in-Ok-clause-stands g c = λ s has.
    let answer = Replied c.args.printed.reply in
    reset_stands c.args.primary.now c.reset_log.new.self s c.args.now answer (c.in-Ok.ensures.does s answer has)
    (c.in-Ok.ensures.state s has)

pub returns-in-Ok-clause-realm : goal.returns-in-Ok-clause-realm
returns-in-Ok-clause-realm g c =
    let answer = Replied c.args.printed.reply in
    let opened = c.holds_opened.ensures in
    reset_realm c.args.primary.now c.reset_log.new.self opened.state c.args.now answer
    (c.in-Ok.ensures.does opened.state answer opened.has)

pub returns-in-Ok-clause-time : goal.returns-in-Ok-clause-time
returns-in-Ok-clause-time g c =
    let answer = Replied c.args.printed.reply in
    let opened = c.holds_opened.ensures in
    reset_time c.args.primary.now c.reset_log.new.self opened.state c.args.now answer
    (c.in-Ok.ensures.does opened.state answer opened.has)

pub returns-in-Ok-clause-crash : goal.returns-in-Ok-clause-crash
returns-in-Ok-clause-crash g c = λ s has. c.reset_log.ensures.crash s c.requires.whole has

pub returns-in-Err-Halt-clause-crash : goal.returns-in-Err-Halt-clause-crash
returns-in-Err-Halt-clause-crash g c = λ s has. c.reset_log.ensures.crash s c.requires.whole has
