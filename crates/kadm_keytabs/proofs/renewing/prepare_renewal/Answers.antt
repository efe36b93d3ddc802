use Rattle.kadm_keytabs.specs.Renewals.{ask_for, wanted}
use Rattle.kdb_histories.specs.Seen.{seen}
use Rattle.primary_core.specs.Opened.{place_of}
use Rattle.kadm_keytabs.proofs.Judged.{answer_so}
use Rattle.kadm_keytabs.proofs.renewing.prepare_renewal.Goals as goal

pub returns-clause-answer : goal.returns-clause-answer
returns-clause-answer c = λ s has.
    let o = c.args.primary.now in
    let w = wanted c.args.client.now c.args.name.now c.args.etypes.now in
    let reply = c.in_ok-judged.judged.reply in
    let answered = c.decisions_are_asked.ensures.answers o
    (ask_for w c.args.now c.args.random.now) reply c.in_ok-judged.judged.change s c.in_ok-judged.ensures.decided has in
    answer_so c.in-Ok.answer (seen (place_of o) s) w c.args.now c.args.random.now c.args.list reply answered
    (c.in-Ok.ensures s has answered)
