use Rattle.std.proofs.Common.{◌≡◌, ◌∙◌, ap, subst, sym, List, ℕ}
use Rattle.std.specs.Prelude.{OnErr, OnOk}
use Rattle.kdb_ports.specs.Parts.{SaidPart}
use Rattle.kdb_ports.specs.Told.{after_told}
use Rattle.primary_core.specs.Opened.{place_of}
use Rattle.session_base.specs.Replies.{reply_in}
use Rattle.kadm_session.proofs.Going.{asks_dump, text_of_dump, text_of_other}
use Rattle.kadm_session.proofs.session.write_answer.Goals as goal

pub returns-then-is_dump-clause-ok : goal.returns-then-is_dump-clause-ok
returns-then-is_dump-clause-ok g c =
    subst (λ (text : List ℕ).
    OnOk c.write_dump.result (g.K.Sink.taken c.write_dump.new.sink ≡ after_told (g.K.Sink.taken c.args.sink.now) text))
    (text_of_dump c.args.asked.now (place_of c.args.primary.now) (reply_in c.args.printed.now)
    (asks_dump c.args.asked.now c.is_dump.result c.is_dump.ensures c.if-is_dump.true))
    c.write_dump.ensures.ok

pub returns-then-is_dump-clause-err : goal.returns-then-is_dump-clause-err
returns-then-is_dump-clause-err g c =
    subst (λ (text : List ℕ).
    OnErr c.write_dump.result (SaidPart text (g.K.Sink.taken c.args.sink.now) (g.K.Sink.taken c.write_dump.new.sink)))
    (text_of_dump c.args.asked.now (place_of c.args.primary.now) (reply_in c.args.printed.now)
    (asks_dump c.args.asked.now c.is_dump.result c.is_dump.ensures c.if-is_dump.true))
    c.write_dump.ensures.err

pub returns-then-is_dump-clause-memory : goal.returns-then-is_dump-clause-memory
returns-then-is_dump-clause-memory g c = λ is.
    (asks_dump c.args.asked.now c.is_dump.result c.is_dump.ensures c.if-is_dump.true, c.write_dump.ensures.memory is)

pub returns-in-Ok-clause-ok : goal.returns-in-Ok-clause-ok
returns-in-Ok-clause-ok g c =
    c.in-Ok.ensures.ok
    ∙ ap (after_told (g.K.Sink.taken c.args.sink.now))
    (c.requires.text ∙ text_of_other c.args.asked.now (place_of c.args.primary.now) (reply_in c.args.printed.now)
    (sym c.is_dump.ensures ∙ c.if-is_dump.false))

pub returns-in-Err-clause-err : goal.returns-in-Err-clause-err
returns-in-Err-clause-err g c =
    subst (λ (text : List ℕ). SaidPart text (g.K.Sink.taken c.args.sink.now) (g.K.Sink.taken c.write_any.new.sink))
    (c.requires.text ∙ text_of_other c.args.asked.now (place_of c.args.primary.now) (reply_in c.args.printed.now)
    (sym c.is_dump.ensures ∙ c.if-is_dump.false))
    c.in-Err.ensures.err
