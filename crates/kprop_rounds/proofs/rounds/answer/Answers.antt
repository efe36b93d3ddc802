use Rattle.std.proofs.Common.{Ok, inl, refl, sym, ap, ◌∙◌}
use Rattle.kprop_rounds.proofs.Ends.{crash_some}
use Rattle.kprop_rounds.proofs.InTime.{not_asked, on_ok}
use Rattle.kprop_rounds.proofs.Replied.{crash_none, crash_word, ends_err, ends_none, ends_some}
use Rattle.kprop_rounds.proofs.Replied.{part_none, said_none, said_some, some_none}
use Rattle.kprop_rounds.specs.Words.{word_of}
use Rattle.replica_core.specs.Opened.{place_of}
use Rattle.replica_core.specs.Taking.{told_reply}
use Rattle.replica_steps.specs.Judging.{judged}
use Rattle.replica_steps.specs.Replicas.{Take}
use Rattle.kprop_rounds.proofs.rounds.answer.Goals as goal

-- ---- the reply has its word

pub returns-in-Ok-Some-clause-ends : goal.returns-in-Ok-Some-clause-ends
returns-in-Ok-Some-clause-ends g c rest told =
    ends_some c.args.replica.now.size (place_of c.args.replica.now) c.args.reply rest
    (place_of c.take.new.replica) c.in-Ok-Some.word
    (word_of (judged c.args.replica.now.size (place_of c.args.replica.now) (told_reply c.args.reply)))
    (sym c.in-Ok-Some.field-0-is ∙ c.in-Ok-Some.ensures.word) c.in-Ok-Some.ensures.place

pub returns-in-Ok-Some-clause-crash : goal.returns-in-Ok-Some-clause-crash
returns-in-Ok-Some-clause-crash g c rest told =
    crash_word c.args.replica.now.size (place_of c.args.replica.now) c.args.reply rest g.D.Disk c.args.disk.now
    c.take.new.disk
    (word_of (judged c.args.replica.now.size (place_of c.args.replica.now) (told_reply c.args.reply))) refl
    c.take.ensures.crash

pub returns-in-Ok-Some-clause-some : goal.returns-in-Ok-Some-clause-some
returns-in-Ok-Some-clause-some g c =
    crash_some g.D.Disk c.args.disk.now c.take.new.disk c.args.replica.now.size (place_of c.args.replica.now)
    (Take (told_reply c.args.reply)) tt c.take.ensures.crash

pub returns-in-Ok-Some-clause-said : goal.returns-in-Ok-Some-clause-said
returns-in-Ok-Some-clause-said g c rest told =
    said_some c.args.replica.now.size (place_of c.args.replica.now) c.args.reply rest
    (g.L.Link.wire c.args.link.now) c.in-Ok-Some.word
    (word_of (judged c.args.replica.now.size (place_of c.args.replica.now) (told_reply c.args.reply)))
    (sym c.in-Ok-Some.field-0-is ∙ c.in-Ok-Some.ensures.word)

-- ---- a dump is asked for

pub returns-in-Ok-None-clause-ends : goal.returns-in-Ok-None-clause-ends
returns-in-Ok-None-clause-ends g c rest told =
    let none = c.in-Ok-None.is ∙ ap Ok c.in-Ok-None.field-0-is in
    ends_none c.args.replica.now.size (place_of c.args.replica.now) c.args.reply rest
    (word_of (judged c.args.replica.now.size (place_of c.args.replica.now) (told_reply c.args.reply)))
    (sym c.in-Ok-None.field-0-is ∙ c.in-Ok-None.ensures.word)
    c.take.new.replica.size c.take.ensures.size (place_of c.take.new.replica) (c.take.ensures.same none)
    c.pull.result (place_of c.pull.new.replica) (c.pull.ensures.ends rest told)

pub returns-in-Ok-None-clause-crash : goal.returns-in-Ok-None-clause-crash
returns-in-Ok-None-clause-crash g c rest told =
    let none = c.in-Ok-None.is ∙ ap Ok c.in-Ok-None.field-0-is in
    crash_none c.args.replica.now.size (place_of c.args.replica.now) c.args.reply rest
    (word_of (judged c.args.replica.now.size (place_of c.args.replica.now) (told_reply c.args.reply)))
    (sym c.in-Ok-None.field-0-is ∙ c.in-Ok-None.ensures.word)
    c.take.new.replica.size c.take.ensures.size (place_of c.take.new.replica) (c.take.ensures.same none)
    g.D.Disk c.args.disk.now c.take.new.disk c.pull.new.disk (c.take.ensures.untouched none)
    (c.pull.ensures.crash rest told)

pub returns-in-Ok-None-clause-some : goal.returns-in-Ok-None-clause-some
returns-in-Ok-None-clause-some g c =
    let none = c.in-Ok-None.is ∙ ap Ok c.in-Ok-None.field-0-is in
    some_none g.D.Disk c.args.disk.now c.take.new.disk c.pull.new.disk c.args.replica.now.size c.take.new.replica.size
    (place_of c.args.replica.now) (place_of c.take.new.replica) (c.take.ensures.untouched none) c.take.ensures.size
    (c.take.ensures.same none) c.pull.ensures.some

pub returns-in-Ok-None-clause-said : goal.returns-in-Ok-None-clause-said
returns-in-Ok-None-clause-said g c rest told =
    let none = c.in-Ok-None.is ∙ ap Ok c.in-Ok-None.field-0-is in
    said_none c.args.replica.now.size (place_of c.args.replica.now) c.args.reply rest
    (word_of (judged c.args.replica.now.size (place_of c.args.replica.now) (told_reply c.args.reply)))
    (sym c.in-Ok-None.field-0-is ∙ c.in-Ok-None.ensures.word)
    c.take.new.replica.size c.take.ensures.size (place_of c.take.new.replica) (c.take.ensures.same none)
    c.pull.result (g.L.Link.wire c.args.link.now) (g.L.Link.wire c.pull.new.link) c.pull.ensures.said

pub returns-in-Ok-None-clause-part : goal.returns-in-Ok-None-clause-part
returns-in-Ok-None-clause-part g c rest told =
    let none = c.in-Ok-None.is ∙ ap Ok c.in-Ok-None.field-0-is in
    part_none c.args.replica.now.size (place_of c.args.replica.now) c.args.reply rest
    (word_of (judged c.args.replica.now.size (place_of c.args.replica.now) (told_reply c.args.reply)))
    (sym c.in-Ok-None.field-0-is ∙ c.in-Ok-None.ensures.word)
    c.take.new.replica.size c.take.ensures.size (place_of c.take.new.replica) (c.take.ensures.same none)
    c.pull.result (g.L.Link.wire c.args.link.now) (g.L.Link.wire c.pull.new.link) c.pull.ensures.part

-- ---- it was stopped

pub returns-in-Err-clause-ends : goal.returns-in-Err-clause-ends
returns-in-Err-clause-ends g c rest told =
    ends_err c.args.replica.now.size (place_of c.args.replica.now) c.args.reply rest
    (place_of c.take.new.replica) c.in-Err.halt
    (word_of (judged c.args.replica.now.size (place_of c.args.replica.now) (told_reply c.args.reply))) refl
    c.in-Err.ensures.part

pub returns-in-Err-clause-crash : goal.returns-in-Err-clause-crash
returns-in-Err-clause-crash g c rest told =
    crash_word c.args.replica.now.size (place_of c.args.replica.now) c.args.reply rest g.D.Disk c.args.disk.now
    c.take.new.disk
    (word_of (judged c.args.replica.now.size (place_of c.args.replica.now) (told_reply c.args.reply))) refl
    c.take.ensures.crash

pub returns-in-Err-clause-some : goal.returns-in-Err-clause-some
returns-in-Err-clause-some g c =
    crash_some g.D.Disk c.args.disk.now c.take.new.disk c.args.replica.now.size (place_of c.args.replica.now)
    (Take (told_reply c.args.reply)) tt c.take.ensures.crash

pub returns-in-Err-clause-part : goal.returns-in-Err-clause-part
returns-in-Err-clause-part g c rest told = inl refl

-- ---- too much came

pub returns-in-Ok-None-clause-unended : goal.returns-in-Ok-None-clause-unended
returns-in-Ok-None-clause-unended g c rest n told all long = record {
  asks = sym c.in-Ok-None.ensures.word ∙ c.in-Ok-None.field-0-is;
  unended = c.pull.ensures.unended rest n told all long;
}

-- ---- what was received makes an end

pub returns-in-Ok-Some-clause-in_time : goal.returns-in-Ok-Some-clause-in_time
returns-in-Ok-Some-clause-in_time g c rest n told all behind =
    not_asked c.args.replica.now.size (place_of c.args.replica.now) c.args.reply rest n c.in-Ok-Some.word
    (word_of (judged c.args.replica.now.size (place_of c.args.replica.now) (told_reply c.args.reply)))
    (sym c.in-Ok-Some.field-0-is ∙ c.in-Ok-Some.ensures.word) refl behind

pub returns-in-Ok-None-clause-in_time : goal.returns-in-Ok-None-clause-in_time
returns-in-Ok-None-clause-in_time g c rest n told all =
    on_ok c.pull.result (λ ended behind. ended behind.unended) (c.pull.ensures.in_time rest n told all)
