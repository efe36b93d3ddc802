use Rattle.std.proofs.Common.{sym, ◌∙◌}
use Rattle.replica_core.specs.Opened.{place_in}
use Rattle.replica_core.specs.Taking.{told_reply}
use Rattle.replica_core.proofs.Judgements.{judged_coded}
use Rattle.replica_core.proofs.Moments.{nothing_made}
use Rattle.replica_steps.specs.Judging.{made_by_reply}
use Rattle.princ_rows.specs.declared.replies.ReplyCode.TheVariants as code
use Rattle.replica_core.proofs.taking.take.Goals as goal

pub returns-in-Nil-clause-crash : goal.returns-in-Nil-clause-crash
returns-in-Nil-clause-crash g c size sized = record {
  told = λ tells.
      nothing_made c.args.database.now (made_by_reply size (place_in c.args.database.now) (told_reply c.args.reply.now))
      (g.D.Disk.view c.args.disk.now) (c.requires.on tells);
}

pub returns-in-FullResyncNeeded-clause-crash : goal.returns-in-FullResyncNeeded-clause-crash
returns-in-FullResyncNeeded-clause-crash g c size sized = record {
  told = λ tells.
      nothing_made c.args.database.now (made_by_reply size (place_in c.args.database.now) (told_reply c.args.reply.now))
      (g.D.Disk.view c.args.disk.now) (c.requires.on tells);
}

pub returns-in-FullResyncNeeded-clause-answer : goal.returns-in-FullResyncNeeded-clause-answer
returns-in-FullResyncNeeded-clause-answer g c size sized = judged_coded size (place_in c.args.database.now)
    c.args.reply.now code.FullResyncNeeded (sym c.code.ensures ∙ c.in-FullResyncNeeded.is)

pub returns-in-Busy-clause-crash : goal.returns-in-Busy-clause-crash
returns-in-Busy-clause-crash g c size sized = record {
  told = λ tells.
      nothing_made c.args.database.now (made_by_reply size (place_in c.args.database.now) (told_reply c.args.reply.now))
      (g.D.Disk.view c.args.disk.now) (c.requires.on tells);
}

pub returns-in-Busy-clause-answer : goal.returns-in-Busy-clause-answer
returns-in-Busy-clause-answer g c size sized =
    judged_coded size (place_in c.args.database.now) c.args.reply.now code.Busy (sym c.code.ensures ∙ c.in-Busy.is)

pub returns-in-PermDenied-clause-crash : goal.returns-in-PermDenied-clause-crash
returns-in-PermDenied-clause-crash g c size sized = record {
  told = λ tells.
      nothing_made c.args.database.now (made_by_reply size (place_in c.args.database.now) (told_reply c.args.reply.now))
      (g.D.Disk.view c.args.disk.now) (c.requires.on tells);
}

pub returns-in-PermDenied-clause-answer : goal.returns-in-PermDenied-clause-answer
returns-in-PermDenied-clause-answer g c size sized = judged_coded size
    (place_in c.args.database.now) c.args.reply.now code.PermDenied (sym c.code.ensures ∙ c.in-PermDenied.is)
