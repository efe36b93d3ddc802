use Rattle.kadm_replies.proofs.ReplyLemmas.{flags_two, flags_none}
use Rattle.kadm_replies.proofs.flags.push_flags.Goals as goal

pub returns-in_ok-push_behind-in-Some : goal.returns-in_ok-push_behind-in-Some
returns-in_ok-push_behind-in-Some c =
    flags_two c.in-Some.first.now c.in-Some.others.now c.args.flags.now c.args.out.now.items _ _
    c.in-Some.ensures.cases.0
    c.in_ok-push_flag-in-Some.ensures c.in_ok-push_behind-in-Some.ensures

pub returns-in_ok-push-in-None : goal.returns-in_ok-push-in-None
returns-in_ok-push-in-None c =
    flags_none c.args.flags.now c.args.out.now.items _ c.in-None.ensures.cases c.in_ok-push-in-None.ensures
