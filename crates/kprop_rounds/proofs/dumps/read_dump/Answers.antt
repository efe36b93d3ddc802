use Rattle.kprop_rounds.proofs.Ends.{read_stopped, read_whole}
use Rattle.kprop_rounds.proofs.dumps.read_dump.Goals as goal

pub returns-in-Ok-feed : goal.returns-in-Ok-feed
returns-in-Ok-feed c = read_whole c.in-Ok.reader c.feed.new.self c.args.text.now c.finish.result c.in-Ok.ensures
    c.in-Ok-feed.ensures.same c.finish.ensures

pub returns-in-Err-feed : goal.returns-in-Err-feed
returns-in-Err-feed c = read_stopped c.in-Ok.reader c.args.text.now c.feed.result c.in-Err-feed.stop c.in-Ok.ensures
    c.in-Err-feed.is c.feed.ensures.bad c.feed.ensures.no_fault
