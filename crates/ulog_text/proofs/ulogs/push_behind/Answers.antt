use Rattle.std.proofs.Common.{◌+◌, ◌-◌, arith, drop, map, ◌∙◌}
use Rattle.ulog_text.proofs.Listing.{line_more, lines_there, none_yet}
use Rattle.ulog_text.proofs.ulogs.push_behind.Goals as goal
use Rattle.update_log.specs.Logs.{entry_of}

pub loop-behind-init : goal.loop-behind-init
loop-behind-init c = λ begin end h first last.
    none_yet c.args.first begin.sno (drop (begin.sno + 1 - begin.sno) (map entry_of c.args.log.now.held))
    c.args.out.now.items first

pub loop-behind-preserved : goal.loop-behind-preserved
loop-behind-preserved c = λ begin end h first last.
    c.in_ok-push_entry-in-Some.ensures
    ∙ line_more begin end (map entry_of c.args.log.now.held) h c.loop-behind.behind c.in-Some.entry.now
    c.args.out.now.items c.loop-behind.out.items (omega (arith, first))
    (omega (arith, last)) c.in-Some.ensures.some.0 c.in-Some.ensures.some.1
    (c.loop-behind.invariant begin end h first last)

pub returns : goal.returns
returns c = λ begin end h first last.
    lines_there begin end (map entry_of c.args.log.now.held) h c.loop-behind.behind c.args.out.now.items
    c.loop-behind.out.items (omega (arith, first)) (omega (arith, last))
    (c.loop-behind.invariant begin end h first last)
