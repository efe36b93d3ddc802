use Rattle.std.proofs.Common.{map, refl}
use Rattle.std.proofs.lemmas.Result.{on_ok_weaker}
use Rattle.iprop_reply.specs.Polls.{AreHeld}
use Rattle.primary_answers.proofs.Polled.{are_held}
use Rattle.ulog_text.proofs.Listing.{from_head}
use Rattle.ulog_text.proofs.ulogs.push_entries.Goals as goal
use Rattle.update_log.specs.Logs.{entry_of}

pub returns : goal.returns
returns c =
    let h : AreHeld c.held-held.result.0 c.held-held.result.1 (map entry_of c.args.log.now.held) =
    are_held c.args.log.now c.held-held.result.0 c.held-held.result.1 (record {
      journal = c.holds_journal.ensures;
      first_is = c.held-held.ensures.first;
      last_is = c.held-held.ensures.last;
      serials = c.held-held.ensures.serials;
    }) in
    on_ok_weaker c.push_behind.result
    (λ behind. from_head c.held-held.result.0 c.held-held.result.1 (map entry_of c.args.log.now.held)
    c.in-Some.entry.now c.args.out.now.items c.push_entry.new.out.items c.push_behind.new.out.items h
    c.in-Some.ensures.some.0 c.in-Some.ensures.some.1 c.in_ok-push_entry-in-Some.ensures behind)
    (c.push_behind.ensures c.held-held.result.0 c.held-held.result.1 h refl refl)
