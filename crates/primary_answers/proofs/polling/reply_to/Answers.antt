use Rattle.std.proofs.Common.{[], List, map, refl, sym, ap, ◌∙◌}
use Rattle.iprop_reply.specs.Polls.{updates_after}
use Rattle.iprop_truths.specs.Polls.{PollReply, reply_of}
use Rattle.kdb_base.specs.declared.moments.Point.{Point}
use Rattle.primary_answers.proofs.Polled.{are_held, nil_told, ok_from, ok_told, resync_told, told_status, updates_sent}
use Rattle.primary_answers.proofs.polling.reply_to.Goals as goal
use Rattle.primary_answers.specs.Listing.{told_reply}
use Rattle.princ_rows.specs.Replies.{Reply}
use Rattle.update_log.specs.Logs.{entry_of}

pub new-requires-clause-sent : goal.new-requires-clause-sent
new-requires-clause-sent c =
    let from = ok_from c.held-held.result.0 c.held-held.result.1 c.args.asked.now
    (map entry_of c.args.log.now.held) (updates_after c.args.asked.now (map entry_of c.args.log.now.held)) refl
    (are_held c.args.log.now c.held-held.result.0 c.held-held.result.1 (record {
      journal = c.holds_journal.ensures;
      first_is = c.held-held.ensures.first;
      last_is = c.held-held.ensures.last;
      serials = c.held-held.ensures.serials;
    })) (sym c.in-Ok.is ∙ (told_status c.held-held.result.0 c.held-held.result.1 c.args.asked.now c.copied.result
    (map entry_of c.args.log.now.held) c.time_at.result c.sno_status.result
    (are_held c.args.log.now c.held-held.result.0 c.held-held.result.1 (record {
      journal = c.holds_journal.ensures;
      first_is = c.held-held.ensures.first;
      last_is = c.held-held.ensures.last;
      serials = c.held-held.ensures.serials;
    })) c.copied.ensures (c.time_at.ensures c.held-held.result.0 c.held-held.result.1
    (are_held c.args.log.now c.held-held.result.0 c.held-held.result.1 (record {
      journal = c.holds_journal.ensures;
      first_is = c.held-held.ensures.first;
      last_is = c.held-held.ensures.last;
      serials = c.held-held.ensures.serials;
    }))) c.sno_status.ensures)) in
    updates_sent c.args.log.now c.held-held.result.0 c.held-held.result.1 (record {
      journal = c.holds_journal.ensures;
      first_is = c.held-held.ensures.first;
      last_is = c.held-held.ensures.last;
      serials = c.held-held.ensures.serials;
    }) c.args.asked.now.sno c.in_ok-updates-in-Ok.updates from (c.in_ok-updates-in-Ok.ensures c.held-held.result.0
    c.held-held.result.1 (are_held c.args.log.now c.held-held.result.0 c.held-held.result.1 (record {
      journal = c.holds_journal.ensures;
      first_is = c.held-held.ensures.first;
      last_is = c.held-held.ensures.last;
      serials = c.held-held.ensures.serials;
    })) refl from)

pub returns-in-Resync : goal.returns-in-Resync
returns-in-Resync c =
    ap (λ (r : Reply). told_reply r) c.bare_reply.ensures
    ∙ ap (λ n. let r : PollReply = reply_of n c.args.asked.now [] in r) c.resync_code.ensures.number
    ∙ resync_told c.args.busy c.args.asked.now (updates_after c.args.asked.now (map entry_of c.args.log.now.held))
    (sym c.in-Resync.is ∙ (told_status c.held-held.result.0 c.held-held.result.1 c.args.asked.now c.copied.result
    (map entry_of c.args.log.now.held) c.time_at.result c.sno_status.result
    (are_held c.args.log.now c.held-held.result.0 c.held-held.result.1 (record {
      journal = c.holds_journal.ensures;
      first_is = c.held-held.ensures.first;
      last_is = c.held-held.ensures.last;
      serials = c.held-held.ensures.serials;
    })) c.copied.ensures (c.time_at.ensures c.held-held.result.0 c.held-held.result.1
    (are_held c.args.log.now c.held-held.result.0 c.held-held.result.1 (record {
      journal = c.holds_journal.ensures;
      first_is = c.held-held.ensures.first;
      last_is = c.held-held.ensures.last;
      serials = c.held-held.ensures.serials;
    }))) c.sno_status.ensures))

pub returns-in-Nil : goal.returns-in-Nil
returns-in-Nil c = ap (λ (r : Reply). told_reply r) c.bare_reply-in-Nil.ensures
    ∙ nil_told c.args.busy c.args.asked.now (updates_after c.args.asked.now (map entry_of c.args.log.now.held))
    (sym c.in-Nil.is ∙ (told_status c.held-held.result.0 c.held-held.result.1 c.args.asked.now c.copied.result
    (map entry_of c.args.log.now.held) c.time_at.result c.sno_status.result
    (are_held c.args.log.now c.held-held.result.0 c.held-held.result.1 (record {
      journal = c.holds_journal.ensures;
      first_is = c.held-held.ensures.first;
      last_is = c.held-held.ensures.last;
      serials = c.held-held.ensures.serials;
    })) c.copied.ensures (c.time_at.ensures c.held-held.result.0 c.held-held.result.1
    (are_held c.args.log.now c.held-held.result.0 c.held-held.result.1 (record {
      journal = c.holds_journal.ensures;
      first_is = c.held-held.ensures.first;
      last_is = c.held-held.ensures.last;
      serials = c.held-held.ensures.serials;
    }))) c.sno_status.ensures))

pub returns-in_ok-updates-in-Ok : goal.returns-in_ok-updates-in-Ok
returns-in_ok-updates-in-Ok c =
    ap (λ (r : Reply). told_reply r) c.new.ensures
    ∙ ap (λ (p : Point). let r : PollReply = reply_of 0 p c.in_ok-updates-in-Ok.updates in r) c.copied-in-Ok.ensures
    ∙ ok_told c.args.busy c.held-held.result.0 c.held-held.result.1 c.args.asked.now (map entry_of c.args.log.now.held)
    c.in_ok-updates-in-Ok.updates (updates_after c.args.asked.now (map entry_of c.args.log.now.held)) refl
    (are_held c.args.log.now c.held-held.result.0 c.held-held.result.1 (record {
      journal = c.holds_journal.ensures;
      first_is = c.held-held.ensures.first;
      last_is = c.held-held.ensures.last;
      serials = c.held-held.ensures.serials;
    })) (sym c.in-Ok.is ∙ (told_status c.held-held.result.0 c.held-held.result.1 c.args.asked.now c.copied.result
    (map entry_of c.args.log.now.held) c.time_at.result c.sno_status.result
    (are_held c.args.log.now c.held-held.result.0 c.held-held.result.1 (record {
      journal = c.holds_journal.ensures;
      first_is = c.held-held.ensures.first;
      last_is = c.held-held.ensures.last;
      serials = c.held-held.ensures.serials;
    })) c.copied.ensures (c.time_at.ensures c.held-held.result.0 c.held-held.result.1
    (are_held c.args.log.now c.held-held.result.0 c.held-held.result.1 (record {
      journal = c.holds_journal.ensures;
      first_is = c.held-held.ensures.first;
      last_is = c.held-held.ensures.last;
      serials = c.held-held.ensures.serials;
    }))) c.sno_status.ensures))
    (λ vs is. c.updates_stand_behind_a_serial.ensures c.held-held.result.0 c.held-held.result.1 c.args.asked.now
    (map entry_of c.args.log.now.held) vs (are_held c.args.log.now c.held-held.result.0 c.held-held.result.1 (record {
      journal = c.holds_journal.ensures;
      first_is = c.held-held.ensures.first;
      last_is = c.held-held.ensures.last;
      serials = c.held-held.ensures.serials;
    })) is)
    (λ from. c.in_ok-updates-in-Ok.ensures c.held-held.result.0 c.held-held.result.1
    (are_held c.args.log.now c.held-held.result.0 c.held-held.result.1 (record {
      journal = c.holds_journal.ensures;
      first_is = c.held-held.ensures.first;
      last_is = c.held-held.ensures.last;
      serials = c.held-held.ensures.serials;
    })) refl from)
