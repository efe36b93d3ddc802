use Rattle.std.proofs.Common.{◌∷◌, Ok, Err, Some, sym, ap, subst, ◌∙◌}
use Rattle.iprop_links.specs.Arriving.{coming}
use Rattle.iprop_links.specs.Asking.{MaySay, greeting, sent_in}
use Rattle.iprop_wire.specs.declared.messages.Message.{Message}
use Rattle.kprop_rounds.proofs.Ends.{nothing_safe, nothing_some}
use Rattle.kprop_rounds.proofs.InTime.{answered, left_behind, unanswered}
use Rattle.kprop_rounds.proofs.Overlong.{err_is, for_long, no_dump, no_reply}
use Rattle.kprop_rounds.proofs.Replied.{crash_replied, fresh_by, replied, unheard, unreplied}
use Rattle.kprop_rounds.specs.Rounds.{round_end}
use Rattle.kdb_ports.specs.Links.{first_of}
use Rattle.replica_core.specs.Opened.{place_of}
use Rattle.kprop_rounds.proofs.rounds.round_in.Goals as goal

pub answer-requires-clause-inbox : goal.answer-requires-clause-inbox
answer-requires-clause-inbox g c =
    fresh_by c.in-Ok.arrival c.poll_peer.new.inbox.state c.in-Ok-heard_reply.reply
    (λ m is. c.poll_peer.ensures.fresh m (c.in-Ok.is ∙ ap Ok is)) (sym c.heard_reply.ensures ∙ c.in-Ok-heard_reply.is)

pub returns-in-Ok-heard_reply-clause-round : goal.returns-in-Ok-heard_reply-clause-round
returns-in-Ok-heard_reply-clause-round g c w told =
    replied c.args.name.now c.args.replica.now.size (place_of c.args.replica.now) w (g.L.Link.wire c.poll_peer.new.link)
    c.in-Ok.arrival (coming c.poll_peer.new.inbox.pending (g.L.Link.wire c.poll_peer.new.link))
    (c.in-Ok.ensures.arrives w told)
    (c.in-Ok.ensures.said w told ∙ ap (λ (m : Message). Some (greeting c.args.name.now m ∷ w.sent))
    c.poll_message.ensures) (c.in-Ok.ensures.later w told)
    c.answer.result (place_of c.answer.new.replica) (g.L.Link.wire c.answer.new.link) c.in-Ok-heard_reply.reply
    (sym c.heard_reply.ensures ∙ c.in-Ok-heard_reply.is)
    c.answer.ensures.ends c.answer.ensures.said c.answer.ensures.part c.answer.ensures.later

pub returns-in-Ok-heard_reply-clause-crash : goal.returns-in-Ok-heard_reply-clause-crash
returns-in-Ok-heard_reply-clause-crash g c w told =
    crash_replied c.args.name.now c.args.replica.now.size (place_of c.args.replica.now) w
    (g.L.Link.wire c.poll_peer.new.link)
    c.in-Ok.arrival (coming c.poll_peer.new.inbox.pending (g.L.Link.wire c.poll_peer.new.link))
    (c.in-Ok.ensures.arrives w told)
    (c.in-Ok.ensures.said w told ∙ ap (λ (m : Message). Some (greeting c.args.name.now m ∷ w.sent))
    c.poll_message.ensures) (c.in-Ok.ensures.later w told)
    g.D.Disk c.args.disk.now c.answer.new.disk c.in-Ok-heard_reply.reply
    (sym c.heard_reply.ensures ∙ c.in-Ok-heard_reply.is) c.answer.ensures.crash

pub returns-in-Ok-clause-round : goal.returns-in-Ok-clause-round
returns-in-Ok-clause-round g c w told =
    unreplied c.args.name.now c.args.replica.now.size (place_of c.args.replica.now) w
    (g.L.Link.wire c.poll_peer.new.link)
    c.in-Ok.arrival (coming c.poll_peer.new.inbox.pending (g.L.Link.wire c.poll_peer.new.link))
    (c.in-Ok.ensures.arrives w told)
    (c.in-Ok.ensures.said w told ∙ ap (λ (m : Message). Some (greeting c.args.name.now m ∷ w.sent))
    c.poll_message.ensures) (c.in-Ok.ensures.later w told)
    c.in-Err-heard_reply.word (sym c.heard_reply.ensures ∙ c.in-Err-heard_reply.is)

pub returns-in-Ok-clause-crash : goal.returns-in-Ok-clause-crash
returns-in-Ok-clause-crash g c w told =
    nothing_safe g.D.Disk c.args.disk.now c.args.replica.now.database
    (round_end c.args.replica.now.size (place_of c.args.replica.now) (first_of w.to_come)).made c.requires.on

pub returns-in-Ok-clause-some : goal.returns-in-Ok-clause-some
returns-in-Ok-clause-some g c =
    nothing_some g.D.Disk c.args.disk.now c.args.replica.now.size c.args.replica.now.database c.requires.on

pub returns-clause-round : goal.returns-clause-round
returns-clause-round g c w told =
    unheard c.args.name.now c.args.replica.now.size (place_of c.args.replica.now) w
    (g.L.Link.wire c.poll_peer.new.link) c.from.result
    (subst (λ (m : Message). MaySay (greeting c.args.name.now m) w.sent (sent_in (g.L.Link.wire c.poll_peer.new.link)))
    c.poll_message.ensures (c.in-Err.ensures.front w told))

pub returns-clause-crash : goal.returns-clause-crash
returns-clause-crash g c w told =
    nothing_safe g.D.Disk c.args.disk.now c.args.replica.now.database
    (round_end c.args.replica.now.size (place_of c.args.replica.now) (first_of w.to_come)).made c.requires.on

pub returns-clause-some : goal.returns-clause-some
returns-clause-some g c =
    nothing_some g.D.Disk c.args.disk.now c.args.replica.now.size c.args.replica.now.database c.requires.on

-- ---- too much came

pub returns-in-Ok-heard_reply-clause-unended : goal.returns-in-Ok-heard_reply-clause-unended
returns-in-Ok-heard_reply-clause-unended g c w told long =
    no_dump c.args.replica.now.size (place_of c.args.replica.now) (first_of w.to_come)
    (coming c.poll_peer.new.inbox.pending (g.L.Link.wire c.poll_peer.new.link))
    c.in-Ok.arrival c.in-Ok-heard_reply.reply (c.in-Ok.ensures.arrives w told)
    (sym c.heard_reply.ensures ∙ c.in-Ok-heard_reply.is)
    (λ rest n left all. c.answer.ensures.unended rest n left (c.in-Ok.ensures.received w told ∙ all) long)

pub returns-clause-unended : goal.returns-clause-unended
returns-clause-unended g c w told long =
    no_reply c.args.replica.now.size (place_of c.args.replica.now) (first_of w.to_come)
    (c.poll_peer.ensures.unended w told
    (c.in-Err.is ∙ ap Err (for_long c.in-Err.halt (sym c.from.ensures ∙ err_is c.from.result _ long))))

-- ---- what was received makes an end

pub returns-in-Ok-heard_reply-clause-in_time : goal.returns-in-Ok-heard_reply-clause-in_time
returns-in-Ok-heard_reply-clause-in_time g c w told =
    let is = sym c.heard_reply.ensures ∙ c.in-Ok-heard_reply.is in
    let after = coming c.poll_peer.new.inbox.pending (g.L.Link.wire c.poll_peer.new.link) in
    answered c.args.replica.now.size (place_of c.args.replica.now) (first_of w.to_come) after c.in-Ok.arrival
    (c.in-Ok.ensures.arrives w told) (c.in-Ok.ensures.in_time w told)
    c.answer.result c.in-Ok-heard_reply.reply is (left_behind (first_of w.to_come) after c.in-Ok.arrival
    c.in-Ok-heard_reply.reply (c.in-Ok.ensures.arrives w told) is)
    (λ rest n left all. c.answer.ensures.in_time rest n left (c.in-Ok.ensures.received w told ∙ all))

pub returns-in-Ok-clause-in_time : goal.returns-in-Ok-clause-in_time
returns-in-Ok-clause-in_time g c w told gives =
    unanswered c.args.replica.now.size (place_of c.args.replica.now) (first_of w.to_come)
    (coming c.poll_peer.new.inbox.pending (g.L.Link.wire c.poll_peer.new.link))
    c.in-Ok.arrival (c.in-Ok.ensures.arrives w told) (c.in-Ok.ensures.in_time w told)
    c.in-Err-heard_reply.word (sym c.heard_reply.ensures ∙ c.in-Err-heard_reply.is) gives
