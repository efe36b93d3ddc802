use Rattle.std.proofs.Common.{length, ap, ◌∙◌}
use Rattle.iprop_links.specs.Arriving.{InboxState}
use Rattle.iprop_links.proofs.InTime.{begun, not_unended}
use Rattle.iprop_links.proofs.Needed.{needs_sent, ok_of}
use Rattle.iprop_wire.specs.Messages.{message_text}
use Rattle.iprop_wire.specs.declared.due.Due.TheVariants as due
use Rattle.iprop_wire.specs.declared.messages.Message.{Message}
use Rattle.kdb_ports.specs.Links.{after_dial, after_sent, first_of}
use Rattle.iprop_links.proofs.asking.poll_peer.Goals as goal

pub returns-clause-reads : goal.returns-clause-reads
returns-clause-reads g c =
    ok_of c.next.result
    (needs_sent g.L.Link.wire c.greet.new.link c.next.new.link due.Reply c.args.inbox.now.state
    c.args.inbox.now.pending _
    (ap (λ (i : InboxState). i.state) c.requires.inbox) (ap (λ (i : InboxState). i.pending) c.requires.inbox)
    (c.in_ok-greet.ensures.ok
    ∙ ap (λ (m : Message). after_sent (after_sent (after_dial (g.L.Link.wire c.args.link.now)) (message_text m))
    (message_text c.args.poll.now)) c.in_ok-hello.ensures.message)
    c.next.ensures.reads)

pub returns-clause-in_time : goal.returns-clause-in_time
returns-clause-in_time g c w told =
    let start = begun c.args.inbox.now.pending _ (message_text c.args.poll.now) c.args.inbox.now.received
    (g.L.Link.wire c.args.link.now) (g.L.Link.wire c.greet.new.link) w
    (ap (λ (i : InboxState). i.pending) c.requires.inbox)
    (ap (λ (i : InboxState). i.received) c.requires.inbox) told c.in_ok-greet.ensures.ok in
    not_unended due.Reply c.next.result _ c.args.inbox.now.pending c.next.new.self.pending
    (first_of w.to_come) c.args.inbox.now.received c.next.new.self.received
    (length (first_of w.to_come)) (g.L.Link.wire c.greet.new.link) (g.L.Link.wire c.next.new.link)
    (ap (λ (i : InboxState). i.state) c.requires.inbox)
    start.0 start.1 c.next.ensures.received c.next.ensures.room c.next.ensures.in_time
