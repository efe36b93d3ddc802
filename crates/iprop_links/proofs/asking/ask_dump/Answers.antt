use Rattle.std.proofs.Common.{ap, ◌∙◌}
use Rattle.iprop_links.specs.Arriving.{coming, in_all}
use Rattle.iprop_wire.specs.Messages.{message_text}
use Rattle.iprop_wire.specs.declared.due.Due.TheVariants as due
use Rattle.iprop_wire.specs.declared.messages.Message.TheVariants.{Ask}
use Rattle.iprop_links.proofs.InTime.{not_unended}
use Rattle.iprop_links.proofs.Needed.{arrives_sent, same_all, same_coming, stopped_long, unended}
use Rattle.iprop_links.proofs.asking.ask_dump.Goals as goal

pub returns-clause-arrives : goal.returns-clause-arrives
returns-clause-arrives g c rest told =
    arrives_sent due.Dump c.next.result _ _ rest _ c.requires
    (ap (coming c.args.inbox.now.pending) c.in_ok-send_message.ensures.ok ∙ same_coming c.args.inbox.now.pending
    (message_text Ask) (g.L.Link.wire c.args.link.now) ∙ told) c.next.ensures.arrives

pub returns-clause-unended : goal.returns-clause-unended
returns-clause-unended g c rest n told all long =
    unended due.Dump c.args.inbox.now.pending rest c.args.inbox.now.received c.next.new.self.received n
    (g.L.Link.wire c.send_message.new.link) (g.L.Link.wire c.next.new.link)
    (ap (coming c.args.inbox.now.pending) c.in_ok-send_message.ensures.ok
    ∙ same_coming c.args.inbox.now.pending (message_text Ask) (g.L.Link.wire c.args.link.now) ∙ told)
    (ap (in_all c.args.inbox.now.received) c.in_ok-send_message.ensures.ok
    ∙ same_all c.args.inbox.now.received (message_text Ask) (g.L.Link.wire c.args.link.now) ∙ all)
    c.next.ensures.received (c.next.ensures.too_long long)
    (stopped_long due.Dump c.next.result _ _ _ _ c.requires long c.next.ensures.short)

pub returns-clause-in_time : goal.returns-clause-in_time
returns-clause-in_time g c rest n told all =
    not_unended due.Dump c.next.result _ c.args.inbox.now.pending c.next.new.self.pending rest c.args.inbox.now.received
    c.next.new.self.received n
    (g.L.Link.wire c.send_message.new.link) (g.L.Link.wire c.next.new.link) c.requires
    (ap (coming c.args.inbox.now.pending) c.in_ok-send_message.ensures.ok
    ∙ same_coming c.args.inbox.now.pending (message_text Ask) (g.L.Link.wire c.args.link.now) ∙ told)
    (ap (in_all c.args.inbox.now.received) c.in_ok-send_message.ensures.ok
    ∙ same_all c.args.inbox.now.received (message_text Ask) (g.L.Link.wire c.args.link.now) ∙ all)
    c.next.ensures.received c.next.ensures.room c.next.ensures.in_time
