use Rattle.std.proofs.Common.{◌≡◌, false, Option, Ok, Err, option_map, ap, sym, subst, ◌∙◌}
use Rattle.iprop_links.specs.Arriving.{Arrives, Holds, InboxState, coming, led}
use Rattle.iprop_links.specs.declared.inbox.Arrival.TheVariants as arrival
use Rattle.iprop_wire.specs.Decoding.{fed, is_going}
use Rattle.iprop_wire.specs.Due.{is_due}
use Rattle.kdb_ports.specs.Links.{Wire}
use Rattle.iprop_links.proofs.Steps.{bad_here, broken_ends, broken_here, came_ends, fits, held, none_left, undue_ends}
use Rattle.iprop_links.proofs.inbox.Inbox.take_held.Goals.{in-Some, in-None}
use Rattle.iprop_links.proofs.inbox.Inbox.take_held.Goals as goal

pub pass-requires : goal.pass-requires
pass-requires c = fits c.self.inside.decoder _ _ _ c.waiting.ensures c.in-Ok.ensures.ok.count_is

pub returns-in-Err-BadFrame-clause-holds : goal.returns-in-Err-BadFrame-clause-holds
returns-in-Err-BadFrame-clause-holds c =
    subst (λ (i : InboxState). (told : Option Wire)
    → Arrives c.args.due arrival.Bad i.state (coming i.pending told) (coming c.self.inside.piece told)) c.self.view_is
    (λ told. broken_here c.args.due c.self.inside.decoder c.self.inside.piece told _
    (ap (fed c.self.inside.decoder) (sym c.waiting.ensures)
    ∙ c.feed.ensures.bad (c.in-Err-BadFrame.is ∙ ap Err c.in-Err-BadFrame.field-0-is)))

pub returns-clause-holds : goal.returns-clause-holds
returns-clause-holds c =
    subst (λ (i : InboxState). (told : Option Wire) → Holds c.args.due c.match-next.result i.state
    (coming i.pending told) c.next.new.self (coming c.pass.new.self told)) c.self.view_is
    (held c.args.due c.self.inside.decoder _ c.self.inside.piece _ _ c.feed.new.self _ _ c.waiting.ensures
    c.in-Ok.ensures.ok (sym c.is_due.ensures ∙ c.if-not-is_due.false) c.pass.ensures c.next.ensures.left
    (elim c.match-next.branch [
      | in-Some w ↦
          w.result-is ∙ ap (λ o. Ok (option_map (λ m. arrival.Came m) o)) (sym w.in-Some.is ∙ c.next.ensures.message)
      | in-None w ↦
          w.result-is ∙ ap (λ o. Ok (option_map (λ m. arrival.Came m) o)) (sym w.in-None.is ∙ c.next.ensures.message)
    ]))

pub returns-clause-none : goal.returns-clause-none
returns-clause-none c =
    none_left c.self.inside.decoder _ c.self.inside.piece _ _ c.feed.new.self _ c.waiting.ensures c.in-Ok.ensures.ok
    c.pass.ensures
    (elim c.match-next.branch [
      | in-Some w ↦
          w.result-is ∙ ap (λ o. Ok (option_map (λ m. arrival.Came m) o)) (sym w.in-Some.is ∙ c.next.ensures.message)
      | in-None w ↦
          w.result-is ∙ ap (λ o. Ok (option_map (λ m. arrival.Came m) o)) (sym w.in-None.is ∙ c.next.ensures.message)
    ])

pub returns-then-not-is_due-clause-holds : goal.returns-then-not-is_due-clause-holds
returns-then-not-is_due-clause-holds c =
    subst (λ (i : InboxState). (told : Option Wire)
    → Arrives c.args.due arrival.Bad i.state (coming i.pending told) (coming c.pass.new.self told)) c.self.view_is
    (λ told. bad_here c.args.due c.self.inside.decoder c.self.inside.piece told _
    (ap (is_due c.args.due) (ap (fed c.self.inside.decoder) (sym c.waiting.ensures) ∙ sym c.in-Ok.ensures.ok.leads)
    ∙ sym c.is_due.ensures ∙ c.if-not-is_due.true))

pub returns-in-Err-BadFrame-clause-ended : goal.returns-in-Err-BadFrame-clause-ended
returns-in-Err-BadFrame-clause-ended c a is =
    subst (λ (i : InboxState). is_going (led c.args.due i.state i.pending) ≡ false) c.self.view_is
    (broken_ends c.args.due c.self.inside.decoder _ c.self.inside.piece c.waiting.ensures
    (c.feed.ensures.bad (c.in-Err-BadFrame.is ∙ ap Err c.in-Err-BadFrame.field-0-is)))

pub returns-then-not-is_due-clause-ended : goal.returns-then-not-is_due-clause-ended
returns-then-not-is_due-clause-ended c a is =
    subst (λ (i : InboxState). is_going (led c.args.due i.state i.pending) ≡ false) c.self.view_is
    (undue_ends c.args.due c.self.inside.decoder _ c.self.inside.piece c.feed.new.self c.waiting.ensures
    c.in-Ok.ensures.ok.leads (sym c.is_due.ensures ∙ c.if-not-is_due.true))

pub returns-clause-ended : goal.returns-clause-ended
returns-clause-ended c a is =
    subst (λ (i : InboxState). is_going (led c.args.due i.state i.pending) ≡ false) c.self.view_is
    (came_ends c.args.due c.self.inside.decoder _ c.self.inside.piece _ c.feed.new.self _ a c.waiting.ensures
    c.in-Ok.ensures.ok (sym c.is_due.ensures ∙ c.if-not-is_due.false)
    (elim c.match-next.branch [
      | in-Some w ↦
          w.result-is ∙ ap (λ o. Ok (option_map (λ m. arrival.Came m) o)) (sym w.in-Some.is ∙ c.next.ensures.message)
      | in-None w ↦
          w.result-is ∙ ap (λ o. Ok (option_map (λ m. arrival.Came m) o)) (sym w.in-None.is ∙ c.next.ensures.message)
    ]) is)
