use Rattle.std.proofs.Common.{ap}
use Rattle.master_keys.specs.First.{first_record}
use Rattle.princ_record.specs.declared.princs.Princ.{Princ}
use Rattle.first_rows.specs.Creation.{first_head}
use Rattle.first_rows.proofs.Kept.{some_there, three_rows}
use Rattle.first_rows.proofs.rows.first_rows.Goals as goal

pub unwrap-rows-requires : goal.unwrap-rows-requires
unfolding first_record first_head
unwrap-rows-requires c =
    some_there c.from_vecs.result (λ none. c.from_vecs.ensures.none none
    (three_rows c.args.spec.now.realm c.in_ok-master.master c.in_ok-history.history c.in_ok-history.ticket
    c.in_ok-records.records.items
    c.new.result.items c.in_ok-records.ensures c.new.ensures.items
    (ap (λ (p : Princ). p.name) c.in_ok-master.ensures.entry)
    (ap (λ (p : Princ). p.name) c.in_ok-history.ensures.history)
    (ap (λ (p : Princ). p.name) c.in_ok-history.ensures.ticket)
    c.in_ok-master.ensures.row c.in_ok-history.ensures.history_row c.in_ok-history.ensures.ticket_row))
