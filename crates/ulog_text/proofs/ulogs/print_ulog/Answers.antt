use Rattle.std.proofs.Common.{◌∙◌, map}
use Rattle.std.specs.Prelude.{codes}
use Rattle.kadm_replies.specs.Texts.{field_line}
use Rattle.kadm_values.specs.Points.{point_text}
use Rattle.ulog_text.proofs.Listing.{pushed, ulog_is}
use Rattle.ulog_text.proofs.ulogs.print_ulog.Goals as goal
use Rattle.ulog_text.specs.Ulogs.{entries_text, size_text}
use Rattle.update_log.specs.Logs.{entry_of}

pub returns : goal.returns
returns c = λ d.
    ulog_is c.args.log.now c.held-held.result.0 c.held-held.result.1 c.args.size c.args.block c.from_vec.result d
    (record {
      journal = c.holds_journal.ensures;
      first_is = c.held-held.ensures.first;
      last_is = c.held-held.ensures.last;
      serials = c.held-held.ensures.serials;
    })
    (c.from_vec.ensures
    ∙ pushed (field_line (codes "first") (point_text c.held-held.result.0))
    (field_line (codes "last") (point_text c.held-held.result.1)) (size_text c.args.size c.args.block)
    (entries_text (map entry_of c.args.log.now.held)) (codes "ok\n")
    c.new-out.result.items c.push_field_point.new.out.items c.push_field_point-2.new.out.items c.push_size.new.out.items
    c.push_entries.new.out.items c.push.new.out.items
    c.new-out.ensures.items c.in_ok-push_field_point.ensures c.in_ok-push_field_point-2.ensures
    c.in_ok-push_size.ensures c.in_ok-push_entries.ensures c.in_ok-push.ensures)
