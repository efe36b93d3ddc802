use Rattle.std.proofs.Common.{◌≡◌, false, Err, refl, sym, ap, subst, ◌∙◌}
use Rattle.kdb_histories.specs.Seen.{reset_point}
use Rattle.primary_core.proofs.Recovered.{stop_same}
use Rattle.primary_core.proofs.Shown.{opened_renewed}
use Rattle.primary_core.proofs.opening.open_as.Goals as goal
use Rattle.primary_core.specs.Opened.{IsWrittenAnew, Opened}
use Rattle.primary_core.specs.Opening.{OpensFrom}
use Rattle.store_files.specs.Kept.{IsOnDisk, place_kept}

pub of_parts-requires : goal.of_parts-requires
of_parts-requires g c =
    opened_renewed (record { later = c.valid_later.ensures.later; point = c.valid_later.ensures.point })
    (place_kept c.args.database) c.args.size c.args.now
    (record { kept = c.renew.new.database; masters = c.args.masters; dumps = 0; room = c.args.room })
    c.holds_moment.ensures c.holds_state.ensures c.in-Ok.ensures.place c.requires.room.0 c.requires.room.1 refl

pub returns-in-Ok-clause-opens : goal.returns-in-Ok-clause-opens
returns-in-Ok-clause-opens g c =
    subst (OpensFrom (place_kept c.args.database) c.args.masters c.args.size c.args.now) (sym c.of_parts.ensures)
    (record { masters_are = refl; left = c.in-Ok.ensures.left; place_is = c.in-Ok.ensures.place })

pub returns-in-Ok-clause-room : goal.returns-in-Ok-clause-room
returns-in-Ok-clause-room g c =
    subst (λ (x : Opened). (x.dumps ≡ 0) × (x.room ≡ c.args.room)) (sym c.of_parts.ensures) (refl, refl)

pub returns-in-Ok-clause-whole : goal.returns-in-Ok-clause-whole
returns-in-Ok-clause-whole g c =
    subst (λ (x : Opened). x.kept.broken ≡ false) (sym c.of_parts.ensures) c.in-Ok.ensures.whole

pub returns-in-Ok-clause-on : goal.returns-in-Ok-clause-on
returns-in-Ok-clause-on g c = λ t. subst (λ (x : Opened). IsOnDisk x.kept (g.D.Disk.view c.renew.new.disk))
    (sym c.of_parts.ensures) (c.in-Ok.ensures.on t)

pub returns-in-Err-clause-refused : goal.returns-in-Err-clause-refused
returns-in-Err-clause-refused g c = λ why e. c.renew.ensures.refused why (c.in-Err.is ∙ ap Err (stop_same _ _ _ e))

pub returns-in-Err-clause-call : goal.returns-in-Err-clause-call
returns-in-Err-clause-call g c = record {
  same = c.renew.ensures.call.same;
  later = c.renew.ensures.call.later;
  cause = λ e. c.renew.ensures.call.cause (c.in-Err.is ∙ ap Err (stop_same _ _ _ e));
}

pub returns-in-Ok-clause-written : goal.returns-in-Ok-clause-written
returns-in-Ok-clause-written g c = λ t older. subst (λ (x : Opened). IsWrittenAnew (g.D.Disk.view c.renew.new.disk)
    x.kept (reset_point c.args.now (place_kept c.args.database))) (sym c.of_parts.ensures)
    (c.in-Ok.ensures.written t older)
