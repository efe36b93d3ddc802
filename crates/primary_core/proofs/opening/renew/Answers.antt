use Rattle.std.proofs.Common.{List, Err, inl, inr, refl, sym, ap, subst, ◌∙◌}
use Rattle.kdb_base.specs.declared.moments.Point.{Point}
use Rattle.kdb_disk.proofs.Runs.{started}
use Rattle.kdb_disk.specs.Frames.{IsCrashSafe}
use Rattle.kdb_model.specs.Laws.{IsPoint}
use Rattle.kdb_places.specs.Places.{Place, point_of}
use Rattle.primary_core.proofs.Asked.{leaves_first}
use Rattle.primary_core.proofs.Renewed.{base_is, ends_time, halt_same, has_time, none_made}
use Rattle.primary_core.proofs.Renewed.{place_made, places_made, refused_same, same_format, stays_same}
use Rattle.primary_core.proofs.opening.renew.Goals as goal
use Rattle.primary_core.specs.Opened.{IsWrittenAnew}
use Rattle.store_files.specs.Kept.{place_kept}
use Rattle.store_files.specs.Recovery.{LeavesPart}

pub returns-then-is_same-clause-place : goal.returns-then-is_same-clause-place
returns-then-is_same-clause-place g c = stays_same (place_kept c.args.database.now)
    c.args.size c.args.now c.size_or-size.result (point_of (place_kept c.args.database.now))
    (record { size_is = c.size_or-size.ensures.value; last_is = refl }) (sym c.is_same.ensures ∙ c.if-is_same.true)

pub returns-then-is_same-clause-left : goal.returns-then-is_same-clause-left
returns-then-is_same-clause-left g c = λ some. absurd (some (none_made (place_kept c.args.database.now) c.args.size
    c.args.now c.size_or-size.result (point_of (place_kept c.args.database.now))
    (record { size_is = c.size_or-size.ensures.value; last_is = refl }) (sym c.is_same.ensures ∙ c.if-is_same.true)))

pub returns-then-is_same-clause-late : goal.returns-then-is_same-clause-late
returns-then-is_same-clause-late g c = inl (λ some. absurd (some (none_made (place_kept c.args.database.now)
    c.args.size c.args.now c.size_or-size.result (point_of (place_kept c.args.database.now))
    (record { size_is = c.size_or-size.ensures.value; last_is = refl }) (sym c.is_same.ensures ∙ c.if-is_same.true))))

pub returns-then-is_same-clause-crash : goal.returns-then-is_same-clause-crash
returns-then-is_same-clause-crash g c = record {
  told = λ t. started _ _ (λ f i. leaves_first _ _ f (c.what_is_kept_is_recovered.ensures _ (c.requires.on t) f i));
}

pub returns-then-is_last-clause-refused : goal.returns-then-is_last-clause-refused
returns-then-is_last-clause-refused g c =
    λ why e. ends_time (place_kept c.args.database.now) c.args.size c.args.now c.size_or-size.result c.point-last.result
    (record { size_is = c.size_or-size.ensures.value; last_is = c.point-last.ensures })
    (sym c.is_same.ensures ∙ c.if-is_same.false) (sym c.is_last.ensures ∙ c.if-is_last.true) why (refused_same _ _ _ e)

pub returns-then-is_last-clause-late : goal.returns-then-is_last-clause-late
returns-then-is_last-clause-late g c = inr refl

pub returns-then-is_last-clause-crash : goal.returns-then-is_last-clause-crash
returns-then-is_last-clause-crash g c = record {
  told = λ t. started _ _ (λ f i. leaves_first _ _ f (c.what_is_kept_is_recovered.ensures _ (c.requires.on t) f i));
}

pub reset_point-base-requires : goal.reset_point-base-requires
reset_point-base-requires g c = (sym c.is_last.ensures ∙ c.if-is_last.false)

pub returns-in-Ok-clause-place : goal.returns-in-Ok-clause-place
returns-in-Ok-clause-place g c =
    place_made (place_kept c.args.database.now) c.args.size c.args.now c.size_or-size.result c.point-last.result
    (record { size_is = c.size_or-size.ensures.value; last_is = c.point-last.ensures }) c.reset_point-base.result
    (place_kept c.begin_anew.new.database) (sym c.is_same.ensures ∙ c.if-is_same.false) c.reset_point-base.ensures
    c.in-Ok.ensures.place

pub returns-in-Ok-clause-left : goal.returns-in-Ok-clause-left
returns-in-Ok-clause-left g c =
    λ some. has_time (place_kept c.args.database.now) c.args.size c.args.now c.size_or-size.result c.point-last.result
    (record { size_is = c.size_or-size.ensures.value; last_is = c.point-last.ensures })
    (subst IsPoint (c.point.ensures ∙ sym c.point-last.ensures) c.holds_point.ensures)
    (sym c.is_last.ensures ∙ c.if-is_last.false)

pub returns-in-Ok-clause-late : goal.returns-in-Ok-clause-late
returns-in-Ok-clause-late g c = inl
    (λ some. has_time (place_kept c.args.database.now) c.args.size c.args.now c.size_or-size.result c.point-last.result
    (record { size_is = c.size_or-size.ensures.value; last_is = c.point-last.ensures }) (subst IsPoint
    (c.point.ensures ∙ sym c.point-last.ensures) c.holds_point.ensures) (sym c.is_last.ensures ∙ c.if-is_last.false))

pub returns-in-Err-clause-late : goal.returns-in-Err-clause-late
returns-in-Err-clause-late g c = inl
    (λ some. has_time (place_kept c.args.database.now) c.args.size c.args.now c.size_or-size.result c.point-last.result
    (record { size_is = c.size_or-size.ensures.value; last_is = c.point-last.ensures }) (subst IsPoint
    (c.point.ensures ∙ sym c.point-last.ensures) c.holds_point.ensures) (sym c.is_last.ensures ∙ c.if-is_last.false))

pub returns-in-Ok-clause-crash : goal.returns-in-Ok-clause-crash
returns-in-Ok-clause-crash g c = subst (λ (x : List Place).
    IsCrashSafe g.D.Disk c.args.disk.now c.begin_anew.new.disk (LeavesPart (place_kept c.args.database.now) x))
    (places_made (place_kept c.args.database.now) c.args.size c.args.now c.size_or-size.result c.point-last.result
    (record { size_is = c.size_or-size.ensures.value; last_is = c.point-last.ensures }) c.reset_point-base.result
    (sym c.is_same.ensures ∙ c.if-is_same.false) c.reset_point-base.ensures) c.begin_anew.ensures.crash

pub returns-in-Err-clause-crash : goal.returns-in-Err-clause-crash
returns-in-Err-clause-crash g c = subst (λ (x : List Place).
    IsCrashSafe g.D.Disk c.args.disk.now c.begin_anew.new.disk (LeavesPart (place_kept c.args.database.now) x))
    (places_made (place_kept c.args.database.now) c.args.size c.args.now c.size_or-size.result c.point-last.result
    (record { size_is = c.size_or-size.ensures.value; last_is = c.point-last.ensures }) c.reset_point-base.result
    (sym c.is_same.ensures ∙ c.if-is_same.false) c.reset_point-base.ensures) c.begin_anew.ensures.crash

pub returns-in-Err-clause-call : goal.returns-in-Err-clause-call
returns-in-Err-clause-call g c = record {
  same = c.begin_anew.ensures.call.same;
  later = c.begin_anew.ensures.call.later;
  cause = λ e. c.begin_anew.ensures.call.cause (c.in-Err.is ∙ ap Err (halt_same _ _ _ e));
}

pub returns-then-is_same-clause-written : goal.returns-then-is_same-clause-written
returns-then-is_same-clause-written g c = λ t older. absurd (older (same_format (place_kept c.args.database.now)
    c.args.size c.args.now c.size_or-size.result (point_of (place_kept c.args.database.now))
    (record { size_is = c.size_or-size.ensures.value; last_is = refl }) (sym c.is_same.ensures ∙ c.if-is_same.true)))

pub returns-in-Ok-clause-written : goal.returns-in-Ok-clause-written
returns-in-Ok-clause-written g c = λ t older.
    subst (λ (x : Point). IsWrittenAnew (g.D.Disk.view c.begin_anew.new.disk) c.begin_anew.new.database x)
    (base_is (place_kept c.args.database.now) c.args.size c.args.now c.size_or-size.result c.point-last.result
    (record { size_is = c.size_or-size.ensures.value; last_is = c.point-last.ensures }) c.reset_point-base.result
    c.reset_point-base.ensures) (c.in-Ok.ensures.written t older)
