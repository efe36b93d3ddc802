use Rattle.std.proofs.Common.{◌+◌, ◌-◌, ◌≤◌, ◌∙◌, ℕ, List, length, drop, ap, sym, subst, arith, length-drop}
use Rattle.std.proofs.lemmas.Result.{IfOk-weaker}
use Rattle.std.proofs.lemmas.List.{length_push}
use Rattle.kdb_disk.specs.declared.record.Call.{Call}
use Rattle.kdb_disk.specs.Memory.{Pending, contents, view_of, file_after, AreImages}
use Rattle.kdb_disk.specs.Inside.{IsPicked, MayLeaveInside, pending_inside}
use Rattle.kdb_disk.proofs.Puts.{same_files}
use Rattle.kdb_disk.proofs.Pendings.{IsShaped}
use Rattle.kdb_disk.proofs.Records.{shaped}
use Rattle.kdb_disk.proofs.Kept.{each_file_more}
use Rattle.kdb_disk.proofs.Picks.{picked_images, left_at, Fits-drop}
use Rattle.kdb_disk.proofs.memory.MemoryDisk.image_at.Goals as goal

pub count_inside-count-requires : goal.count_inside-count-requires
unfolding view_of
count_inside-count-requires c = c.requires

pub image-requires-clause-least : goal.image-requires-clause-least
image-requires-clause-least c =
    let disk = c.args.self.now in
    let s = contents disk.start.items in
    let past = drop (length disk.calls.items - c.count_inside-count.result) disk.calls.items in
    let shape =
    subst IsShaped (sym (c.in_ok-redone.ensures s (sym c.file_at.ensures))) (shaped s past c.loop-file.file) in
    shape.low

pub image-requires-clause-greatest : goal.image-requires-clause-greatest
image-requires-clause-greatest c =
    let disk = c.args.self.now in
    let s = contents disk.start.items in
    let past = drop (length disk.calls.items - c.count_inside-count.result) disk.calls.items in
    let shape =
    subst IsShaped (sym (c.in_ok-redone.ensures s (sym c.file_at.ensures))) (shaped s past c.loop-file.file) in
    shape.high

pub loop-file-preserved : goal.loop-file-preserved
loop-file-preserved c =
    let disk = c.args.self.now in
    let s = contents disk.start.items in
    let past = drop (length disk.calls.items - c.count_inside-count.result) disk.calls.items in
    let before = c.loop-file.files.items in
    let v = c.in_ok-image.field-0 in
    let is = c.in_ok-push.ensures.items in
    let here : IsPicked c.args.pick (file_after s past c.loop-file.file) v.items =
    subst (λ (p : Pending). IsPicked c.args.pick p v.items) (c.in_ok-redone.ensures s (sym c.file_at.ensures))
    c.in_ok-image.ensures in
    record {
      long = ap length is ∙ length_push before v ∙ ap (λ (n : ℕ). n + 1) c.loop-file.invariant.long;
      picked = each_file_more (λ f content. IsPicked c.args.pick (file_after s past f) content) before
          c.push.new.self.items v c.loop-file.file is c.loop-file.invariant.long c.loop-file.invariant.picked here;
    }

-- what the files hold in the end
pub returns-clause-inside : goal.returns-clause-inside
unfolding MayLeaveInside view_of
returns-clause-inside c =
    let disk = c.args.self.now in
    let s = contents disk.start.items in
    let past = drop (length disk.calls.items - c.count_inside-count.result) disk.calls.items in
    let files = c.loop-file.files.items in
    let are =
    picked_images disk.start.items files past c.args.pick disk.kept.first (omega (arith, c.loop-file.invariant.long))
    (Fits-drop s (length disk.calls.items - c.count_inside-count.result) disk.calls.items disk.kept.fits)
    (λ f lt. c.loop-file.invariant.picked f (omega (arith, lt))) in
    IfOk-weaker c.holding.result _ _
    (λ d same. subst (λ (calls : List Call). AreImages s calls (view_of (contents d.start.items) d.calls.items).seen)
    c.count_inside-count.ensures.calls
    (subst (AreImages s past) (sym (same_files _ (contents files) same)) are)) c.holding.ensures.seen

pub returns-clause-left : goal.returns-clause-left
unfolding view_of
returns-clause-left c =
    let disk = c.args.self.now in
    let s = contents disk.start.items in
    let n = length disk.calls.items - c.count_inside-count.result in
    let files = c.loop-file.files.items in
    let are = picked_images disk.start.items files (drop n disk.calls.items) c.args.pick disk.kept.first
    (omega (arith, c.loop-file.invariant.long)) (Fits-drop s n disk.calls.items disk.kept.fits)
    (λ f lt. c.loop-file.invariant.picked f (omega (arith, lt))) in
    let long : c.args.call ≤ length (drop n disk.calls.items) = omega (
      arith,
      length-drop n disk.calls.items,
      c.count_inside-count.ensures.at_least,
      c.count_inside-count.ensures.count,
    ) in
    IfOk-weaker c.holding.result _ _ (λ d same. left_at s n c.args.call disk.calls.items _
    (subst (AreImages s (drop n disk.calls.items)) (sym (same_files _ (contents files) same)) are) long)
    c.holding.ensures.seen

pub returns-clause-picked : goal.returns-clause-picked
unfolding pending_inside view_of
returns-clause-picked c =
    let disk = c.args.self.now in
    let s = contents disk.start.items in
    let files = c.loop-file.files.items in
    IfOk-weaker c.holding.result _ _ (λ d same f lt.
    subst (λ (calls : List Call). IsPicked c.args.pick (file_after s calls f)
    ((view_of (contents d.start.items) d.calls.items).seen f)) c.count_inside-count.ensures.calls
    (subst (λ (l : List ℕ). IsPicked c.args.pick
    (file_after s (drop (length disk.calls.items - c.count_inside-count.result) disk.calls.items) f) l) (sym (same f))
    (c.loop-file.invariant.picked f (omega (arith, lt))))) c.holding.ensures.seen
