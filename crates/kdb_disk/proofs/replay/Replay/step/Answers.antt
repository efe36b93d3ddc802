use Rattle.std.proofs.Common.{◌≡◌, ℕ, ap, sym, ◌∙◌, ◌∷◌, subst, List}
use Rattle.std.proofs.lemmas.Result.{on_ok_weaker}
use Rattle.kdb_disk.specs.declared.record.Call.{Call}
use Rattle.kdb_disk.specs.declared.record.Call.TheVariants.{Wrote, Cut, Synced, Looked}
use Rattle.kdb_disk.specs.Files.{Files}
use Rattle.kdb_disk.specs.Memory.{Pending, after_write, after_cut, after_sync, file_after}
use Rattle.kdb_disk.specs.Replays.{pending_of}
use Rattle.kdb_disk.proofs.Records.{wrote_here, wrote_other, cut_here, cut_other}
use Rattle.kdb_disk.proofs.Records.{synced_here, synced_other, looked_same}
use Rattle.kdb_disk.proofs.replay.Replay.step.Goals as goal

-- a call that is known
known : (start : Files) (calls : List Call) (call k : Call) (f : ℕ) (p : Pending) → call ≡ k
    → p ≡ file_after start (k ∷ calls) f → p ≡ file_after start (call ∷ calls) f
known start calls call k f p is after = after ∙ ap (λ (x : Call). file_after start (x ∷ calls) f) (sym is)

pub returns-then-of-file : goal.returns-then-of-file
returns-then-of-file c start calls was =
    known start calls _ (Wrote c.in-Wrote.of c.in-Wrote.at c.in-Wrote.bytes) c.args.file _ c.in-Wrote.is
    (was ∙ sym (wrote_other start calls c.in-Wrote.of c.in-Wrote.at c.in-Wrote.bytes c.args.file
    (λ is. c.if-of-file.true (sym is))))

pub returns-else-of-file : goal.returns-else-of-file
returns-else-of-file c start calls was =
    let here : file_after start (Wrote c.in-Wrote.of c.in-Wrote.at c.in-Wrote.bytes ∷ calls) c.args.file
    ≡ after_write c.in-Wrote.at c.in-Wrote.bytes.items (file_after start calls c.args.file) =
    subst (λ (f : ℕ). file_after start (Wrote c.in-Wrote.of c.in-Wrote.at c.in-Wrote.bytes ∷ calls) f
    ≡ after_write c.in-Wrote.at c.in-Wrote.bytes.items (file_after start calls f)) c.if-of-file.false
    (wrote_here start calls c.in-Wrote.of c.in-Wrote.at c.in-Wrote.bytes) in
    on_ok_weaker c.write.result
    (λ is. known start calls _ (Wrote c.in-Wrote.of c.in-Wrote.at c.in-Wrote.bytes) c.args.file _ c.in-Wrote.is
    (is ∙ ap (λ (l : List ℕ). after_write c.in-Wrote.at l (pending_of c.args.self.now)) c.deref.ensures.value
    ∙ ap (after_write c.in-Wrote.at c.in-Wrote.bytes.items) was ∙ sym here)) c.write.ensures

pub returns-then-of-file-2 : goal.returns-then-of-file-2
returns-then-of-file-2 c start calls was =
    let here : file_after start (Cut c.in-Cut.of c.in-Cut.len ∷ calls) c.args.file
    ≡ after_cut c.in-Cut.len (file_after start calls c.args.file) =
    subst (λ (f : ℕ). file_after start (Cut c.in-Cut.of c.in-Cut.len ∷ calls) f ≡ after_cut c.in-Cut.len
    (file_after start calls f)) c.if-of-file-2.true (cut_here start calls c.in-Cut.of c.in-Cut.len) in
    known start calls _ (Cut c.in-Cut.of c.in-Cut.len) c.args.file _ c.in-Cut.is
    (c.cut.ensures ∙ ap (after_cut c.in-Cut.len) was ∙ sym here)

pub returns-else-of-file-2 : goal.returns-else-of-file-2
returns-else-of-file-2 c start calls was =
    known start calls _ (Cut c.in-Cut.of c.in-Cut.len) c.args.file _ c.in-Cut.is
    (was ∙ sym (cut_other start calls c.in-Cut.of c.in-Cut.len c.args.file (λ is. c.if-of-file-2.false (sym is))))

pub returns-then-of-file-3 : goal.returns-then-of-file-3
returns-then-of-file-3 c start calls was =
    known start calls _ (Synced c.in-Synced.of) c.args.file _ c.in-Synced.is
    (was ∙ sym (synced_other start calls c.in-Synced.of c.args.file (λ is. c.if-of-file-3.true (sym is))))

pub returns-else-of-file-3 : goal.returns-else-of-file-3
returns-else-of-file-3 c start calls was =
    let here : file_after start (Synced c.in-Synced.of ∷ calls) c.args.file
    ≡ after_sync (file_after start calls c.args.file) =
    subst (λ (f : ℕ). file_after start (Synced c.in-Synced.of ∷ calls) f ≡ after_sync (file_after start calls f))
    c.if-of-file-3.false (synced_here start calls c.in-Synced.of) in
    on_ok_weaker c.sync.result (λ is. known start calls _ (Synced c.in-Synced.of) c.args.file _ c.in-Synced.is
    (is ∙ ap after_sync was ∙ sym here)) c.sync.ensures

pub returns-in-Looked : goal.returns-in-Looked
returns-in-Looked c start calls was =
    known start calls _ Looked c.args.file _ c.in-Looked.is (was ∙ sym (looked_same start calls c.args.file))
