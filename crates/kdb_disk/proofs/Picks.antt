-- Images of a moment inside a call.
use Rattle.std.proofs.Common.{◌≡◌, ◌≢◌, ℕ, ◌<◌, ◌≤◌, inl, inr, ⊎_elim, List, [], ◌∷◌, Vec, length}
use Rattle.std.proofs.Common.{drop, refl, sym, ◌∙◌, ap, subst, arith, suc, zero, length-drop}
use Rattle.std.proofs.lemmas.Bool.{cases_eq, cases_lt}
use Rattle.std.specs.declared.alloc.Global.{Global}
use Rattle.kdb_disk.specs.declared.record.Call.{Call}
use Rattle.kdb_disk.specs.declared.record.Call.TheVariants.{Wrote, Cut, Synced, Looked}
use Rattle.kdb_disk.specs.declared.record.Pick.{Pick}
use Rattle.kdb_disk.specs.declared.record.Pick.TheVariants.{Written, Old, Noise}
use Rattle.kdb_disk.specs.Files.{Files}
use Rattle.kdb_disk.specs.Moments.{IsSettled}
use Rattle.kdb_disk.specs.Memory.{Pending, settled_at, file_after, IsImage}
use Rattle.kdb_disk.specs.Memory.{AreImages, LeftSince, view_of, Fits, contents}
use Rattle.kdb_disk.specs.Inside.{unsynced, IsPicked}
use Rattle.kdb_disk.proofs.Puts.{same_files}
use Rattle.kdb_disk.proofs.Pendings.{IsShaped, image_settled, settled_alone, image_base, image_write, image_cut}
use Rattle.kdb_disk.proofs.Kept.{contents_past}
use Rattle.kdb_disk.proofs.Records.{wrote_here, wrote_other, cut_here, cut_other, synced_here, synced_other, shaped}

-- no call was made yet
pub first_seen : (s : Files) (calls : List Call) (f : ℕ) → calls ≡ [] → (view_of s calls).seen f ≡ s f
unfolding view_of file_after
first_seen s calls f none = ap (λ (past : List Call). (view_of s past).seen f) none

pub first_settled : (s : Files) (calls : List Call) → calls ≡ [] → IsSettled (view_of s calls)
unfolding view_of file_after
first_settled s calls none = subst (λ (past : List Call). IsSettled (view_of s past)) (sym none)
    (record { only = λ c are. same_files c s (λ f. settled_alone (s f) (c f) (are.each f)) })

pub first_moment : (s : Files) (calls : List Call) → calls ≡ [] → (view_of s calls).moment ≡ 0
unfolding view_of
first_moment s calls none = ap length none

-- what is read is an image at each moment
pub reading_image : (s : Files) (calls : List Call) → Fits s calls → (f : ℕ)
    → IsImage (file_after s calls f) (file_after s calls f).now
unfolding file_after Fits
reading_image s [] fits f = image_settled (s f)
reading_image s (Wrote g at bytes ∷ calls) fits f = ⊎_elim
    (λ is. subst (λ (h : ℕ).
    IsImage (file_after s (Wrote g at bytes ∷ calls) h) (file_after s (Wrote g at bytes ∷ calls) h).now) (sym is)
    (subst (λ (p : Pending). IsImage p p.now) (sym (wrote_here s calls g at bytes))
    (image_write at bytes.items (file_after s calls g) fits.1.0 (reading_image s calls fits.1.1 g))))
    (λ other. subst (λ (p : Pending). IsImage p p.now) (sym (wrote_other s calls g at bytes f other))
    (reading_image s calls fits.1.1 f))
    (cases_eq f g)
reading_image s (Cut g len ∷ calls) fits f = ⊎_elim
    (λ is.
    subst (λ (h : ℕ). IsImage (file_after s (Cut g len ∷ calls) h) (file_after s (Cut g len ∷ calls) h).now) (sym is)
    (subst (λ (p : Pending). IsImage p p.now) (sym (cut_here s calls g len))
    (image_cut len (file_after s calls g) (reading_image s calls fits.1 g))))
    (λ other. subst (λ (p : Pending). IsImage p p.now) (sym (cut_other s calls g len f other))
    (reading_image s calls fits.1 f))
    (cases_eq f g)
reading_image s (Synced g ∷ calls) fits f = ⊎_elim
    (λ is.
    subst (λ (h : ℕ). IsImage (file_after s (Synced g ∷ calls) h) (file_after s (Synced g ∷ calls) h).now) (sym is)
    (subst (λ (p : Pending). IsImage p p.now) (sym (synced_here s calls g)) (image_settled (file_after s calls g).now)))
    (λ other. subst (λ (p : Pending). IsImage p p.now) (sym (synced_other s calls g f other))
    (reading_image s calls fits.1 f))
    (cases_eq f g)
reading_image s (Looked ∷ calls) fits f = reading_image s calls fits f

-- no call is of an eighth file
pub beyond : (s : Files) (calls : List Call) → Fits s calls → (f : ℕ) → 7 ≤ f → file_after s calls f ≡ settled_at (s f)
unfolding file_after Fits
beyond s [] fits f ge = refl
beyond s (Wrote g at bytes ∷ calls) fits f ge = let other : f ≢ g =
    λ is. absurd (omega (arith, fits.0)) in wrote_other s calls g at bytes f other ∙ beyond s calls fits.1.1 f ge
beyond s (Cut g len ∷ calls) fits f ge = let other : f ≢ g =
    λ is. absurd (omega (arith, fits.0)) in cut_other s calls g len f other ∙ beyond s calls fits.1 f ge
beyond s (Synced g ∷ calls) fits f ge = let other : f ≢ g =
    λ is. absurd (omega (arith, fits.0)) in synced_other s calls g f other ∙ beyond s calls fits.1 f ge
beyond s (Looked ∷ calls) fits f ge = beyond s calls fits f ge

-- the record without its last calls
pub Fits-drop : (s : Files) (n : ℕ) (calls : List Call) → Fits s calls → Fits s (drop n calls)
unfolding Fits
Fits-drop s zero calls fits = fits
Fits-drop s (suc n) [] fits = fits
Fits-drop s (suc n) (Wrote g at bytes ∷ calls) fits = Fits-drop s n calls fits.1.1
Fits-drop s (suc n) (Cut g len ∷ calls) fits = Fits-drop s n calls fits.1
Fits-drop s (suc n) (Synced g ∷ calls) fits = Fits-drop s n calls fits.1
Fits-drop s (suc n) (Looked ∷ calls) fits = Fits-drop s n calls fits

shorter : (n : ℕ) (calls : List Call) → length (drop n calls) ≤ length calls
shorter n calls = omega (arith, length-drop n calls)

-- an image of an earlier moment
pub left_at : (s : Files) (n t : ℕ) (calls : List Call) (c : Files) → AreImages s (drop n calls) c
    → t ≤ length (drop n calls) → LeftSince s calls t c
unfolding LeftSince
left_at s zero t [] c are le = are
left_at s zero t (call ∷ calls) c are le = inl are
left_at s (suc n) t [] c are le = are
left_at s (suc n) t (call ∷ calls) c are le = inr (omega (arith, shorter n calls), left_at s n t calls c are le)

-- the call inside is no sync, or it is one that has done nothing yet
pub unsynced_here : (call : Call) (g : ℕ) (calls : List Call) → call ≡ Synced g → unsynced (call ∷ calls) ≡ calls
unfolding unsynced
unsynced_here call g calls is = ap (λ (k : Call). unsynced (k ∷ calls)) is

pub unsynced_other : (call : Call) (calls : List Call) → ((g : ℕ) → call ≡ Synced g → ⊥)
    → unsynced (call ∷ calls) ≡ call ∷ calls
unfolding unsynced
unsynced_other (Wrote g at bytes) calls none = refl
unsynced_other (Cut g len) calls none = refl
unsynced_other (Synced g) calls none = absurd (none g refl)
unsynced_other Looked calls none = refl

-- each content that may be picked is an image
pub picked_image : (pick : Pick) (p : Pending) (c : List ℕ) → IsShaped p → IsImage p p.now
    → IsPicked pick p c → IsImage p c
picked_image Written p c shape now is = subst (IsImage p) (sym is) now
picked_image Old p c shape now is = subst (IsImage p) (sym is) (image_base p shape)
picked_image Noise p c shape now noise = record {
  no_shorter = omega (arith, noise.longest, shape.low, shape.high);
  no_longer = omega (arith, noise.longest);
  stays = noise.stays;
}

-- files of which each is picked from a moment are an image of it
pub picked_images : (start files : List (Vec ℕ Global)) (past : List Call) (pick : Pick)
    → length start ≡ 7 → length files ≡ 7 → Fits (contents start) past
    → ((f : ℕ) → f < 7 → IsPicked pick (file_after (contents start) past f) (contents files f))
    → AreImages (contents start) past (contents files)
picked_images start files past pick first seven fits picked =
    let s = contents start in
    let none : (f : ℕ) → 7 ≤ f → contents files f ≡ (file_after s past f).now =
    λ f ge. contents_past files f (omega arith)
    ∙ sym (ap (λ (p : Pending). p.now) (beyond s past fits f ge) ∙ contents_past start f (omega arith)) in
    record {
      each = λ f. ⊎_elim
          (λ lt. picked_image pick (file_after s past f) (contents files f) (shaped s past f)
          (reading_image s past fits f) (picked f lt))
          (λ ge. subst (IsImage (file_after s past f)) (sym (none f ge)) (reading_image s past fits f))
          (cases_lt f 7);
      no_more = none;
    }
