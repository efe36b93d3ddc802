-- A disk in memory by its record of calls: what its files read, and the images that a crash may leave.
use Rattle.std.specs.Prelude.{ℕ, List, [], ◌∷◌, Vec, ◌≡◌, ◌≤◌, ◌<◌, ◌⊎◌, ◌+◌, ◌==◌}
use Rattle.std.specs.Prelude.{if◌then◌else◌, length, take, max, min, slice_index, suc, zero}
use mathlib.Core.Logic.{inl, inr}
use Rattle.std.proofs.Math.Nat.{not-suc-le_self}
use Rattle.std.specs.Coded.{×_prop, Unit-prop, le_prop}
use Rattle.std.specs.declared.alloc.Global.{Global}
use Rattle.kdb_disk.specs.declared.record.Call.{Call}
use Rattle.kdb_disk.specs.declared.record.Call.TheVariants.{Wrote, Cut, Synced, Looked}
use Rattle.kdb_disk.specs.Files.{Files, put}
use Rattle.kdb_disk.specs.View.{View}

-- a file since its last sync: what it reads, what it read then, the least and the greatest length since, and each
-- written range, by its offset and its length
pub record Pending : Type 0 where
  pub now : List ℕ
  pub base : List ℕ
  pub least : ℕ
  pub greatest : ℕ
  pub ranges : List (ℕ × ℕ)

abbrev pub settled_at : List ℕ → Pending
settled_at s = record { now = s; base = s; least = length s; greatest = length s; ranges = [] }

abbrev pub after_write : ℕ → List ℕ → Pending → Pending
after_write at bytes p = record {
  now = put at bytes p.now;
  base = p.base;
  least = p.least;
  greatest = max p.greatest (length (put at bytes p.now));
  ranges = (at, length bytes) ∷ p.ranges;
}

abbrev pub after_cut : ℕ → Pending → Pending
after_cut len p =
    record { now = take len p.now; base = p.base; least = min len p.least; greatest = p.greatest; ranges = p.ranges }

abbrev pub after_sync : Pending → Pending
after_sync p = settled_at p.now

-- a file after these calls, the newest of which stands first
unfoldable pub file_after : Files → List Call → ℕ → Pending
file_after start [] f = settled_at (start f)
file_after start (Wrote g at bytes ∷ calls) f = if f == g then after_write at bytes.items (file_after start calls f)
    else file_after start calls f
file_after start (Cut g len ∷ calls) f =
    if f == g then after_cut len (file_after start calls f) else file_after start calls f
file_after start (Synced g ∷ calls) f =
    if f == g then after_sync (file_after start calls f) else file_after start calls f
file_after start (Looked ∷ calls) f = file_after start calls f

-- what the files read after them
abbrev pub reading : Files → List Call → Files
reading start calls f = (file_after start calls f).now

-- the place i is in none of the ranges
abbrev pub IsApart : ℕ → List (ℕ × ℕ) → Type 0
IsApart i [] = Unit {0}
IsApart i (range ∷ ranges) = ((i < range.0) ⊎ (range.0 + range.1 ≤ i)) × IsApart i ranges

-- Each written range, and all past the least length, may hold any bytes. The length is any from the least to the
-- greatest. All other bytes stay.
pub record IsImage (p : Pending) (c : List ℕ) : Type 0 where
  pub no_shorter : p.least ≤ length c
  pub no_longer : length c ≤ p.greatest
  pub stays : (i : ℕ) → i < p.least → IsApart i p.ranges → slice_index c i ≡ slice_index p.base i

-- an image of each file; there are seven
pub record AreImages (start : Files) (calls : List Call) (c : Files) : Type 0 where
  pub each : (f : ℕ) → IsImage (file_after start calls f) (c f)
  pub no_more : (f : ℕ) → 7 ≤ f → c f ≡ (file_after start calls f).now

-- an image of some moment, t or later, where a moment is a number of calls
unfoldable pub LeftSince : Files → List Call → ℕ → Files → Type 0
LeftSince start [] t c = AreImages start [] c
LeftSince start (call ∷ calls) t c = AreImages start (call ∷ calls) c ⊎ ((t ≤ length calls) × LeftSince start calls t c)

pub left_now : (start : Files) (calls : List Call) (t : ℕ) (c : Files) → t ≤ length calls → AreImages start calls c
    → LeftSince start calls t c
unfolding LeftSince
left_now start [] t c le are = are
left_now start (call ∷ calls) t c le are = inl are

pub now_alone : (start : Files) (calls : List Call) (c : Files) → LeftSince start calls (length calls) c
    → AreImages start calls c
unfolding LeftSince
now_alone start [] c left = left
now_alone start (call ∷ calls) c (inl are) = are
now_alone start (call ∷ calls) c (inr past) = absurd (not-suc-le_self (length calls) past.0)

-- what is known of such a disk
unfoldable pub view_of : Files → List Call → View
view_of start calls = record {
  seen = reading start calls;
  images = AreImages start calls;
  moment = length calls;
  left_since = LeftSince start calls;
  counts_now = left_now start calls;
  only_now = now_alone start calls;
  no_more = λ c g are. are.no_more g;
}

-- each call is of one of the seven files, and each write began within it
unfoldable pub Fits : Files → List Call → Type 0
Fits start [] = Unit {0}
Fits start (Wrote g at bytes ∷ calls) = (g < 7) × ((at ≤ length (file_after start calls g).now) × Fits start calls)
Fits start (Cut g len ∷ calls) = (g < 7) × Fits start calls
Fits start (Synced g ∷ calls) = (g < 7) × Fits start calls
Fits start (Looked ∷ calls) = Fits start calls

pub Fits-prop : (start : Files) (calls : List Call) → IsProp (Fits start calls)
unfolding Fits
Fits-prop start [] = Unit-prop
Fits-prop start (Wrote g at bytes ∷ calls) = ×_prop le_prop (×_prop le_prop (Fits-prop start calls))
Fits-prop start (Cut g len ∷ calls) = ×_prop le_prop (Fits-prop start calls)
Fits-prop start (Synced g ∷ calls) = ×_prop le_prop (Fits-prop start calls)
Fits-prop start (Looked ∷ calls) = Fits-prop start calls

-- the contents of these vectors, by number
unfoldable pub contents : List (Vec ℕ Global) → Files
contents [] f = []
contents (v ∷ vs) zero = v.items
contents (v ∷ vs) (suc f) = contents vs f

-- the files are those that the record of calls makes of the first ones, and what they read is an image
pub record IsKept (start files : List (Vec ℕ Global)) (calls : List Call) : Type 0 where
  pub first : length start ≡ 7
  pub seven : length files ≡ 7
  pub reads : (f : ℕ) → contents files f ≡ (file_after (contents start) calls f).now
  pub fits : Fits (contents start) calls
  pub image : AreImages (contents start) calls (reading (contents start) calls)

-- what such a disk reads is one of its images
pub image_of : (start files : List (Vec ℕ Global)) (calls : List Call) → IsKept start files calls
    → (view_of (contents start) calls).images (view_of (contents start) calls).seen
unfolding view_of
image_of start files calls kept = kept.image
