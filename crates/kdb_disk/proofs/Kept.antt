-- A disk in memory keeps its files as its record of calls makes them.
use Rattle.std.proofs.Common.{◌≡◌, ◌≢◌, ℕ, ◌+◌, ◌<◌, ◌≤◌, ⊎_elim, List, [], ◌∷◌, ◌++◌, Vec, length, get_or, set}
use Rattle.std.proofs.Common.{take, refl, sym, ◌∙◌, ap, subst, arith, suc, zero, Result, Ok, Err, OnOk, OnErr}
use Rattle.std.proofs.lemmas.Bool.{cases_eq, cases_lt}
use Rattle.std.specs.declared.alloc.Global.{Global}
use Rattle.kdb_disk.specs.declared.record.Call.{Call}
use Rattle.kdb_disk.specs.declared.record.Call.TheVariants.{Wrote, Cut, Synced, Looked}
use Rattle.kdb_disk.specs.Files.{Files, put, with_file, written}
use Rattle.kdb_disk.specs.Memory.{Pending, file_after, IsImage, Fits, contents, IsKept}
use Rattle.kdb_disk.proofs.Puts.{same_files, with_file-same, with_file-other}
use Rattle.kdb_disk.proofs.Pendings.{image_settled, image_write, image_cut}
use Rattle.kdb_disk.proofs.Records.{wrote_here, wrote_other, cut_here, cut_other}
use Rattle.kdb_disk.proofs.Records.{synced_here, synced_other, synced_reads, looked_same}

-- one of the vectors
pub contents_at : (vs : List (Vec ℕ Global)) (i : ℕ) (v : Vec ℕ Global) → i < length vs → v ≡ get_or vs i v
    → v.items ≡ contents vs i
unfolding contents
contents_at [] i v lt is = absurd (omega arith)
contents_at (w ∷ vs) zero v lt is = ap (λ (x : Vec ℕ Global). x.items) is
contents_at (w ∷ vs) (suc i) v lt is = contents_at vs i v (omega arith) is

contents-set_here : (vs : List (Vec ℕ Global)) (g : ℕ) (v : Vec ℕ Global) → g < length vs
    → contents (set vs g v) g ≡ v.items
unfolding contents
contents-set_here [] g v lt = absurd (omega arith)
contents-set_here (w ∷ vs) zero v lt = refl
contents-set_here (w ∷ vs) (suc g) v lt = contents-set_here vs g v (omega arith)

contents-set_other : (vs : List (Vec ℕ Global)) (g f : ℕ) (v : Vec ℕ Global) → f ≢ g
    → contents (set vs g v) f ≡ contents vs f
unfolding contents
contents-set_other [] g f v other = refl
contents-set_other (w ∷ vs) zero zero v other = absurd (other (λ i. zero))
contents-set_other (w ∷ vs) zero (suc f) v other = refl
contents-set_other (w ∷ vs) (suc g) zero v other = refl
contents-set_other (w ∷ vs) (suc g) (suc f) v other = contents-set_other vs g f v (λ is. other (ap suc is))

-- one of them changed
pub contents-set : (vs : List (Vec ℕ Global)) (g : ℕ) (v : Vec ℕ Global) → g < length vs
    → contents (set vs g v) ≡ with_file g v.items (contents vs)
contents-set vs g v lt = same_files _ _ (λ f. ⊎_elim
    (λ is. subst (λ (h : ℕ). contents (set vs g v) h ≡ with_file g v.items (contents vs) h) (sym is)
    (contents-set_here vs g v lt ∙ sym (with_file-same g v.items (contents vs))))
    (λ other. contents-set_other vs g f v other ∙ sym (with_file-other g f v.items (contents vs) other))
    (cases_eq f g))

-- a file that one call changes
module _ (start files after : List (Vec ℕ Global)) (calls : List Call) (call : Call) (g : ℕ) (content : List ℕ)
    (kept : IsKept start files calls)
    (long : length after ≡ length files) (is : contents after ≡ with_file g content (contents files))
    (here : content ≡ (file_after (contents start) (call ∷ calls) g).now)
    (others : (f : ℕ) → f ≢ g → file_after (contents start) (call ∷ calls) f ≡ file_after (contents start) calls f)
    (fits : Fits (contents start) (call ∷ calls))
    (image : IsImage (file_after (contents start) (call ∷ calls) g)
    (file_after (contents start) (call ∷ calls) g).now) where
  pub kept_changed : IsKept start after (call ∷ calls)
  kept_changed = record {
    first = kept.first;
    seven = long ∙ kept.seven;
    reads = λ f. ap (λ (files : Files). files f) is ∙ ⊎_elim
        (λ same.
        subst (λ (h : ℕ). with_file g content (contents files) h ≡ (file_after (contents start) (call ∷ calls) h).now)
        (sym same) (with_file-same g content (contents files) ∙ here))
        (λ other. with_file-other g f content (contents files) other ∙ kept.reads f
        ∙ ap (λ (p : Pending). p.now) (sym (others f other)))
        (cases_eq f g);
    fits = fits;
    image = record {
      each = λ f. ⊎_elim
          (λ same. subst (λ (h : ℕ). IsImage (file_after (contents start) (call ∷ calls) h)
          (file_after (contents start) (call ∷ calls) h).now) (sym same) image)
          (λ other. subst (λ (p : Pending). IsImage p p.now) (sym (others f other)) (kept.image.each f))
          (cases_eq f g);
      no_more = λ f ge. refl;
    };
  }

pub kept_wrote : (start files after : List (Vec ℕ Global)) (calls : List Call) (g at : ℕ) (bytes : Vec ℕ Global)
    → IsKept start files calls → g < 7 → at ≤ length (contents files g) → length after ≡ length files
    → contents after ≡ written g at bytes.items (contents files) → IsKept start after (Wrote g at bytes ∷ calls)
unfolding Fits written
kept_wrote start files after calls g at bytes kept seven within long is =
    let s = contents start in
    let now = kept.reads g in
    let inside : at ≤ length (file_after s calls g).now = subst (λ (l : List ℕ). at ≤ length l) now within in
    let then = wrote_here s calls g at bytes in
    kept_changed start files after calls (Wrote g at bytes) g (put at bytes.items (contents files g)) kept long is
    (ap (put at bytes.items) now ∙ ap (λ (p : Pending). p.now) (sym then))
    (wrote_other s calls g at bytes)
    (seven, (inside, kept.fits))
    (subst (λ (p : Pending). IsImage p p.now) (sym then)
    (image_write at bytes.items (file_after s calls g) inside (kept.image.each g)))

pub kept_cut : (start files after : List (Vec ℕ Global)) (calls : List Call) (g len : ℕ) → IsKept start files calls
    → g < 7 → length after ≡ length files → contents after ≡ with_file g (take len (contents files g)) (contents files)
    → IsKept start after (Cut g len ∷ calls)
unfolding Fits
kept_cut start files after calls g len kept seven long is =
    let s = contents start in
    let then = cut_here s calls g len in
    kept_changed start files after calls (Cut g len) g (take len (contents files g)) kept long is
    (ap (take len) (kept.reads g) ∙ ap (λ (p : Pending). p.now) (sym then))
    (cut_other s calls g len)
    (seven, kept.fits)
    (subst (λ (p : Pending). IsImage p p.now) (sym then) (image_cut len (file_after s calls g) (kept.image.each g)))

pub kept_synced : (start files : List (Vec ℕ Global)) (calls : List Call) (g : ℕ) → IsKept start files calls → g < 7
    → IsKept start files (Synced g ∷ calls)
unfolding Fits
kept_synced start files calls g kept seven =
    let s = contents start in
    record {
      first = kept.first;
      seven = kept.seven;
      reads = λ f. kept.reads f ∙ sym (synced_reads s calls g f);
      fits = (seven, kept.fits);
      image = record {
        each = λ f. ⊎_elim
            (λ is. subst (λ (h : ℕ).
            IsImage (file_after s (Synced g ∷ calls) h) (file_after s (Synced g ∷ calls) h).now) (sym is)
            (subst (λ (p : Pending). IsImage p p.now) (sym (synced_here s calls g))
            (image_settled (file_after s calls g).now)))
            (λ other. subst (λ (p : Pending). IsImage p p.now) (sym (synced_other s calls g f other))
            (kept.image.each f))
            (cases_eq f g);
        no_more = λ f ge. refl;
      };
    }

pub kept_looked : (start files : List (Vec ℕ Global)) (calls : List Call) → IsKept start files calls
    → IsKept start files (Looked ∷ calls)
unfolding Fits
kept_looked start files calls kept =
    let s = contents start in
    record {
      first = kept.first;
      seven = kept.seven;
      reads = λ f. kept.reads f ∙ ap (λ (p : Pending). p.now) (sym (looked_same s calls f));
      fits = kept.fits;
      image = record {
        each = λ f. subst (λ (p : Pending). IsImage p p.now) (sym (looked_same s calls f)) (kept.image.each f);
        no_more = λ f ge. refl;
      };
    }

-- files of which nothing is pending
pub kept_first : (files start : List (Vec ℕ Global)) → length start ≡ 7 → length files ≡ 7
    → ((f : ℕ) → contents files f ≡ contents start f) → IsKept start files []
unfolding Fits file_after
kept_first files start long seven same = record {
  first = long;
  seven = seven;
  reads = same;
  fits = tt;
  image = record { each = λ f. image_settled (contents start f); no_more = λ f ge. refl };
}

-- what either answer of a call leads to
pub either : {T E A B P : Type 0} (r : Result T E) → OnOk r A → OnErr r B → (A → P) → (B → P) → P
either (Ok x) a b f g = f a
either (Err e) a b f g = g b

-- the same contents
pub kept_same : (start files after : List (Vec ℕ Global)) (calls : List Call) → IsKept start files calls
    → length after ≡ length files → contents after ≡ contents files → IsKept start after calls
kept_same start files after calls kept long is = record {
  first = kept.first;
  seven = long ∙ kept.seven;
  reads = λ f. ap (λ (files : Files). files f) is ∙ kept.reads f;
  fits = kept.fits;
  image = kept.image;
}

contents-push_below : (vs : List (Vec ℕ Global)) (v : Vec ℕ Global) (f : ℕ) → f < length vs
    → contents (vs ++ v ∷ []) f ≡ contents vs f
unfolding contents
contents-push_below [] v f lt = absurd (omega arith)
contents-push_below (w ∷ vs) v zero lt = refl
contents-push_below (w ∷ vs) v (suc f) lt = contents-push_below vs v f (omega arith)

contents-push_here : (vs : List (Vec ℕ Global)) (v : Vec ℕ Global) → contents (vs ++ v ∷ []) (length vs) ≡ v.items
unfolding contents
contents-push_here [] v = refl
contents-push_here (w ∷ vs) v = contents-push_here vs v

pub contents_past : (vs : List (Vec ℕ Global)) (f : ℕ) → length vs ≤ f → contents vs f ≡ []
unfolding contents
contents_past [] f le = refl
contents_past (w ∷ vs) zero le = absurd (omega arith)
contents_past (w ∷ vs) (suc f) le = contents_past vs f (omega arith)

-- what holds of each file holds of each of one more
pub each_file_more : (P : ℕ → List ℕ → Type 0) (vs after : List (Vec ℕ Global)) (v : Vec ℕ Global) (n : ℕ)
    → after ≡ vs ++ v ∷ [] → length vs ≡ n → ((f : ℕ) → f < n → P f (contents vs f)) → P n v.items → (f : ℕ) → f < n + 1
    → P f (contents after f)
each_file_more P vs after v n is long each here f lt =
    let same : (g : ℕ) → contents after g ≡ contents (vs ++ v ∷ []) g =
    λ g. ap (λ (l : List (Vec ℕ Global)). contents l g) is in
    ⊎_elim
    (λ below. subst (P f) (sym (same f ∙ contents-push_below vs v f (omega (arith, long)))) (each f below))
    (λ from.
    let last : n ≡ f = omega arith in
    subst (λ (g : ℕ). P g (contents after g)) last
    (subst (P n) (sym (same n ∙ ap (contents (vs ++ v ∷ [])) (sym long) ∙ contents-push_here vs v)) here))
    (cases_lt f n)
