-- The files of a disk in memory after one call more.
use Rattle.std.proofs.Common.{◌≡◌, ◌≢◌, ℕ, ◌+◌, ◌<◌, ◌≤◌, inl, inr, ⊎_elim, List, [], ◌∷◌}
use Rattle.std.proofs.Common.{◌++◌, Vec, length, take, refl, sym, ◌∙◌, ap, subst, arith}
use Rattle.std.proofs.lemmas.Bool.{eq-eqb, ne_eqb, cases_eq}
use Rattle.std.specs.declared.alloc.Global.{Global}
use Rattle.kdb_disk.specs.declared.record.Call.{Call}
use Rattle.kdb_disk.specs.declared.record.Call.TheVariants.{Wrote, Cut, Synced, Looked}
use Rattle.kdb_disk.specs.Files.{Files, put, with_file, written}
use Rattle.kdb_disk.specs.View.{View, Torn, Frayed, Follows, Elapses, Looks}
use Rattle.kdb_disk.specs.Memory.{Pending, settled_at, after_write, after_cut, after_sync}
use Rattle.kdb_disk.specs.Memory.{file_after, reading, IsImage, AreImages, LeftSince, view_of}
use Rattle.kdb_disk.proofs.Puts.{same_files, with_file-same, with_file-other, with_file-with_file}
use Rattle.kdb_disk.proofs.Puts.{with_file_own, written-same, written-other}
use Rattle.kdb_disk.proofs.Pendings.{IsShaped, shaped_settled, shaped_write, shaped_cut}
use Rattle.kdb_disk.proofs.Pendings.{settled_alone, torn_from, frayed_from}

-- a file that a call writes, cuts or syncs, and another
module _ (start : Files) (calls : List Call) where
  pub wrote_here : (g at : ℕ) (bytes : Vec ℕ Global)
      → file_after start (Wrote g at bytes ∷ calls) g ≡ after_write at bytes.items (file_after start calls g)
  unfolding file_after
  wrote_here g at bytes = rw (eq-eqb g g refl)

  pub wrote_other : (g at : ℕ) (bytes : Vec ℕ Global) (f : ℕ) → f ≢ g
      → file_after start (Wrote g at bytes ∷ calls) f ≡ file_after start calls f
  unfolding file_after
  wrote_other g at bytes f other = rw (ne_eqb f g other)

  pub cut_here : (g len : ℕ) → file_after start (Cut g len ∷ calls) g ≡ after_cut len (file_after start calls g)
  unfolding file_after
  cut_here g len = rw (eq-eqb g g refl)

  pub cut_other : (g len f : ℕ) → f ≢ g → file_after start (Cut g len ∷ calls) f ≡ file_after start calls f
  unfolding file_after
  cut_other g len f other = rw (ne_eqb f g other)

  pub synced_here : (g : ℕ) → file_after start (Synced g ∷ calls) g ≡ after_sync (file_after start calls g)
  unfolding file_after
  synced_here g = rw (eq-eqb g g refl)

  pub synced_other : (g f : ℕ) → f ≢ g → file_after start (Synced g ∷ calls) f ≡ file_after start calls f
  unfolding file_after
  synced_other g f other = rw (ne_eqb f g other)

  pub looked_same : (f : ℕ) → file_after start (Looked ∷ calls) f ≡ file_after start calls f
  unfolding file_after
  looked_same f = refl

  -- a sync changes no reading
  pub synced_reads : (g f : ℕ) → (file_after start (Synced g ∷ calls) f).now ≡ (file_after start calls f).now
  synced_reads g f = ⊎_elim
      (λ is. subst (λ (h : ℕ). (file_after start (Synced g ∷ calls) h).now ≡ (file_after start calls h).now) (sym is)
      (ap (λ (p : Pending). p.now) (synced_here g)))
      (λ other. ap (λ (p : Pending). p.now) (synced_other g f other))
      (cases_eq f g)

-- what holds of a file after each kind of call holds of it after all
module _ (P : Pending → Type 0) (settles : (p : Pending) → P p → P (after_sync p))
    (writes : (at : ℕ) (bytes : List ℕ) (p : Pending) → P p → P (after_write at bytes p))
    (cuts : (len : ℕ) (p : Pending) → P p → P (after_cut len p)) (start : Files)
    (begins : (f : ℕ) → P (settled_at (start f))) where
  pub of_each_file : (calls : List Call) (f : ℕ) → P (file_after start calls f)
  unfolding file_after
  of_each_file [] f = begins f
  of_each_file (Wrote g at bytes ∷ calls) f = ⊎_elim
      (λ is. subst (λ (h : ℕ). P (file_after start (Wrote g at bytes ∷ calls) h)) (sym is)
      (subst P (sym (wrote_here start calls g at bytes)) (writes at bytes.items _ (of_each_file calls g))))
      (λ other. subst P (sym (wrote_other start calls g at bytes f other)) (of_each_file calls f))
      (cases_eq f g)
  of_each_file (Cut g len ∷ calls) f = ⊎_elim
      (λ is. subst (λ (h : ℕ). P (file_after start (Cut g len ∷ calls) h)) (sym is)
      (subst P (sym (cut_here start calls g len)) (cuts len _ (of_each_file calls g))))
      (λ other. subst P (sym (cut_other start calls g len f other)) (of_each_file calls f))
      (cases_eq f g)
  of_each_file (Synced g ∷ calls) f = ⊎_elim
      (λ is. subst (λ (h : ℕ). P (file_after start (Synced g ∷ calls) h)) (sym is)
      (subst P (sym (synced_here start calls g)) (settles _ (of_each_file calls g))))
      (λ other. subst P (sym (synced_other start calls g f other)) (of_each_file calls f))
      (cases_eq f g)
  of_each_file (Looked ∷ calls) f = of_each_file calls f

pub shaped : (start : Files) (calls : List Call) (f : ℕ) → IsShaped (file_after start calls f)
shaped start calls f = of_each_file IsShaped (λ p s. shaped_settled p.now) shaped_write shaped_cut start
    (λ g. shaped_settled (start g)) calls f

-- time goes on by one call
pub step_time : (start : Files) (call : Call) (calls : List Call)
    → Elapses (view_of start calls) (view_of start (call ∷ calls))
unfolding view_of LeftSince
step_time start call calls = record {
  later = omega arith;
  nothing_else = λ t c le left. ⊎_elim (λ now. inr now) (λ past. inl past.1) left;
  keeps = λ t c le left. inr (le, left);
}

-- files of which one has an older image, and a step that leads to the newer
module _ (start : Files) (calls : List Call) (g : ℕ) (seven : g < 7) where
  older : (c : Files) (old : List ℕ) → ((f : ℕ) → f ≢ g → IsImage (file_after start calls f) (c f))
      → IsImage (file_after start calls g) old → ((f : ℕ) → 7 ≤ f → c f ≡ (file_after start calls f).now)
      → AreImages start calls (with_file g old c)
  older c old others here no_more = record {
    each = λ f. ⊎_elim
        (λ is. subst (λ (h : ℕ). IsImage (file_after start calls h) (with_file g old c h)) (sym is)
        (subst (IsImage (file_after start calls g)) (sym (with_file-same g old c)) here))
        (λ other. subst (IsImage (file_after start calls f)) (sym (with_file-other g f old c other)) (others f other))
        (cases_eq f g);
    no_more = λ f ge. let other : f ≢ g = λ is. absurd (omega arith) in with_file-other g f old c other ∙ no_more f ge;
  }

  -- the same file again
  back : (c : Files) (old content : List ℕ) → c g ≡ content → c ≡ with_file g content (with_file g old c)
  back c old content is = sym (with_file-with_file g content old c ∙ with_file_own g content c (sym is))

  pub wrote_seen : (at : ℕ) (bytes : Vec ℕ Global)
      → (view_of start (Wrote g at bytes ∷ calls)).seen ≡ written g at bytes.items (view_of start calls).seen
  unfolding view_of
  wrote_seen at bytes = same_files _ _ (λ f. ⊎_elim
      (λ is. subst (λ (h : ℕ).
      (file_after start (Wrote g at bytes ∷ calls) h).now ≡ written g at bytes.items (reading start calls) h) (sym is)
      (ap (λ (p : Pending). p.now) (wrote_here start calls g at bytes)
      ∙ sym (written-same g at bytes.items (reading start calls))))
      (λ other. ap (λ (p : Pending). p.now) (wrote_other start calls g at bytes f other)
      ∙ sym (written-other g f at bytes.items (reading start calls) other))
      (cases_eq f g))

  pub wrote_crash : (at : ℕ) (bytes : Vec ℕ Global)
      → at ≤ length (file_after start calls g).now → AreImages start calls (reading start calls)
      → Follows (Torn g at (length bytes.items)) (view_of start calls) (view_of start (Wrote g at bytes ∷ calls))
  unfolding view_of written
  wrote_crash at bytes within now c are =
      let p = file_after start calls g in
      let image : IsImage (after_write at bytes.items p) (c g) =
      subst (λ (q : Pending). IsImage q (c g)) (wrote_here start calls g at bytes) (are.each g) in
      let from = torn_from at bytes.items p (c g) within (now.each g) (shaped start calls g) image in
      record {
        before = with_file g from.old c;
        was = older c from.old
            (λ f other. subst (λ (q : Pending). IsImage q (c f))
            (wrote_other start calls g at bytes f other) (are.each f))
            from.was
            (λ f ge. let other : f ≢ g = λ is. absurd (omega arith) in are.no_more f ge
            ∙ ap (λ (q : Pending). q.now) (wrote_other start calls g at bytes f other));
        went = record {
          bytes = from.part;
          few = from.few;
          is = back c from.old (put at from.part from.old) from.is ∙ ap (λ (l : List ℕ).
              with_file g (put at from.part l) (with_file g from.old c)) (sym (with_file-same g from.old c));
        };
      }

  pub cut_seen : (len : ℕ) → (view_of start (Cut g len ∷ calls)).seen
      ≡ with_file g (take len ((view_of start calls).seen g)) (view_of start calls).seen
  unfolding view_of
  cut_seen len = same_files _ _ (λ f. ⊎_elim
      (λ is. subst (λ (h : ℕ). (file_after start (Cut g len ∷ calls) h).now
      ≡ with_file g (take len (reading start calls g)) (reading start calls) h) (sym is)
      (ap (λ (p : Pending). p.now) (cut_here start calls g len)
      ∙ sym (with_file-same g (take len (reading start calls g)) (reading start calls))))
      (λ other. ap (λ (p : Pending). p.now) (cut_other start calls g len f other)
      ∙ sym (with_file-other g f (take len (reading start calls g)) (reading start calls) other))
      (cases_eq f g))

  pub cut_crash : (len : ℕ) → AreImages start calls (reading start calls)
      → Follows (Frayed g len) (view_of start calls) (view_of start (Cut g len ∷ calls))
  unfolding view_of
  cut_crash len now c are =
      let p = file_after start calls g in
      let image : IsImage (after_cut len p) (c g) =
      subst (λ (q : Pending). IsImage q (c g)) (cut_here start calls g len) (are.each g) in
      let from = frayed_from len p (c g) (now.each g) (shaped start calls g) image in
      let here : with_file g from.old c g ≡ from.old = with_file-same g from.old c in
      record {
        before = with_file g from.old c;
        was = older c from.old
            (λ f other. subst (λ (q : Pending). IsImage q (c f)) (cut_other start calls g len f other) (are.each f))
            from.was
            (λ f ge. let other : f ≢ g = λ is. absurd (omega arith) in are.no_more f ge
            ∙ ap (λ (q : Pending). q.now) (cut_other start calls g len f other));
        went = record {
          bytes = from.part;
          few = subst (λ (l : List ℕ). length (take len l) + length from.part ≤ length l) (sym here) from.few;
          is = back c from.old (take len from.old ++ from.part) from.is
              ∙ ap (λ (l : List ℕ). with_file g (take len l ++ from.part) (with_file g from.old c)) (sym here);
        };
      }

  -- after a sync the file's one image is what it reads
  pub synced_alone : (c : Files) → AreImages start (Synced g ∷ calls) c → c g ≡ (file_after start calls g).now
  synced_alone c are = settled_alone (file_after start calls g).now (c g)
      (subst (λ (q : Pending). IsImage q (c g)) (synced_here start calls g) (are.each g))

  pub synced_looks : AreImages start calls (reading start calls)
      → Looks (view_of start calls) (view_of start (Synced g ∷ calls))
  unfolding view_of
  synced_looks now = record {
    seen = same_files _ _ (synced_reads start calls g);
    images = λ c are. record {
      each = λ f. ⊎_elim
          (λ is. subst (λ (h : ℕ). IsImage (file_after start calls h) (c h)) (sym is)
          (subst (IsImage (file_after start calls g)) (sym (synced_alone c are)) (now.each g)))
          (λ other. subst (λ (q : Pending). IsImage q (c f)) (synced_other start calls g f other) (are.each f))
          (cases_eq f g);
      no_more = λ f ge. are.no_more f ge ∙ synced_reads start calls g f;
    };
    time = step_time start (Synced g) calls;
  }

pub look_looks : (start : Files) (calls : List Call) → Looks (view_of start calls) (view_of start (Looked ∷ calls))
unfolding view_of
look_looks start calls = record {
  seen = same_files _ _ (λ f. ap (λ (q : Pending). q.now) (looked_same start calls f));
  images = λ c are. record {
    each = λ f. subst (λ (q : Pending). IsImage q (c f)) (looked_same start calls f) (are.each f);
    no_more = λ f ge. are.no_more f ge ∙ ap (λ (q : Pending). q.now) (looked_same start calls f);
  };
  time = step_time start Looked calls;
}

pub looks_same : (v : View) → Looks v v
looks_same v = record {
  seen = λ i. v.seen;
  images = λ c now. now;
  time = record { later = omega arith; nothing_else = λ t c le left. inl left; keeps = λ t c le left. left };
}
