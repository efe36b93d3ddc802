use Rattle.std.proofs.Common.{◌≡◌, ◌+◌, ◌<◌, ◌∙◌, ◌++◌, ◌∷◌, [], ℕ, List, length, get_or, ap, sym, subst, ⊎_elim, arith}
use Rattle.std.proofs.lemmas.Bool.{cases_lt}
use Rattle.std.proofs.lemmas.List.{get_or_append_left, get_or_push, length_push}
use Rattle.kdb_disk.specs.Memory.{IsApart}
use Rattle.kdb_disk.proofs.replay.Replay.noise.Goals as goal

-- what holds at each place holds at each of one more
each_more : (P : ℕ → ℕ → Type 0) (xs ys : List ℕ) (y n : ℕ) → ys ≡ xs ++ y ∷ [] → length xs ≡ n
    → ((i : ℕ) → i < n → P i (get_or xs i 0)) → P n y → (i : ℕ) → i < n + 1 → P i (get_or ys i 0)
each_more P xs ys y n is long each here i lt =
    let same : (k : ℕ) → get_or ys k 0 ≡ get_or (xs ++ y ∷ []) k 0 = λ k. ap (λ (l : List ℕ). get_or l k 0) is in
    ⊎_elim
    (λ below. subst (P i) (sym (same i ∙ get_or_append_left xs (y ∷ []) 0 i (omega (arith, long)))) (each i below))
    (λ from.
    let last : n ≡ i = omega arith in
    subst (λ (k : ℕ). P k (get_or ys k 0)) last (subst (P n) (sym (same n ∙ get_or_push xs y 0 n long)) here))
    (cases_lt i n)

pub loop-place-preserved : goal.loop-place-preserved
loop-place-preserved c =
    let xs = c.loop-place.bytes.items in
    let ys = c.push.new.self.items in
    let y = c.noise_at.result in
    let n = c.loop-place.place in
    let before = c.loop-place.invariant in
    let is : ys ≡ xs ++ y ∷ [] = c.in_ok-push.ensures.items in
    let disk = c.args.self.now in
    let base = c.deref.ensures.value in
    let ranges = c.deref-in-loop-place.ensures.value in
    record {
      long = ap length is ∙ length_push xs y ∙ ap (λ (k : ℕ). k + 1) before.long;
      stays = each_more (λ i v. i < disk.least → IsApart i disk.ranges.items → v ≡ get_or disk.base.items i 0) xs ys y n
          is before.long before.stays
          (λ lt apart. c.noise_at.ensures.stays lt (subst (IsApart n) (sym ranges) apart)
          ∙ ap (λ (l : List ℕ). get_or l n 0) base);
      free = each_more (λ i v. (i < disk.least → IsApart i disk.ranges.items → ⊥) → v ≡ 165) xs ys y n is
          before.long before.free
          (λ none. c.noise_at.ensures.free (λ lt apart. none lt (subst (IsApart n) ranges apart)));
    }
