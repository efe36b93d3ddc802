-- Records put and dropped by their keys: which such edits commute, and which take the place of others.
use Rattle.std.proofs.Common.{◌≡◌, ◌≢◌, ℕ, ◌+◌, Bool, true, false, ◌&&◌, List, [], ◌∷◌}
use Rattle.std.proofs.Common.{◌++◌, length, refl, sym, ap, subst, ◌∙◌, arith, append_assoc}
use Rattle.std.specs.Prelude.{filter}
use Rattle.std.specs.List.{AllByRecursion}
use Rattle.std.specs.Ordering.{ordering_reverse, is_lt, is_gt, is_eq}
use Rattle.std.specs.declared.cmp.Ordering.{Ordering}
use Rattle.std.specs.declared.cmp.Ordering.TheVariants.{Less, Equal, Greater}
use Rattle.std.proofs.lemmas.Cmp.{nat_list_cmp_total}
use Rattle.std.proofs.lemmas.List.{append-nil, length-append}
use Rattle.std.proofs.lemmas.List.Elements.{filter-append}
use Rattle.std.proofs.lemmas.Map.Text.{is_eq-slice_cmp}
use Rattle.princ_rows.specs.EntryLaws.{same_bytes, bytes_same}
use Rattle.tagged_data.specs.KeyOrder.{key_cmp}
use Rattle.princ_rows.specs.Effects.{is_lower, is_higher, put_by, drop_by}

-- ---- keys

equal_is : (a b : List ℕ) → key_cmp a b ≡ Equal → a ≡ b
equal_is a b e = same_bytes a b (sym (is_eq-slice_cmp a b) ∙ ap is_eq e)

is_equal : (o : Ordering) → is_eq o ≡ true → o ≡ Equal
is_equal Less e = absurd cc
is_equal Equal e = refl
is_equal Greater e = absurd cc

same_key : (a b : List ℕ) → a ≡ b → key_cmp a b ≡ Equal
same_key a b is = is_equal (key_cmp a b) (is_eq-slice_cmp a b ∙ bytes_same a b is)

above : (a b : List ℕ) → key_cmp a b ≡ Less → key_cmp b a ≡ Greater
above a b lt = nat_list_cmp_total.antisymm b a ∙ ap ordering_reverse lt

below : (a b : List ℕ) → key_cmp a b ≡ Greater → key_cmp b a ≡ Less
below a b gt = nat_list_cmp_total.antisymm b a ∙ ap ordering_reverse gt

-- of two keys the second is the greater one: what is below the first is below the second
under_both : (k a b : List ℕ) (o : Ordering) → key_cmp k a ≡ o → key_cmp a b ≡ Less
    → is_lt (key_cmp k a) && is_lt (key_cmp k b) ≡ is_lt (key_cmp k a)
under_both k a b Less e lt = rw (e, nat_list_cmp_total.trans k a b e lt) refl
under_both k a b Equal e lt = rw e refl
under_both k a b Greater e lt = rw e refl

under_first : (k a b : List ℕ) (o : Ordering) → key_cmp k a ≡ o → key_cmp a b ≡ Less
    → is_lt (key_cmp k b) && is_lt (key_cmp k a) ≡ is_lt (key_cmp k a)
under_first k a b Less e lt = rw (e, nat_list_cmp_total.trans k a b e lt) refl
under_first k a b Equal e lt = rw (e, sym (ap (λ (x : List ℕ). key_cmp x b) (sym (equal_is k a e))) ∙ lt) refl
under_first k a b Greater e lt = by (is_lt (key_cmp k b))
  where
    by : (c : Bool) → c && is_lt (key_cmp k a) ≡ is_lt (key_cmp k a)
    by true = refl
    by false = sym (ap is_lt e)

over_both : (k a b : List ℕ) (o : Ordering) → key_cmp k b ≡ o → key_cmp a b ≡ Less
    → is_gt (key_cmp k b) && is_gt (key_cmp k a) ≡ is_gt (key_cmp k b)
over_both k a b Less e lt = rw e refl
over_both k a b Equal e lt = rw e refl
over_both k a b Greater e lt = rw (e, above a k (nat_list_cmp_total.trans a b k lt (below k b e))) refl

over_second : (k a b : List ℕ) (o : Ordering) → key_cmp k b ≡ o → key_cmp a b ≡ Less
    → is_gt (key_cmp k a) && is_gt (key_cmp k b) ≡ is_gt (key_cmp k b)
over_second k a b Greater e lt = rw (e, above a k (nat_list_cmp_total.trans a b k lt (below k b e))) refl
over_second k a b Less e lt = by (is_gt (key_cmp k a))
  where
    by : (c : Bool) → c && is_gt (key_cmp k b) ≡ is_gt (key_cmp k b)
    by true = refl
    by false = sym (ap is_gt e)
over_second k a b Equal e lt = by (is_gt (key_cmp k a))
  where
    by : (c : Bool) → c && is_gt (key_cmp k b) ≡ is_gt (key_cmp k b)
    by true = refl
    by false = sym (ap is_gt e)

-- nothing is below the first and above the second
between_none : (k a b : List ℕ) (o : Ordering) → key_cmp k a ≡ o → key_cmp a b ≡ Less
    → is_lt (key_cmp k a) && is_gt (key_cmp k b) ≡ false
between_none k a b Less e lt = rw (e, nat_list_cmp_total.trans k a b e lt) refl
between_none k a b Equal e lt = rw e refl
between_none k a b Greater e lt = rw e refl

between_neither : (k a b : List ℕ) (o : Ordering) → key_cmp k a ≡ o → key_cmp a b ≡ Less
    → is_gt (key_cmp k b) && is_lt (key_cmp k a) ≡ false
between_neither k a b Less e lt = rw (e, nat_list_cmp_total.trans k a b e lt) refl
between_neither k a b Equal e lt = by (is_gt (key_cmp k b))
  where
    by : (c : Bool) → c && is_lt (key_cmp k a) ≡ false
    by true = ap is_lt e
    by false = refl
between_neither k a b Greater e lt = by (is_gt (key_cmp k b))
  where
    by : (c : Bool) → c && is_lt (key_cmp k a) ≡ false
    by true = ap is_lt e
    by false = refl

not_both : (o : Ordering) → is_lt o && is_gt o ≡ false
not_both Less = refl
not_both Equal = refl
not_both Greater = refl

neither_both : (o : Ordering) → is_gt o && is_lt o ≡ false
neither_both Less = refl
neither_both Equal = refl
neither_both Greater = refl

both_self : (b : Bool) → b && b ≡ b
both_self true = refl
both_self false = refl

and_turned : (a b : Bool) → a && b ≡ b && a
and_turned true true = refl
and_turned true false = refl
and_turned false true = refl
and_turned false false = refl

-- ---- filters

module _ {X : Type 0} where
  kept : (p : X → Bool) (y : X) (ys : List X) → p y ≡ true → filter p (y ∷ ys) ≡ y ∷ filter p ys
  kept p y ys e = rw e refl

  left_out : (p : X → Bool) (y : X) (ys : List X) → p y ≡ false → filter p (y ∷ ys) ≡ filter p ys
  left_out p y ys e = rw e refl

  twice_at : (p q r : X → Bool) (x : X) (xs : List X) (b c : Bool) → p x ≡ b → q x ≡ c → b && c ≡ r x
      → filter p (filter q xs) ≡ filter r xs
      → filter p (filter q (x ∷ xs)) ≡ filter r (x ∷ xs)
  twice_at p q r x xs true true e f g h = ap (filter p) (kept q x xs f) ∙ kept p x (filter q xs) e
      ∙ ap (λ (zs : List X). x ∷ zs) h ∙ sym (kept r x xs (sym g))
  twice_at p q r x xs false true e f g h =
      ap (filter p) (kept q x xs f) ∙ left_out p x (filter q xs) e ∙ h ∙ sym (left_out r x xs (sym g))
  twice_at p q r x xs true false e f g h = ap (filter p) (left_out q x xs f) ∙ h ∙ sym (left_out r x xs (sym g))
  twice_at p q r x xs false false e f g h = ap (filter p) (left_out q x xs f) ∙ h ∙ sym (left_out r x xs (sym g))

  -- a filter of a filter is one by both tests
  twice : (p q r : X → Bool) → ((x : X) → p x && q x ≡ r x) → (xs : List X) → filter p (filter q xs) ≡ filter r xs
  twice p q r same [] = refl
  twice p q r same (x ∷ xs) = twice_at p q r x xs (p x) (q x) refl refl (same x) (twice p q r same xs)

  none_pass : (xs : List X) → filter (λ x. false) xs ≡ []
  none_pass [] = refl
  none_pass (x ∷ xs) = none_pass xs

  twice_none : (p q : X → Bool) → ((x : X) → p x && q x ≡ false) → (xs : List X) → filter p (filter q xs) ≡ []
  twice_none p q none xs = twice p q (λ x. false) none xs ∙ none_pass xs

  -- all records of a list have this key
  abbrev pub HaveKey : (X → List ℕ) → List ℕ → List X → Type 0
  HaveKey key k xs = AllByRecursion (λ x. key x ≡ k) xs

  all_kept : (key : X → List ℕ) (k : List ℕ) (p : X → Bool) → ((x : X) → key x ≡ k → p x ≡ true) → (m : List X)
      → HaveKey key k m → filter p m ≡ m
  all_kept key k p passes [] have = refl
  all_kept key k p passes (x ∷ m) have =
      kept p x m (passes x have.0) ∙ ap (λ (zs : List X). x ∷ zs) (all_kept key k p passes m have.1)

  all_left : (key : X → List ℕ) (k : List ℕ) (p : X → Bool) → ((x : X) → key x ≡ k → p x ≡ false) → (m : List X)
      → HaveKey key k m → filter p m ≡ []
  all_left key k p fails [] have = refl
  all_left key k p fails (x ∷ m) have = left_out p x m (fails x have.0) ∙ all_left key k p fails m have.1

  -- ---- edits

  -- what has the key is taken away, and these stand in its place
  unfoldable pub edit : (X → List ℕ) → List ℕ → List X → List X → List X
  edit key k m xs = filter (is_lower key k) xs ++ (m ++ filter (is_higher key k) xs)

  pub put_edit : (key : X → List ℕ) (x : X) (xs : List X) → put_by key x xs ≡ edit key (key x) (x ∷ []) xs
  unfolding put_by edit
  put_edit key x xs = refl

  pub drop_edit : (key : X → List ℕ) (k : List ℕ) (xs : List X) → drop_by key k xs ≡ edit key k [] xs
  unfolding drop_by edit
  drop_edit key k xs = refl

  at_key : (key : X → List ℕ) (a b : List ℕ) (x : X) (o : Ordering) → key x ≡ a → key_cmp a b ≡ o
      → key_cmp (key x) b ≡ o
  at_key key a b x o is e = ap (λ (k : List ℕ). key_cmp k b) is ∙ e

  parts : (p : X → Bool) (xs ys zs : List X) → filter p (xs ++ (ys ++ zs)) ≡ filter p xs ++ (filter p ys ++ filter p zs)
  parts p xs ys zs = filter-append p xs (ys ++ zs) ∙ ap (λ (l : List X). filter p xs ++ l) (filter-append p ys zs)

  three : (a b c d e f : List X) → a ≡ d → b ≡ e → c ≡ f → a ++ (b ++ c) ≡ d ++ (e ++ f)
  three a b c d e f p q r =
      ap (λ (l : List X). l ++ (b ++ c)) p ∙ ap (λ (l : List X). d ++ (l ++ c)) q ∙ ap (λ (l : List X). d ++ (e ++ l)) r

  -- an edit takes the place of one at the same key
  pub edit_over : (key : X → List ℕ) (k : List ℕ) (m n xs : List X) → HaveKey key k n
      → edit key k m (edit key k n xs) ≡ edit key k m xs
  unfolding edit
  edit_over key k m n xs have =
      let low = is_lower key k in
      let high = is_higher key k in
      let here = same_key k k refl in
      let lower : filter low (filter low xs ++ (n ++ filter high xs)) ≡ filter low xs =
      parts low (filter low xs) n (filter high xs)
      ∙ three _ _ _ (filter low xs) [] [] (twice low low low (λ x. both_self (low x)) xs)
      (all_left key k low (λ x is. ap is_lt (at_key key k k x Equal is here)) n have)
      (twice_none low high (λ x. not_both (key_cmp (key x) k)) xs)
      ∙ append-nil (filter low xs) in
      let higher : filter high (filter low xs ++ (n ++ filter high xs)) ≡ filter high xs =
      parts high (filter low xs) n (filter high xs)
      ∙ three _ _ _ [] [] (filter high xs) (twice_none high low (λ x. neither_both (key_cmp (key x) k)) xs)
      (all_left key k high (λ x is. ap is_gt (at_key key k k x Equal is here)) n have)
      (twice high high high (λ x. both_self (high x)) xs) in
      ap (λ (l : List X). l ++ (m ++ filter high (filter low xs ++ (n ++ filter high xs)))) lower
      ∙ ap (λ (l : List X). filter low xs ++ (m ++ l)) higher

  edit_swap : (key : X → List ℕ) (a b : List ℕ) (m n xs : List X) → key_cmp a b ≡ Less → HaveKey key a m
      → HaveKey key b n
      → edit key b n (edit key a m xs) ≡ edit key a m (edit key b n xs)
  unfolding edit
  edit_swap key a b m n xs lt first second =
      let low_a = is_lower key a in
      let low_b = is_lower key b in
      let high_a = is_higher key a in
      let high_b = is_higher key b in
      let one = filter low_a xs ++ (m ++ filter high_a xs) in
      let other = filter low_b xs ++ (n ++ filter high_b xs) in
      let under : filter low_b one ≡ filter low_a xs ++ (m ++ filter low_b (filter high_a xs)) =
      parts low_b (filter low_a xs) m (filter high_a xs)
      ∙ three _ _ _ (filter low_a xs) m (filter low_b (filter high_a xs))
      (twice low_b low_a low_a (λ x. under_first (key x) a b (key_cmp (key x) a) refl lt) xs)
      (all_kept key a low_b (λ x is. ap is_lt (at_key key a b x Less is lt)) m first) refl in
      let over : filter high_b one ≡ filter high_b xs =
      parts high_b (filter low_a xs) m (filter high_a xs)
      ∙ three _ _ _ [] [] (filter high_b xs)
      (twice_none high_b low_a (λ x. between_neither (key x) a b (key_cmp (key x) a) refl lt) xs)
      (all_left key a high_b (λ x is. ap is_gt (at_key key a b x Less is lt)) m first)
      (twice high_b high_a high_b (λ x. over_both (key x) a b (key_cmp (key x) b) refl lt) xs) in
      let under_a : filter low_a other ≡ filter low_a xs =
      parts low_a (filter low_b xs) n (filter high_b xs)
      ∙ three _ _ _ (filter low_a xs) [] []
      (twice low_a low_b low_a (λ x. under_both (key x) a b (key_cmp (key x) a) refl lt) xs)
      (all_left key b low_a (λ x is. ap is_lt (at_key key b a x Greater is (above a b lt))) n second)
      (twice_none low_a high_b (λ x. between_none (key x) a b (key_cmp (key x) a) refl lt) xs)
      ∙ append-nil (filter low_a xs) in
      let over_a : filter high_a other ≡ filter low_b (filter high_a xs) ++ (n ++ filter high_b xs) =
      parts high_a (filter low_b xs) n (filter high_b xs)
      ∙ three _ _ _ (filter low_b (filter high_a xs)) n (filter high_b xs)
      (twice high_a low_b (λ x. low_b x && high_a x) (λ x. and_turned (high_a x) (low_b x)) xs
      ∙ sym (twice low_b high_a (λ x. low_b x && high_a x) (λ x. refl) xs))
      (all_kept key b high_a (λ x is. ap is_gt (at_key key b a x Greater is (above a b lt))) n second)
      (twice high_a high_b high_b (λ x. over_second (key x) a b (key_cmp (key x) b) refl lt) xs) in
      ap (λ (l : List X). l ++ (n ++ filter high_b one)) under
      ∙ ap (λ (l : List X). (filter low_a xs ++ (m ++ filter low_b (filter high_a xs))) ++ (n ++ l)) over
      ∙ append_assoc (filter low_a xs) (m ++ filter low_b (filter high_a xs)) (n ++ filter high_b xs)
      ∙ ap (λ (l : List X). filter low_a xs ++ l)
      (append_assoc m (filter low_b (filter high_a xs)) (n ++ filter high_b xs))
      ∙ ap (λ (l : List X). filter low_a xs ++ (m ++ l)) (sym over_a)
      ∙ ap (λ (l : List X). l ++ (m ++ filter high_a other)) (sym under_a)

  -- edits at two keys commute
  pub edits_commute : (key : X → List ℕ) (a b : List ℕ) (m n xs : List X) → a ≢ b → HaveKey key a m → HaveKey key b n
      → edit key b n (edit key a m xs) ≡ edit key a m (edit key b n xs)
  edits_commute key a b m n xs apart first second = by (key_cmp a b) refl
    where
      by : (o : Ordering) → key_cmp a b ≡ o → edit key b n (edit key a m xs) ≡ edit key a m (edit key b n xs)
      by Less e = edit_swap key a b m n xs e first second
      by Equal e = absurd (apart (equal_is a b e))
      by Greater e = sym (edit_swap key b a n m xs (below a b e) second first)

  pub length-edit : (key : X → List ℕ) (k : List ℕ) (x : X) (xs : List X) → edit key k [] xs ≡ xs
      → length (edit key k (x ∷ []) xs) ≡ 1 + length xs
  unfolding edit
  length-edit key k x xs none =
      let low = filter (is_lower key k) xs in
      let high = filter (is_higher key k) xs in
      omega (arith, length-append low (x ∷ high), length-append low high, ap length none)
