-- How many rows a change leaves.
use Rattle.std.proofs.Common.{◌≡◌, ℕ, ◌+◌, ◌<◌, ◌≤◌, List, length, map, Some, refl, sym, ap, subst, ◌∙◌, arith}
use Rattle.std.proofs.lemmas.List.{length-set}
use Rattle.std.proofs.lemmas.List.Edits.{length-insert, length-remove}
use Rattle.kdb_base.specs.Limits.{most_rows}
use Rattle.policy_rules.specs.Rules.{Rules}
use Rattle.princ_rows.specs.Rows.{RowLists, AreRows, IsAt, IsGap}
use Rattle.tagged_data.specs.KeyOrder.{AreInOrder}
use Rattle.princ_rows.specs.Effects.{put_by, drop_by, put_princ, drop_princ, put_policy, drop_policy, effect, IsRoom}
use Rattle.princ_record.specs.declared.princs.Princ.{Princ}
use Rattle.princ_rows.specs.declared.entries.Op.{Op}
use Rattle.princ_rows.specs.declared.entries.Op.TheVariants.{PutPrinc, DropPrinc, Rename, PutPolicy, DropPolicy}
use Rattle.princ_rows.proofs.Edits.{insert_is_put, set_is_put, remove_is_drop, gap_is_drop}
use Rattle.princ_rows.proofs.Orders.{put_short, drop_short}

module _ {X : Type 0} (key : X → List ℕ) where
  -- a key that is held, and one that is not
  abbrev pub Held : List X → List ℕ → Type 0
  Held xs k = (at : ℕ) × IsAt key xs k at

  abbrev pub Absent : List X → List ℕ → Type 0
  Absent xs k = (at : ℕ) × IsGap key xs k at

  put_held : (xs : List X) (x : X) → AreInOrder (map key xs) → Held xs (key x) → length (put_by key x xs) ≡ length xs
  put_held xs x h held =
      ap (λ (zs : List X). length zs) (sym (set_is_put key xs x held.0 h held.1)) ∙ length-set xs held.0 x

  put_absent : (xs : List X) (x : X) → Absent xs (key x) → length (put_by key x xs) ≡ length xs + 1
  put_absent xs x gap = ap (λ (zs : List X). length zs) (sym (insert_is_put key xs x gap.0 gap.1))
      ∙ length-insert xs gap.0 x gap.1.in_range

  drop_held : (xs : List X) (k : List ℕ) → AreInOrder (map key xs) → Held xs k
      → length (drop_by key k xs) + 1 ≡ length xs
  drop_held xs k h held = ap (λ (zs : List X). length zs + 1) (sym (remove_is_drop key xs k held.0 h held.1))
      ∙ length-remove xs held.0 held.1.in_range

  drop_absent : (xs : List X) (k : List ℕ) → Absent xs k → drop_by key k xs ≡ xs
  drop_absent xs k gap = sym (gap_is_drop key xs k gap.0 gap.1)

  -- the same, at the slice and the key that were searched
  held_in : (xs ys : List X) (c k : List ℕ) → xs ≡ ys → c ≡ k → Held xs c → Held ys k
  held_in xs ys c k same is held = subst (λ (zs : List X). Held zs k) same (subst (λ (b : List ℕ). Held xs b) is held)

  absent_in : (xs ys : List X) (c k : List ℕ) → xs ≡ ys → c ≡ k → Absent xs c → Absent ys k
  absent_in xs ys c k same is gap =
      subst (λ (zs : List X). Absent zs k) same (subst (λ (b : List ℕ). Absent xs b) is gap)

-- ---- the rows, where there is no room for one more

abbrev pub name_of : Princ → List ℕ
name_of p = p.name

abbrev pub policy_name : Rules → List ℕ
policy_name p = p.name

-- a change that is known
pub at_op : (r : RowLists) (op o : Op) → op ≡ o → IsRoom (effect (Some o) r) → IsRoom (effect (Some op) r)
at_op r op o e room = subst (λ (p : Op). IsRoom (effect (Some p) r)) (sym e) room

pub of_op : (r : RowLists) (op o : Op) → op ≡ o → IsRoom (effect (Some op) r) → IsRoom (effect (Some o) r)
of_op r op o e room = subst (λ (p : Op). IsRoom (effect (Some p) r)) e room

pub at_rename : (r : RowLists) (op : Op) (old k : List ℕ) (p : Princ) → op ≡ Rename old p → k ≡ old
    → IsRoom (put_princ p (drop_princ k r)) → IsRoom (effect (Some op) r)
unfolding effect
at_rename r op old k p e same room =
    at_op r op (Rename old p) e (subst (λ (n : List ℕ). IsRoom (put_princ p (drop_princ n r))) same room)

pub of_rename : (r : RowLists) (op : Op) (old k : List ℕ) (p : Princ) → op ≡ Rename old p → k ≡ old
    → IsRoom (effect (Some op) r) → IsRoom (put_princ p (drop_princ k r))
unfolding effect
of_rename r op old k p e same room =
    subst (λ (n : List ℕ). IsRoom (put_princ p (drop_princ n r))) (sym same) (of_op r op (Rename old p) e room)

module _ (r : RowLists) (f : AreRows r) where
  pub put_room : (xs : List Princ) (k : List ℕ) (p : Princ) → xs ≡ r.princs → k ≡ p.name → Held name_of xs k
      → IsRoom (put_princ p r)
  unfolding put_princ
  put_room xs k p same is held = let few = f.few in
      omega (arith, put_held name_of r.princs p f.princ_order (held_in name_of xs r.princs k p.name same is held))

  pub put_no_room : (xs : List Princ) (k : List ℕ) (p : Princ) → most_rows ≤ length r.princs + length r.policies
      → xs ≡ r.princs → k ≡ p.name → Absent name_of xs k → IsRoom (put_princ p r) → ⊥
  unfolding put_princ
  put_no_room xs k p full same is gap room =
      absurd (omega (arith, put_absent name_of r.princs p (absent_in name_of xs r.princs k p.name same is gap)))

  pub policy_room : (xs : List Rules) (k : List ℕ) (p : Rules) → xs ≡ r.policies → k ≡ p.name → Held policy_name xs k
      → IsRoom (put_policy p r)
  unfolding put_policy
  policy_room xs k p same is held = let few = f.few in omega (
    arith,
    put_held policy_name r.policies p f.policy_order (held_in policy_name xs r.policies k p.name same is held),
  )

  pub policy_no_room : (xs : List Rules) (k : List ℕ) (p : Rules) → most_rows ≤ length r.princs + length r.policies
      → xs ≡ r.policies → k ≡ p.name → Absent policy_name xs k → IsRoom (put_policy p r) → ⊥
  unfolding put_policy
  policy_no_room xs k p full same is gap room = absurd
      (omega (arith, put_absent policy_name r.policies p (absent_in policy_name xs r.policies k p.name same is gap)))

  -- the old name is held
  pub rename_room : (xs : List Princ) (p : Princ) (old : List ℕ) → xs ≡ r.princs → Held name_of xs old
      → IsRoom (put_princ p (drop_princ old r))
  unfolding put_princ drop_princ
  rename_room xs p old same held =
      let few = f.few in
      omega (
        arith,
        drop_held name_of r.princs old f.princ_order (held_in name_of xs r.princs old old same refl held),
        put_short name_of p (drop_by name_of old r.princs),
      )

  -- it is not held, so that the rename is a put
  pub rename_is_put : (xs : List Princ) (p : Princ) (old : List ℕ) → xs ≡ r.princs → Absent name_of xs old
      → put_princ p (drop_princ old r) ≡ put_princ p r
  unfolding put_princ drop_princ
  rename_is_put xs p old same gap =
      ap (λ (ps : List Princ). record { princs = put_by name_of p ps; policies = r.policies })
      (drop_absent name_of r.princs old (absent_in name_of xs r.princs old old same refl gap))

  pub drop_room : (name : List ℕ) → IsRoom (drop_princ name r)
  unfolding drop_princ
  drop_room name = let few = f.few in omega (arith, drop_short name_of name r.princs)

  pub drop_policy_room : (name : List ℕ) → IsRoom (drop_policy name r)
  unfolding drop_policy
  drop_policy_room name = let few = f.few in omega (arith, drop_short policy_name name r.policies)

-- there is room for one more
pub room_for_any : (r : RowLists) (op : Op) → length r.princs + length r.policies < most_rows
    → IsRoom (effect (Some op) r)
unfolding effect put_princ drop_princ put_policy drop_policy
room_for_any r (PutPrinc p) lt = omega (arith, put_short name_of p r.princs)
room_for_any r (DropPrinc name) lt = omega (arith, drop_short name_of name r.princs)
room_for_any r (Rename old p) lt =
    omega (arith, drop_short name_of old r.princs, put_short name_of p (drop_by name_of old r.princs))
room_for_any r (PutPolicy p) lt = omega (arith, put_short policy_name p r.policies)
room_for_any r (DropPolicy name) lt = omega (arith, drop_short policy_name name r.policies)

-- the number of rows, as it was counted
pub few_rows : (r : RowLists) (xs : List Princ) (ys : List Rules) → xs ≡ r.princs → ys ≡ r.policies
    → length xs + length ys < most_rows → length r.princs + length r.policies < most_rows
few_rows r xs ys a b lt = omega (arith, ap (λ (zs : List Princ). length zs) a, ap (λ (zs : List Rules). length zs) b)

pub full_rows : (r : RowLists) (xs : List Princ) (ys : List Rules) → xs ≡ r.princs → ys ≡ r.policies
    → most_rows ≤ length xs + length ys → most_rows ≤ length r.princs + length r.policies
full_rows r xs ys a b le = omega (arith, ap (λ (zs : List Princ). length zs) a, ap (λ (zs : List Rules). length zs) b)
