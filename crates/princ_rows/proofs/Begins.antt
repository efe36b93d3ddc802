-- Changes of rows that were begun: what they leave, and what takes them back.
use Rattle.std.specs.List.{All}
use Rattle.std.proofs.Common.{◌≡◌, ◌≢◌, List, ℕ, sym, ap, subst, ◌∙◌, ◌⊎◌}
use Rattle.policy_rules.specs.Rules.{Rules}
use Rattle.princ_record.specs.RowLimits.{IsRow}
use Rattle.princ_record.specs.Policies.{IsPolicy}
use Rattle.princ_rows.specs.Rows.{RowLists, AreRows}
use Rattle.princ_rows.specs.Effects.{put_by, drop_by, put_princ, drop_princ, put_policy, IsRoom}
use Rattle.princ_rows.specs.Undoing.{row_back, IsPlaceOf, finished, undone, IsBegun}
use Rattle.princ_record.specs.declared.princs.Princ.{Princ}
use Rattle.princ_rows.specs.declared.sorted.RowBack.{RowBack}
use Rattle.princ_rows.specs.declared.begun.Begun.TheVariants.{PutPrinc, PutPolicy}
use Rattle.princ_rows.proofs.Changes.{rows}
use Rattle.princ_rows.proofs.Orders.{put_princ_rows, drop_princ_rows, put_policy_rows}

module _ (princs after : List Princ) (policies : List Rules) (r : RowLists) (view : rows princs policies ≡ r)
    (f : AreRows (rows princs policies)) where
  pub put_stands : (p : Princ) → after ≡ put_by (λ q. q.name) p princs → IsRow p → IsRoom (put_princ p r)
      → AreRows (rows after policies)
  unfolding put_princ
  put_stands p e is room =
      subst (λ (ps : List Princ). AreRows (rows ps policies)) (sym e)
      (put_princ_rows p (rows princs policies) f is (subst (λ (s : RowLists). IsRoom (put_princ p s)) (sym view) room))

  pub rename_stands : (p : Princ) (old : List ℕ) → after ≡ put_by (λ q. q.name) p (drop_by (λ q. q.name) old princs)
      → IsRow p → IsRoom (put_princ p (drop_princ old r)) → AreRows (rows after policies)
  unfolding put_princ drop_princ
  rename_stands p old e is room =
      let left = drop_by (λ (q : Princ). q.name) old princs in
      subst (λ (ps : List Princ). AreRows (rows ps policies)) (sym e)
      (put_princ_rows p (rows left policies) (drop_princ_rows old (rows princs policies) f) is
      (subst (λ (s : RowLists). IsRoom (put_princ p (drop_princ old s))) (sym view) room))

  -- the new name is free among the fields too
  pub free_inside : (p : Princ) (old : List ℕ) → (p.name ≡ old) ⊎ All (λ q. q.name ≢ p.name) r.princs
      → (p.name ≡ old) ⊎ All (λ q. q.name ≢ p.name) princs
  free_inside p old free =
      subst (λ (s : RowLists). (p.name ≡ old) ⊎ All (λ q. q.name ≢ p.name) s.princs) (sym view) free

  pub put_finished : (b : RowBack Princ) (p : Princ) → after ≡ put_by (λ q. q.name) p princs
      → finished (PutPrinc b) (rows after policies) ≡ put_princ p r
  unfolding finished put_princ
  put_finished b p e = ap (λ (ps : List Princ). rows ps policies) e ∙ ap (put_princ p) view

  pub rename_finished : (b : RowBack Princ) (p : Princ) (old : List ℕ)
      → after ≡ put_by (λ q. q.name) p (drop_by (λ q. q.name) old princs)
      → finished (PutPrinc b) (rows after policies) ≡ put_princ p (drop_princ old r)
  unfolding finished put_princ drop_princ
  rename_finished b p old e =
      ap (λ (ps : List Princ). rows ps policies) e ∙ ap (λ (s : RowLists). put_princ p (drop_princ old s)) view

  pub princ_undone : (b : RowBack Princ) → row_back b after ≡ princs → undone (PutPrinc b) (rows after policies) ≡ r
  unfolding undone
  princ_undone b back = ap (λ (ps : List Princ). rows ps policies) back ∙ view

  pub princ_begun : (b : RowBack Princ) → row_back b after ≡ princs → IsPlaceOf b after
      → IsBegun (PutPrinc b) (rows after policies)
  unfolding undone
  princ_begun b back place =
      record { places = place; rows = subst (λ (ps : List Princ). AreRows (rows ps policies)) (sym back) f }

module _ (princs : List Princ) (policies after : List Rules) (r : RowLists) (view : rows princs policies ≡ r)
    (f : AreRows (rows princs policies)) where
  pub policy_stands : (p : Rules) → after ≡ put_by (λ q. q.name) p policies → IsPolicy p → IsRoom (put_policy p r)
      → AreRows (rows princs after)
  unfolding put_policy
  policy_stands p e is room =
      subst (λ (ps : List Rules). AreRows (rows princs ps)) (sym e) (put_policy_rows p (rows princs policies) f is
      (subst (λ (s : RowLists). IsRoom (put_policy p s)) (sym view) room))

  pub policy_finished : (b : RowBack Rules) (p : Rules) → after ≡ put_by (λ q. q.name) p policies
      → finished (PutPolicy b) (rows princs after) ≡ put_policy p r
  unfolding finished put_policy
  policy_finished b p e = ap (λ (ps : List Rules). rows princs ps) e ∙ ap (put_policy p) view

  pub policy_undone : (b : RowBack Rules) → row_back b after ≡ policies → undone (PutPolicy b) (rows princs after) ≡ r
  unfolding undone
  policy_undone b back = ap (λ (ps : List Rules). rows princs ps) back ∙ view

  pub policy_begun : (b : RowBack Rules) → row_back b after ≡ policies → IsPlaceOf b after
      → IsBegun (PutPolicy b) (rows princs after)
  unfolding undone
  policy_begun b back place =
      record { places = place; rows = subst (λ (ps : List Rules). AreRows (rows princs ps)) (sym back) f }
