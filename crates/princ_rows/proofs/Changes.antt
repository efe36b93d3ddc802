-- Rows after a change, over what the rows hold inside.
use Rattle.std.specs.Prelude.{Result, Ok, Err, OnOk, OnErr}
use Rattle.std.proofs.Common.{◌≡◌, ℕ, List, sym, ap, subst, ◌∙◌}
use Rattle.kdb_base.specs.declared.outcomes.MemoryOut.{MemoryOut}
use Rattle.policy_rules.specs.Rules.{Rules}
use Rattle.princ_record.specs.RowLimits.{IsRow}
use Rattle.princ_record.specs.Policies.{IsPolicy}
use Rattle.princ_rows.specs.Rows.{RowLists, AreRows}
use Rattle.princ_rows.specs.Effects.{put_by, drop_by, put_princ, drop_princ, put_policy, drop_policy, IsRoom}
use Rattle.princ_record.specs.declared.princs.Princ.{Princ}
use Rattle.princ_rows.proofs.Orders.{put_princ_rows, drop_princ_rows, put_policy_rows, drop_policy_rows}

abbrev pub rows : List Princ → List Rules → RowLists
rows princs policies = record { princs = princs; policies = policies }

abbrev pub Done : Type 0
Done = Result (Unit {0}) MemoryOut

module _ (princs after : List Princ) (policies : List Rules) (r : RowLists) (view : rows princs policies ≡ r)
    (f : AreRows (rows princs policies)) where
  pub princ_put : (res : Done) (p : Princ) → OnOk res (after ≡ put_by (λ q. q.name) p princs)
      → OnErr res (after ≡ princs) → IsRow p → IsRoom (put_princ p r) → AreRows (rows after policies)
  unfolding put_princ
  princ_put (Ok x) p ok err is room =
      subst (λ (ps : List Princ). AreRows (rows ps policies)) (sym ok)
      (put_princ_rows p (rows princs policies) f is (subst (λ (s : RowLists). IsRoom (put_princ p s)) (sym view) room))
  princ_put (Err e) p ok err is room = subst (λ (ps : List Princ). AreRows (rows ps policies)) (sym err) f

  pub princ_put_view : (res : Done) (p : Princ) → OnOk res (after ≡ put_by (λ q. q.name) p princs)
      → OnOk res (rows after policies ≡ put_princ p r)
  unfolding put_princ
  princ_put_view (Ok x) p ok = ap (λ (ps : List Princ). rows ps policies) ok ∙ ap (put_princ p) view
  princ_put_view (Err e) p ok = tt

  pub princ_kept : (res : Done) → OnErr res (after ≡ princs) → OnErr res (rows after policies ≡ r)
  princ_kept (Ok x) err = tt
  princ_kept (Err e) err = ap (λ (ps : List Princ). rows ps policies) err ∙ view

  pub princ_dropped : (name : List ℕ) → after ≡ drop_by (λ q. q.name) name princs → AreRows (rows after policies)
  unfolding drop_princ
  princ_dropped name e =
      subst (λ (ps : List Princ). AreRows (rows ps policies)) (sym e) (drop_princ_rows name (rows princs policies) f)

  pub princ_dropped_view : (name : List ℕ) → after ≡ drop_by (λ q. q.name) name princs
      → rows after policies ≡ drop_princ name r
  unfolding drop_princ
  princ_dropped_view name e = ap (λ (ps : List Princ). rows ps policies) e ∙ ap (drop_princ name) view

module _ (princs : List Princ) (policies after : List Rules) (r : RowLists) (view : rows princs policies ≡ r)
    (f : AreRows (rows princs policies)) where
  pub policy_put : (res : Done) (p : Rules) → OnOk res (after ≡ put_by (λ q. q.name) p policies)
      → OnErr res (after ≡ policies) → IsPolicy p → IsRoom (put_policy p r) → AreRows (rows princs after)
  unfolding put_policy
  policy_put (Ok x) p ok err is room =
      subst (λ (ps : List Rules). AreRows (rows princs ps)) (sym ok) (put_policy_rows p (rows princs policies) f is
      (subst (λ (s : RowLists). IsRoom (put_policy p s)) (sym view) room))
  policy_put (Err e) p ok err is room = subst (λ (ps : List Rules). AreRows (rows princs ps)) (sym err) f

  pub policy_put_view : (res : Done) (p : Rules) → OnOk res (after ≡ put_by (λ q. q.name) p policies)
      → OnOk res (rows princs after ≡ put_policy p r)
  unfolding put_policy
  policy_put_view (Ok x) p ok = ap (λ (ps : List Rules). rows princs ps) ok ∙ ap (put_policy p) view
  policy_put_view (Err e) p ok = tt

  pub policy_kept : (res : Done) → OnErr res (after ≡ policies) → OnErr res (rows princs after ≡ r)
  policy_kept (Ok x) err = tt
  policy_kept (Err e) err = ap (λ (ps : List Rules). rows princs ps) err ∙ view

  pub policy_dropped : (name : List ℕ) → after ≡ drop_by (λ q. q.name) name policies → AreRows (rows princs after)
  unfolding drop_policy
  policy_dropped name e =
      subst (λ (ps : List Rules). AreRows (rows princs ps)) (sym e) (drop_policy_rows name (rows princs policies) f)

  pub policy_dropped_view : (name : List ℕ) → after ≡ drop_by (λ q. q.name) name policies
      → rows princs after ≡ drop_policy name r
  unfolding drop_policy
  policy_dropped_view name e = ap (λ (ps : List Rules). rows princs ps) e ∙ ap (drop_policy name) view
