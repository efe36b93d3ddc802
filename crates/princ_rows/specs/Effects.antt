-- What changes do to rows in key order.
use Rattle.std.proofs.Common.{ℕ, ◌+◌, ◌≤◌, Bool, List, ◌∷◌, ◌++◌, length, Option, Some, None}
use Rattle.std.specs.Prelude.{filter}
use Rattle.std.specs.Ordering.{is_lt, is_gt}
use Rattle.kdb_base.specs.Limits.{most_rows}
use Rattle.policy_rules.specs.Rules.{Rules}
use Rattle.princ_rows.specs.Rows.{RowLists}
use Rattle.tagged_data.specs.KeyOrder.{key_cmp}
use Rattle.princ_record.specs.declared.princs.Princ.{Princ}
use Rattle.princ_rows.specs.declared.entries.Op.{Op}
use Rattle.princ_rows.specs.declared.entries.Op.TheVariants.{PutPrinc, DropPrinc, Rename, PutPolicy, DropPolicy}

-- the records before a key, and those behind it
abbrev pub is_lower : {X : Type 0} → (X → List ℕ) → List ℕ → X → Bool
is_lower key_of key x = is_lt (key_cmp (key_of x) key)

abbrev pub is_higher : {X : Type 0} → (X → List ℕ) → List ℕ → X → Bool
is_higher key_of key x = is_gt (key_cmp (key_of x) key)

-- the record stands in its place, and takes that of another with its key
unfoldable pub put_by : {X : Type 0} → (X → List ℕ) → X → List X → List X
put_by key_of x xs = filter (is_lower key_of (key_of x)) xs ++ x ∷ filter (is_higher key_of (key_of x)) xs

-- no record has the key
unfoldable pub drop_by : {X : Type 0} → (X → List ℕ) → List ℕ → List X → List X
drop_by key_of key xs = filter (is_lower key_of key) xs ++ filter (is_higher key_of key) xs

-- ---- the rows

unfoldable pub put_princ : Princ → RowLists → RowLists
put_princ p r = record { princs = put_by (λ q. q.name) p r.princs; policies = r.policies }

unfoldable pub drop_princ : List ℕ → RowLists → RowLists
drop_princ name r = record { princs = drop_by (λ q. q.name) name r.princs; policies = r.policies }

unfoldable pub put_policy : Rules → RowLists → RowLists
put_policy p r = record { princs = r.princs; policies = put_by (λ q. q.name) p r.policies }

unfoldable pub drop_policy : List ℕ → RowLists → RowLists
drop_policy name r = record { princs = r.princs; policies = drop_by (λ q. q.name) name r.policies }

-- what an entry does, nothing at the base marker
unfoldable pub effect : Option Op → RowLists → RowLists
effect None r = r
effect (Some (PutPrinc p)) r = put_princ p r
effect (Some (DropPrinc name)) r = drop_princ name r
effect (Some (Rename old p)) r = put_princ p (drop_princ old r)
effect (Some (PutPolicy p)) r = put_policy p r
effect (Some (DropPolicy name)) r = drop_policy name r

-- no more rows than a database may have
abbrev pub IsRoom : RowLists → Type 0
IsRoom r = length r.princs + length r.policies ≤ most_rows
