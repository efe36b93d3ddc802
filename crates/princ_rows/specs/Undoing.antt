-- Changes of rows that can be taken back, by the places that they changed.
use Rattle.std.proofs.Common.{◌≡◌, ◌≢◌, ℕ, ◌<◌, Bool, true, List, length, set, Option, Some, None, ◌⊎◌}
use Rattle.std.specs.Prelude.{not}
use Rattle.std.specs.List.{All, insert, remove}
use Rattle.std.specs.Str.{bytes_eq}
use Rattle.princ_rows.specs.Rows.{RowLists, AreRows}
use Rattle.princ_rows.specs.Effects.{drop_by}
use Rattle.princ_rows.specs.declared.entries.Op.{Op}
use Rattle.princ_rows.specs.declared.entries.Op.TheVariants as op
use Rattle.princ_rows.specs.declared.sorted.RowBack.{RowBack}
use Rattle.princ_rows.specs.declared.sorted.RowBack.TheVariants.{Added, Replaced, Moved}
use Rattle.princ_rows.specs.declared.begun.Begun.{Begun}
use Rattle.princ_rows.specs.declared.begun.Begun.TheVariants.{PutPrinc, DropPrinc, PutPolicy, DropPolicy}

-- ---- one record

-- the records before the change
unfoldable pub row_back : {X : Type 0} → RowBack X → List X → List X
row_back (Added at) xs = remove xs at
row_back (Replaced at was) xs = set xs at was
row_back (Moved from to was) xs = insert (remove xs to) from was

-- its places are places of these records
abbrev pub IsPlaceOf : {X : Type 0} → RowBack X → List X → Type 0
IsPlaceOf (Added at) xs = at < length xs
IsPlaceOf (Replaced at was) xs = at < length xs
IsPlaceOf (Moved from to was) xs = (from < length xs) × (to < length xs)

-- ---- the rows

-- A rename keeps the name, or takes one that no row has.
abbrev pub IsNewName : Op → RowLists → Type 0
IsNewName (op.PutPrinc p) r = Unit {0}
IsNewName (op.DropPrinc name) r = Unit {0}
IsNewName (op.Rename old p) r = (p.name ≡ old) ⊎ All (λ q. q.name ≢ p.name) r.princs
IsNewName (op.PutPolicy p) r = Unit {0}
IsNewName (op.DropPolicy name) r = Unit {0}

-- the principal, and the policy, that is still to be taken away
abbrev pub dropped_princ : Begun → Option (List ℕ)
dropped_princ (PutPrinc b) = None
dropped_princ (DropPrinc name) = Some name
dropped_princ (PutPolicy b) = None
dropped_princ (DropPolicy name) = None

abbrev pub dropped_policy : Begun → Option (List ℕ)
dropped_policy (PutPrinc b) = None
dropped_policy (DropPrinc name) = None
dropped_policy (PutPolicy b) = None
dropped_policy (DropPolicy name) = Some name

-- the records without that of the key, if there is one
abbrev pub without : {X : Type 0} → (X → List ℕ) → Option (List ℕ) → List X → List X
without key_of None xs = xs
without key_of (Some key) xs = drop_by key_of key xs

-- the record's key is another than that one
abbrev pub is_left : {X : Type 0} → (X → List ℕ) → Option (List ℕ) → X → Bool
is_left key_of None x = true
is_left key_of (Some key) x = not (bytes_eq (key_of x) key)

-- the rows where the change is finished
unfoldable pub finished : Begun → RowLists → RowLists
finished b r = record {
  princs = without (λ p. p.name) (dropped_princ b) r.princs;
  policies = without (λ p. p.name) (dropped_policy b) r.policies;
}

-- the rows where the change is taken back
unfoldable pub undone : Begun → RowLists → RowLists
undone (PutPrinc b) r = record { princs = row_back b r.princs; policies = r.policies }
undone (DropPrinc name) r = r
undone (PutPolicy b) r = record { princs = r.princs; policies = row_back b r.policies }
undone (DropPolicy name) r = r

abbrev pub ArePlaces : Begun → RowLists → Type 0
ArePlaces (PutPrinc b) r = IsPlaceOf b r.princs
ArePlaces (DropPrinc name) r = Unit {0}
ArePlaces (PutPolicy b) r = IsPlaceOf b r.policies
ArePlaces (DropPolicy name) r = Unit {0}

-- the change can be taken back from these rows
pub record IsBegun (b : Begun) (r : RowLists) : Type 0 where
  pub places : ArePlaces b r
  pub rows : AreRows (undone b r)
