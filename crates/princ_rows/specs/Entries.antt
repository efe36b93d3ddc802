-- Entries of the log: what a change does to the rows, and the point that it leads to.
use Rattle.std.proofs.Common.{ℕ, ◌+◌, ◌^◌, ◌<◌, List, [], ◌++◌, length, Option, Some, None}
use Rattle.std.specs.Prelude.{IsTrue, nat_eq, nat_lt, if◌then◌else◌}
use Rattle.std.specs.Str.{bytes_eq}
use Rattle.kdb_format.specs.Readings.{Reading, ◌>>=◌, ◌>>◌, done, checked, refuse, zeros_at, big_at, counted_at}
use Rattle.kdb_format.specs.Spellings.{big, counted}
use Rattle.kdb_format.specs.Moments.{point_at, point, IsPoint}
use Rattle.policy_rules.specs.Names.{is_policy_name}
use Rattle.princ_record.specs.Policies.{policy, IsPolicy}
use Rattle.princ_record.specs.Princs.{princ}
use Rattle.princ_name.specs.Printed.{is_printed, IsPrinted}
use Rattle.princ_record.specs.RowLimits.{IsRow, row_at, policy_row_at}
use Rattle.princ_rows.specs.declared.entries.Op.{Op}
use Rattle.princ_rows.specs.declared.entries.Op.TheVariants.{PutPrinc, DropPrinc, Rename, PutPolicy, DropPolicy}
use Rattle.princ_rows.specs.declared.entries.Entry.{Entry}
use Rattle.princ_rows.specs.declared.entries.Logged.{Logged}

-- ---- what an entry does, None at the base marker

-- the kind, the key and the row
abbrev pub kind_of : Option Op → ℕ
kind_of None = 0
kind_of (Some (PutPrinc p)) = 1
kind_of (Some (DropPrinc name)) = 2
kind_of (Some (Rename old p)) = 3
kind_of (Some (PutPolicy p)) = 4
kind_of (Some (DropPolicy name)) = 5

unfoldable pub key_of : Option Op → List ℕ
key_of None = []
key_of (Some (PutPrinc p)) = p.name
key_of (Some (DropPrinc name)) = name
key_of (Some (Rename old p)) = old
key_of (Some (PutPolicy p)) = p.name
key_of (Some (DropPolicy name)) = name

unfoldable pub row_of : Option Op → List ℕ
row_of None = []
row_of (Some (PutPrinc p)) = princ p
row_of (Some (DropPrinc name)) = []
row_of (Some (Rename old p)) = princ p
row_of (Some (PutPolicy p)) = policy p
row_of (Some (DropPolicy name)) = []

abbrev pub IsOp : Option Op → Type 0
IsOp None = Unit {0}
IsOp (Some (PutPrinc p)) = IsRow p
IsOp (Some (DropPrinc name)) = IsPrinted name
IsOp (Some (Rename old p)) = IsPrinted old × IsRow p
IsOp (Some (PutPolicy p)) = IsPolicy p
IsOp (Some (DropPolicy name)) = IsTrue (is_policy_name name)

-- an empty key and an empty row
abbrev pub base_at : Reading (Option Op)
base_at = do
  zeros_at 4
  done None

-- the row's name is the key
abbrev pub put_at : Reading (Option Op)
put_at = do
  key ← counted_at
  p ← checked (λ p. bytes_eq p.name key) row_at
  done (Some (PutPrinc p))

abbrev pub drop_at : Reading (Option Op)
drop_at = do
  name ← checked is_printed counted_at
  zeros_at 2
  done (Some (DropPrinc name))

abbrev pub rename_at : Reading (Option Op)
rename_at = do
  old ← checked is_printed counted_at
  p ← row_at
  done (Some (Rename old p))

abbrev pub put_policy_at : Reading (Option Op)
put_policy_at = do
  key ← counted_at
  p ← checked (λ p. bytes_eq p.name key) policy_row_at
  done (Some (PutPolicy p))

abbrev pub drop_policy_at : Reading (Option Op)
drop_policy_at = do
  name ← checked is_policy_name counted_at
  zeros_at 2
  done (Some (DropPolicy name))

unfoldable pub op_of : ℕ → Reading (Option Op)
op_of kind =
    if nat_eq kind 0 then base_at
    else if nat_eq kind 1 then put_at
    else if nat_eq kind 2 then drop_at
    else if nat_eq kind 3 then rename_at
    else if nat_eq kind 4 then put_policy_at
    else if nat_eq kind 5 then drop_policy_at
    else refuse

unfoldable pub op_text : Option Op → List ℕ
op_text op = counted (key_of op) ++ counted (row_of op)

-- ---- entries

-- in the log, where the number of the unit that the entry changes stands behind the kind
unfoldable pub logged_at : Reading Logged
logged_at = do
  point ← point_at
  kind ← big_at 1
  cell ← big_at 4
  op ← op_of kind
  done (record { entry = record { point = point; op = op }; cell = cell })

unfoldable pub logged : Logged → List ℕ
logged l = point l.entry.point ++ (big 1 (kind_of l.entry.op) ++ (big 4 l.cell ++ op_text l.entry.op))

pub record IsLogged (l : Logged) : Type 0 where
  pub point : IsPoint l.entry.point
  pub op : IsOp l.entry.op
  pub cell : l.cell < 2 ^ 32

-- on the wire, where no cell stands and no base marker
unfoldable pub sent_at : Reading Entry
sent_at = do
  point ← point_at
  kind ← checked (nat_lt 0) (big_at 1)
  op ← op_of kind
  done (record { point = point; op = op })

unfoldable pub sent : Entry → List ℕ
sent e = point e.point ++ (big 1 (kind_of e.op) ++ op_text e.op)

pub record IsSent (e : Entry) : Type 0 where
  pub point : IsPoint e.point
  pub change : 0 < kind_of e.op
  pub op : IsOp e.op

-- ---- lengths

-- in the log
abbrev pub entry_len : Option Op → ℕ
entry_len op = 21 + length (key_of op) + length (row_of op)
