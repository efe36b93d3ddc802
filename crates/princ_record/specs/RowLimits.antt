-- Rows: what a principal and a policy are in a unit, an entry of the log or a dump, and how long they are.
use Rattle.std.proofs.Common.{◌≡◌, ℕ, ◌≤◌, Bool, ◌&&◌, [], length}
use Rattle.std.specs.Prelude.{nat_eq, nat_le}
use Rattle.kdb_base.specs.Limits.{longest_row, longest_row_1}
use Rattle.kdb_format.specs.Readings.{Reading, ◌>>=◌, checked, inside, big_at}
use Rattle.policy_rules.specs.Rules.{Rules}
use Rattle.princ_record.specs.Policies.{policy_at}
use Rattle.princ_record.specs.Princs.{princ_at, princ, IsPrinc}
use Rattle.princ_record.specs.declared.princs.Princ.{Princ}

-- a row of so many bytes is none too long
abbrev pub may_be_long : ℕ → Bool
may_be_long n = nat_le n longest_row

-- a record that may stand in a unit, an entry or a dump
pub record IsRow (p : Princ) : Type 0 where
  pub fits : IsPrinc p
  pub short : length (princ p) ≤ longest_row

-- the same in files of format 1 and dumps of version 1
pub record IsRow1 (p : Princ) : Type 0 where
  pub fits : IsPrinc p
  pub no_strings : p.strings ≡ []
  pub short : length (princ p) ≤ longest_row_1

-- as tests of a record that has a spelling
unfoldable pub is_row : Princ → Bool
is_row p = may_be_long (length (princ p))

unfoldable pub is_row_1 : Princ → Bool
is_row_1 p = nat_eq (length p.strings) 0 && nat_le (length (princ p)) longest_row_1

-- ---- with their length before them

unfoldable pub row_at : Reading Princ
row_at = do
  n ← checked may_be_long (big_at 2)
  inside n princ_at

unfoldable pub policy_row_at : Reading Rules
policy_row_at = do
  n ← big_at 2
  inside n policy_at
