-- How many principals name a policy, and how many are under a version of the master key.
use Rattle.std.specs.Prelude.{ℕ, Bool, false, not, ◌&&◌, nat_eq, List, length, filter, Option, Some, None}
use Rattle.std.specs.Str.{bytes_eq}
use Rattle.princ_name.specs.Printed.{is_master}
use Rattle.princ_record.specs.declared.princs.Princ.{Princ}

abbrev pub is_name : List ℕ → Option (List ℕ) → Bool
is_name name None = false
is_name name (Some other) = bytes_eq other name

abbrev pub names_policy : List ℕ → Princ → Bool
names_policy name p = is_name name p.policy

-- the principals that name the policy
unfoldable pub users_of : List ℕ → List Princ → ℕ
users_of name princs = length (filter (names_policy name) princs)

-- a principal other than K/M, under this version
abbrev pub is_under : ℕ → Princ → Bool
is_under version p = nat_eq p.mkvno version && not (is_master p.name)

-- the principals that the version protects
unfoldable pub protected_by : ℕ → List Princ → ℕ
protected_by version princs = length (filter (is_under version) princs)
