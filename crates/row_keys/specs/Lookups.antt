-- What is found among records by name, and how many there are of a kind. The same words over plain principals are in
-- kdb_plain.
use Rattle.std.specs.Prelude.{ℕ, Bool, not, ◌&&◌, nat_eq, List, [], ◌∷◌, length, filter, find, Option}
use Rattle.std.specs.Str.{bytes_eq}
use Rattle.master_keys.specs.First.{master_name}
use Rattle.princ_keys.specs.declared.keys.KeyItem.{KeyItem}
use Rattle.princ_record.specs.declared.princs.Princ.{Princ}
use Rattle.kdb_plain.specs.States.{is_name}

abbrev pub has_name : List ℕ → Princ → Bool
has_name name p = bytes_eq p.name name

-- the record of this printed name
unfoldable pub record_named : List ℕ → List Princ → Option Princ
record_named name princs = find (has_name name) princs

abbrev pub names_policy : List ℕ → Princ → Bool
names_policy name p = is_name name p.policy

-- how many records name this policy
unfoldable pub records_with_policy : List ℕ → List Princ → ℕ
records_with_policy name princs = length (filter (names_policy name) princs)

-- a record of another principal than K/M, under this version of the master key
abbrev pub is_protected : List ℕ → ℕ → Princ → Bool
is_protected realm version p = nat_eq p.mkvno version && not (bytes_eq p.name (master_name realm))

-- how many records of other principals than K/M the version protects
unfoldable pub records_under : List ℕ → List Princ → ℕ → ℕ
records_under realm princs version = length (filter (is_protected realm version) princs)

-- the version of a record's newest keys, 0 without a key. Versions never rise, so it is that of the first.
abbrev pub newest_version : List KeyItem → ℕ
newest_version [] = 0
newest_version (k ∷ keys) = k.kvno
