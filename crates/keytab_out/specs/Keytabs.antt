-- What a file of keys is read as.
use Rattle.std.specs.Prelude.{◌≡◌, ℕ, List, [], Result, Ok, Err, ◌⊎◌}
use Rattle.stash_file.specs.Keytabs.{IsBadKeytab, IsKeytab}
use Rattle.stash_file.specs.Pieces.{Told}
use Rattle.keytab_out.specs.declared.faults.KeytabFault.{KeytabFault}
use Rattle.keytab_out.specs.declared.faults.KeytabFault.TheVariants.{BadKeytab, MemoryOut}

-- no bytes, which are a keytab without entries
pub record IsNew (text : List ℕ) (entries : List Told) : Type 0 where
  pub text_is : text ≡ []
  pub none : entries ≡ []

-- the entries that a file holds, in its order
abbrev pub Holds : List ℕ → List Told → Type 0
Holds text entries = IsNew text entries ⊎ IsKeytab text entries

-- a file that breaks the grammar at this place
pub record IsBad (text : List ℕ) (place : ℕ) : Type 0 where
  pub some : text ≡ [] → ⊥
  pub broken : IsBadKeytab text place

-- these entries, unless memory ran out
abbrev pub Gives : Result (List Told) KeytabFault → List Told → Type 0
Gives (Ok found) entries = found ≡ entries
Gives (Err (BadKeytab place)) entries = ⊥
Gives (Err MemoryOut) entries = Unit {0}

-- a refusal at this place, unless memory ran out
abbrev pub RefusesAt : Result (List Told) KeytabFault → ℕ → Type 0
RefusesAt (Ok found) place = ⊥
RefusesAt (Err (BadKeytab at)) place = at ≡ place
RefusesAt (Err MemoryOut) place = Unit {0}
