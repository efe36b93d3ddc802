-- What is read of an input, and which keytab it is.
use Rattle.std.specs.Prelude.{ℕ, ◌≡◌, ◌<◌, ◌≤◌, ◌⊎◌, List, length, take, ◌++◌, Option, IfSome}
use Rattle.session_base.specs.declared.halts.SessionHalt.{SessionHalt}
use Rattle.session_base.specs.declared.halts.SessionHalt.TheVariants as session
use Rattle.kdb_ports.specs.Told.{before_told}
use Rattle.keytab_out.specs.Keytabs.{Holds, IsBad}
use Rattle.stash_file.specs.Pieces.{Told}

-- the bytes of a keytab
abbrev pub longest_keytab : ℕ
longest_keytab = 1048576

-- how many bytes of an input are kept: one more, by which one that is too long is known
abbrev pub most_kept : ℕ
most_kept = 1048577

-- ---- what is kept of it

-- the front of what is told was kept
abbrev pub IsKept : Option (List ℕ) → List ℕ → Type 0
IsKept told kept = IfSome told (λ text. kept ≡ take most_kept text)

-- So many bytes were taken, and those are kept that fit behind the ones that were kept before.
pub record IsTaken (before now : Option (List ℕ)) (count : ℕ) (old new : List ℕ) : Type 0 where
  pub got : List ℕ
  pub count_is : length got ≡ count
  pub kept_is : new ≡ take most_kept (old ++ got)
  pub told : before ≡ before_told got now

-- how the reading of an input may be stopped
abbrev pub IsInputHalt : SessionHalt → Type 0
IsInputHalt session.MemoryOut = Unit {0}
IsInputHalt session.ReadFault = Unit {0}
IsInputHalt session.InputTooLong = Unit {0}
IsInputHalt other = ⊥

-- ---- what it is

-- a keytab with these entries
pub record IsKeytabInput (text : List ℕ) (entries : List Told) : Type 0 where
  pub within : length text ≤ longest_keytab
  pub holds : Holds text entries

-- longer than a keytab may be, which is told by the place of the first byte too many
pub record IsLongInput (text : List ℕ) (place : ℕ) : Type 0 where
  pub longer : longest_keytab < length text
  pub place_is : place ≡ longest_keytab

-- breaking the grammar of a keytab at this place
pub record IsBrokenInput (text : List ℕ) (place : ℕ) : Type 0 where
  pub within : length text ≤ longest_keytab
  pub bad : IsBad text place

-- no keytab, for what stands at this place
abbrev pub IsBadInput : List ℕ → ℕ → Type 0
IsBadInput text place = IsLongInput text place ⊎ IsBrokenInput text place
