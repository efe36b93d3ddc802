-- The slots of a log file: a gate of one byte, an entry, and zeros to the end of the block.
use Rattle.std.specs.Prelude.{ℕ, ◌+◌, ◌-◌, ◌*◌, ◌%◌, ◌≤◌, ◌≡◌, ◌≢◌, List, [], take, drop, length, slice_index, Some}
use Rattle.kdb_base.specs.declared.moments.Point.{Point}
use Rattle.kdb_format.specs.Readings.{padded}
use Rattle.princ_rows.specs.Entries.{logged_at, logged, IsLogged}
use Rattle.princ_rows.specs.declared.entries.Logged.{Logged}

-- the slot in which the entry of a serial stands: the log has one slot more than it holds entries
unfoldable pub slot_of : Point → ℕ → ℕ → ℕ
slot_of base size sno = (sno - base.sno) % (size + 1)

-- the bytes of a slot, as far as the file goes
unfoldable pub slot_bytes : ℕ → ℕ → List ℕ → List ℕ
slot_bytes block slot file = take block (drop (slot * block) file)

-- A slot of these bytes is whole, and its gate is a5 hexadecimal.
pub record IsOpen (block : ℕ) (bytes : List ℕ) : Type 0 where
  pub whole : length bytes ≡ block
  pub gate : slice_index bytes 0 ≡ 165

-- it is not whole, or has another gate
abbrev pub IsClosed : ℕ → List ℕ → Type 0
IsClosed block bytes = IsOpen block bytes → ⊥

-- behind the gate stands the entry, with zeros behind it
abbrev pub Spells : ℕ → List ℕ → Logged → Type 0
Spells block bytes entry = padded (block - 1) logged_at (drop 1 bytes) ≡ Some (entry, [])

-- The entry has a spelling, and a slot has room for it behind the gate.
pub record IsSpelled (block : ℕ) (entry : Logged) : Type 0 where
  pub fits : IsLogged entry
  pub short : length (logged entry) ≤ block - 1

-- The slot is open and spells the entry.
pub record Stands (block slot : ℕ) (file : List ℕ) (entry : Logged) : Type 0 where
  pub gate : IsOpen block (slot_bytes block slot file)
  pub spelled : Spells block (slot_bytes block slot file) entry

-- All slots but one are the same.
pub record SameBut (block slot : ℕ) (old new : List ℕ) : Type 0 where
  pub each : (i : ℕ) → i ≢ slot → slot_bytes block i new ≡ slot_bytes block i old

-- One slot is closed, and all others are the same.
pub record Shuts (block slot : ℕ) (old new : List ℕ) : Type 0 where
  pub others : SameBut block slot old new
  pub closed : IsClosed block (slot_bytes block slot new)

-- One slot has this body behind a closed gate, and all others are the same.
pub record Fills (block slot : ℕ) (body old new : List ℕ) : Type 0 where
  pub others : SameBut block slot old new
  pub whole : length (slot_bytes block slot new) ≡ block
  pub gate : slice_index (slot_bytes block slot new) 0 ≢ 165
  pub body_is : drop 1 (slot_bytes block slot new) ≡ body
