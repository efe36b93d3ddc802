-- What is kept in memory of a file of cells: to which unit each key leads.
use Rattle.std.specs.Prelude.{◌≢◌, ℕ, ◌+◌, ◌≤◌, ◌<◌, max, nat_eq, if◌then◌else◌, List, Option, Some, None}
use Rattle.std.specs.Str.{bytes_eq}

pub record Units : Type 0 where
  -- the unit of a key
  pub of : List ℕ → Option ℕ
  -- the number of the first unit past the file's end
  pub next : ℕ
  -- the unit that was given for the change that comes next
  pub placed : Option ℕ

-- no key leads to the unit
abbrev pub IsFree : ℕ → Units → Type 0
IsFree unit u = (key : List ℕ) → u.of key ≢ Some unit

-- The least unit from 1 on to which no key leads.
pub record IsLeastFree (unit : ℕ) (u : Units) : Type 0 where
  pub first : 1 ≤ unit
  pub free : IsFree unit u
  pub least : (i : ℕ) → 1 ≤ i → i < unit → IsFree i u → ⊥

-- no keys, and the first unit alone
abbrev pub no_units : Units
no_units = record { of = λ key. None; next = 1; placed = None }

-- the same, with another unit given
abbrev pub giving : Option ℕ → Units → Units
giving placed u = record { of = u.of; next = u.next; placed = placed }

-- ---- a unit changes

-- a key's unit, where it is another than this one
abbrev pub unless : ℕ → Option ℕ → Option ℕ
unless unit None = None
unless unit (Some i) = if nat_eq i unit then None else Some i

-- the unit is in the file, and no key leads to it
unfoldable pub freed : ℕ → Units → Units
freed unit u = record { of = λ key. unless unit (u.of key); next = max u.next (unit + 1); placed = None }

-- the unit is in the file, this key leads to it, and no other key does
unfoldable pub leading : List ℕ → ℕ → Units → Units
leading key unit u = record {
  of = λ k. if bytes_eq key k then Some unit else unless unit (u.of k);
  next = max u.next (unit + 1);
  placed = None;
}

-- ---- the first unit past the end joins the file

-- and this key leads to it
unfoldable pub more_led : List ℕ → Units → Units
more_led key u =
    record { of = λ k. if bytes_eq key k then Some u.next else u.of k; next = u.next + 1; placed = u.placed }

-- and no key leads to it
abbrev pub more_free : Units → Units
more_free u = record { of = u.of; next = u.next + 1; placed = u.placed }

-- and it is given for the change that comes next
abbrev pub more_given : Units → Units
more_given u = record { of = u.of; next = u.next + 1; placed = Some u.next }
