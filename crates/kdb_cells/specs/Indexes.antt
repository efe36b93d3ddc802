-- How an index keeps the units of a file: entries of keys with their units, and a heap of the units to which no key
-- leads.
use Rattle.std.specs.Prelude.{◌≡◌, ℕ, ◌+◌, ◌≤◌, ◌<◌, ◌&&◌, nat_eq, nat_le, nat_lt, min}
use Rattle.std.specs.Prelude.{if◌then◌else◌, List, Vec, Option, Some, None, length, get_or}
use Rattle.std.specs.List.{sum_by}
use Rattle.std.specs.Map.{lookup}
use Rattle.std.specs.Ordering.{nat_cmp}
use Rattle.std.specs.Str.{bytes_eq}
use Rattle.std.specs.BinaryHeap.{IsHeap}
use Rattle.std.specs.declared.alloc.Global.{Global}
use Rattle.std.specs.declared.cmp.Reverse.{Reverse}
use Rattle.kdb_base.specs.Limits.{most_rows}
use Rattle.kdb_cells.specs.Sheets.{last_unit}
use Rattle.kdb_cells.specs.Leads.{Units}
use Rattle.kdb_cells.specs.declared.index.Placed.{Placed}
use Rattle.kdb_cells.specs.declared.index.Spot.{Spot}
use Rattle.kdb_cells.specs.declared.index.Spot.TheVariants.{Led, Taken, Next}

abbrev pub Entries : Type 0
Entries = List (Vec ℕ Global × ℕ)

abbrev pub Heap : Type 0
Heap = List (Reverse ℕ)

-- the unit of a key
unfoldable pub unit_of : Entries → List ℕ → Option ℕ
unit_of entries key = lookup (λ k. bytes_eq key k.items) entries

abbrev pub unit_given : Option Placed → Option ℕ
unit_given None = None
unit_given (Some p) = Some p.unit

-- what an index keeps, but for its heap
pub record Index : Type 0 where
  pub entries : Entries
  pub next : ℕ
  pub placed : Option ℕ

-- how many keys it has
abbrev pub count : Index → ℕ
count x = length x.entries

-- and what it says of the units
abbrev pub units : Index → Units
units x = record { of = unit_of x.entries; next = x.next; placed = x.placed }

-- ---- how often a unit is kept

abbrev pub one_at : ℕ → ℕ → ℕ
one_at i j = if nat_eq i j then 1 else 0

-- among the entries
unfoldable pub led : ℕ → Entries → ℕ
led i entries = sum_by (λ e. one_at i e.1) entries

-- in the heap
unfoldable pub waiting : ℕ → Heap → ℕ
waiting i heap = sum_by (λ r. one_at i r.0) heap

-- as the one that was taken from the heap
abbrev pub taken_at : ℕ → ℕ → Spot → ℕ
taken_at i unit (Led at) = 0
taken_at i unit Taken = one_at i unit
taken_at i unit Next = 0

abbrev pub given : ℕ → Option Placed → ℕ
given i None = 0
given i (Some p) = taken_at i p.unit p.spot

-- 1 for each unit of the file that may have a row
abbrev pub in_file : ℕ → ℕ → ℕ
in_file next i = if nat_le 1 i && (nat_lt i next && nat_le i last_unit) then 1 else 0

-- how many units were taken from the heap
abbrev pub taken_by : Spot → ℕ
taken_by (Led at) = 0
taken_by Taken = 1
taken_by Next = 0

abbrev pub taken : Option Placed → ℕ
taken None = 0
taken (Some p) = taken_by p.spot

-- the unit that was given is where its spot says
abbrev pub IsAtSpot : Entries → ℕ → ℕ → Spot → Type 0
IsAtSpot entries next unit (Led at) = (at < length entries) × ((d : Vec ℕ Global × ℕ) → (get_or entries at d).1 ≡ unit)
IsAtSpot entries next unit Taken = Unit {0}
IsAtSpot entries next unit Next = unit ≡ next

abbrev pub IsGiven : Entries → ℕ → Option Placed → Type 0
IsGiven entries next None = Unit {0}
IsGiven entries next (Some p) = IsAtSpot entries next p.unit p.spot

-- there is room for one entry more and for one free unit more, wherever a unit was given
abbrev pub HasRoom : ℕ → ℕ → ℕ → Option Placed → Type 0
HasRoom spare len capacity None = Unit {0}
HasRoom spare len capacity (Some p) = (0 < spare) × (len < capacity)

-- Each unit of the file is kept once: with one key, or in the heap, or as the one that was taken from it.
pub record IsIndex (entries : Entries) (heap : Heap) (next : ℕ) (placed : Option Placed) : Type 0 where
  pub each_once : (i : ℕ) → led i entries + (waiting i heap + given i placed) ≡ in_file next i
  pub in_order : IsHeap (λ x y. nat_cmp y.0 x.0) heap
  pub begun : 1 ≤ next
  pub few : length entries ≤ most_rows
  pub all : length entries + (length heap + taken placed) + 1 ≡ min next (last_unit + 1)
  pub spot : IsGiven entries next placed
