-- What comes of the bytes that a connection gives: the message that is due, or that there is none.
use Rattle.std.specs.Prelude.{ℕ, ◌≡◌, ◌≤◌, ◌<◌, ◌+◌, ◌++◌, true, false, List, [], drop}
use Rattle.std.specs.Prelude.{length, Option, Some, None, Result, Ok, Err, option_map}
use Rattle.iprop_links.specs.declared.inbox.Arrival.{Arrival}
use Rattle.iprop_links.specs.declared.halts.LinkHalt.{LinkHalt}
use Rattle.iprop_links.specs.declared.halts.LinkHalt.TheVariants as halt
use Rattle.iprop_links.specs.declared.inbox.Arrival.TheVariants as arrival
use Rattle.iprop_wire.specs.Decoding.{State, Broken, Waits, fed, fresh, is_going, taken}
use Rattle.iprop_wire.specs.Due.{narrowed}
use Rattle.iprop_wire.specs.declared.due.Due.{Due}
use Rattle.kdb_base.specs.Causes.{Rose}
use Rattle.kdb_ports.specs.Links.{Wire, before_received}

-- an inbox: what its bytes so far lead to, those that wait, and how many were received
pub record InboxState : Type 0 where
  pub state : State
  pub pending : List ℕ
  pub received : ℕ

-- the bytes that wait, and then what the connection is still to give, where the link tells it
abbrev pub coming : List ℕ → Option Wire → Option (List ℕ)
coming pending told = option_map (λ w. pending ++ w.left) told

-- how many bytes were received, and are still to come of the connection, where the link tells it
abbrev pub in_all : ℕ → Option Wire → Option ℕ
in_all received told = option_map (λ w. length w.left + received) told

-- What bytes lead to from this state on, up to the end of the first whole message in them. It is refused where they
-- are, or go on to, no message that is due.
abbrev pub led : Due → State → List ℕ → State
led d s bytes = narrowed d (fed s bytes)

-- of the bytes that were to come, from this state on: the message that is due ends in them and the others are left;
-- they end before it does; or none that is due goes on so
abbrev pub ArrivesOf : Due → Arrival → State → List ℕ → Option (List ℕ) → Type 0
ArrivesOf d (arrival.Came message) s before after =
    (led d s before ≡ Waits message) × (after ≡ Some (drop (taken s before) before))
ArrivesOf d arrival.Cut s before after = is_going (led d s before) ≡ true
ArrivesOf d arrival.Bad s before after = led d s before ≡ Broken

abbrev pub Arrives : Due → Arrival → State → Option (List ℕ) → Option (List ℕ) → Type 0
Arrives d a s None after = Unit {0}
Arrives d a s (Some before) after = ArrivesOf d a s before after

-- ---- one step of it

-- the same is still to come of these bytes from this state as of those from that one
pub record StepsTo (s : State) (before : List ℕ) (t : State) (after : List ℕ) : Type 0 where
  pub leads : fed t after ≡ fed s before
  pub left : drop (taken t after) after ≡ drop (taken s before) before

abbrev pub Steps : State → Option (List ℕ) → State → Option (List ℕ) → Type 0
Steps s None t after = Unit {0}
Steps s (Some before) t None = ⊥
Steps s (Some before) t (Some after) = StepsTo s before t after

-- a message came of the bytes that wait, or none can, or more has to come
abbrev pub Holds : Due → Result (Option Arrival) LinkHalt → State → Option (List ℕ) → State → Option (List ℕ) → Type 0
Holds d (Ok (Some a)) s before t after = Arrives d a s before after
Holds d (Ok None) s before t after = Steps s before t after
Holds d (Err halt) s before t after = Unit {0}

-- nothing comes any more, where it is told
abbrev pub IsOver : Option (List ℕ) → Type 0
IsOver None = Unit {0}
IsOver (Some bytes) = bytes ≡ []

-- ---- what a call leaves

-- the newest connection gave these bytes, and nothing else was done
pub record HasGiven (old new : Option Wire) : Type 0 where
  pub piece : List ℕ
  pub gave : old ≡ before_received piece new

-- It gave bytes. Without the last of them, 16384 at most, neither a message nor a refusal had come.
pub record Needs (d : Due) (s : State) (pending : List ℕ) (old new : Option Wire) : Type 0 where
  pub front : List ℕ
  pub last : List ℕ
  pub few : length last ≤ 16384
  pub gave : old ≡ before_received (front ++ last) new
  pub needed : is_going (led d s (pending ++ front)) ≡ true

-- it gave bytes, and neither had come with all of them
pub record WantsMore (d : Due) (s : State) (pending : List ℕ) (old new : Option Wire) : Type 0 where
  pub piece : List ℕ
  pub gave : old ≡ before_received piece new
  pub going : is_going (led d s (pending ++ piece)) ≡ true

-- a call is stopped by the link, or by how much came, only where more has to come
abbrev pub StopsShort : LinkHalt → Due → State → List ℕ → Option Wire → Option Wire → Type 0
StopsShort halt.MemoryOut d s pending old new = Unit {0}
StopsShort halt.LinkFault d s pending old new = WantsMore d s pending old new
StopsShort halt.InputTooLong d s pending old new = WantsMore d s pending old new

-- it gave bytes, and with all of them there was a message or a refusal
pub record HasEnded (d : Due) (s : State) (pending : List ℕ) (old new : Option Wire) : Type 0 where
  pub piece : List ℕ
  pub gave : old ≡ before_received piece new
  pub ended : is_going (led d s (pending ++ piece)) ≡ false

-- the peer ended, and fewer bytes were received in all than are received at most
pub record EndsEarly (received : ℕ) (after : Option (List ℕ)) : Type 0 where
  pub few : received < 4294967296
  pub over : IsOver after

-- Bytes that were to come of a connection that gives so many in all: those up to its 4294967296th came, with neither.
pub record IsUnended (d : Due) (bytes : List ℕ) (all : ℕ) : Type 0 where
  pub came : List ℕ
  pub left : List ℕ
  pub parts : bytes ≡ came ++ left
  pub count : 4294967296 + length left ≡ all
  pub going : is_going (led d fresh came) ≡ true

-- A count of faults does not fall, and the call fails by what it counts only where it rose.
pub record Counts (before now : ℕ) (failed : Type 0) : Type 0 where
  pub later : before ≤ now
  pub cause : failed → Rose before now
