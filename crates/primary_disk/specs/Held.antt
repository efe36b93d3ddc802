-- A primary that is open together with its disk.
use Rattle.std.specs.Prelude.{ℕ, ◌≡◌, Bool, true, false}
use Rattle.kadm_commands.specs.declared.commands.Command.{Command}
use Rattle.kadm_commands.specs.declared.commands.Command.TheVariants as command
use Rattle.kdb_disk.specs.declared.disk.Disk.{Ghosts}
use Rattle.kdb_places.specs.Places.{Place}
use Rattle.primary_core.specs.Dumping.{with_dumps}
use Rattle.primary_core.specs.Opened.{Opened, place_of}
use Rattle.store_files.specs.Kept.{IsOnDisk}

-- the disk, and what is open of it
pub record Held (D : Type 0) : Type 0 where
  pub disk : D
  pub opened : Opened

abbrev pub place_in : {D : Type 0} → Held D → Place
place_in h = place_of h.opened

-- a change failed by the disk
abbrev pub is_broken : {D : Type 0} → Held D → Bool
is_broken h = h.opened.kept.broken

-- Where the disk tells, what is open stands on it, unless a change failed by it.
abbrev pub Stands : {D : Type 0} → Ghosts D → D → Opened → Type 0
Stands g disk o = g.tells → o.kept.broken ≡ false → IsOnDisk o.kept (g.view disk)

-- the same disk and primary, with so many dumps under way
abbrev pub dumping : {D : Type 0} → ℕ → Held D → Held D
dumping dumps h = record { disk = h.disk; opened = with_dumps dumps h.opened }

-- the command that writes the stash
abbrev pub is_stash : Command → Bool
is_stash command.Stash = true
is_stash other = false
