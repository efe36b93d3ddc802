-- What a disk in memory holds. What is known of it follows from what its files held at first and its record of calls.
use Rattle.std.specs.Prelude.{ℕ, List, length}
use Rattle.kdb_disk.specs.declared.record.Call.{Call}
use Rattle.kdb_disk.specs.declared.memory.MemoryDisk.{MemoryDisk}
use Rattle.kdb_disk.specs.Files.{Files}
use Rattle.kdb_disk.specs.View.{View}
use Rattle.kdb_disk.specs.Memory.{contents, view_of}

-- what the files held at first
abbrev pub start_of : MemoryDisk → Files
start_of d = contents d.start.items

-- each call, the newest first
abbrev pub calls_of : MemoryDisk → List Call
calls_of d = d.calls.items

-- the number of the next call: the calls in the record are counted from 0
abbrev pub next_call : MemoryDisk → ℕ
next_call d = length d.calls.items

-- the calls that are to fail
abbrev pub fails_of : MemoryDisk → List ℕ
fails_of d = d.fails

-- how often it has failed
abbrev pub faults_of : MemoryDisk → ℕ
faults_of d = d.faults

-- what is known of it
abbrev pub known_of : MemoryDisk → View
known_of d = view_of (contents d.start.items) d.calls.items
