-- An entry written into the log and opened.
use Rattle.std.proofs.Common.{◌≡◌, inl, Some}
use Rattle.kdb_disk.specs.View.{View}
use Rattle.kdb_disk.specs.Moments.{LeavesOnly}
use Rattle.kdb_disk.proofs.Runs.{weaken, at_end, then_on}
use Rattle.princ_rows.specs.declared.entries.Logged.{Logged}
use Rattle.update_log.specs.Logs.{Journal, log_committed}
use Rattle.update_log.specs.Moments.{HasLog, LeavesLog, LeavesEither}
use Rattle.store_files.specs.Found.{Found}
use Rattle.store_files.specs.Standing.{Holds, IsUnderWay, IsLogOf, IsChange}
use Rattle.store_files.proofs.Committing.{prepare_runs, open_runs, opened_pending}
use Rattle.kdb_store.specs.Parts.{ArePending}

-- it is written, and nothing is done yet
pub prepared_crash : {old new : View} (log : Journal) (o : Found) (l : Logged) → IsLogOf log o → Holds o old
    → IsChange o l
    → LeavesOnly old new (LeavesLog log old) → LeavesOnly old new (IsUnderWay l o)
prepared_crash log o l is holds change run =
    weaken (prepare_runs log o change.newer is holds run) (λ c stands. inl stands)

-- it is opened
pub opened_crash : {old mid new : View} (log : Journal) (o : Found) (l : Logged) → log.prepared ≡ Some l → IsLogOf log o
    → Holds o old → IsChange o l → LeavesOnly old mid (LeavesLog log old)
    → LeavesOnly mid new (LeavesEither log (log_committed log) mid)
    → LeavesOnly old new (IsUnderWay l o)
opened_crash {old} {mid} {new} log o l ready is holds change first next =
    let stands = prepare_runs log o change.newer is holds first in
    then_on {P = IsUnderWay l o} (prepared_crash log o l is holds change first)
    (open_runs log o l is ready change holds.files (at_end stands) next) (λ c way. way)

pub opened_each : {old mid new : View} (log : Journal) (o : Found) (l : Logged) → log.prepared ≡ Some l → IsLogOf log o
    → Holds o old → IsChange o l → LeavesOnly old mid (LeavesLog log old)
    → LeavesOnly mid new (LeavesEither log (log_committed log) mid)
    → HasLog (log_committed log) new → ArePending l o new
opened_each {old} {mid} {new} log o l ready is holds change first next has =
    let stands = prepare_runs log o change.newer is holds first in
    record { each = opened_pending log o l is ready change holds.files (at_end stands) next has }
