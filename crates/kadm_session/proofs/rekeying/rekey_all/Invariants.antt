use Rattle.std.proofs.Common.{◌≡◌, ◌≤◌, drop, false}
use Rattle.kdb_histories.specs.Seen.{seen}
use Rattle.kdb_plain.specs.declared.states.State.{State}
use Rattle.primary_core.specs.Opened.{HasState, place_of}
use Rattle.store_files.specs.Kept.{IsOnDisk}
use Rattle.kadm_session.specs.RekeyedNames.{sum_of}
use Rattle.kadm_session.proofs.Moving.{IsUnderway}
use Rattle.kadm_session.proofs.rekeying.rekey_all.Given as goal

-- What is left comes to what all of them come to, and the disk holds the place of the primary.
abbrev pub invariant-loop-name : goal.invariant-loop-name
invariant-loop-name g l = record {
  goes : (s : State) → HasState l.fn.primary s
      → IsUnderway g.D.Disk l.fn.disk l.disk l.names (drop l.name-index l.names) l.now (g.E.Entropy.stream l.fn.entropy)
      (seen (place_of l.fn.primary) s) l.totals l.primary (g.E.Entropy.stream l.entropy);
  few : sum_of l.totals ≤ l.name-index;
  on : g.D.Disk.tells → IsOnDisk l.primary.kept (g.D.Disk.view l.disk);
  whole : l.primary.kept.broken ≡ false;
  realm : l.primary.kept.realm ≡ l.fn.primary.kept.realm;
  masters : l.primary.masters ≡ l.fn.primary.masters;
  same : g.D.Disk.loans l.disk ≡ g.D.Disk.loans l.fn.disk;
  disk : g.D.Disk.faults l.fn.disk ≤ g.D.Disk.faults l.disk;
  entropy : g.E.Entropy.faults l.fn.entropy ≤ g.E.Entropy.faults l.entropy;
}
