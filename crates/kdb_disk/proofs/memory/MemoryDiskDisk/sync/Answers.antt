use Rattle.std.proofs.Common.{List, sym, subst}
use Rattle.kdb_disk.specs.declared.record.Call.{Call}
use Rattle.kdb_disk.specs.View.{Looks}
use Rattle.kdb_disk.specs.Memory.{contents, view_of, IsKept}
use Rattle.kdb_disk.proofs.Records.{synced_alone, synced_looks}
use Rattle.kdb_disk.proofs.Kept.{either, kept_synced}
use Rattle.kdb_disk.proofs.memory.MemoryDiskDisk.sync.Goals as goal

pub invariant_of-self : goal.invariant_of-self
invariant_of-self c =
    let disk = c.args.self.now in
    record {
      kept = either c.record.result c.record.ensures.call c.record.ensures.same
          (λ is. subst (IsKept disk.start.items disk.files.items) (sym is)
          (kept_synced disk.start.items disk.files.items disk.calls.items c.args.file disk.kept c.requires))
          (λ is. subst (IsKept disk.start.items disk.files.items) (sym is) disk.kept);
    }

pub returns-clause-durable : goal.returns-clause-durable
unfolding view_of
returns-clause-durable c files now =
    let disk = c.args.self.now in
    let s = contents disk.start.items in
    synced_alone s disk.calls.items c.args.file c.requires files
    (subst (λ (calls : List Call). (view_of s calls).images files) c.in-Ok.ensures.call now)

pub returns-clause-looks : goal.returns-clause-looks
returns-clause-looks c =
    let disk = c.args.self.now in
    let s = contents disk.start.items in
    subst (λ (calls : List Call). Looks (view_of s disk.calls.items) (view_of s calls)) (sym c.in-Ok.ensures.call)
    (synced_looks s disk.calls.items c.args.file c.requires disk.kept.image)
