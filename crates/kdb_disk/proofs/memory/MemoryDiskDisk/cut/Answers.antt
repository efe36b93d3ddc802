use Rattle.std.proofs.Common.{List, sym, subst, take, ◌≡◌}
use Rattle.kdb_disk.specs.declared.record.Call.{Call}
use Rattle.kdb_disk.specs.Files.{with_file}
use Rattle.kdb_disk.specs.View.{Elapses, Follows, Frayed, Looks}
use Rattle.kdb_disk.specs.Memory.{contents, view_of, IsKept}
use Rattle.kdb_disk.proofs.Runs.{looks_as_frayed}
use Rattle.kdb_disk.proofs.Records.{step_time, cut_seen, cut_crash}
use Rattle.kdb_disk.proofs.Kept.{kept_cut}
use Rattle.kdb_disk.proofs.memory.MemoryDiskDisk.cut.Goals as goal

pub returns-then-is_due-clause-crash : goal.returns-then-is_due-clause-crash
returns-then-is_due-clause-crash c = looks_as_frayed c.args.file c.args.len c.fail.ensures.looks

pub returns-in_default-clause-crash : goal.returns-in_default-clause-crash
returns-in_default-clause-crash c =
    let s = contents c.args.self.now.start.items in
    looks_as_frayed c.args.file c.args.len
    (subst (λ (calls : List Call). Looks (view_of s calls) (view_of (contents c.fail-in_default.new.self.start.items)
    c.fail-in_default.new.self.calls.items)) c.in_default.ensures.same c.fail-in_default.ensures.looks)

pub invariant_of-self-2 : goal.invariant_of-self-2
invariant_of-self-2 c =
    let disk = c.args.self.now in
    record {
      kept = subst (IsKept disk.start.items c.cut_file.new.files.items) (sym c.in-Ok.ensures.call)
          (kept_cut disk.start.items disk.files.items c.cut_file.new.files.items disk.calls.items c.args.file c.args.len
          disk.kept c.requires.file c.cut_file.ensures.length c.cut_file.ensures.cut);
    }

pub returns-clause-seen : goal.returns-clause-seen
returns-clause-seen c =
    let disk = c.args.self.now in
    let s = contents disk.start.items in
    let seen = (view_of s disk.calls.items).seen in
    subst (λ (calls : List Call). (view_of s calls).seen ≡ with_file c.args.file (take c.args.len (seen c.args.file))
    seen) (sym c.in-Ok.ensures.call) (cut_seen s disk.calls.items c.args.file c.requires.file c.args.len)

pub returns-clause-crash : goal.returns-clause-crash
returns-clause-crash c =
    let disk = c.args.self.now in
    let s = contents disk.start.items in
    subst (λ (calls : List Call).
    Follows (Frayed c.args.file c.args.len) (view_of s disk.calls.items) (view_of s calls)) (sym c.in-Ok.ensures.call)
    (cut_crash s disk.calls.items c.args.file c.requires.file c.args.len disk.kept.image)

pub returns-clause-time : goal.returns-clause-time
returns-clause-time c =
    let disk = c.args.self.now in
    let s = contents disk.start.items in
    subst (λ (calls : List Call). Elapses (view_of s disk.calls.items) (view_of s calls)) (sym c.in-Ok.ensures.call)
    (step_time s _ disk.calls.items)
