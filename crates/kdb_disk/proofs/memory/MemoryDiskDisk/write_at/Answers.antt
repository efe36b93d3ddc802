use Rattle.std.proofs.Common.{ℕ, List, length, sym, subst, ap, ◌≡◌, ◌≤◌, ◌∙◌, rules}
use Rattle.kdb_disk.specs.declared.record.Call.{Call}
use Rattle.kdb_disk.specs.Files.{written}
use Rattle.kdb_disk.specs.View.{Elapses, Follows, Torn, Looks}
use Rattle.kdb_disk.specs.Memory.{contents, view_of}
use Rattle.kdb_disk.proofs.Runs.{looks_as_torn}
use Rattle.kdb_disk.proofs.Records.{step_time, wrote_seen, wrote_crash}
use Rattle.kdb_disk.proofs.memory.MemoryDiskDisk.write_at.Goals as goal

pub returns-then-is_due-clause-crash : goal.returns-then-is_due-clause-crash
returns-then-is_due-clause-crash c = looks_as_torn c.args.file c.args.at (length c.args.bytes.now) c.fail.ensures.looks

pub returns-in_default-clause-crash : goal.returns-in_default-clause-crash
returns-in_default-clause-crash c =
    looks_as_torn c.args.file c.args.at (length c.args.bytes.now) c.fail-in_default.ensures.looks

pub record_write-requires : goal.record_write-requires
unfolding view_of
record_write-requires c =
    let disk = c.args.self.now in
    record {
      file = c.requires.file;
      files = disk.kept.seven;
      at = subst (λ (l : List ℕ). c.args.at ≤ length l) (sym (disk.kept.reads c.args.file)) c.requires.at;
      copy = search rules;
    }

pub invariant_of-self : goal.invariant_of-self
invariant_of-self c = record { kept = c.record_write.ensures.kept c.args.self.now.start.items c.args.self.now.kept }

pub returns-in-Ok-record_write-clause-seen : goal.returns-in-Ok-record_write-clause-seen
returns-in-Ok-record_write-clause-seen c =
    let disk = c.args.self.now in
    let s = contents disk.start.items in
    let seen = (view_of s disk.calls.items).seen in
    let copied : c.in-Ok.copy.items ≡ c.args.bytes.now = search rules in
    subst (λ (calls : List Call). (view_of s calls).seen ≡ written c.args.file c.args.at c.args.bytes.now seen)
    (sym c.in-Ok-record_write.ensures.call)
    (wrote_seen s disk.calls.items c.args.file c.requires.file c.args.at c.in-Ok.copy
    ∙ ap (λ (l : List ℕ). written c.args.file c.args.at l seen) copied)

pub returns-in-Ok-record_write-clause-crash : goal.returns-in-Ok-record_write-clause-crash
unfolding view_of
returns-in-Ok-record_write-clause-crash c =
    let disk = c.args.self.now in
    let s = contents disk.start.items in
    let copied : c.in-Ok.copy.items ≡ c.args.bytes.now = search rules in
    subst (λ (l : List ℕ). Follows (Torn c.args.file c.args.at (length l)) (view_of s disk.calls.items)
    (view_of s c.record_write.new.calls.items)) copied
    (subst (λ (calls : List Call). Follows (Torn c.args.file c.args.at (length c.in-Ok.copy.items))
    (view_of s disk.calls.items) (view_of s calls)) (sym c.in-Ok-record_write.ensures.call)
    (wrote_crash s disk.calls.items c.args.file c.requires.file c.args.at c.in-Ok.copy c.requires.at disk.kept.image))

pub returns-in-Ok-record_write-clause-time : goal.returns-in-Ok-record_write-clause-time
returns-in-Ok-record_write-clause-time c =
    let disk = c.args.self.now in
    let s = contents disk.start.items in
    subst (λ (calls : List Call). Elapses (view_of s disk.calls.items) (view_of s calls))
    (sym c.in-Ok-record_write.ensures.call) (step_time s _ disk.calls.items)

pub returns-in-Err-clause-crash : goal.returns-in-Err-clause-crash
returns-in-Err-clause-crash c =
    let s = contents c.args.self.now.start.items in
    looks_as_torn c.args.file c.args.at (length c.args.bytes.now)
    (subst (λ (calls : List Call).
    Looks (view_of s calls) (view_of (contents c.fail-in-Err.new.self.start.items) c.fail-in-Err.new.self.calls.items))
    c.in-Err.ensures.same c.fail-in-Err.ensures.looks)

pub returns-in-Ok-record_write-clause-call : goal.returns-in-Ok-record_write-clause-call
returns-in-Ok-record_write-clause-call c =
    let copied : c.in-Ok.copy.items ≡ c.args.bytes.now = search rules in
    record { held = c.in-Ok.copy; same = copied; is = c.in-Ok-record_write.ensures.call }
