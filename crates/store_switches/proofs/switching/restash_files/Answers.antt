use Rattle.std.proofs.Common.{ℕ, ap, subst, ◌∙◌}
use Rattle.std.proofs.lemmas.Result.{on_ok_weaker}
use Rattle.kdb_disk.proofs.Puts.{with_file-other}
use Rattle.kdb_disk.specs.Files.{Files}
use Rattle.kdb_disk.specs.View.{IsAfter}
use Rattle.kdb_disk.specs.Moments.{LeavesOnly, Differs, Replaced}
use Rattle.store_switches.proofs.Switched.{stash_leaves, stash_begins, stash_on, force_kept}
use Rattle.store_switches.proofs.switching.restash_files.Goals as goal

pub returns-in_err-replace_file-clause-crash : goal.returns-in_err-replace_file-clause-crash
returns-in_err-replace_file-clause-crash g c tells k under =
    let old = g.D.Disk.view c.args.disk.now in
    let mid = g.D.Disk.view c.replace_file.new.disk in
    stash_begins c.args.next.now.stash c.args.bytes.now k under c.requires.spare
    (subst (λ (f : ℕ). LeavesOnly old mid (IsAfter (Differs f) old)) c.stash_file.ensures
    (c.replace_file.ensures.moments tells))

pub switch-requires-clause-now : goal.switch-requires-clause-now
switch-requires-clause-now g c tells =
    let old = g.D.Disk.view c.args.disk.now in
    let mid = g.D.Disk.view c.replace_file.new.disk in
    force_kept c.args.now.now c.args.next.now.stash c.requires.spare.control (c.requires.force tells)
    (subst (λ (f : ℕ). LeavesOnly old mid (IsAfter (Differs f) old)) c.stash_file.ensures
    (c.replace_file.ensures.moments tells))

pub returns-clause-crash : goal.returns-clause-crash
returns-clause-crash g c tells k under =
    let old = g.D.Disk.view c.args.disk.now in
    let mid = g.D.Disk.view c.replace_file.new.disk in
    stash_leaves k under (record {
      next_is = c.requires.next;
      spare = c.requires.spare;
      run = subst (λ (f : ℕ). LeavesOnly old mid (IsAfter (Differs f) old)) c.stash_file.ensures
          (c.replace_file.ensures.moments tells);
      replaced = subst (λ (f : ℕ). Replaced f c.args.bytes.now old mid) c.stash_file.ensures
          (c.in_ok-replace_file.ensures.ok tells);
      switch = c.switch.ensures.crash.told tells;
    })

pub returns-clause-on : goal.returns-clause-on
returns-clause-on g c tells k under =
    let old = g.D.Disk.view c.args.disk.now in
    let mid = g.D.Disk.view c.replace_file.new.disk in
    on_ok_weaker c.switch.result
    (λ set. stash_on k under (record {
      next_is = c.requires.next;
      spare = c.requires.spare;
      run = subst (λ (f : ℕ). LeavesOnly old mid (IsAfter (Differs f) old)) c.stash_file.ensures
          (c.replace_file.ensures.moments tells);
      replaced = subst (λ (f : ℕ). Replaced f c.args.bytes.now old mid) c.stash_file.ensures
          (c.in_ok-replace_file.ensures.ok tells);
      switch = c.switch.ensures.crash.told tells;
    }) set)
    (c.switch.ensures.ok tells)

pub returns-clause-others : goal.returns-clause-others
returns-clause-others g c tells =
    let old = g.D.Disk.view c.args.disk.now in
    let mid = g.D.Disk.view c.replace_file.new.disk in
    let put = subst (λ (f : ℕ). Replaced f c.args.bytes.now old mid) c.stash_file.ensures
    (c.in_ok-replace_file.ensures.ok tells) in
    on_ok_weaker c.switch.result
    (λ set f some other. set.others f some ∙ ap (λ (files : Files). files f) put.seen
    ∙ with_file-other c.args.next.now.stash f c.args.bytes.now old.seen other)
    (c.switch.ensures.ok tells)
