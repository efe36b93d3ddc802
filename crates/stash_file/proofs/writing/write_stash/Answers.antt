use Rattle.std.proofs.Common.{◌∙◌}
use Rattle.std.proofs.lemmas.List.{nil_from_length}
use Rattle.stash_file.specs.Written.{stash_text}
use Rattle.stash_file.proofs.Entries.{last_written, rest_written, all_written}
use Rattle.stash_file.proofs.writing.write_stash.Goals as goal

pub loop-master-preserved : goal.loop-master-preserved
loop-master-preserved c =
    let e = c.in_ok-push_piece.ensures in
    last_written c.args.realm.now c.args.secs c.loop-master.out.items c.push_piece.new.out.items c.args.masters.now
    c.loop-master.rest.now c.in-Some.older.now c.in-Some.master.now
    c.loop-master.invariant c.in-Some.ensures.cases.0 e.text e.fits e.told

pub returns-clause-text : goal.returns-clause-text
unfolding stash_text
returns-clause-text c =
    let written = rest_written c.args.realm.now c.args.secs c.loop-master.out.items c.args.masters.now
    c.loop-master.rest.now c.loop-master.invariant (nil_from_length _ c.in_default.ensures.cases) in
    c.from_vec.ensures ∙ written.text

pub returns-clause-read_back : goal.returns-clause-read_back
returns-clause-read_back c =
    let written = rest_written c.args.realm.now c.args.secs c.loop-master.out.items c.args.masters.now
    c.loop-master.rest.now c.loop-master.invariant (nil_from_length _ c.in_default.ensures.cases) in
    rw c.from_vec.ensures (all_written c.args.realm.now c.args.secs c.loop-master.out.items c.args.masters.now written)
