use Rattle.std.proofs.Common.{◌≡◌, ◌-◌, Err, length, map, subst, ap, ◌∙◌}
use Rattle.stash_file.specs.Answers.{told, told_list}
use Rattle.stash_file.specs.Keytabs.{IsBadKeytab}
use Rattle.stash_file.proofs.Steps.{less_told, one_more_told, keytab_breaks}
use Rattle.stash_file.proofs.keytabs.read_told.Goals as goal

pub loop-reader-smaller : goal.loop-reader-smaller
loop-reader-smaller c =
    less_told c.loop-reader.reader (told_list c.in-Ok.entry) c.read_passing.new.reader c.in-Ok.ensures.found

pub loop-reader-preserved : goal.loop-reader-preserved
loop-reader-preserved c =
    let more = one_more_told c.args.bytes.now (map told c.loop-reader.entries.items) c.loop-reader.reader
    (told_list c.in-Ok.entry) c.read_passing.new.reader c.loop-reader.invariant c.in-Ok.ensures.found in
    rw c.in_ok-keep-in-Ok.ensures more

pub returns-in-Err-Malformed-clause-bad : goal.returns-in-Err-Malformed-clause-bad
returns-in-Err-Malformed-clause-bad c = λ place e.
    let bad = keytab_breaks c.args.bytes.now (map told c.loop-reader.entries.items) c.loop-reader.reader
    c.loop-reader.invariant (c.is_end.ensures.going_on c.loop-reader-test.true)
    (c.read_passing.ensures.none (c.in-Err-Malformed.is ∙ ap Err c.in-Err-Malformed.field-0-is)) in
    let len = c.len.ensures in
    let same : length c.args.bytes.now - length c.loop-reader.reader ≡ place = cc in
    subst (IsBadKeytab c.args.bytes.now) same bad
