use Rattle.std.proofs.Common.{◌≡◌, ◌-◌, Err, length, subst, ap, ◌∙◌}
use Rattle.std.specs.Option.{option_to_list}
use Rattle.stash_file.specs.Stashes.{IsBadAt}
use Rattle.stash_file.proofs.Steps.{less_left, one_more, breaks_here}
use Rattle.stash_file.proofs.reading.read_keys.Goals as goal

pub loop-reader-smaller : goal.loop-reader-smaller
loop-reader-smaller c =
    less_left c.loop-reader.reader (option_to_list c.in-Ok.key) c.read_key.new.reader c.in-Ok.ensures.found

pub loop-reader-preserved : goal.loop-reader-preserved
loop-reader-preserved c =
    let more = one_more c.args.bytes.now c.loop-reader.keys.items c.loop-reader.reader
    (option_to_list c.in-Ok.key) c.read_key.new.reader c.loop-reader.invariant c.in-Ok.ensures.found in
    rw c.in_ok-add-in-Ok.ensures more

pub returns-in-Err-Malformed-clause-bad : goal.returns-in-Err-Malformed-clause-bad
returns-in-Err-Malformed-clause-bad c = λ place e.
    let bad = breaks_here c.args.bytes.now c.loop-reader.keys.items c.loop-reader.reader c.loop-reader.invariant
    (c.is_end.ensures.going_on c.loop-reader-test.true)
    (c.read_key.ensures.none (c.in-Err-Malformed.is ∙ ap Err c.in-Err-Malformed.field-0-is)) in
    let len = c.len.ensures in
    let same : length c.args.bytes.now - length c.loop-reader.reader ≡ place = cc in
    subst (IsBadAt c.args.bytes.now) same bad
