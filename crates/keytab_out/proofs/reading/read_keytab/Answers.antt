use Rattle.std.proofs.Common.{◌≡◌, [], Err, arith, map, ap, ◌∙◌}
use Rattle.stash_file.specs.Answers.{told}
use Rattle.stash_file.specs.Keytabs.{IsBadKeytab}
use Rattle.keytab_out.proofs.Files.{few_held, not_bad, not_held, one_held, same_place}
use Rattle.keytab_out.proofs.Listed.{all_listed}
use Rattle.keytab_out.proofs.reading.read_keytab.Goals as goal

pub from_vec-requires : goal.from_vec-requires
from_vec-requires c = all_listed c.args.bytes.now (map told c.in-Ok.entries.items) c.in-Ok.ensures.ok

pub returns-in-Ok-clause-only : goal.returns-in-Ok-clause-only
returns-in-Ok-clause-only c = λ entries f. c.from_vec.ensures
    ∙ one_held c.args.bytes.now (map told c.in-Ok.entries.items) (search (arith)) c.in-Ok.ensures.ok entries f

pub returns-in-Ok-clause-only_bad : goal.returns-in-Ok-clause-only_bad
returns-in-Ok-clause-only_bad c =
    λ place bad. not_bad c.args.bytes.now (map told c.in-Ok.entries.items) c.in-Ok.ensures.ok place bad

pub returns-in-Ok-clause-few : goal.returns-in-Ok-clause-few
returns-in-Ok-clause-few c =
    rw c.from_vec.ensures (few_held c.args.bytes.now (map told c.in-Ok.entries.items) c.in-Ok.ensures.ok)

pub returns-in-Err-BadStash-clause-only : goal.returns-in-Err-BadStash-clause-only
returns-in-Err-BadStash-clause-only c = λ entries f.
    let bad : IsBadKeytab c.args.bytes.now c.in-Err-BadStash.place =
    c.read_entries.ensures.bad c.in-Err-BadStash.place (c.in-Err-BadStash.is ∙ ap Err c.in-Err-BadStash.field-0-is) in
    let some : c.args.bytes.now ≡ [] → ⊥ = search (arith) in
    not_held c.args.bytes.now c.in-Err-BadStash.place some bad entries f

pub returns-in-Err-BadStash-clause-only_bad : goal.returns-in-Err-BadStash-clause-only_bad
returns-in-Err-BadStash-clause-only_bad c = λ place f.
    let bad : IsBadKeytab c.args.bytes.now c.in-Err-BadStash.place =
    c.read_entries.ensures.bad c.in-Err-BadStash.place (c.in-Err-BadStash.is ∙ ap Err c.in-Err-BadStash.field-0-is) in
    same_place c.args.bytes.now c.in-Err-BadStash.place bad place f
