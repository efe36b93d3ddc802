use Rattle.std.proofs.Common.{◌≡◌, [], rules}
use Rattle.mkey_admin.proofs.PurgedMasters.{empty_list, purge_answers, purge_refused}
use Rattle.mkey_admin.specs.Plans.{grounds_of}
use Rattle.mkey_admin.specs.Told.{dead_told, versions_told}
use Rattle.mkey_admin.proofs.purging.plan_purge.Goals as goal

pub returns-then-is_empty : goal.returns-then-is_empty
returns-then-is_empty c =
    let g = c.args.given.now in
    let part = c.in_ok-part-in-None.part.now in
    let rows_are : c.in_ok-rows-in-None.rows ≡ versions_told (grounds_of g part.activations) = search rules in
    let dead_are : c.in_ok-dead-in-None.dead.items ≡ dead_told c.in_ok-rows-in-None.rows = search rules in
    let none : c.in_ok-dead-in-None.dead.items ≡ [] = empty_list c.in_ok-dead-in-None.dead.items (search rules) in
    purge_answers g c.in_ok-why.field-0 c.in_ok-why.ensures c.in-None.is c.in_ok-entry-in-None.entry.now
    c.in_ok-entry-in-None.ensures c.in_ok-rows-in-None.rows c.in_ok-dead-in-None.dead.items
    (record { part = part; part_is = c.in_ok-part-in-None.ensures; rows_are = rows_are; dead_are = dead_are }) none

pub returns-in-Some : goal.returns-in-Some
returns-in-Some c = purge_refused c.args.given.now c.in_ok-why.field-0 c.in_ok-why.ensures c.in-Some.why c.in-Some.is
