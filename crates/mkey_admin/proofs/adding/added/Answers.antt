use Rattle.std.proofs.Common.{◌≡◌, None, Some, rules, sym, ◌∙◌}
use Rattle.std.specs.List.{last_or}
use Rattle.kdb_model.specs.Masters.{new_etype, new_master}
use Rattle.mkey_admin.proofs.AddedMasters.{added_comes, has_room, made_key}
use Rattle.mkey_admin.proofs.OwnRecord.{entry_row}
use Rattle.mkey_admin.specs.KeptMasters.{confounders}
use Rattle.mkey_admin.proofs.adding.added.Goals as goal

pub add-requires-clause-few : goal.add-requires-clause-few
add-requires-clause-few c = (has_room c.args.given.now c.requires.front).0

pub add-requires-clause-greatest : goal.add-requires-clause-greatest
add-requires-clause-greatest c = (has_room c.args.given.now c.requires.front).1

pub put-requires : goal.put-requires
put-requires c = c.in_ok-made.ensures.spelled (entry_row c.args.given.now c.args.entry.now c.requires.entry).fits

pub returns : goal.returns
returns c =
    let g = c.args.given.now in
    let p = c.args.entry.now in
    let etype = new_etype c.args.asked c.in-Some.newest in
    let etype_is : c.new_etype-etype.result ≡ etype = search rules in
    let newest_is : last_or None g.masters.now ≡ Some c.in-Some.newest = sym c.newest_master.ensures ∙ c.in-Some.is in
    let key_is : c.from_bytes-key.result ≡ (new_master etype g.random.now g.masters.now).key =
    made_key g.random.now g.masters.now etype c.from_bytes-key.result (search rules) (search rules) in
    let bytes_are : c.confounders-confounders.result ≡ confounders etype g.random.now = search rules in
    added_comes g c.args.asked p c.in-Some.newest newest_is c.requires.front c.requires.entry
    (c.in_ok-holds_chain.ensures.yes (search rules)) c.from_bytes-key.result c.confounders-confounders.result
    key_is bytes_are
    c.in_ok-made.made c.in_ok-made.masters c.in_ok-made.ensures.entry c.in_ok-made.ensures.masters
    c.in_ok-made.ensures.chain (c.in_ok-made.ensures.spelled (entry_row g p c.requires.entry).fits)
    c.put.result c.put.ensures
