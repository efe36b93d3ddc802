use Rattle.std.proofs.Common.{rules}
use Rattle.std.proofs.lemmas.Fn.{always_returns_same}
use Rattle.tagged_data.specs.KeyOrder.{key_cmp}
use Rattle.princ_rows.proofs.Searches.{found_at, gap_at}
use Rattle.kdb_plain.specs.Strings.{key_of}
use Rattle.kdb_plain.proofs.strings.place_of.Goals as goal

pub returns-clause-found : goal.returns-clause-found
returns-clause-found c = λ at is.
    let facts = c.binary_search_by.ensures in
    let by_key = facts.position (λ x. key_cmp (key_of x) c.args.key.now)
    (always_returns_same _ _ _ (λ a r f' called. (search rules, search rules))) in
    found_at key_of c.args.items.now c.args.key.now at _ is facts.bound by_key

pub returns-clause-absent : goal.returns-clause-absent
returns-clause-absent c = λ at is.
    let facts = c.binary_search_by.ensures in
    let by_key = facts.position (λ x. key_cmp (key_of x) c.args.key.now)
    (always_returns_same _ _ _ (λ a r f' called. (search rules, search rules))) in
    gap_at key_of c.args.items.now c.args.key.now at _ is c.requires facts.bound by_key
