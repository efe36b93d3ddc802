use Rattle.std.proofs.Common.{rules}
use Rattle.std.proofs.lemmas.Fn.{always_returns_same}
use Rattle.tagged_data.specs.KeyOrder.{key_cmp}
use Rattle.princ_rows.proofs.Searches.{found_at, gap_at}
use Rattle.princ_rows.proofs.sorted.place_of.Goals as goal

pub returns-clause-found : goal.returns-clause-found
returns-clause-found g c = λ at is.
    let facts = c.binary_search_by.ensures in
    let by_key = facts.position (λ x. key_cmp (g.T.Keyed.key_of x) c.args.key.now)
    (always_returns_same _ _ _ (λ a r f' called. (search rules, search rules))) in
    found_at g.T.Keyed.key_of c.args.items.now c.args.key.now at _ is facts.bound by_key

pub returns-clause-absent : goal.returns-clause-absent
returns-clause-absent g c = λ at is.
    let facts = c.binary_search_by.ensures in
    let by_key = facts.position (λ x. key_cmp (g.T.Keyed.key_of x) c.args.key.now)
    (always_returns_same _ _ _ (λ a r f' called. (search rules, search rules))) in
    gap_at g.T.Keyed.key_of c.args.items.now c.args.key.now at _ is c.requires facts.bound by_key
