use Rattle.std.proofs.Common.{◌≡◌, rules, arith, List, [], ◌∷◌, length, get_or}
use Rattle.kdb_plain.specs.declared.princs.PlainPrinc.{PlainPrinc}
use Rattle.plan_tests.proofs.Alone.{three_alone, three_of}
use Rattle.plan_tests.proofs.opening.opened_all.Goals as goal

pub returns-in-Some : goal.returns-in-Some
returns-in-Some c =
    let xs = c.args.rows.now.princs in
    let a = c.get.result.now in
    let b = c.get-2.result.now in
    let d = c.get-3.result.now in
    let is_a : a ≡ get_or xs 0 a = search rules in
    let is_b : b ≡ get_or xs 1 b = search rules in
    let is_d : d ≡ get_or xs 2 d = search rules in
    let three : length xs ≡ 3 = search rules in
    let made : c.in-Some.princs ≡ c.in_ok-first.first ∷ c.in_ok-second.second ∷ c.in_ok-third.third ∷ [] =
    search rules in
    three_alone c.args.masters.now xs c.in-Some.princs a b d c.in_ok-first.first c.in_ok-second.second
    c.in_ok-third.third (three_of xs a b d three is_a is_b is_d) made
    c.in_ok-first.ensures c.in_ok-second.ensures c.in_ok-third.ensures
