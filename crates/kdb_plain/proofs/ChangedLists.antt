-- Lists in order stay so where a record is put or dropped.
use Rattle.std.proofs.Common.{◌≡◌, ℕ, ◌≤◌, List, length, sym, subst, arith}
use Rattle.kdb_base.specs.Limits.{most_rows}
use Rattle.policy_rules.specs.Rules.{Rules}
use Rattle.princ_rows.specs.Effects.{put_by, drop_by}
use Rattle.princ_rows.proofs.Orders.{put_order, drop_order, drop_short}
use Rattle.kdb_plain.specs.Changes.{name_of, policy_name}
use Rattle.kdb_plain.specs.Lists.{ArePolicies, ArePrincs}
use Rattle.kdb_plain.specs.declared.princs.PlainPrinc.{PlainPrinc}

pub princs_with : (q : PlainPrinc) (xs ys : List PlainPrinc) → ArePrincs xs → length (put_by name_of q xs) ≤ most_rows
    → ys ≡ put_by name_of q xs → ArePrincs ys
princs_with q xs ys f room is = subst ArePrincs (sym is) (record { order = put_order name_of q xs f.order; few = room })

pub princs_without : (name : List ℕ) (xs ys : List PlainPrinc) → ArePrincs xs → ys ≡ drop_by name_of name xs
    → ArePrincs ys
princs_without name xs ys f is =
    let few = f.few in
    subst ArePrincs (sym is)
    (record { order = drop_order name_of name xs f.order; few = omega (arith, drop_short name_of name xs) })

pub policies_with : (p : Rules) (xs ys : List Rules) → ArePolicies xs → length (put_by policy_name p xs) ≤ most_rows
    → ys ≡ put_by policy_name p xs → ArePolicies ys
policies_with p xs ys f room is =
    subst ArePolicies (sym is) (record { order = put_order policy_name p xs f.order; few = room })

pub policies_without : (name : List ℕ) (xs ys : List Rules) → ArePolicies xs → ys ≡ drop_by policy_name name xs
    → ArePolicies ys
policies_without name xs ys f is =
    let few = f.few in
    subst ArePolicies (sym is)
    (record { order = drop_order policy_name name xs f.order; few = omega (arith, drop_short policy_name name xs) })
