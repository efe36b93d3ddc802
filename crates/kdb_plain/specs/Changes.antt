-- Changes of a state by one principal or one policy.
use Rattle.std.specs.Prelude.{ℕ, ◌≡◌, ◌≢◌, ◌+◌, ◌≤◌, List, length}
use Rattle.kdb_base.specs.Limits.{most_rows}
use Rattle.master_keys.specs.First.{master_name}
use Rattle.policy_rules.specs.Rules.{Rules}
use Rattle.princ_rows.specs.Effects.{put_by, drop_by}
use Rattle.kdb_plain.specs.States.{NeverRise, history_name}
use Rattle.kdb_plain.specs.declared.changes.PlainOp.{PlainOp}
use Rattle.kdb_plain.specs.declared.changes.PlainOp.TheVariants.{PutPrinc, DropPrinc, Rename}
use Rattle.kdb_plain.specs.declared.changes.PlainOp.TheVariants.{PutPolicy, DropPolicy, PutMasters}
use Rattle.kdb_plain.specs.declared.princs.PlainPrinc.{PlainPrinc}
use Rattle.kdb_plain.specs.declared.states.State.{State}

abbrev pub name_of : PlainPrinc → List ℕ
name_of q = q.name

abbrev pub policy_name : Rules → List ℕ
policy_name p = p.name

-- the principal stands in its place, and takes that of another with its name
abbrev pub put_princ : PlainPrinc → State → State
put_princ q s = record s { princs = put_by name_of q s.princs }

-- no principal has the name
abbrev pub drop_princ : List ℕ → State → State
drop_princ name s = record s { princs = drop_by name_of name s.princs }

abbrev pub put_policy : Rules → State → State
put_policy p s = record s { policies = put_by policy_name p s.policies }

abbrev pub drop_policy : List ℕ → State → State
drop_policy name s = record s { policies = drop_by policy_name name s.policies }

-- ---- which changes keep a state valid

-- neither K/M nor kadmin/history, which keep the database's own keys
pub record IsOrdinary (realm name : List ℕ) : Type 0 where
  pub other_than_master : name ≢ master_name realm
  pub other_than_history : name ≢ history_name realm

-- not K/M; kadmin/history too, under whatever version of the master key, where it has one key
pub record MayBePut (realm : List ℕ) (q : PlainPrinc) : Type 0 where
  pub other_than_master : q.name ≢ master_name realm
  pub one_history_key : q.name ≡ history_name realm → length q.keys ≡ 1
  pub falling : NeverRise q.keys

-- ---- what a command changes

unfoldable pub effect_on : PlainOp → State → State
effect_on (PutPrinc q) s = put_princ q s
effect_on (DropPrinc name) s = drop_princ name s
effect_on (Rename old q) s = put_princ q (drop_princ old s)
effect_on (PutPolicy p) s = put_policy p s
effect_on (DropPolicy name) s = drop_policy name s
effect_on (PutMasters q masters activations) s = put_princ q (record s { masters = masters; activations = activations })

-- no more rows than a database may have
abbrev pub HasRoom : State → Type 0
HasRoom s = length s.princs + length s.policies ≤ most_rows

-- the change is of a principal other than K/M and kadmin/history, or of a policy
abbrev pub Spares : List ℕ → PlainOp → Type 0
Spares realm (PutPrinc q) = IsOrdinary realm q.name
Spares realm (DropPrinc name) = IsOrdinary realm name
Spares realm (Rename old q) = IsOrdinary realm old × IsOrdinary realm q.name
Spares realm (PutPolicy p) = Unit {0}
Spares realm (DropPolicy name) = Unit {0}
Spares realm (PutMasters q masters activations) = ⊥
