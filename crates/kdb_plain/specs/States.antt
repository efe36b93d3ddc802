-- What is found in a state, and which states are valid.
use Rattle.std.specs.Prelude.{ℕ, ◌≡◌, ◌+◌, ◌≤◌, Bool, true, false, nat_eq, List, [], ◌∷◌, ◌++◌}
use Rattle.std.specs.Prelude.{◌&&◌, nat_le, codes, length, map, filter, reverse, find, Option}
use Rattle.std.specs.Prelude.{Some, None, is_some, option_map, option_and_then, IfSome, IsTrue}
use Rattle.std.specs.List.{All, last_or, list_all}
use Rattle.std.specs.Str.{bytes_eq}
use Rattle.kdb_base.specs.Key.{Key}
use Rattle.kdb_base.specs.Limits.{most_rows}
use Rattle.kdb_base.specs.Moment.{Moment}
use Rattle.kdb_base.specs.Versions.{AreRising}
use Rattle.kdb_base.specs.declared.versions.Activation.{Activation}
use Rattle.kdb_base.specs.declared.versions.Master.{Master}
use Rattle.key_activation.specs.Activations.{active}
use Rattle.master_keys.specs.First.{master_name}
use Rattle.policy_rules.specs.Rules.{Rules}
use Rattle.princ_name.specs.Realms.{IsRealm}
use Rattle.princ_record.specs.Policies.{IsPolicy}
use Rattle.princ_rows.specs.Rows.{policy_keys}
use Rattle.tagged_data.specs.KeyOrder.{AreInOrder}
use Rattle.kdb_plain.specs.Lists.{princ_names}
use Rattle.plain_keys.specs.declared.items.PlainItem.{PlainItem}
use Rattle.kdb_plain.specs.declared.princs.PlainPrinc.{PlainPrinc}
use Rattle.kdb_plain.specs.declared.states.State.{State}

-- ---- by name and by version

abbrev pub is_named : List ℕ → PlainPrinc → Bool
is_named name q = bytes_eq q.name name

-- the principal of this printed name
unfoldable pub princ_named : List ℕ → List PlainPrinc → Option PlainPrinc
princ_named name princs = find (is_named name) princs

abbrev pub is_policy_named : List ℕ → Rules → Bool
is_policy_named name p = bytes_eq p.name name

-- the policy of this name
unfoldable pub policy_named : List ℕ → List Rules → Option Rules
policy_named name policies = find (is_policy_named name) policies

abbrev pub has_policy : List ℕ → List Rules → Bool
has_policy name policies = is_some (policy_named name policies)

abbrev pub is_name : List ℕ → Option (List ℕ) → Bool
is_name name None = false
is_name name (Some other) = bytes_eq other name

abbrev pub uses : List ℕ → PlainPrinc → Bool
uses name q = is_name name q.policy

-- how many principals name this policy
unfoldable pub users_of : List ℕ → List PlainPrinc → ℕ
users_of name princs = length (filter (uses name) princs)

abbrev pub is_version : ℕ → Master → Bool
is_version version m = nat_eq m.version version

-- the master key of a version
unfoldable pub master_of : List Master → ℕ → Option Key
master_of masters version = option_map (λ m. m.key) (find (is_version version) masters)

abbrev pub first_key : List PlainItem → Option Key
first_key [] = None
first_key (k ∷ keys) = Some k.key

-- the printed name of the principal whose key protects remembered keys
unfoldable pub history_name : List ℕ → List ℕ
history_name realm = codes "kadmin/history@" ++ realm

-- the key that protects remembered keys, in a database of this realm
unfoldable pub history_key : List ℕ → List PlainPrinc → Option Key
history_key realm princs =
    option_and_then (λ (q : PlainPrinc). first_key q.keys) (princ_named (history_name realm) princs)

-- ---- valid states

abbrev pub master_in : PlainItem → Master
master_in k = record { version = k.kvno; key = k.key }

abbrev pub newest_version : List Master → Option ℕ
newest_version masters = option_map (λ m. m.version) (last_or None masters)

-- K/M's keys are the master keys, the newest first, and it names the newest version
pub record HasMasters (s : State) : Type 0 where
  pub entry : PlainPrinc
  pub there : princ_named (master_name s.realm) s.princs ≡ Some entry
  pub keys : map master_in entry.keys ≡ reverse s.masters
  pub newest : Some entry.mkvno ≡ newest_version s.masters

-- kadmin/history has one key
pub record HasHistory (s : State) : Type 0 where
  pub entry : PlainPrinc
  pub there : princ_named (history_name s.realm) s.princs ≡ Some entry
  pub one : length entry.keys ≡ 1

abbrev pub IsListed : List Master → ℕ → Type 0
IsListed masters version = IsTrue (is_some (master_of masters version))

-- the policy of the principal, where it names one, is there
abbrev pub HasItsPolicy : List Rules → PlainPrinc → Type 0
HasItsPolicy policies q = IfSome q.policy (λ name. IsTrue (has_policy name policies))

-- a later key has no greater version
abbrev pub may_follow : PlainItem → PlainItem → Bool
may_follow k later = nat_le later.kvno k.kvno

unfoldable pub never_rise : List PlainItem → Bool
never_rise [] = true
never_rise (k ∷ keys) = list_all (may_follow k) keys && never_rise keys

-- the versions of the keys never rise along the list
abbrev pub NeverRise : List PlainItem → Type 0
NeverRise keys = IsTrue (never_rise keys)

-- The state is valid at a time. This speaks of no point, and holds at later times too; a valid state is one that is
-- valid at the time of its point.
pub record IsValid (time : Moment) (s : State) : Type 0 where
  pub realm : IsRealm s.realm
  pub princ_order : AreInOrder (princ_names s.princs)
  pub policy_order : AreInOrder (policy_keys s.policies)
  pub few : length s.princs + length s.policies ≤ most_rows
  pub policies : All IsPolicy s.policies
  pub policies_there : All (HasItsPolicy s.policies) s.princs
  pub falling : All (λ (q : PlainPrinc). NeverRise q.keys) s.princs
  pub masters : HasMasters s
  pub masters_rise : AreRising (map (λ (m : Master). m.version) s.masters)
  pub listed : All (λ (q : PlainPrinc). IsListed s.masters q.mkvno) s.princs
  pub activations : All (λ (a : Activation). IsListed s.masters a.version) s.activations
  pub activations_rise : AreRising (map (λ (a : Activation). a.version) s.activations)
  pub begun : IsTrue (is_some (active s.activations time.secs))
  pub history : HasHistory s

abbrev pub IsValidState : State → Type 0
IsValidState s = IsValid s.point.time s
