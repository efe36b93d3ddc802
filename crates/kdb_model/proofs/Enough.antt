-- What is known of a command that a line can give.
use Rattle.std.proofs.Common.{◌≡◌, ℕ, ◌+◌, ◌<◌, ◌≤◌, List, length, Option, Some, None, refl, sym, ap, subst, arith}
use Rattle.std.specs.Prelude.{IfSome}
use Rattle.kadm_commands.specs.Commands.{IsCommand, IsModPolicy, IsNewKeys}
use Rattle.kadm_commands.specs.declared.commands.AddPrinc.{AddPrinc}
use Rattle.kadm_commands.specs.declared.commands.ChangeKeys.{ChangeKeys}
use Rattle.kadm_commands.specs.declared.commands.Command.{Command}
use Rattle.kadm_commands.specs.declared.commands.Command.TheVariants as command
use Rattle.kadm_commands.specs.declared.commands.UseMaster.{UseMaster}
use Rattle.kadm_commands.specs.declared.policies.ModPolicy.{ModPolicy}
use Rattle.plain_keys.specs.Keys.{bytes_to_make}
use Rattle.plain_keys.specs.declared.new_keys.NewKeys.{NewKeys}
use Rattle.plain_keys.specs.declared.new_keys.NewKeys.TheVariants.{Random, Password}
use Rattle.plain_keys.proofs.Blocks.{once_drawn}

keys_enough : (keys : NewKeys) (random : List ℕ) → IsNewKeys keys → length random ≡ 2048
    → bytes_to_make keys ≤ length random
keys_enough (Random etypes) random is long = omega (arith, once_drawn etypes is.once)
keys_enough (Password password etypes) random is long = omega arith

pub change_enough : (realm : List ℕ) (cmd : Command) (k : ChangeKeys) (random : List ℕ) → cmd ≡ command.ChangeKeys k
    → IsCommand realm cmd → length random ≡ 2048 → bytes_to_make k.keys ≤ length random
unfolding IsCommand
change_enough realm cmd k random same is long = keys_enough k.keys random (subst (IsCommand realm) same is).1 long

some_enough : (keys : Option NewKeys) (random : List ℕ) → IfSome keys IsNewKeys → length random ≡ 2048
    → IfSome keys (λ keys. bytes_to_make keys ≤ length random)
some_enough None random is long = tt
some_enough (Some keys) random is long = keys_enough keys random is long

pub add_enough : (realm : List ℕ) (k : AddPrinc) (random : List ℕ) → IsCommand realm (command.AddPrinc k)
    → length random ≡ 2048 → IfSome k.keys (λ keys. bytes_to_make keys ≤ length random)
unfolding IsCommand
add_enough realm k random is long = some_enough k.keys random is.1 long

pub version_set : (realm : List ℕ) (u : UseMaster) → IsCommand realm (command.UseMaster u) → 1 ≤ u.version
unfolding IsCommand
version_set realm u is = let lt = is.0.from_one in omega arith

pub policy_of : (realm : List ℕ) (m : ModPolicy) → IsCommand realm (command.ModPolicy m) → IsModPolicy m
unfolding IsCommand
policy_of realm m is = is

pub version_in : (realm : List ℕ) (cmd : Command) (u : UseMaster) → cmd ≡ command.UseMaster u → IsCommand realm cmd
    → 1 ≤ u.version
version_in realm cmd u same is = version_set realm u (subst (IsCommand realm) same is)
