-- What can be computed of a command before it is judged: the keys of its password.
use Rattle.std.specs.Prelude.{List, [], Option, Some, None}
use Rattle.kadm_commands.specs.declared.commands.Command.{Command}
use Rattle.kadm_commands.specs.declared.commands.Command.TheVariants as command
use Rattle.kdb_base.specs.Key.{Key}
use Rattle.plain_keys.specs.Keys.{made_keys}
use Rattle.plain_keys.specs.declared.new_keys.NewKeys.{NewKeys}
use Rattle.plain_keys.specs.declared.new_keys.NewKeys.TheVariants.{Random, Password}
use Rattle.princ_name.specs.Names.{NameParts}

-- a password's keys take nothing of the block, and random ones are not ready before it
abbrev pub password_made : NameParts → NewKeys → List Key
password_made name (Random etypes) = []
password_made name (Password password etypes) = made_keys [] name (Password password etypes)

abbrev pub ready_new : NameParts → Option NewKeys → List Key
ready_new name None = []
ready_new name (Some keys) = password_made name keys

unfoldable pub ready_keys : Command → List Key
ready_keys (command.AddPrinc c) = ready_new c.name c.keys
ready_keys (command.ChangeKeys c) = password_made c.name c.keys
ready_keys _ = []
