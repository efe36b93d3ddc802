-- Why a command is refused. Each cause stands for itself; where several hold, the first of their list is the answer.
use Rattle.std.specs.Prelude.{ℕ, ◌+◌, Bool, true, false, not, ◌&&◌, ◌||◌, nat_eq, nat_le}
use Rattle.std.specs.Prelude.{nat_lt, List, [], ◌∷◌, ◌++◌, length, min, Option, Some, None}
use Rattle.std.specs.Prelude.{is_none, is_some, option_map, option_and_then, if◌then◌else◌}
use Rattle.std.specs.List.{list_any}
use Rattle.std.specs.Str.{bytes_eq}
use Rattle.kadm_commands.specs.declared.commands.Command.{Command}
use Rattle.kadm_commands.specs.declared.commands.Command.TheVariants as command
use Rattle.kadm_commands.specs.declared.policies.PolicyChoice.{PolicyChoice}
use Rattle.kadm_commands.specs.declared.policies.PolicyChoice.TheVariants.{Named, Cleared}
use Rattle.kdb_base.specs.Key.{Key}
use Rattle.kdb_base.specs.Limits.{longest_row, most_keys, most_masters, most_rows, most_strings}
use Rattle.kdb_base.specs.declared.keys.Etype.{Etype}
use Rattle.kdb_base.specs.declared.outcomes.Refusal.{Refusal}
use Rattle.kdb_base.specs.declared.outcomes.Refusal.TheVariants as why
use Rattle.kdb_base.specs.declared.versions.Activation.{Activation}
use Rattle.kdb_base.specs.declared.versions.Master.{Master}
use Rattle.kdb_model.specs.Access.{denied_by, same_name}
use Rattle.kdb_model.specs.Calls.{Call, secs_of, is_last}
use Rattle.kdb_model.specs.Entries.{entry}
use Rattle.kdb_model.specs.Fields.{has_bit, lockdown_keys, needchange}
use Rattle.kdb_model.specs.Masters.{used_activations}
use Rattle.kdb_model.specs.Records.{added_policy, numbers_for}
use Rattle.kdb_plain.specs.declared.changes.PlainOp.{PlainOp}
use Rattle.kdb_plain.specs.declared.changes.PlainOp.TheVariants.{PutPrinc, DropPrinc, Rename}
use Rattle.kdb_plain.specs.declared.changes.PlainOp.TheVariants.{PutPolicy, DropPolicy, PutMasters}
use Rattle.plain_keys.specs.Keys.{is_password, is_reused, made_keys, newest_kvno}
use Rattle.kdb_plain.specs.Lengths.{chain_len, in_64_bits, row_len}
use Rattle.kdb_plain.specs.States.{has_policy, history_key, history_name, master_of, princ_named, users_of}
use Rattle.kdb_plain.specs.Strings.{has_room_for, has_string}
use Rattle.plain_keys.specs.declared.new_keys.NewKeys.{NewKeys}
use Rattle.plain_keys.specs.declared.new_keys.NewKeys.TheVariants.{Random, Password}
use Rattle.kdb_plain.specs.declared.princs.PlainPrinc.{PlainPrinc}
use Rattle.kdb_plain.specs.declared.states.State.{State}
use Rattle.key_activation.specs.Activations.{active}
use Rattle.master_keys.specs.First.{master_name}
use Rattle.master_keys.specs.Versions.{last_version}
use Rattle.policy_rules.specs.Numbers.{Numbers}
use Rattle.policy_rules.specs.Passwords.{is_short, has_few_classes}
use Rattle.princ_name.specs.Names.{NameParts, printed}

abbrev pub when : Bool → Refusal → Option Refusal
when holds refusal = if holds then Some refusal else None

-- ---- what a command is on

-- names that a change or an extraction is on
abbrev pub touched : Command → List NameParts
touched (command.AddPrinc c) = c.name ∷ []
touched (command.ModPrinc c) = c.name ∷ []
touched (command.ChangeKeys c) = c.name ∷ []
touched (command.RenPrinc c) = c.name ∷ c.new_name ∷ []
touched (command.DelPrinc name) = name ∷ []
touched (command.PurgeKeys c) = c.name ∷ []
touched (command.SetString c) = c.name ∷ []
touched (command.DelString c) = c.name ∷ []
touched (command.Extract name) = name ∷ []
touched _ = []

-- the name of a principal that is to be new
abbrev pub new_name : Command → Option NameParts
new_name (command.AddPrinc c) = Some c.name
new_name (command.RenPrinc c) = Some c.new_name
new_name _ = None

-- the name of the principal that has to be there
abbrev pub needed_name : Command → Option NameParts
needed_name (command.ModPrinc c) = Some c.name
needed_name (command.ChangeKeys c) = Some c.name
needed_name (command.RenPrinc c) = Some c.name
needed_name (command.DelPrinc name) = Some name
needed_name (command.GetPrinc name) = Some name
needed_name (command.PurgeKeys c) = Some c.name
needed_name (command.SetString c) = Some c.name
needed_name (command.DelString c) = Some c.name
needed_name (command.GetStrings name) = Some name
needed_name (command.Extract name) = Some name
needed_name _ = None

abbrev pub named_in : List PlainPrinc → NameParts → Option PlainPrinc
named_in princs name = princ_named (printed name) princs

-- that principal
unfoldable pub target : State → Command → Option PlainPrinc
target s command = option_and_then (named_in s.princs) (needed_name command)

-- the name of the policy that has to be there, beside that of a principal
abbrev pub needed_policy : Command → Option (List ℕ)
needed_policy (command.ModPolicy c) = Some c.name
needed_policy (command.DelPolicy name) = Some name
needed_policy (command.GetPolicy name) = Some name
needed_policy _ = None

abbrev pub new_keys : Command → Option NewKeys
new_keys (command.AddPrinc c) = c.keys
new_keys (command.ChangeKeys c) = Some c.keys
new_keys _ = None

abbrev pub password_of : NewKeys → Option (List ℕ)
password_of (Random etypes) = None
password_of (Password password etypes) = Some password

-- the password that it sets
abbrev pub password : Command → Option (List ℕ)
password command = option_and_then password_of (new_keys command)

-- what the password has to meet
abbrev pub password_numbers : State → Call → Command → Numbers
password_numbers s call (command.AddPrinc c) = numbers_for (added_policy s call c) s.policies
password_numbers s call other = numbers_for (option_and_then (λ (q : PlainPrinc). q.policy) (target s other)) s.policies

-- ---- the causes, in the order in which they are tried

-- a version becomes active that no master key has
abbrev pub unknown_master : State → Command → Option Refusal
unknown_master s (command.UseMaster c) = when (is_none (master_of s.masters c.version)) (why.UnknownMaster c.version)
unknown_master s _ = None

abbrev pub denied : State → Call → Option Refusal
denied s call = denied_by s.realm call.client call.command call.access

-- K/M and kadmin/history keep the database's own keys
unfoldable pub is_protected : List ℕ → NameParts → Bool
is_protected realm name = bytes_eq (printed name) (master_name realm) || bytes_eq (printed name) (history_name realm)

abbrev pub protected : State → Command → Option Refusal
protected s command = when (list_any (is_protected s.realm) (touched command)) why.Protected

-- what is to be added is there
abbrev pub is_duplicate : State → Command → Bool
is_duplicate s (command.AddPolicy p) = has_policy p.name s.policies
is_duplicate s other = is_some (option_and_then (named_in s.princs) (new_name other))

abbrev pub duplicate : State → Command → Option Refusal
duplicate s command = when (is_duplicate s command) why.Duplicate

abbrev pub unknown_principal : State → Command → Option Refusal
unknown_principal s command = when (is_some (needed_name command) && is_none (target s command)) why.UnknownPrincipal

abbrev pub is_locked : Option PlainPrinc → Bool
is_locked None = false
is_locked (Some q) = has_bit lockdown_keys q.attributes

-- the change leaves a principal whose keys are not locked down
abbrev pub unlocks : Option PlainOp → Bool
unlocks (Some (PutPrinc q)) = not (has_bit lockdown_keys q.attributes)
unlocks _ = false

-- what may not be done to a principal whose keys are locked down
abbrev pub breaks_lock : Option PlainOp → Command → Bool
breaks_lock change (command.ModPrinc c) = unlocks change
breaks_lock change (command.ChangeKeys c) = is_password c.keys
breaks_lock change (command.RenPrinc c) = true
breaks_lock change (command.DelPrinc name) = true
breaks_lock change (command.Extract name) = true
breaks_lock change _ = false

-- over a connection, which has an access list; on the own record too
abbrev pub locked_down : State → Call → Option PlainOp → Option Refusal
locked_down s call change =
    when (is_some call.access && is_locked (target s call.command) && breaks_lock change call.command) why.LockedDown

abbrev pub is_missing : State → Option (List ℕ) → Bool
is_missing s None = false
is_missing s (Some name) = not (has_policy name s.policies)

abbrev pub names_missing : State → Option PolicyChoice → Bool
names_missing s (Some (Named name)) = not (has_policy name s.policies)
names_missing s _ = false

abbrev pub puts_missing : State → Option PlainOp → Bool
puts_missing s (Some (PutPrinc q)) = is_missing s q.policy
puts_missing s _ = false

-- the named policy is not there, or the one that restrictions force
abbrev pub lacks_policy : State → Option PlainOp → Command → Bool
lacks_policy s change (command.AddPrinc c) = names_missing s c.policy || puts_missing s change
lacks_policy s change (command.ModPrinc c) = names_missing s c.policy || puts_missing s change
lacks_policy s change other = is_missing s (needed_policy other)

abbrev pub unknown_policy : State → Option PlainOp → Command → Option Refusal
unknown_policy s change command = when (lacks_policy s change command) why.UnknownPolicy

abbrev pub policy_in_use : State → Command → Option Refusal
policy_in_use s (command.DelPolicy name) =
    when (nat_lt 0 (users_of name s.princs)) (why.PolicyInUse (users_of name s.princs))
policy_in_use s _ = None

abbrev pub fails_by : (Numbers → List ℕ → Bool) → Numbers → Option (List ℕ) → Bool
fails_by test numbers None = false
fails_by test numbers (Some text) = test numbers text

abbrev pub too_short : State → Call → Option Refusal
too_short s call =
    when (fails_by is_short (password_numbers s call call.command) (password call.command)) why.PassTooShort

abbrev pub few_classes : State → Call → Option Refusal
few_classes s call =
    when (fails_by has_few_classes (password_numbers s call call.command) (password call.command)) why.PassClasses

-- a key of the password is one of the newest or of the remembered ones
abbrev pub reuses : Call → Command → Option PlainPrinc → Bool
reuses call (command.ChangeKeys c) (Some q) =
    is_password c.keys && is_reused (made_keys call.random c.name c.keys) q.keys q.old
reuses call _ _ = false

abbrev pub pass_reused : State → Call → Option Refusal
pass_reused s call = when (reuses call call.command (target s call.command)) why.PassReused

-- the least life of the keys that were set at a second is not over
abbrev pub soon_after : State → Call → PlainPrinc → ℕ → Option Refusal
soon_after s call q changed = when
    (not (has_bit needchange q.attributes)
    && nat_lt (secs_of s call) (changed + (numbers_for q.policy s.policies).min_life))
    (why.PassTooSoon (min (changed + (numbers_for q.policy s.policies).min_life) 4294967295))

abbrev pub soon : State → Call → Command → Option PlainPrinc → Option Refusal
soon s call (command.ChangeKeys c) (Some q) =
    if same_name call.client c.name then option_and_then (soon_after s call q) q.pw_changed else None
soon s call _ _ = None

-- over a connection a principal does not change the own keys again before that
abbrev pub too_soon : State → Call → Option Refusal
too_soon s call = if is_some call.access then soon s call call.command (target s call.command) else None

abbrev pub greatest_kvno : ℕ
greatest_kvno = 65535

abbrev pub has_last_kvno : Command → Option PlainPrinc → Bool
has_last_kvno (command.ChangeKeys c) (Some q) = nat_le greatest_kvno (newest_kvno q.keys)
has_last_kvno _ _ = false

abbrev pub puts_many_keys : Option PlainOp → Bool
puts_many_keys (Some (PutPrinc q)) = nat_lt most_keys (length q.keys)
puts_many_keys _ = false

-- no version is left for new keys, or there would be more keys than a principal may have
abbrev pub keys_full : State → Option PlainOp → Command → Option Refusal
keys_full s change command = when
    (has_last_kvno command (target s command) || (is_some (new_keys command) && puts_many_keys change)) why.KeysFull

abbrev pub lacks_string : Command → Option PlainPrinc → Bool
lacks_string (command.DelString c) (Some q) = not (has_string c.key q.strings)
lacks_string _ _ = false

abbrev pub unknown_string : State → Command → Option Refusal
unknown_string s command = when (lacks_string command (target s command)) why.UnknownString

abbrev pub lacks_room : Command → Option PlainPrinc → Bool
lacks_room (command.SetString c) (Some q) = not (has_room_for c.key q.strings)
lacks_room _ _ = false

-- an attribute more than a principal may have
abbrev pub strings_full : State → Command → Option Refusal
strings_full s command = when (lacks_room command (target s command)) (why.StringsFull most_strings)

-- no version more may be listed, or none is left
abbrev pub too_many_masters : State → Command → Option Refusal
too_many_masters s (command.AddMaster etype) =
    when (nat_le most_masters (length s.masters) || nat_le greatest_kvno (last_version s.masters))
    (why.TooManyMasters most_masters)
too_many_masters s _ = None

-- no version would be active
abbrev pub no_active_master : State → Call → Command → Option Refusal
no_active_master s call (command.UseMaster c) =
    when (is_none (active (used_activations s call c) (secs_of s call))) why.NoActiveMaster
no_active_master s call _ = None

abbrev pub adds_row : Command → Bool
adds_row (command.AddPrinc c) = true
adds_row (command.AddPolicy p) = true
adds_row _ = false

abbrev pub rows_full : State → Command → Option Refusal
rows_full s command =
    when (adds_row command && nat_le most_rows (length s.princs + length s.policies)) (why.RowsFull most_rows)

-- ---- the length of a row in a state

abbrev pub etype_of : Option Key → Option Etype
etype_of key = option_map (λ (k : Key). k.etype) key

abbrev pub len_by : Option Etype → Option Etype → PlainPrinc → ℕ
len_by (Some master) (Some history) q = row_len master history q
len_by _ _ q = 0

-- its keys under the master key of its version, its remembered keys under the history key
unfoldable pub len_under : List Master → Option Key → PlainPrinc → ℕ
len_under masters history q = len_by (etype_of (master_of masters q.mkvno)) (etype_of history) q

-- of a principal other than K/M
abbrev pub len_in : State → PlainPrinc → ℕ
len_in s q = len_under s.masters (history_key s.realm s.princs) q

-- the bytes of the row that a change puts; K/M has its chain beside
unfoldable pub bytes_put : State → Option PlainOp → ℕ
bytes_put s (Some (PutPrinc q)) = len_in s q
bytes_put s (Some (Rename old q)) = len_in s q
bytes_put s (Some (PutMasters q masters activations)) =
    len_under masters (history_key s.realm s.princs) q + chain_len masters activations
bytes_put s _ = 0

abbrev pub too_large : State → Option PlainOp → Option Refusal
too_large s change =
    when (nat_lt longest_row (bytes_put s change)) (why.RecordTooLarge (in_64_bits (bytes_put s change)))

-- the log is to start anew, and no later time is left for it
abbrev pub ended : State → Call → Option PlainOp → Option Refusal
ended s call change = when (is_some change && call.due && is_last s.point.time) why.TimeEnd

-- ---- the answer

-- the causes but for the end of time, where the command would make this change
unfoldable pub causes_with : State → Call → Option PlainOp → List (Option Refusal)
causes_with s call change =
    unknown_master s call.command
    ∷ denied s call
    ∷ protected s call.command
    ∷ duplicate s call.command
    ∷ unknown_principal s call.command
    ∷ locked_down s call change
    ∷ unknown_policy s change call.command
    ∷ policy_in_use s call.command
    ∷ too_short s call
    ∷ few_classes s call
    ∷ pass_reused s call
    ∷ too_soon s call
    ∷ keys_full s change call.command
    ∷ unknown_string s call.command
    ∷ strings_full s call.command
    ∷ too_many_masters s call.command
    ∷ no_active_master s call call.command
    ∷ rows_full s call.command
    ∷ too_large s change
    ∷ []

unfoldable pub first : List (Option Refusal) → Option Refusal
first [] = None
first (None ∷ others) = first others
first (Some refusal ∷ others) = Some refusal

-- Why the command is refused, where it is: the first cause that holds. The end of time is the last of them.
unfoldable pub refusal : State → Call → Option Refusal
refusal s call = first (causes_with s call (entry s call) ++ ended s call (entry s call) ∷ [])
