-- What a command asks of the access list, and what the list denies and restricts.
use Rattle.std.specs.Prelude.{ℕ, Bool, true, false, not, ◌&&◌, List, [], ◌∷◌, codes, filter}
use Rattle.std.specs.Prelude.{Option, Some, None, is_some, option_and_then, if◌then◌else◌}
use Rattle.std.specs.Str.{bytes_eq}
use Rattle.acl_text.specs.Decisions.{Decision, decision}
use Rattle.acl_text.specs.declared.limits.Limits.{Limits}
use Rattle.acl_text.specs.declared.rules.AclLine.{AclLine}
use Rattle.kadm_commands.specs.declared.commands.Command.{Command}
use Rattle.kadm_commands.specs.declared.commands.Command.TheVariants as command
use Rattle.kdb_base.specs.declared.outcomes.Refusal.{Refusal}
use Rattle.kdb_base.specs.declared.outcomes.Refusal.TheVariants.{Denied}
use Rattle.kdb_model.specs.Calls.{Call}
use Rattle.princ_name.specs.Names.{NameParts, printed}

-- an operation by its letter, its target, and whether a line with restrictions does not allow it
pub record Asking : Type 0 where
  pub letter : ℕ
  pub target : Option NameParts
  pub plainly : Bool

-- an operation on a principal
abbrev pub asking : ℕ → NameParts → Asking
asking letter name = record { letter = letter; target = Some name; plainly = false }

-- an operation without a target
abbrev pub asking_alone : ℕ → Asking
asking_alone letter = record { letter = letter; target = None; plainly = false }

-- ---- the letters of operations

abbrev pub adding : ℕ
adding = 97

abbrev pub changing : ℕ
changing = 99

abbrev pub deleting : ℕ
deleting = 100

abbrev pub extracting : ℕ
extracting = 101

abbrev pub inquiring : ℕ
inquiring = 105

abbrev pub listing : ℕ
listing = 108

abbrev pub modifying : ℕ
modifying = 109

abbrev pub propagating : ℕ
propagating = 112

abbrev pub setting : ℕ
setting = 115

-- the principal whose keys are the master keys
abbrev pub master_parts : List ℕ → NameParts
master_parts realm = record { parts = codes "K" ∷ codes "M" ∷ []; realm = realm }

-- what a command asks for, one after the other; a rename asks for a deletion and then for an addition without
-- restrictions
unfoldable pub asks : List ℕ → Command → List Asking
asks realm (command.AddPrinc c) = asking adding c.name ∷ []
asks realm (command.ModPrinc c) = asking modifying c.name ∷ []
asks realm (command.ChangeKeys c) = asking changing c.name ∷ []
asks realm (command.RenPrinc c) =
    asking deleting c.name ∷ record { letter = adding; target = Some c.new_name; plainly = true } ∷ []
asks realm (command.DelPrinc name) = asking deleting name ∷ []
asks realm (command.GetPrinc name) = asking inquiring name ∷ []
asks realm (command.ListPrincs glob) = asking_alone listing ∷ []
asks realm (command.PurgeKeys c) = asking modifying c.name ∷ []
asks realm (command.SetString c) = asking modifying c.name ∷ []
asks realm (command.DelString c) = asking modifying c.name ∷ []
asks realm (command.GetStrings name) = asking inquiring name ∷ []
asks realm (command.Extract name) = asking extracting name ∷ []
asks realm (command.AddPolicy p) = asking_alone adding ∷ []
asks realm (command.ModPolicy c) = asking_alone modifying ∷ []
asks realm (command.DelPolicy name) = asking_alone deleting ∷ []
asks realm (command.GetPolicy name) = asking_alone inquiring ∷ []
asks realm command.ListPolicies = asking_alone listing ∷ []
asks realm command.GetPrivs = []
asks realm (command.AddMaster etype) = asking setting (master_parts realm) ∷ []
asks realm (command.UseMaster c) = asking setting (master_parts realm) ∷ []
asks realm command.ListMasters = asking setting (master_parts realm) ∷ []
asks realm command.PurgeMasters = asking setting (master_parts realm) ∷ []
asks realm (command.RekeyPrincs glob) = asking setting (master_parts realm) ∷ []
asks realm command.Stash = asking setting (master_parts realm) ∷ []
asks realm command.Dump = asking_alone propagating ∷ []

-- ---- decisions

abbrev pub same_name : NameParts → NameParts → Bool
same_name a b = bytes_eq (printed a) (printed b)

-- everybody may change the own keys and look at the own record
abbrev pub is_own : NameParts → Command → Bool
is_own client (command.ChangeKeys c) = same_name client c.name
is_own client (command.GetPrinc name) = same_name client name
is_own client _ = false

abbrev pub allows : Asking → Decision → Bool
allows asked d = d.allowed && not (asked.plainly && is_some d.limits)

-- the first of these operations that is not allowed, by the line that decides on it, or line 0
unfoldable pub denied_in : List AclLine → NameParts → List Asking → Option Refusal
denied_in lines client [] = None
denied_in lines client (asked ∷ others) = if allows asked (decision lines client asked.letter asked.target)
    then denied_in lines client others
    else Some (Denied (decision lines client asked.letter asked.target).line)

-- without a list nothing is denied
abbrev pub denied_by : List ℕ → NameParts → Command → Option (List AclLine) → Option Refusal
denied_by realm client asked None = None
denied_by realm client asked (Some lines) =
    if is_own client asked then None else denied_in lines client (asks realm asked)

-- the restrictions of the line that decides on an operation on a principal
unfoldable pub limits_for : Call → ℕ → NameParts → Option Limits
limits_for call letter name =
    option_and_then (λ lines. (decision lines call.client letter (Some name)).limits) call.access

abbrev pub privileges_by : NameParts → Option (List AclLine) → List ℕ
privileges_by client None = codes "admcilspe"
privileges_by client (Some lines) = filter (λ letter. (decision lines client letter None).allowed) (codes "admcilspe")

-- the letters that are granted for operations without a target
unfoldable pub privileges : Call → List ℕ
privileges call = privileges_by call.client call.access
