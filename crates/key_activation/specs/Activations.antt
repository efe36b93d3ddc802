-- Which version of the master key is active at some seconds since 1970. The active version is that of the
-- latest activation that is not after them (MIT's kdb5_util, use_mkey and list_mkeys); where two activations
-- begin in the same second, the greater version is this project's own rule.
use Rattle.std.specs.Prelude.{◌≡◌, ℕ, ◌<◌, ◌≤◌, ◌⊎◌, Bool, ◌&&◌, ◌||◌, not, if◌then◌else◌, nat_eq}
use Rattle.std.specs.Prelude.{nat_lt, nat_le, List, ◌∷◌, ◌++◌, Contains, Option, option_map, filter}
use Rattle.std.specs.List.{All, find, reduce}
use Rattle.kdb_base.specs.declared.versions.Activation.{Activation}

-- ---- the active version

-- the activations that are not after these seconds
unfoldable pub begun : ℕ → List Activation → List Activation
begun secs list = filter (λ a. nat_le a.secs secs) list

-- the activation begins before `at`, or at it with a version that is not greater
abbrev pub IsUpTo : ℕ → ℕ → Activation → Type 0
IsUpTo at version a = (a.secs < at) ⊎ ((a.secs ≡ at) × (a.version ≤ version))

-- the version has an activation that is not after these seconds, and none such is later
pub record IsActive (list : List Activation) (secs version : ℕ) : Type 0 where
  pub at : ℕ
  pub began : at ≤ secs
  pub listed : Contains list (record { version = version; secs = at })
  pub latest : All (λ a. a.secs ≤ secs → IsUpTo at version a) list

-- each activation is after these seconds
abbrev pub NoneBegun : List Activation → ℕ → Type 0
NoneBegun list secs = All (λ a. secs < a.secs) list

abbrev pub is_later : Activation → Activation → Bool
is_later a b = nat_lt b.secs a.secs || (nat_eq b.secs a.secs && nat_lt b.version a.version)

-- the one of two activations that begins later, or at a tie has the greater version
unfoldable pub later : Activation → Activation → Activation
later a b = if is_later a b then a else b

unfoldable pub latest : List Activation → Option Activation
latest list = reduce later list

-- the active version at these seconds, by a function: it is the one for which `IsActive` holds
unfoldable pub active : List Activation → ℕ → Option ℕ
active list secs = option_map (λ a. a.version) (latest (begun secs list))

-- ---- the activation of a version

-- versions count from 1
abbrev pub AreNumbered : List Activation → Type 0
AreNumbered list = All (λ a. 1 ≤ a.version) list

-- the seconds from which on the version may be active
unfoldable pub activation_of : ℕ → List Activation → Option ℕ
activation_of version list = option_map (λ a. a.secs) (find (λ a. nat_eq a.version version) list)

-- those of lower versions, this one, and those of greater versions
unfoldable pub with_activation : ℕ → ℕ → List Activation → List Activation
with_activation version secs list = filter (λ a. nat_lt a.version version) list
    ++ record { version = version; secs = secs } ∷ filter (λ a. nat_lt version a.version) list

-- those of other versions
unfoldable pub without_activation : ℕ → List Activation → List Activation
without_activation version list = filter (λ a. not (nat_eq a.version version)) list
