-- Which versions of the master key serve, as MIT's kdb5_util purge_mkeys counts the versions that are in use; that the
-- active one, the newest one and one that is yet to become active serve too is this project's own rule.
use Rattle.std.specs.Prelude.{ℕ, ◌≡◌, ◌≢◌, ◌<◌, ◌⊎◌, Bool, not, ◌&&◌, nat_eq, nat_lt, List, length}
use Rattle.std.specs.Prelude.{map, filter, Option, Some, None, is_some, unwrap_or, if◌then◌else◌}
use Rattle.std.specs.List.{Any, list_any}
use Rattle.std.specs.Str.{bytes_eq}
use Rattle.kdb_base.specs.declared.versions.Activation.{Activation}
use Rattle.kdb_base.specs.declared.versions.Master.{Master}
use Rattle.key_activation.specs.Activations.{active}
use Rattle.master_keys.specs.First.{master_name}
use Rattle.master_keys.specs.Versions.{last_version}
use Rattle.kdb_plain.specs.declared.princs.PlainPrinc.{PlainPrinc}
use Rattle.serving_versions.specs.declared.serving.Cause.{Cause}
use Rattle.serving_versions.specs.declared.serving.Cause.TheVariants.{Protects, Active, Newest, Pending}
use Rattle.kdb_plain.specs.declared.states.State.{State}

-- ---- by the parts of a state

-- a principal other than K/M, under this version
abbrev pub is_under : List ℕ → ℕ → PlainPrinc → Bool
is_under realm version q = nat_eq q.mkvno version && not (bytes_eq q.name (master_name realm))

-- how many principals other than K/M the version protects
unfoldable pub protected_by : List ℕ → List PlainPrinc → ℕ → ℕ
protected_by realm princs version = length (filter (is_under realm version) princs)

abbrev pub is_version_of : ℕ → Option ℕ → Bool
is_version_of version active = is_some active && nat_eq (unwrap_or active 0) version

-- the version is active at these seconds
abbrev pub is_active_at : List Activation → ℕ → ℕ → Bool
is_active_at activations secs version = is_version_of version (active activations secs)

abbrev pub becomes_active : ℕ → ℕ → Activation → Bool
becomes_active secs version a = nat_eq a.version version && nat_lt secs a.secs

-- the version has an activation after these seconds
unfoldable pub is_pending : List Activation → ℕ → ℕ → Bool
is_pending activations secs version = list_any (becomes_active secs version) activations

-- why a version serves at these seconds, where it protects so many principals: the first cause that holds; None where
-- it does not serve
unfoldable pub cause_from : ℕ → List Master → List Activation → ℕ → ℕ → Option Cause
cause_from count masters activations secs version =
    if nat_lt 0 count then Some (Protects count)
    else if is_active_at activations secs version then Some Active
    else if nat_eq version (last_version masters) then Some Newest
    else if is_pending activations secs version then Some Pending
    else None

-- ---- of a state

unfoldable pub cause_of : State → ℕ → ℕ → Option Cause
cause_of s secs version = cause_from (protected_by s.realm s.princs version) s.masters s.activations secs version

abbrev pub serves : State → ℕ → ℕ → Bool
serves s secs version = is_some (cause_of s secs version)

-- the master keys that serve
unfoldable pub serving_masters : State → ℕ → List Master
serving_masters s secs = filter (λ (m : Master). serves s secs m.version) s.masters

-- the versions that do not
unfoldable pub dead_versions : State → ℕ → List ℕ
dead_versions s secs = filter (λ version. not (serves s secs version)) (map (λ (m : Master). m.version) s.masters)

-- ---- why a version serves, without an order of the causes

-- some principal other than K/M is under the version
abbrev pub HasPrincipal : State → ℕ → Type 0
HasPrincipal s version = Any (λ (q : PlainPrinc). (q.mkvno ≡ version) × (q.name ≢ master_name s.realm)) s.princs

-- the version has an activation after these seconds
abbrev pub HasActivationAfter : State → ℕ → ℕ → Type 0
HasActivationAfter s secs version = Any (λ (a : Activation). (a.version ≡ version) × (secs < a.secs)) s.activations

-- it protects a principal, is active, is the newest, or is yet to become active
abbrev pub HasCause : State → ℕ → ℕ → Type 0
HasCause s secs version =
    HasPrincipal s version
    ⊎ ((active s.activations secs ≡ Some version)
    ⊎ ((version ≡ last_version s.masters)
    ⊎ HasActivationAfter s secs version))
