-- The versions of master keys.
use Rattle.std.specs.Prelude.{ℕ, List, None, Bool, not, nat_eq, option_map, unwrap_or}
use Rattle.std.specs.List.{last_or, list_any}
use Rattle.kdb_base.specs.declared.versions.Master.{Master}

-- the version of the last master key, which is the greatest; 0 where there is none
unfoldable pub last_version : List Master → ℕ
last_version masters = unwrap_or (option_map (λ m. m.version) (last_or None masters)) 0

-- the version is not among the dead ones
unfoldable pub is_live : List ℕ → ℕ → Bool
is_live dead version = not (list_any (λ v. nat_eq v version) dead)
