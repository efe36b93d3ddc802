-- What is answered, unless memory runs out.
use Rattle.std.specs.Prelude.{◌≡◌, Result, Ok, Err}
use Rattle.kdb_base.specs.declared.outcomes.Halt.TheVariants.{MemoryOut}
use Rattle.kdb_base.specs.declared.outcomes.Refusal.{Refusal}
use Rattle.kdb_base.specs.declared.outcomes.Stop.{Stop}
use Rattle.kdb_base.specs.declared.outcomes.Stop.TheVariants as stop

-- this value
abbrev pub Gives : {A : Type 0} → Result A Stop → A → Type 0
Gives (Ok found) x = found ≡ x
Gives (Err (stop.Refused why)) x = ⊥
Gives (Err (stop.Halt halt)) x = halt ≡ MemoryOut

-- this refusal
abbrev pub Refuses : {A : Type 0} → Result A Stop → Refusal → Type 0
Refuses (Ok found) why = ⊥
Refuses (Err (stop.Refused other)) why = other ≡ why
Refuses (Err (stop.Halt halt)) why = halt ≡ MemoryOut
