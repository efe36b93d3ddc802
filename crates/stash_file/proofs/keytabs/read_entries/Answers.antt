use Rattle.std.proofs.Common.{◌≡◌, ℕ, List, Err, refl, ap}
use Rattle.std.specs.declared.alloc.Global.{Global}
use Rattle.stash_file.specs.Answers.{GivesEntries, RefusesAt, told}
use Rattle.std.specs.Prelude.{map, Vec}
use Rattle.stash_file.specs.Keytabs.{has_key, IsBadKeytab, IsKeytab}
use Rattle.stash_file.specs.Pieces.{Told}
use Rattle.stash_file.specs.declared.faults.StashFault.{StashFault}
use Rattle.stash_file.specs.declared.faults.StashFault.TheVariants.{BadStash, MemoryOut}
use Rattle.stash_file.specs.declared.pieces.Entry.{Entry}
use Rattle.stash_file.proofs.Uniques.{one_keytab, no_bad_keytab, one_place}
use Rattle.stash_file.proofs.keytabs.read_entries.Goals as goal

no_keytab : (text : List ℕ) (fault : StashFault) → ((place : ℕ) → fault ≡ BadStash place → IsBadKeytab text place)
    → (entries : List Told) → IsKeytab text entries → GivesEntries (Err fault) entries
no_keytab text (BadStash place) bad entries f = no_bad_keytab text entries place f (bad place refl)
no_keytab text MemoryOut bad entries f = tt

this_place : (text : List ℕ) (fault : StashFault) → ((place : ℕ) → fault ≡ BadStash place → IsBadKeytab text place)
    → (place : ℕ) → IsBadKeytab text place → RefusesAt {A = Vec Entry Global} (Err fault) place
this_place text (BadStash at) bad place f = one_place has_key text at place (bad at refl) f
this_place text MemoryOut bad place f = tt

pub returns-in-Ok-clause-only : goal.returns-in-Ok-clause-only
returns-in-Ok-clause-only c =
    λ entries f. one_keytab c.args.bytes.now (map told c.in-Ok.entries.items) entries c.in-Ok.ensures.ok f

pub returns-in-Ok-clause-only_bad : goal.returns-in-Ok-clause-only_bad
returns-in-Ok-clause-only_bad c =
    λ place f. no_bad_keytab c.args.bytes.now (map told c.in-Ok.entries.items) place c.in-Ok.ensures.ok f

pub returns-in-Err-clause-only : goal.returns-in-Err-clause-only
returns-in-Err-clause-only c =
    no_keytab c.args.bytes.now c.in-Err.fault (λ place e. c.in-Err.ensures.bad place (ap Err e))

pub returns-in-Err-clause-only_bad : goal.returns-in-Err-clause-only_bad
returns-in-Err-clause-only_bad c =
    this_place c.args.bytes.now c.in-Err.fault (λ place e. c.in-Err.ensures.bad place (ap Err e))
