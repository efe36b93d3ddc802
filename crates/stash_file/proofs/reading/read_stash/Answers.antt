use Rattle.std.proofs.Common.{◌≡◌, ℕ, List, Err, refl, ap}
use Rattle.stash_file.specs.Answers.{Gives, RefusesAt}
use Rattle.stash_file.specs.Stashes.{has_master_key, IsStash, IsBadAt}
use Rattle.stash_file.specs.declared.faults.StashFault.{StashFault}
use Rattle.stash_file.specs.declared.faults.StashFault.TheVariants.{BadStash, MemoryOut}
use Rattle.stash_file.specs.declared.keys.StashKey.{StashKey}
use Rattle.stash_file.proofs.Uniques.{one_list, not_bad, one_place}
use Rattle.stash_file.proofs.reading.read_stash.Goals as goal

no_stash : (text : List ℕ) (fault : StashFault) → ((place : ℕ) → fault ≡ BadStash place → IsBadAt text place)
    → (keys : List StashKey) → IsStash text keys → Gives (Err fault) keys
no_stash text (BadStash place) bad keys f = not_bad text keys place f (bad place refl)
no_stash text MemoryOut bad keys f = tt

this_place : (text : List ℕ) (fault : StashFault) → ((place : ℕ) → fault ≡ BadStash place → IsBadAt text place)
    → (place : ℕ) → IsBadAt text place → RefusesAt {A = List StashKey} (Err fault) place
this_place text (BadStash at) bad place f = one_place has_master_key text at place (bad at refl) f
this_place text MemoryOut bad place f = tt

pub returns-in-Ok-clause-only : goal.returns-in-Ok-clause-only
returns-in-Ok-clause-only c =
    λ keys f. rw c.from_vec.ensures (one_list c.args.bytes.now c.in-Ok.keys.items keys c.in-Ok.ensures.ok f)

pub returns-in-Ok-clause-only_bad : goal.returns-in-Ok-clause-only_bad
returns-in-Ok-clause-only_bad c = λ place f. not_bad c.args.bytes.now c.in-Ok.keys.items place c.in-Ok.ensures.ok f

pub returns-in-Err-clause-only : goal.returns-in-Err-clause-only
returns-in-Err-clause-only c =
    no_stash c.args.bytes.now c.in-Err.fault (λ place e. c.in-Err.ensures.bad place (ap Err e))

pub returns-in-Err-clause-only_bad : goal.returns-in-Err-clause-only_bad
returns-in-Err-clause-only_bad c =
    this_place c.args.bytes.now c.in-Err.fault (λ place e. c.in-Err.ensures.bad place (ap Err e))
