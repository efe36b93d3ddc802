-- A database that is ended.
use Rattle.std.proofs.Common.{◌≡◌, ◌≢◌, ℕ, ◌≤◌, inl, inr, ⊎_elim, List, Option, Some, refl, sym, ap, ◌∙◌, arith}
use Rattle.std.specs.Prelude.{Result, Ok, Err}
use Rattle.std.proofs.lemmas.Bool.{cases_eq, eq-eqb, ne_eqb}
use Rattle.kdb_disk.specs.Files.{Files}
use Rattle.kdb_disk.specs.View.{View}
use Rattle.kdb_disk.specs.Moments.{LeavesOnly}
use Rattle.kdb_disk.proofs.Runs.{weaken}
use Rattle.kdb_control.specs.Choice.{Choice}
use Rattle.kdb_control.specs.Force.{in_force}
use Rattle.kdb_control.specs.declared.force.Force.{Force}
use Rattle.kdb_control.specs.declared.force.Force.TheVariants.{Nothing, Is}
use Rattle.kdb_control.specs.Moments.{HasInForce, Erases}
use Rattle.princ_rows.specs.declared.entries.Logged.{Logged}
use Rattle.update_log.specs.Runs.{log_in}
use Rattle.store_files.specs.Found.{stash_in, last_of, found_last, found_log, found_by, found_in}
use Rattle.store_files.specs.Recovery.{HasNone, RecoversToNone, Destroys}

found_none : (files : Files) → in_force (files 0) ≡ Nothing → HasNone files
unfolding found_in
found_none files force = ap (λ (f : Force). found_by f files) force

stash_same : (choice : Choice) (a b : Files) → (choice.stash ≢ 0 → a choice.stash ≡ b choice.stash)
    → stash_in choice a ≡ stash_in choice b
unfolding stash_in
stash_same choice a b same = ⊎_elim
    (λ none. rw (eq-eqb choice.stash 0 none) refl)
    (λ some. rw (ne_eqb choice.stash 0 some) (ap Some (same some)))
    (cases_eq choice.stash 0)

log_same : (choice : Choice) (a b : Files) (r : Result (List Logged) ℕ) → stash_in choice a ≡ stash_in choice b
    → a choice.image ≡ b choice.image
    → found_log choice a r ≡ found_log choice b r
log_same choice a b (Ok held) stash image =
    ap (λ (s : Option (List ℕ)). found_last choice held s (last_of choice.base held) (a choice.image)) stash
    ∙ ap (found_last choice held (stash_in choice b) (last_of choice.base held)) image
log_same choice a b (Err place) stash image = refl

-- what is found under a choice depends on the files but the control file
found_alike : (choice : Choice) (a b : Files) → 1 ≤ choice.image → 3 ≤ choice.log → in_force (a 0) ≡ Is choice
    → in_force (b 0) ≡ Is choice
    → ((g : ℕ) → g ≢ 0 → a g ≡ b g) → found_in a ≡ found_in b
unfolding found_in
found_alike choice a b image log here there same =
    let image_some : choice.image ≢ 0 = λ e. absurd (omega (arith, image, e)) in
    let log_some : choice.log ≢ 0 = λ e. absurd (omega (arith, log, e)) in
    ap (λ (f : Force). found_by f a) here
    ∙ ap (λ (l : List ℕ). found_log choice a (log_in choice.format choice.base choice.size choice.block l))
    (same choice.log log_some)
    ∙ log_same choice a b (log_in choice.format choice.base choice.size choice.block (b choice.log))
    (stash_same choice a b (λ some. same choice.stash some)) (same choice.image image_some)
    ∙ sym (ap (λ (f : Force). found_by f b) there)

pub erased_all : {old new : View} (choice : Choice) → 1 ≤ choice.image → 3 ≤ choice.log → HasInForce (Is choice) old
    → LeavesOnly old new (Erases choice old)
    → LeavesOnly old new (Destroys old)
erased_all {old} choice image log has run = weaken {P = Destroys old} run (λ c either. ⊎_elim
    (λ l. inl (record {
      before = l.before;
      was = l.was;
      same = found_alike choice c l.before image log l.here (has l.before l.was) l.others;
    }))
    (λ none. inr (found_none c none.is))
    either)

pub nothing_recovers : {v : View} → HasInForce Nothing v → RecoversToNone v
nothing_recovers has = record { each = λ c now. found_none c (has c now) }
