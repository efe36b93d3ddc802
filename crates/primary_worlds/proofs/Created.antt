-- The first stage is that of a creation.
use Rattle.std.proofs.Common.{◌≡◌, ◌<◌, ◌≤◌, ◌^◌, ℕ, List, [], Some, refl, arith}
use Rattle.std.specs.Prelude.{length}
use Rattle.std.specs.List.{All}
use Rattle.std.proofs.lemmas.List.Elements.{All-cons, All-nil}
use Rattle.aes_cts.specs.BlockKeys.{AreBytes}
use Rattle.first_rows.proofs.Shown.{first_shows}
use Rattle.first_rows.proofs.Valid.{first_valid}
use Rattle.first_rows.proofs.Whole.{master_whole, random_from}
use Rattle.first_rows.specs.Creation.{first_point, first_rows, first_state, master_key_of}
use Rattle.first_rows.specs.Parts.{IsSpec, SpecParts}
use Rattle.kdb_base.specs.Moment.{Moment}
use Rattle.kdb_base.specs.declared.versions.Master.{Master}
use Rattle.kdb_base.specs.Moments.{micros}
use Rattle.kdb_histories.specs.Histories.{IsCreation}
use Rattle.kdb_histories.specs.Stages.{ShowsAt}
use Rattle.kdb_places.specs.Places.{Place, last_point, point_of}
use Rattle.kdb_worlds.proofs.Example.{first_run}
use Rattle.kdb_worlds.specs.Examples.{LeadsToCopy, first_events}
use Rattle.kdb_plain.specs.States.{IsValid}
use Rattle.kdb_plain.specs.declared.states.State.{State}
use Rattle.primary_core.specs.Opening.{OpensAt, first_place}
use Rattle.primary_worlds.proofs.Opened.{stash_opens}
use Rattle.primary_worlds.specs.Creations.{first_stage}
use Rattle.princ_name.specs.Names.{NameParts}
use Rattle.princ_name.specs.Realms.{realm_length}
use Rattle.princ_rows.specs.Rows.{RowLists}
use Rattle.row_keys.specs.Shows.{Shows}
use Rattle.row_keys.specs.Sound.{AreSound, judged}
use Rattle.stash_file.specs.Stashes.{IsStash}
use Rattle.stash_file.specs.Written.{IsStashed, stash_keys, stash_text}

pub created_stage : (spec : SpecParts) (now_ : Moment) (random : List ℕ) (before : List Place) → IsSpec spec
    → length random ≡ 2048 → AreBytes random
    → All (λ p. micros (point_of p).time < micros now_) before → IsCreation before (first_stage spec now_ random)
unfolding first_state
created_stage spec now_ random before is long bytes later = record {
  realm = spec.realm;
  rows = first_rows spec now_ random;
  point = first_point now_;
  size = spec.size;
  some = omega (arith, is.least);
  block = 2048;
  stash = Some (stash_text spec.realm now_.secs (first_state spec now_ random).masters);
  format = 2;
  is = refl;
  later = later;
  state = first_state spec now_ random;
  deed = refl;
  same = refl;
  at = refl;
  shows = first_shows spec now_ random long bytes;
  valid = first_valid spec now_ random is;
}

pub created_copied : (spec : SpecParts) (now_ : Moment) (random : List ℕ) (client : NameParts) → IsSpec spec
    → length random ≡ 2048 → AreBytes random
    → LeadsToCopy (first_events (first_stage spec now_ random) client) (first_place spec now_ random)
created_copied spec now_ random client is long bytes =
    first_run (first_stage spec now_ random) client
    (created_stage spec now_ random [] is long bytes (All-nil (λ p. micros (point_of p).time < micros now_))) refl

-- ---- it opens

first_stashed : (spec : SpecParts) (now_ : Moment) (random : List ℕ) → length random ≡ 2048 → AreBytes random
    → All IsStashed (first_state spec now_ random).masters
unfolding first_state master_key_of
first_stashed spec now_ random long bytes =
    let whole =
    master_whole spec.password spec.realm spec.etype random (omega (arith, long)) (random_from random bytes) in
    All-cons IsStashed (record { version = 1; key = master_key_of spec random }) []
    (record { whole = whole.long; version = omega arith }) (All-nil IsStashed)

first_shown : (spec : SpecParts) (now_ : Moment) (random : List ℕ) → IsSpec spec → length random ≡ 2048
    → AreBytes random → ShowsAt (first_place spec now_ random) (first_state spec now_ random)
unfolding first_state last_point
first_shown spec now_ random is long bytes = record {
  realm = refl;
  at = refl;
  shows = first_shows spec now_ random long bytes;
  valid = first_valid spec now_ random is;
}

pub created_opens : (spec : SpecParts) (now_ : Moment) (random : List ℕ)
    → ((rows : RowLists) (t : State) (time : Moment) → Shows rows t → IsValid time t
    → AreSound (judged t.masters t.realm time.secs) rows)
    → ((realm : List ℕ) (secs : ℕ) (masters : List Master) → length realm ≤ 64 → secs < 2 ^ 32 → All IsStashed masters
    → IsStash (stash_text realm secs masters) (stash_keys masters))
    → IsSpec spec → now_.secs < 2 ^ 32 → length random ≡ 2048 → AreBytes random
    → OpensAt (first_place spec now_ random) (first_state spec now_ random).masters
created_opens spec now_ random sound written is secs long bytes =
    stash_opens (first_place spec now_ random)
    (first_state spec now_ random) (stash_text spec.realm now_.secs (first_state spec now_ random).masters) sound
    (first_shown spec now_ random is long bytes) refl
    (written spec.realm now_.secs (first_state spec now_ random).masters (realm_length spec.realm is.realm) secs
    (first_stashed spec now_ random long bytes))
