-- One run, in the realm EXAMPLE.ORG.
use Rattle.std.proofs.Common.{◌≡◌, ℕ, ◌<◌, ◌^◌, false, [], length, Some, refl, arith}
use Rattle.std.proofs.lemmas.List.{length-replicate}
use Rattle.std.proofs.lemmas.List.Elements.{All-nil, All-replicate}
use Rattle.aes_cts.specs.BlockKeys.{AreBytes}
use Rattle.first_rows.proofs.Shown.{first_shows}
use Rattle.first_rows.proofs.Valid.{first_valid}
use Rattle.first_rows.specs.Creation.{first_point, first_princs, first_rows, first_state}
use Rattle.first_rows.specs.Parts.{IsSpec}
use Rattle.kdb_base.specs.Moments.{micros}
use Rattle.kdb_histories.proofs.Growing.{StaysValid}
use Rattle.kdb_histories.specs.Histories.{IsCreation}
use Rattle.kdb_histories.specs.Seen.{is_due}
use Rattle.kdb_histories.specs.Stages.{Filled, stage}
use Rattle.kdb_places.specs.Places.{Place, last_point, point_of}
use Rattle.policy_rules.specs.Names.{is_policy_name}
use Rattle.princ_rows.specs.Entries.{key_of, row_of}
use Rattle.princ_record.specs.Policies.{IsPolicy, policy}
use Rattle.kdb_format.specs.Spellings.{big, counted}
use Rattle.stash_file.specs.Written.{stash_text}
use Rattle.world_laws.proofs.Running.{MayRun, updates}
use Rattle.world_laws.specs.Examples.{LeadsToUpdate, added_place, adding_op, example_adding, example_events}
use Rattle.world_laws.specs.Examples.{example_moment, example_place, example_random, example_spec, example_state}

random_long : length example_random ≡ 2048
unfolding example_random
random_long = let byte : ℕ = 7 in length-replicate 2048 byte

random_bytes : AreBytes example_random
unfolding example_random
random_bytes = All-replicate (λ (x : ℕ). x < 2 ^ 8) 2048 7 (omega arith)

is_spec : IsSpec example_spec
is_spec = record { realm = refl; least = omega arith; most = omega arith }

creation : IsCreation [] (stage example_place (Filled example_state))
unfolding first_state
creation = record {
  realm = example_spec.realm;
  rows = first_rows example_spec example_moment example_random;
  point = first_point example_moment;
  size = 1000;
  some = omega arith;
  block = 2048;
  stash = Some (stash_text example_spec.realm example_moment.secs example_state.masters);
  format = 2;
  is = refl;
  later = All-nil (λ (p : Place). micros (point_of p).time < micros example_moment);
  state = example_state;
  deed = refl;
  same = refl;
  at = refl;
  shows = first_shows example_spec example_moment example_random random_long random_bytes;
  valid = first_valid example_spec example_moment example_random is_spec;
}

is_policy : IsPolicy example_adding.policy
unfolding is_policy_name
is_policy = record {
  named = refl;
  max_life = omega arith;
  min_life = omega arith;
  length = refl;
  classes = refl;
  remembered = refl;
}

-- the entry is short, and serials are left
not_due : is_due (adding_op example_adding) example_place ≡ false
unfolding key_of row_of policy counted big last_point
not_due = refl

may_run : MayRun example_adding example_place example_state
unfolding first_state first_princs
may_run = record {
  creation = creation;
  newer = refl;
  least = omega arith;
  none = refl;
  room = omega arith;
  policy = is_policy;
  clock = record { secs = omega arith; usecs = omega arith };
  due = not_due;
}

pub example : StaysValid → LeadsToUpdate example_events (added_place example_adding example_place)
example valid = updates valid example_adding example_place example_state may_run
