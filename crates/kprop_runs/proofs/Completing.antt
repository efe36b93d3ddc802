-- A run of which nothing is refused, and which nothing stops.
use Rattle.std.proofs.Common.{◌≡◌, ◌∙◌, ◌⊎◌, ◌||◌, ℕ, zero, suc, Bool, true, false, List, Option, inl, inr}
use Rattle.std.proofs.Common.{refl, ap, arith}
use Rattle.std.specs.Prelude.{Result}
use Rattle.iprop_links.specs.Asking.{sent_in}
use Rattle.kdb_base.specs.declared.outcomes.Refusal.{Refusal}
use Rattle.kdb_base.specs.declared.outcomes.Status.{Status}
use Rattle.kdb_base.specs.declared.outcomes.Status.TheVariants as status
use Rattle.kdb_disk.specs.View.{View}
use Rattle.kdb_places.specs.Places.{Place}
use Rattle.kdb_ports.specs.Links.{Wire}
use Rattle.kprop_runs.proofs.Overlong.{first_long, rounds_long}
use Rattle.kprop_runs.specs.Completeness.{Faults, HasCauses, NoneRefused, NoneRose, RefusesNothing}
use Rattle.kprop_runs.specs.Longs.{GivesTooMuch, RunRoundsEnd, RunStopsLong}
use Rattle.kprop_runs.specs.Openings.{Opening, Opens, Refuses}
use Rattle.kprop_runs.specs.Runs.{EndsAs, IsRun, first_stage, run_end}
use Rattle.kprop_runs.specs.Stages.{Stage, after_rounds}

-- ---- what is refused

or_false : (b : Bool) → (b || false) ≡ b
or_false true = refl
or_false false = refl

rounds_refuse : (name : List ℕ) (size count : ℕ) (s : Stage) → NoneRefused name size count s
    → (after_rounds name size count s).refused ≡ s.refused
unfolding after_rounds
rounds_refuse name size zero s none = refl
rounds_refuse name size (suc n) s none =
    let before : Stage = after_rounds name size n s in
    ap (λ (b : Bool). before.refused || b) (none n (omega arith)) ∙ or_false before.refused
    ∙ rounds_refuse name size n s (λ done few. none done (omega (arith, few)))

run_refuses : (o : Opening) (w : Wire) (taken : Option (List ℕ)) → RefusesNothing o w taken
    → (run_end o w taken).refused ≡ false
run_refuses (Refuses why) w taken none = absurd none
run_refuses (Opens a place) w taken none = rounds_refuse a.name a.size a.rounds (first_stage w taken place) none

-- ---- what is too long

no_long : (o : Opening) (w : Wire) (taken : Option (List ℕ)) (sent : Option (List (List ℕ)))
    → RunStopsLong o w taken sent → RunRoundsEnd o w taken → ⊥
no_long (Refuses why) w taken sent long ends = long
no_long (Opens a place) w taken sent long ends = ends long.done long.few long.stops.gives

pub rounds_end : (o : Opening) (w : Wire) (taken : Option (List ℕ)) → (GivesTooMuch w.to_come → ⊥)
    → RunRoundsEnd o w taken
rounds_end (Refuses why) w taken short = tt
rounds_end (Opens a place) w taken short = λ done few gives.
    short (rounds_long a.name a.size done (first_stage w taken place)
    (first_long (after_rounds a.name a.size done (first_stage w taken place)).to_come gives.long))

-- ---- all of it

module _ (o : Opening) (found : Result Place Refusal) (w : Wire) (taken : Option (List ℕ)) (old now : View)
    (told : Option Wire) (out : Option (List ℕ)) (first last : Faults) where
  pub done_or_out : (result : Status) → IsRun o found w taken old now told out result
      → HasCauses o w taken (sent_in told) first last result
      → RefusesNothing o w taken → RunRoundsEnd o w taken → NoneRose first last
      → (result ≡ status.Done) ⊎ (result ≡ status.MemoryOut)
  done_or_out status.Done run causes none ends rose = inl refl
  done_or_out status.Refused run causes none ends rose =
      let said : EndsAs (run_end o w taken) told out true = run.ended.0 in
      let both : true ≡ false = said.refused_is ∙ run_refuses o w taken none in
      absurd cc
  done_or_out status.MemoryOut run causes none ends rose = inr refl
  done_or_out status.ReadFault run causes none ends rose = absurd (causes.no_read refl)
  done_or_out status.WriteFault run causes none ends rose = absurd (rose.writes (causes.writes.cause refl))
  done_or_out status.DiskFault run causes none ends rose = absurd (rose.calls (causes.calls.cause refl))
  done_or_out status.LinkFault run causes none ends rose = absurd (rose.links (causes.links.cause refl))
  done_or_out status.InputTooLong run causes none ends rose =
      absurd (no_long o w taken (sent_in told) (causes.long refl) ends)
