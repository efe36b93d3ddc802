-- A log that is begun anew where another size is asked for, or the files are of format 1.
use Rattle.std.proofs.Common.{◌≡◌, ◌≢◌, ◌<◌, ◌&&◌, ℕ, Bool, true, false, List, [], ◌∷◌}
use Rattle.std.proofs.Common.{Option, Result, Err, sym, ap, subst, ◌∙◌, arith, eqb-true}
use Rattle.std.specs.Prelude.{if◌then◌else◌, nat_eq}
use Rattle.iprop_truths.specs.Parts.{end_of}
use Rattle.kdb_base.specs.Moment.{Moment}
use Rattle.kdb_base.specs.Moments.{later_moment, micros}
use Rattle.kdb_base.specs.declared.moments.Point.{Point}
use Rattle.kdb_base.specs.declared.outcomes.Halt.{Halt}
use Rattle.kdb_base.specs.declared.outcomes.Refusal.{Refusal}
use Rattle.kdb_base.specs.declared.outcomes.Refusal.TheVariants.{TimeEnd}
use Rattle.kdb_base.specs.declared.outcomes.Stop.{Stop}
use Rattle.kdb_base.specs.declared.outcomes.Stop.TheVariants as stop
use Rattle.kdb_histories.specs.Calls.{HasTimeLeft, resized, size_or}
use Rattle.kdb_histories.specs.Seen.{reset_point}
use Rattle.kdb_histories.specs.Stages.{Anew, Stage, places, stage}
use Rattle.kdb_model.specs.Calls.{is_last, next_moment}
use Rattle.kdb_model.specs.Laws.{IsPoint}
use Rattle.kdb_places.specs.Places.{Place, log_anew, point_of}
use Rattle.primary_core.proofs.Decisions.{both, time_left}
use Rattle.primary_core.specs.Opening.{EndsTime}

-- the last moment has none behind it
pub time_ended : (m : Moment) → is_last m ≡ true → micros m < 4294967295999999 → ⊥
time_ended m e lt =
    let parts = both (nat_eq m.secs 4294967295) (nat_eq m.usecs 999999) e in
    let secs = eqb-true m.secs 4294967295 parts.0 in
    let usecs = eqb-true m.usecs 999999 parts.1 in
    omega (arith, lt, secs, usecs)

-- by what is read: the size, the point of the last change, and the point of the log begun anew
pub record IsRenewal (p : Place) (size : Option ℕ) (clock : Moment) (n : ℕ) (last : Point) : Type 0 where
  pub size_is : n ≡ size_or size p
  pub last_is : last ≡ point_of p

module _ (p : Place) (size : Option ℕ) (clock : Moment) (n : ℕ) (last : Point) (r : IsRenewal p size clock n last) where
  abbrev Same : ℕ → Bool
  Same m = nat_eq p.format 2 && nat_eq m p.size

  abbrev Made : Bool → List Stage
  Made same = if same then [] else stage (log_anew (reset_point clock p) (size_or size p) p.block p) Anew ∷ []

  told : (b : Bool) → Same n ≡ b → Same (size_or size p) ≡ b
  told b e = ap Same (sym r.size_is) ∙ e

  pub none_made : Same n ≡ true → resized size clock p ≡ []
  none_made e = ap Made (told true e)

  pub one_made : Same n ≡ false
      → resized size clock p ≡ stage (log_anew (reset_point clock p) (size_or size p) p.block p) Anew ∷ []
  one_made e = ap Made (told false e)

  pub stays_same : Same n ≡ true → p ≡ end_of p (places (resized size clock p))
  stays_same e = sym (ap (λ (made : List Stage). end_of p (places made)) (none_made e))

  some_made : Same n ≡ false → resized size clock p ≢ []
  some_made e none =
      let two : ◌≡◌ {A = List Stage} (stage (log_anew (reset_point clock p) (size_or size p) p.block p) Anew ∷ []) [] =
      sym (one_made e) ∙ none in
      absurd cc

  pub ends_time : Same n ≡ false → is_last last.time ≡ true → (why : Refusal) → TimeEnd ≡ why
      → EndsTime size clock p why
  ends_time e last_one why is = record {
    anew = some_made e;
    ended = time_ended (point_of p).time (ap (λ (q : Point). is_last q.time) (sym r.last_is) ∙ last_one);
    why_is = sym is;
  }

  pub has_time : IsPoint last → is_last last.time ≡ false → HasTimeLeft p
  has_time point more =
      subst (λ (q : Point). micros q.time < 4294967295999999) r.last_is (time_left last.time point.time more)

  pub base_is : (base : Point) → base ≡ record { sno = 1; time = later_moment clock (next_moment last.time) }
      → base ≡ reset_point clock p
  base_is base is = is ∙ ap (λ (q : Point). let x : Point =
      record { sno = 1; time = later_moment clock (next_moment q.time) } in x) r.last_is

  pub same_format : Same n ≡ true → p.format ≡ 2
  same_format e = eqb-true p.format 2 (both (nat_eq p.format 2) (nat_eq n p.size) e).0

  -- the place with the log begun anew is the one that is made
  pub places_made : (base : Point) → Same n ≡ false
      → base ≡ record { sno = 1; time = later_moment clock (next_moment last.time) }
      → log_anew base n p.block p ∷ [] ≡ places (resized size clock p)
  places_made base e is =
      ap (λ (x : Point). log_anew x n p.block p ∷ []) (base_is base is)
      ∙ ap (λ (m : ℕ). log_anew (reset_point clock p) m p.block p ∷ []) r.size_is
      ∙ sym (ap places (one_made e))

  pub place_made : (base : Point) (q : Place) → Same n ≡ false
      → base ≡ record { sno = 1; time = later_moment clock (next_moment last.time) }
      → q ≡ log_anew base n p.block p → q ≡ end_of p (places (resized size clock p))
  place_made base q e is at = at ∙ ap (end_of p) (places_made base e is)

pub refused_same : (A : Type 0) (a b : Refusal)
    → ◌≡◌ {A = Result A Stop} (Err (stop.Refused a)) (Err (stop.Refused b)) → a ≡ b
refused_same A a b e = cc

pub halt_same : (A : Type 0) (a b : Halt) → ◌≡◌ {A = Result A Stop} (Err (stop.Halt a)) (Err (stop.Halt b)) → a ≡ b
halt_same A a b e = cc
