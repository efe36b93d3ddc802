-- A command of the primary, as what a plan is given; and the places that a change may leave.
use Rattle.std.proofs.Common.{◌≡◌, ◌<◌, ◌≤◌, ℕ, Bool, true, false, List, [], ◌∷◌}
use Rattle.std.proofs.Common.{Option, Ok, inl, refl, sym, ap, subst, ◌∙◌, arith}
use Rattle.std.specs.Prelude.{nat_lt, if◌then◌else◌}
use Rattle.std.proofs.lemmas.Bool.{ltb-true}
use Rattle.acl_text.specs.declared.rules.AclLine.{AclLine}
use Rattle.command_plans.specs.Given.{IsCallOf, IsSeenBy}
use Rattle.kadm_commands.specs.declared.commands.Command.{Command}
use Rattle.kdb_base.specs.Moment.{Moment}
use Rattle.kdb_base.specs.Moments.{later_moment, micros}
use Rattle.kdb_base.specs.declared.moments.Point.{Point}
use Rattle.kdb_disk.specs.Files.{Files}
use Rattle.kdb_model.proofs.Moments.{by_secs}
use Rattle.kdb_model.specs.Calls.{call_of}
use Rattle.kdb_places.specs.Places.{Place, point_of}
use Rattle.kdb_plain.specs.States.{IsValid}
use Rattle.kdb_plain.specs.declared.states.State.{State}
use Rattle.primary_core.specs.Opened.{HasState, Opened, place_of}
use Rattle.princ_name.specs.Names.{NameParts}
use Rattle.princ_rows.specs.Rows.{RowLists}
use Rattle.store_files.specs.Found.{recovers}
use Rattle.store_files.specs.Recovery.{LeavesPart}

pub secs_behind : (a b : Moment) → b.usecs < 1000000 → a.secs ≤ (later_moment a b).secs
secs_behind a b below = by (nat_lt (micros a) (micros b)) refl
  where
    by : (x : Bool) → nat_lt (micros a) (micros b) ≡ x → a.secs ≤ (if x then b else a).secs
    by true e = by_secs a b below (omega (arith, ltb-true (micros a) (micros b) e))
    by false e = omega arith

pub seen_by : ((s : State) (early late : Moment) → early.secs ≤ late.secs → IsValid early s → IsValid late s)
    → (o : Opened) (s : State) (clock : Moment) → clock.usecs < 1000000 → HasState o s
    → IsSeenBy o.kept.rows o.masters o.kept.realm (later_moment (point_of (place_of o)).time clock) s
seen_by later o s clock below has = record {
  shows = has.shows.shows;
  valid = later s (point_of (place_of o)).time (later_moment (point_of (place_of o)).time clock)
      (secs_behind (point_of (place_of o)).time clock below) has.shows.valid;
  masters_are = has.masters_are;
  realm_is = has.shows.realm;
}

pub called_by : (o : Opened) (s : State) (client : NameParts) (access : Option (List AclLine)) (command : Command)
    (clock : Moment) (random : List ℕ) → HasState o s
    → IsCallOf s client access command (later_moment (point_of (place_of o)).time clock) random
    (call_of client access command clock random false)
called_by o s client access command clock random has = record {
  clock = clock;
  call_is = refl;
  moment_is = ap (λ q. later_moment q.time clock) has.shows.at;
}

-- ---- by what the code has of the primary

-- it is seen so, and the parts are its own
pub record HasParts (o now : Opened) (rows : RowLists) (realm : List ℕ) (point : Point)
    (moment clock : Moment) : Type 0 where
  pub is : o ≡ now
  pub rows_are : rows ≡ o.kept.rows
  pub realm_is : realm ≡ o.kept.realm
  pub point_is : point ≡ point_of (place_of o)
  pub moment_is : moment ≡ later_moment point.time clock
  pub below : clock.usecs < 1000000

module _ (o now : Opened) (rows : RowLists) (realm : List ℕ) (point : Point) (moment clock : Moment)
    (parts : HasParts o now rows realm point moment clock) (s : State) (has : HasState now s) where
  had : HasState o s
  had = subst (λ (x : Opened). HasState x s) (sym parts.is) has

  time_is : later_moment (point_of (place_of o)).time clock ≡ moment
  time_is = ap (λ (q : Point). later_moment q.time clock) (sym parts.point_is) ∙ sym parts.moment_is

  pub seen_told : ((t : State) (early late : Moment) → early.secs ≤ late.secs → IsValid early t → IsValid late t)
      → IsSeenBy rows o.masters realm moment s
  seen_told later =
      subst (λ (x : RowLists). IsSeenBy x o.masters realm moment s) (sym parts.rows_are)
      (subst (λ (x : List ℕ). IsSeenBy o.kept.rows o.masters x moment s) (sym parts.realm_is)
      (subst (λ (x : Moment). IsSeenBy o.kept.rows o.masters o.kept.realm x s) time_is
      (seen_by later o s clock parts.below had)))

  pub called_told : (client : NameParts) (access : Option (List AclLine)) (command : Command) (random : List ℕ)
      → IsCallOf s client access command moment random (call_of client access command clock random false)
  called_told client access command random =
      subst (λ (x : Moment). IsCallOf s client access command x random
      (call_of client access command clock random false)) time_is (called_by o s client access command clock random had)

  -- what is said of the rows
  pub rows_told : (P : RowLists → Type 0) → P rows → P now.kept.rows
  rows_told P is = subst P (parts.rows_are ∙ ap (λ (x : Opened). x.kept.rows) parts.is) is

-- ---- places

pub leaves_first : (p : Place) (places : List Place) (c : Files) → recovers c ≡ Ok p → LeavesPart p places c
unfolding LeavesPart
leaves_first p [] c is = is
leaves_first p (q ∷ places) c is = inl is
