-- A primary that was created shows the first state.
use Rattle.std.proofs.Common.{◌≡◌, ◌<◌, ◌≤◌, ◌&&◌, ◌^◌, ℕ, true, List, sym, ap, subst, ◌∙◌, arith}
use Rattle.std.specs.Prelude.{get_or, nat_le}
use Rattle.std.specs.List.{All}
use Rattle.std.proofs.lemmas.List.Elements.{All-from_get_or}
use Rattle.first_rows.specs.Creation.{first_point as point_made, first_rows, first_state}
use Rattle.first_rows.specs.Parts.{SpecParts}
use Rattle.kdb_base.specs.Moment.{Moment}
use Rattle.kdb_base.specs.declared.moments.Point.{Point}
use Rattle.kdb_histories.specs.Stages.{ShowsAt}
use Rattle.kdb_places.proofs.Points.{first_point}
use Rattle.kdb_places.specs.Places.{Place, base_marker, no_point, point_of}
use Rattle.kdb_plain.specs.States.{IsValid}
use Rattle.primary_core.specs.Opened.{HasState, IsOpened, Opened, place_of}
use Rattle.primary_core.specs.Opening.{first_place}
use Rattle.row_keys.specs.Shows.{Shows}

module _ (spec : SpecParts) (now_ : Moment) (random : List ℕ) (o : Opened)
    (place : place_of o ≡ first_place spec now_ random)
    (masters : o.masters ≡ (first_state spec now_ random).masters)
    (realm : (first_state spec now_ random).realm ≡ spec.realm)
    (point : (first_state spec now_ random).point ≡ point_made now_)
    (valid : IsValid now_ (first_state spec now_ random))
    (shows : Shows (first_rows spec now_ random) (first_state spec now_ random)) where
  pub created_state : HasState o (first_state spec now_ random)
  created_state =
      let s = first_state spec now_ random in
      let at : point_of (first_place spec now_ random) ≡ point_made now_ =
      first_point no_point (base_marker (point_made now_)) in
      let made : ShowsAt (first_place spec now_ random) s = record {
        realm = realm;
        at = point ∙ sym at;
        shows = shows;
        valid = subst (λ (x : Point). IsValid x.time s) (sym at) valid;
      } in
      record { shows = subst (λ (x : Place). ShowsAt x s) (sym place) made; masters_are = sym masters }

  pub created_open : o.room ≡ 1 → o.dumps ≡ 0 → IsOpened o
  created_open one none = record {
    state = first_state spec now_ random;
    has = created_state;
    newer = ap (λ (x : Place). x.format) place;
    from = omega (arith, one);
    upto = omega (arith, one);
    within = omega (arith, none);
  }

pub size_range : (n : ℕ) → 2 ≤ n → n ≤ 10000 → (nat_le 2 n && nat_le n 10000) ≡ true
size_range n low high = grind arith

pub are_bytes : (xs : List ℕ) → ((i : ℕ) → get_or xs i 0 < 2 ^ 8) → All (λ (x : ℕ). x < 2 ^ 8) xs
are_bytes xs each = All-from_get_or (λ (x : ℕ). x < 2 ^ 8) xs 0 (λ i lt. each i)
