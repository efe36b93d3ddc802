-- What a call says of its place is an event.
use Rattle.std.proofs.Common.{◌≡◌, ℕ, zero, suc, inl, inr, true, false, List, [], ◌∷◌, refl, sym, ◌∙◌, ap}
use Rattle.std.specs.Prelude.{take}
use Rattle.iprop_truths.specs.Parts.{IsPart, end_of}
use Rattle.kdb_histories.specs.Asks.{Answer}
use Rattle.kdb_histories.specs.Bridges.{IsReturned, IsStopped}
use Rattle.kdb_histories.specs.Calls.{Call}
use Rattle.kdb_histories.specs.Leaving.{Does, MayReach}
use Rattle.kdb_histories.specs.Sites.{Site, Crashes, Stands, Stops, after_call, clock_at, fallen, state_of, wants_open}
use Rattle.kdb_histories.specs.Stages.{Stage, onto, places}
use Rattle.kdb_model.specs.Laws.{IsMoment}
use Rattle.kdb_places.specs.Places.{Place}

-- the last of a history
record Tip (stages : List Stage) (q : Place) : Type 0 where
  last : Stage
  others : List Stage
  is : stages ≡ last ∷ others
  place : last.place ≡ q

tip_of : (made : List Stage) (t : Stage) (older : List Stage)
    → Tip (onto made (t ∷ older)) (end_of t.place (places made))
tip_of [] t older = record { last = t; others = older; is = refl; place = refl }
tip_of (u ∷ made) t older = tip_of made u (t ∷ older)

tip_at : (s : Site) (at : Stands s) (made : List Stage) → Tip (onto made s.history) (end_of at.last.place (places made))
tip_at s at made =
    let tip = tip_of made at.last at.others in
    record { last = tip.last; others = tip.others; is = ap (onto made) at.is ∙ tip.is; place = tip.place }

part_of : (p : Place) (made : List Stage) (q : Place) → IsPart p (places made) q
    → (part : ℕ) × (q ≡ end_of p (places (take part made)))
part_of p [] q h = (zero, h)
part_of p (t ∷ made) q (inl h) = (zero, h)
part_of p (t ∷ made) q (inr h) = let part = part_of t.place made q h in (suc part.0, part.1)

-- a call that stopped
pub stopped : (s : Site) (at : Stands s) (call : Call) (q : Place) → s.up ≡ wants_open call → IsMoment (clock_at call)
    → MayReach at.last.place (state_of s) call q → IsStopped s call q
stopped s at call q ready clock (inl h) = record {
  event = Crashes;
  stops = tt;
  new = fallen s;
  happens = record { is = refl; silent = refl };
  at = record { last = at.last; others = at.others; is = at.is };
  is = sym h;
  closed = refl;
}
stopped s at call q ready clock (inr h) =
    let part = part_of at.last.place h.made q h.part in
    let tip = tip_at s at (take part.0 h.made) in
    record {
      event = Stops call h.answer h.made part.0;
      stops = refl;
      new = after_call call (take part.0 h.made) false s;
      happens = record { at = at; ready = ready; clock = clock; makes = h.makes; is = refl; silent = refl };
      at = record { last = tip.last; others = tip.others; is = tip.is };
      is = tip.place ∙ sym part.1;
      closed = refl;
    }

-- a call that returned
pub returned : (s : Site) (at : Stands s) (call : Call) (answer : Answer) (q : Place) → s.up ≡ wants_open call
    → IsMoment (clock_at call)
    → Does at.last.place (state_of s) call answer q → IsReturned s call answer q
returned s at call answer q ready clock h =
    let tip = tip_at s at h.made in
    record {
      made = h.made;
      new = after_call call h.made true s;
      happens = record { at = at; ready = ready; clock = clock; makes = h.makes; is = refl; silent = refl };
      at = record { last = tip.last; others = tip.others; is = tip.is };
      is = tip.place ∙ sym h.is;
      ready = refl;
    }
