-- One place more, and what holds of it.
use Rattle.std.proofs.Common.{◌≡◌, ◌<◌, ◌≤◌, inl, inr, Bool, List, [], ◌∷◌, ◌++◌, refl, sym, ◌∙◌, ap, subst}
use Rattle.std.proofs.lemmas.List.Elements.{All-cons, All-head, All-weaker}
use Rattle.std.specs.List.{All}
use Rattle.iprop_truths.proofs.Leading.{holds_change, holds_more}
use Rattle.iprop_truths.proofs.Members.{contains_first}
use Rattle.iprop_truths.specs.Truths.{Has, HoldsFrom, Makes}
use Rattle.kdb_base.specs.Moment.{Moment}
use Rattle.kdb_base.specs.Moments.{ComesBefore, micros}
use Rattle.kdb_base.specs.declared.moments.Point.{Point}
use Rattle.kdb_histories.proofs.Entries.{last_more, one_entry}
use Rattle.kdb_histories.proofs.Times.{before_all, next_behind}
use Rattle.kdb_histories.specs.Asks.{Ask, state_by}
use Rattle.kdb_histories.specs.Histories.{HasRoom, HoldsUpTo, IsLater, IsStory, all_seen}
use Rattle.kdb_histories.specs.Moves.{IsChange, IsLoad, IsReset, IsRestash, Moves}
use Rattle.kdb_histories.specs.Seen.{Seen, seen}
use Rattle.kdb_histories.specs.Stages.{Deed, Filled, Did, Anew, Stashed, ShowsAt, Stage}
use Rattle.kdb_histories.specs.Stages.{entries_after, epoch, fold, places, state_after}
use Rattle.kdb_model.specs.Laws.{at_point}
use Rattle.kdb_places.proofs.Points.{committed_point, first_point}
use Rattle.kdb_places.specs.Places.{Place, base_marker, change, committed, contents_of, last_entries}
use Rattle.kdb_places.specs.Places.{last_point, log_anew, next_point, no_point, point_of, replaced, restashed}
use Rattle.kdb_plain.specs.States.{IsValid}
use Rattle.kdb_plain.specs.declared.states.State.{State}
use Rattle.princ_rows.specs.declared.entries.Entry.{Entry}
use Rattle.princ_rows.specs.declared.entries.Op.{Op}
use Rattle.princ_rows.specs.Rows.{RowLists}
use Rattle.row_keys.proofs.Effects.{shows_at}
use Rattle.row_keys.specs.Shows.{Shows}

-- what is valid stays so, at later times and other points
pub record StaysValid : Type 0 where
  pub later : (s : State) (early late : Moment) → early.secs ≤ late.secs → IsValid early s → IsValid late s
  pub point : (s : State) (time : Moment) (point : Point) → IsValid time s → IsValid time (record s { point = point })

pub later_all : (a b c : Seen) → IsLater a b → IsLater b c → IsLater a c
later_all a b c (inl x) (inl y) = inl (before_all (point_of a.place) (point_of b.place) (point_of c.place) x y)
later_all a b c (inl x) (inr y) = inl (subst (λ p. ComesBefore (point_of a.place) p) (sym (ap (λ d. d.point) y.0)) x)
later_all a b c (inr x) (inl y) = inl (subst (λ p. ComesBefore p (point_of c.place)) (ap (λ d. d.point) x.0) y)
later_all a b c (inr x) (inr y) = inr (y.0 ∙ x.0, y.1 ∙ x.1)

-- the next place, where these entries came since the last base marker
record Grows (p : Place) (older : List Place) (before : State) (entries : List Entry) (deed : Deed)
    (q : Place) : Type 0 where
  later : IsLater (seen p before) (seen q (state_after deed (point_of q) before))
  sized : 0 < q.size
  held : HoldsFrom (q ∷ p ∷ older) q.held (contents_of q)
  shows : ShowsAt q (state_after deed (point_of q) before)
  full : q.held ≡ last_entries q.size (entries_after deed (point_of q) entries)

module _ (valid : StaysValid) (p : Place) (older : List Place) (before : State) (entries : List Entry)
    (sized : 0 < p.size) (held : HoldsFrom (p ∷ older) p.held (contents_of p)) (shows : ShowsAt p before)
    (full : p.held ≡ last_entries p.size entries) where
  has : (q : Place) → Has (q ∷ p ∷ older) (contents_of q)
  has q = record { place = q; there = contains_first q (p ∷ older); is = refl }

  changed : (ask : Ask) (due : Bool) (point : Point) (op : Op) (q : Place) → IsChange p before ask due point op q
      → Grows p older before entries (Did ask due point op) q
  changed ask due point op q h =
      let q1 = committed op h.time p in
      let u = change op (next_point h.time p) in
      let at : point_of q1 ≡ next_point h.time p = committed_point op h.time p sized in
      let makes : Makes (contents_of p) u (contents_of q1) = record {
        op = op;
        change = refl;
        more = h.serial;
        serial = refl;
        not_before = h.not_before;
        fits = h.fits;
        realm = refl;
        point = at;
        rows = refl;
      } in
      let then_valid : IsValid (point_of q1).time (state_by ask due (at_point point before)) =
      subst (λ (x : Point). IsValid x.time (state_by ask due (at_point point before))) (sym at) h.leaves.valid in
      subst (Grows p older before entries (Did ask due point op)) (sym h.is) (record {
        later = inl (subst (λ (x : Point). ComesBefore (point_of p) x) (sym at)
            (next_behind (point_of p) h.time h.not_before));
        sized = sized;
        held =
            holds_change (q1 ∷ p ∷ older) p.size p.held (contents_of p) u (contents_of q1) sized
            (holds_more q1 (p ∷ older) p.held (contents_of p) held) (has q1) makes (inl (refl, refl));
        shows = record { realm = h.leaves.same; at = h.leaves.at ∙ sym at; shows = h.leaves.shows; valid = then_valid };
        full =
            ap (λ (x : List Entry). last_entries p.size (x ++ u ∷ [])) full ∙ last_more p.size entries u
            ∙ ap (λ (x : Point). last_entries p.size (entries ++ change op x ∷ [])) (sym at);
      })

  -- a place whose log is begun anew holds its base marker
  fresh : (deed : Deed) (base : Point) (q : Place) → micros (point_of p).time < micros base.time
      → q.held ≡ base_marker base ∷ [] → 0 < q.size
      → ShowsAt q (state_after deed (point_of q) before)
      → ((at : Point) → entries_after deed at entries ≡ base_marker at ∷ [])
      → Grows p older before entries deed q
  fresh deed base q later is some shown marked =
      let at : point_of q ≡ base = ap (last_point no_point) is ∙ first_point no_point (base_marker base) in
      record {
        later = inl (subst (λ (x : Point). ComesBefore (point_of p) x) (sym at) (inl later));
        sized = some;
        held =
            subst (λ (x : List Entry). HoldsFrom (q ∷ p ∷ older) x (contents_of q)) (sym is)
            (record { from = contents_of q; has = has q; at = at; leads = refl });
        shows = shown;
        full = is ∙ sym (one_entry q.size (base_marker base) some)
            ∙ ap (λ (x : Point). last_entries q.size (base_marker x ∷ [])) (sym at)
            ∙ ap (last_entries q.size) (sym (marked (point_of q)));
      }

  reset : (q : Place) → IsReset p q → Grows p older before entries Anew q
  reset q h =
      let base : Point = record { sno = 1; time = h.time } in
      let q1 = log_anew base h.size h.block p in
      let at : point_of q1 ≡ base = first_point no_point (base_marker base) in
      let valid_then : IsValid h.time before = valid.later before (point_of p).time h.time h.since shows.valid in
      subst (Grows p older before entries Anew) (sym h.is) (fresh Anew base q1 h.later refl h.some (record {
        realm = shows.realm;
        at = refl;
        shows = shows_at p.rows (point_of q1) before shows.shows;
        valid = valid.point before (point_of q1).time (point_of q1)
            (subst (λ (x : Point). IsValid x.time before) (sym at) valid_then);
      }) (λ x. refl))

  loaded : (state : State) (q : Place) → IsLoad p state q → Grows p older before entries (Filled state) q
  loaded state q h =
      let base : Point = record { sno = 1; time = h.time } in
      let q1 = replaced p.realm h.rows base p in
      let at : point_of q1 ≡ base = first_point no_point (base_marker base) in
      subst (Grows p older before entries (Filled state)) (sym h.is)
      (fresh (Filled state) base q1 h.later refl sized (record {
        realm = h.realm;
        at = h.at ∙ sym at;
        shows = h.shows;
        valid = subst (λ (x : Point). IsValid x.time state) (sym at) h.valid;
      }) (λ x. refl))

  restash : (q : Place) → IsRestash p q → Grows p older before entries Stashed q
  restash q h =
      let q1 = restashed h.bytes p in
      subst (Grows p older before entries Stashed) (sym h.is) (record {
        later = inr (refl, refl);
        sized = sized;
        held = holds_more q1 (p ∷ older) p.held (contents_of p) held;
        shows = record { realm = shows.realm; at = shows.at; shows = shows.shows; valid = shows.valid };
        full = full;
      })

  grows : (deed : Deed) (q : Place) → Moves p before deed q → Grows p older before entries deed q
  grows (Filled state) q h = loaded state q h
  grows (Did ask due point op) q h = changed ask due point op q h
  grows Anew q h = reset q h
  grows Stashed q h = restash q h

-- ---- stories

-- what places hold leads up to them where there are more of them too
pub all_hold_more : (q : Place) (places some : List Place) → All (HoldsUpTo places) some
    → All (HoldsUpTo (q ∷ places)) some
all_hold_more q places some h =
    All-weaker (HoldsUpTo places) (HoldsUpTo (q ∷ places))
    (λ p leads. holds_more q places p.held (contents_of p) leads) some h

-- a place that is later than the last one is later than all
later_than_all : (c b : Seen) (older : List Seen) → IsLater b c → All (λ a. IsLater a b) older
    → All (λ a. IsLater a c) (b ∷ older)
later_than_all c b older later h =
    All-cons (λ a. IsLater a c) b older later
    (All-weaker (λ a. IsLater a b) (λ a. IsLater a c) (λ a earlier. later_all a b c earlier later) older h)

-- a move from the last place of a story makes another
pub story_grows : (valid : StaysValid) (t u : Stage) (older : List Stage) → IsStory (t ∷ older)
    → Moves t.place (fold (t ∷ older)) u.deed u.place
    → IsStory (u ∷ t ∷ older)
story_grows valid t u older h moves =
    let good = h.good in
    let here = h.rising in
    let then_ = h.folded in
    let full = h.full in
    let sized = All-head HasRoom t.place (places older) good.sized in
    let held = All-head (HoldsUpTo (t.place ∷ places older)) t.place (places older) good.held in
    let g = grows valid t.place (places older) (fold (t ∷ older)) (epoch (t ∷ older)) sized held then_.0 full.0 u.deed
    u.place moves in
    let before = t.place ∷ places older in
    let now = seen u.place (fold (u ∷ t ∷ older)) in
    let last = seen t.place (fold (t ∷ older)) in
    record {
      rising = (later_than_all now last (all_seen older) g.later here.0, here);
      good = record {
        held = All-cons (HoldsUpTo (u.place ∷ before)) u.place before g.held
            (all_hold_more u.place before before good.held);
        sized = All-cons HasRoom u.place before g.sized good.sized;
      };
      folded = (g.shows, then_);
      full = (g.full, full);
    }
