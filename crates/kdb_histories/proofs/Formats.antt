-- An open primary's place has format 2.
use Rattle.std.proofs.Common.{◌≡◌, ℕ, Bool, true, false, ◌&&◌, List, [], ◌∷◌, Option, refl, sym, ◌∙◌, ap, subst}
use Rattle.std.specs.Prelude.{nat_eq, if◌then◌else◌}
use Rattle.std.proofs.lemmas.Bool.{and_parts, eqb-true, true≢false}
use Rattle.iprop_truths.specs.Truths.{Message}
use Rattle.kdb_base.specs.Moment.{Moment}
use Rattle.kdb_histories.proofs.Changed.{made_anew, made_next}
use Rattle.kdb_histories.specs.Asks.{Answer, Ask}
use Rattle.kdb_histories.specs.Calls.{Call, Perform, Stash, ResetLog, Load, Open, CallMakes, size_or}
use Rattle.kdb_histories.specs.Seen.{Keep, Plan, Put, Write, is_due, made_by, plan_at, reset_point, seen}
use Rattle.kdb_histories.specs.Sites.{Site, SiteEvent, Creates, Calls, Stops, Crashes, Ends, Looks}
use Rattle.kdb_histories.specs.Sites.{Polls, Dumps, EndsDump, HappensAt, IsFresh, state_of, wants_open}
use Rattle.kdb_histories.specs.Stages.{Anew, Stage, onto, stage}
use Rattle.kdb_places.specs.Places.{Place, log_anew}
use Rattle.kdb_plain.specs.declared.states.State.{State}
use Rattle.princ_rows.specs.declared.entries.Op.{Op}

-- the format of the last place, or this one
abbrev last_format : ℕ → List Stage → ℕ
last_format format [] = format
last_format format (t ∷ ts) = last_format t.place.format ts

fresh_onto : (made : List Stage) (t : Stage) (older : List Stage) → last_format t.place.format made ≡ 2
    → IsFresh true (onto made (t ∷ older))
fresh_onto [] t older h = h
fresh_onto (u ∷ made) t older h = fresh_onto made u (t ∷ older) h

changed_format : (ask : Ask) (op : Op) (p : Place) (due : Bool) → p.format ≡ 2
    → last_format p.format (if due then made_anew ask op p else made_next ask op p) ≡ 2
changed_format ask op p true newer = refl
changed_format ask op p false newer = newer

plan_format : (ask : Ask) (plan : Plan) (p : Place) → p.format ≡ 2 → last_format p.format (made_by ask plan p) ≡ 2
plan_format ask Keep p newer = newer
plan_format ask (Put op) p newer = changed_format ask op p (is_due op p) newer
plan_format ask (Write bytes) p newer = newer

opened_format : (p : Place) (size : Option ℕ) (clock : Moment) (same : Bool)
    → (nat_eq p.format 2 && nat_eq (size_or size p) p.size) ≡ same
    → last_format p.format (if same then []
    else stage (log_anew (reset_point clock p) (size_or size p) p.block p) Anew ∷ []) ≡ 2
opened_format p size clock true is =
    eqb-true p.format 2 (and_parts (nat_eq p.format 2) (nat_eq (size_or size p) p.size) is).0
opened_format p size clock false is = refl

-- a call of an open primary keeps the format, and an opening brings it about
call_format : (p : Place) (s : State) (call : Call) (answer : Answer) (made : List Stage)
    → (wants_open call ≡ true → p.format ≡ 2)
    → CallMakes p s call answer made → last_format p.format made ≡ 2
call_format p s (Perform ask) answer made newer h =
    ap (last_format p.format) h.is ∙ plan_format ask (plan_at ask (seen p s)) p (newer refl)
call_format p s (Stash clock) answer made newer h = ap (last_format p.format) h.is ∙ newer refl
call_format p s (ResetLog clock) answer made newer h = ap (last_format p.format) h.is
call_format p s (Load rows clock) answer made newer h = ap (last_format p.format) h.is
call_format p s (Open size room clock) answer made newer h =
    ap (last_format p.format) h.is
    ∙ opened_format p size clock (nat_eq p.format 2 && nat_eq (size_or size p) p.size) refl

fresh_when : (up : Bool) (history : List Stage) (t : Stage) (others : List Stage) → history ≡ t ∷ others
    → IsFresh up history → up ≡ true
    → t.place.format ≡ 2
fresh_when false history t others is h e = absurd (true≢false (sym e))
fresh_when true history t others is h e = subst (IsFresh true) is h

fresh_creation : (up : Bool) (t : Stage) → (up ≡ true → t.place.format ≡ 2) → IsFresh up (t ∷ [])
fresh_creation false t h = tt
fresh_creation true t h = h refl

pub site_fresh : (event : SiteEvent) (old new : Site) (said : Option Message) → IsFresh old.up old.history
    → HappensAt event old new said
    → IsFresh new.up new.history
site_fresh (Creates t up) old new said h e =
    subst (λ (x : Site). IsFresh x.up x.history) (sym e.is) (fresh_creation up t e.newer)
site_fresh (Calls call answer made) old new said h e =
    let p : Place = e.at.last.place in
    let newer : wants_open call ≡ true → p.format ≡ 2 =
    λ (o : wants_open call ≡ true). fresh_when old.up old.history e.at.last e.at.others e.at.is h (e.ready ∙ o) in
    let onto_made : IsFresh true (onto made old.history) =
    subst (λ (x : List Stage). IsFresh true (onto made x)) (sym e.at.is)
    (fresh_onto made e.at.last e.at.others (call_format p (state_of old) call answer made newer e.makes)) in
    subst (λ (x : Site). IsFresh x.up x.history) (sym e.is) onto_made
site_fresh (Stops call answer made part) old new said h e = subst (λ (x : Site). IsFresh x.up x.history) (sym e.is) tt
site_fresh Crashes old new said h e = subst (λ (x : Site). IsFresh x.up x.history) (sym e.is) tt
site_fresh Ends old new said h e = subst (λ (x : Site). IsFresh x.up x.history) (sym e.is) tt
site_fresh Looks old new said h e = subst (λ (x : Site). IsFresh x.up x.history) (sym e.is) h
site_fresh (Polls client access asked) old new said h e = subst (λ (x : Site). IsFresh x.up x.history) (sym e.is) h
site_fresh (Dumps client access) old new said h e = subst (λ (x : Site). IsFresh x.up x.history) (sym e.is) h
site_fresh EndsDump old new said h e = subst (λ (x : Site). IsFresh x.up x.history) (sym e.is) h
