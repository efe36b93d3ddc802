-- What a primary answers with no change, as events.
use Rattle.std.proofs.Common.{◌≡◌, ◌+◌, ◌-◌, ◌&&◌, ℕ, Bool, true, false, not, List}
use Rattle.std.proofs.Common.{[], ◌∷◌, Option, Some, None, refl, sym, ◌∙◌, ap, subst}
use Rattle.std.specs.Prelude.{is_some, nat_eq, if◌then◌else◌}
use Rattle.acl_text.specs.Decisions.{decision}
use Rattle.acl_text.specs.declared.rules.AclLine.{AclLine}
use Rattle.command_plans.specs.Causes.{denial_of}
use Rattle.iprop_truths.specs.Polls.{PollReply, poll_reply}
use Rattle.iprop_truths.specs.Pulling.{denies_pull, pull_letter}
use Rattle.iprop_truths.specs.Truths.{Dumped, Reply}
use Rattle.kdb_base.specs.declared.moments.Point.{Point}
use Rattle.kdb_base.specs.declared.outcomes.Refusal.{Refusal}
use Rattle.kdb_base.specs.declared.outcomes.Refusal.TheVariants.{Busy, Closed, Denied}
use Rattle.kdb_histories.specs.Sites.{Dumps, EndsDump, Looks, Polls, Site, is_busy, state_of, with_dumps as dumping}
use Rattle.kdb_histories.specs.Stages.{ShowsAt}
use Rattle.kdb_model.specs.Access.{asking_alone, denied_in, propagating}
use Rattle.kdb_model.specs.Refusals.{when}
use Rattle.kdb_places.specs.Places.{Contents, Place, contents_of}
use Rattle.primary_core.specs.Dumping.{with_dumps}
use Rattle.primary_core.specs.Opened.{Opened, place_of}
use Rattle.primary_core.specs.Refusing.{dump_refused, is_full, or_else, pulling_denied}
use Rattle.primary_events.specs.At.{IsAt, LeadsTo}
use Rattle.princ_name.specs.Names.{NameParts}

-- ---- the client is not denied

allowed_by : (b c : Bool) (why : Refusal) → (if b && not (false && c) then None else Some why) ≡ None → b ≡ true
allowed_by true c why h = refl
allowed_by false c why h = let both : ◌≡◌ {A = Option Refusal} (Some why) None = h in absurd cc

allowed_in : (lines : List AclLine) (client : NameParts) → denied_in lines client (asking_alone propagating ∷ []) ≡ None
    → (decision lines client pull_letter None).allowed ≡ true
unfolding denied_in
allowed_in lines client h =
    let d = decision lines client pull_letter None in
    allowed_by d.allowed (is_some d.limits) (Denied d.line) h

pulls : (access : Option (List AclLine)) (client : NameParts)
    → denial_of access client (asking_alone propagating ∷ []) ≡ None
    → denies_pull access client ≡ false
pulls None client h = refl
pulls (Some lines) client h = ap not (allowed_in lines client h)

-- ---- a dump is not refused

never : (x : Option Refusal) → ((why : Refusal) → x ≡ Some why → ⊥) → x ≡ None
never None h = refl
never (Some why) h = absurd (h why refl)

open_none : (broken : Bool) (x : Option Refusal) → broken ≡ false
    → (if broken then Some Closed else x) ≡ None → x ≡ None
open_none true x whole h = let both : true ≡ false = whole in absurd cc
open_none false x whole h = h

first_none : (a b : Option Refusal) → or_else a b ≡ None → a ≡ None
first_none None b h = refl
first_none (Some why) b h = h

second_none : (a b : Option Refusal) → or_else a b ≡ None → b ≡ None
second_none None b h = h
second_none (Some why) b h = let both : ◌≡◌ {A = Option Refusal} (Some why) None = h in absurd cc

when_none : (b : Bool) (why : Refusal) → when b why ≡ None → b ≡ false
when_none true why h = let both : ◌≡◌ {A = Option Refusal} (Some why) None = h in absurd cc
when_none false why h = refl

busy_is : (o : Opened) (s : Site) → IsAt o s → is_busy s ≡ is_full o
busy_is o s h = ap (λ (n : ℕ). nat_eq n s.room) h.dumps ∙ ap (nat_eq o.dumps) h.room

-- the primary with so many dumps, and the site with as many
dumping_at : (o : Opened) (s : Site) (n m : ℕ) → IsAt o s → n ≡ m → IsAt (with_dumps m o) (dumping n s)
dumping_at o s n m h same = record {
  at = record { last = h.at.last; others = h.at.others; is = h.at.is };
  place = h.place;
  has = record { shows = h.has.shows; masters_are = h.has.masters_are };
  up = h.up;
  whole = h.whole;
  dumps = same;
  room = h.room;
}

-- ---- events

pub polled : (o : Opened) (s : Site) (client : NameParts) (access : Option (List AclLine)) (asked : Point)
    (r : PollReply) → IsAt o s
    → r ≡ poll_reply (denies_pull access client) (is_full o) asked (place_of o).held
    → LeadsTo s (Polls client access asked) (Some (Reply r)) o
polled o s client access asked r h is =
    let denied = denies_pull access client in
    let same = is ∙ ap (λ (b : Bool). poll_reply denied b asked (place_of o).held) (sym (busy_is o s h))
    ∙ ap (λ (p : Place). poll_reply denied (is_busy s) asked p.held) (sym h.place) in
    record {
      new = s;
      happens = record { at = h.at; ready = h.up; is = refl; says = ap (λ (x : PollReply). Some (Reply x)) same };
      at = h;
    }

pub dumped : (o : Opened) (s : Site) (client : NameParts) (access : Option (List AclLine)) (contents : Contents)
    → IsAt o s
    → ((why : Refusal) → dump_refused o client access ≡ Some why → ⊥) → contents ≡ contents_of (place_of o)
    → LeadsTo s (Dumps client access) (Some (Dumped contents)) (with_dumps (o.dumps + 1) o)
dumped o s client access contents h refused is =
    let denied = pulling_denied client access in
    let busy = when (is_full o) Busy in
    let none = open_none o.kept.broken (or_else denied busy) h.whole (never (dump_refused o client access) refused) in
    let free = busy_is o s h ∙ when_none (is_full o) Busy (second_none denied busy none) in
    record {
      new = dumping (s.dumps + 1) s;
      happens = record {
        at = h.at;
        ready = h.up;
        allowed = pulls access client (first_none denied busy none);
        free = free;
        is = refl;
        says = ap (λ (x : Contents). Some (Dumped x)) (is ∙ ap contents_of (sym h.place));
      };
      at = dumping_at o s (s.dumps + 1) (o.dumps + 1) h (ap (λ (n : ℕ). n + 1) h.dumps);
    }

pub dump_ended : (o : Opened) (s : Site) → IsAt o s → LeadsTo s EndsDump None (with_dumps (o.dumps - 1) o)
dump_ended o s h = record {
  new = dumping (s.dumps - 1) s;
  happens = record { ready = h.up; is = refl; silent = refl };
  at = dumping_at o s (s.dumps - 1) (o.dumps - 1) h (ap (λ (n : ℕ). n - 1) h.dumps);
}

pub looked : (o : Opened) (s : Site) → IsAt o s → LeadsTo s Looks None o
looked o s h = record { new = s; happens = record { is = refl; silent = refl }; at = h }

-- it wanted memory: what it keeps may be held in another way, but stands for the same
pub wanted : (o new : Opened) (s : Site) → IsAt o s → place_of new ≡ place_of o → new.masters ≡ o.masters
    → (new.dumps ≡ o.dumps) × (new.room ≡ o.room) → new.kept.broken ≡ false → LeadsTo s Looks None new
wanted o new s h place masters same whole = record {
  new = s;
  happens = record { is = refl; silent = refl };
  at = record {
    at = record { last = h.at.last; others = h.at.others; is = h.at.is };
    place = h.place ∙ sym place;
    has = record {
      shows = subst (λ (p : Place). ShowsAt p (state_of s)) (sym place) h.has.shows;
      masters_are = h.has.masters_are ∙ sym masters;
    };
    up = h.up;
    whole = whole;
    dumps = h.dumps ∙ sym same.0;
    room = h.room ∙ sym same.1;
  };
}
