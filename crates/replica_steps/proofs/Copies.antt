-- What a replica makes of true messages are copies of places.
use Rattle.std.proofs.Common.{◌≡◌, ℕ, zero, suc, ◌<◌, Bool, true, false, ◌&&◌, List}
use Rattle.std.proofs.Common.{[], ◌∷◌, Option, Some, None, refl, sym, ◌∙◌, ap, subst}
use Rattle.std.specs.Prelude.{nat_eq, take, if◌then◌else◌}
use Rattle.std.proofs.lemmas.Bool.{and_parts, eqb-true}
use Rattle.std.proofs.lemmas.List.Elements.{All-cons, All-nil, All-head, All-tail}
use Rattle.std.specs.List.{All}
use Rattle.iprop_reply.proofs.Serials.{point_is}
use Rattle.iprop_reply.specs.Polls.{is_point}
use Rattle.iprop_truths.proofs.Leading.{holds_change}
use Rattle.iprop_truths.specs.Blocks.{block_for, is_too_long}
use Rattle.iprop_truths.specs.Polls.{PollReply, updates_here}
use Rattle.iprop_truths.specs.Truths.{Has, HoldsFrom, IsNext, IsOnePerPoint, IsTrueOf, AreLinked, Makes, Reply}
use Rattle.kdb_base.specs.Moment.{Moment}
use Rattle.kdb_base.specs.declared.moments.Point.{Point}
use Rattle.kdb_places.proofs.Points.{committed_point, first_point}
use Rattle.kdb_places.specs.Applying.{may_apply}
use Rattle.kdb_places.specs.Places.{Contents, Place, base_marker, change, committed, contents_of}
use Rattle.kdb_places.specs.Places.{created, log_anew, next_point, no_point, point_of, replaced}
use Rattle.princ_rows.specs.declared.entries.Entry.{Entry}
use Rattle.princ_rows.specs.declared.entries.Op.{Op}
use Rattle.princ_rows.specs.Effects.{effect}
use Rattle.princ_rows.specs.Rows.{RowLists}
use Rattle.replica_steps.specs.Judging.{all_updated, anew_for, is_taken, made_by_reply}
use Rattle.replica_steps.specs.Judging.{run_on, then_all, update_or_stop, updated}
use Rattle.replica_steps.specs.Replicas.{IsCopy, MayBeCopy, loaded, place_after, reopened}

abbrev pub AreCopies : List Place → List Place → Type 0
AreCopies places made = All (IsCopy places) made

pub no_copies : (places : List Place) → AreCopies places []
no_copies places = All-nil (IsCopy places)

more_copies : (places : List Place) (q : Place) (made : List Place) → IsCopy places q → AreCopies places made
    → AreCopies places (q ∷ made)
more_copies places q made copy rest = All-cons (IsCopy places) q made copy rest

-- so many of the places that are made
pub part_copy : (places : List Place) (place : Option Place) (made : List Place) (part : ℕ) → MayBeCopy places place
    → AreCopies places made
    → MayBeCopy places (place_after place (take part made))
part_copy places place made zero copy rest = copy
part_copy places place [] (suc part) copy rest = copy
part_copy places place (q ∷ made) (suc part) copy rest =
    part_copy places (Some q) made part (All-head (IsCopy places) q made rest) (All-tail (IsCopy places) q made rest)

pub all_copy : (places : List Place) (place : Option Place) (made : List Place) → MayBeCopy places place
    → AreCopies places made
    → MayBeCopy places (place_after place made)
all_copy places place [] copy rest = copy
all_copy places place (q ∷ made) copy rest =
    all_copy places (Some q) made (All-head (IsCopy places) q made rest) (All-tail (IsCopy places) q made rest)

-- ---- a log begun anew, and a dump

abbrev contents_at : List ℕ → RowLists → Point → Contents
contents_at realm rows point = record { realm = realm; point = point; rows = rows }

contents_as : (realm : List ℕ) (a b : Point) (rows : RowLists) → a ≡ b
    → contents_at realm rows a ≡ contents_at realm rows b
contents_as realm a b rows e = ap (contents_at realm rows) e

-- a place that holds a base marker alone, with the contents of a place
marker_copy : (places : List Place) (q : Place) (d : Contents) → Has places d → contents_of q ≡ d
    → q.held ≡ base_marker d.point ∷ [] → 0 < q.size
    → IsCopy places q
marker_copy places q d has same held some = record {
  has = subst (Has places) (sym same) has;
  held = subst (λ (x : List Entry). HoldsFrom places x (contents_of q)) (sym held)
      (record { from = d; has = has; at = refl; leads = sym same });
  sized = some;
}

pub anew_same : (p : Place) (size block : ℕ) → contents_of (log_anew (point_of p) size block p) ≡ contents_of p
anew_same p size block =
    contents_as p.realm (point_of (log_anew (point_of p) size block p)) (point_of p) p.rows
    (first_point no_point (base_marker (point_of p)))

pub anew_copy : (places : List Place) (p : Place) (size block : ℕ) → IsCopy places p → 0 < size
    → IsCopy places (log_anew (point_of p) size block p)
anew_copy places p size block copy some =
    marker_copy places (log_anew (point_of p) size block p) (contents_of p) copy.has (anew_same p size block) refl some

pub loaded_copy : (places : List Place) (size : ℕ) (place : Option Place) (d : Contents) → MayBeCopy places place
    → 0 < size → Has places d
    → IsCopy places (loaded size place d)
loaded_copy places size None d copy some has =
    let q = created d.realm d.rows d.point size 2048 None 2 in
    marker_copy places q d has
    (contents_as d.realm (point_of q) d.point d.rows (first_point no_point (base_marker d.point))) refl some
loaded_copy places size (Some p) d copy some has =
    let q = replaced d.realm d.rows d.point p in
    marker_copy places q d has
    (contents_as d.realm (point_of q) d.point d.rows (first_point no_point (base_marker d.point))) refl copy.sized

reopened_by : (places : List Place) (n : ℕ) (p : Place) (same : Bool) → IsCopy places p → 0 < n
    → AreCopies places (if same then [] else log_anew (point_of p) n p.block p ∷ [])
reopened_by places n p true copy some = no_copies places
reopened_by places n p false copy some =
    more_copies places (log_anew (point_of p) n p.block p) [] (anew_copy places p n p.block copy some)
    (no_copies places)

pub reopened_copies : (places : List Place) (n : ℕ) (place : Option Place) → MayBeCopy places place → 0 < n
    → AreCopies places (reopened n place)
reopened_copies places n None copy some = no_copies places
reopened_copies places n (Some p) copy some = reopened_by places n p (nat_eq p.format 2 && nat_eq n p.size) copy some

-- ---- an update

-- the place has the contents of a place, and this update leads to the next
pub record Follows (places : List Place) (p : Place) (u : Entry) (op : Op) (d : Contents) : Type 0 where
  pub has : Has places d
  pub is : u.op ≡ Some op
  pub makes : Makes (contents_of p) u d
  pub next : IsNext places (contents_of p) d

point_parts : (a b : Point) → a.sno ≡ b.sno → a.time ≡ b.time → a ≡ b
point_parts a b s t =
    ap (λ (n : ℕ). let x : Point = record { sno = n; time = a.time } in x) s
    ∙ ap (λ (m : Moment). let x : Point = record { sno = b.sno; time = m } in x) t

entry_is : (u : Entry) (op : Op) (at : Point) → u.op ≡ Some op → u.point ≡ at → u ≡ change op at
entry_is u op at is same = ap (λ (o : Option Op). let x : Entry = record { point = u.point; op = o } in x) is
    ∙ ap (λ (x : Point). change op x) same

some_op : (a b : Op) (o : Option Op) → o ≡ Some a → o ≡ Some b → a ≡ b
some_op a b o e f = cc

contents_from : (c d : Contents) → c.realm ≡ d.realm → c.point ≡ d.point → c.rows ≡ d.rows → c ≡ d
contents_from c d r p w =
    ap (λ (x : List ℕ). let y : Contents = record { realm = x; point = c.point; rows = c.rows } in y) r
    ∙ ap (λ (x : Point). let y : Contents = record { realm = d.realm; point = x; rows = c.rows } in y) p
    ∙ ap (λ (x : RowLists). let y : Contents = record { realm = d.realm; point = d.point; rows = x } in y) w

-- the place that the update makes is a copy of the next one
pub record Lands (places : List Place) (q : Place) (d : Contents) : Type 0 where
  pub same : contents_of q ≡ d
  pub copy : IsCopy places q

pub lands : (places : List Place) (p : Place) (u : Entry) (op : Op) (d : Contents) → IsCopy places p
    → Follows places p u op d
    → Lands places (committed op u.point.time p) d
lands places p u op d copy f =
    let q = committed op u.point.time p in
    let m = f.makes in
    let own : m.op ≡ op = some_op m.op op u.op m.change f.is in
    let at : point_of q ≡ next_point u.point.time p = committed_point op u.point.time p copy.sized in
    let there : u.point ≡ next_point u.point.time p = point_parts u.point (next_point u.point.time p) m.serial refl in
    let rows : effect (Some op) p.rows ≡ d.rows = ap (λ (x : Op). effect (Some x) p.rows) (sym own) ∙ sym m.rows in
    let same : contents_of q ≡ d = contents_from (contents_of q) d (sym m.realm) (at ∙ sym there ∙ sym m.point) rows in
    let e = change op (next_point u.point.time p) in
    let is : u ≡ e = entry_is u op (next_point u.point.time p) f.is there in
    let held : HoldsFrom places q.held d =
    holds_change places p.size p.held (contents_of p) e d copy.sized copy.held f.has
    (subst (λ (x : Entry). Makes (contents_of p) x d) is m) f.next in
    record {
      same = same;
      copy = record {
        has = subst (Has places) (sym same) f.has;
        held = subst (HoldsFrom places q.held) (sym same) held;
        sized = copy.sized;
      };
    }

-- what a place's contents are is all that the next step asks of it
pub follows_at : (places : List Place) (p q : Place) (u : Entry) (op : Op) (d : Contents)
    → contents_of q ≡ contents_of p → Follows places p u op d
    → Follows places q u op d
follows_at places p q u op d same f = record {
  has = f.has;
  is = f.is;
  makes = subst (λ (x : Contents). Makes x u d) (sym same) f.makes;
  next = subst (λ (x : Contents). IsNext places x d) (sym same) f.next;
}

-- the places of one update, and those of what comes behind it
updated_copies : (places : List Place) (size : ℕ) (p : Place) (u : Entry) (op : Op) (d : Contents) (long : Bool)
    (rest : Place → List Place)
    → 0 < size → IsCopy places p
    → Follows places p u op d → ((q : Place) → Lands places q d → AreCopies places (rest q))
    → AreCopies places
    (then_all p (if long then anew_for size op p ∷ committed op u.point.time (anew_for size op p) ∷ []
    else committed op u.point.time p ∷ []) rest)
updated_copies places size p u op d true rest some copy f others =
    let a = anew_for size op p in
    let anew = anew_copy places p size (block_for op p) copy some in
    let q = committed op u.point.time a in
    let there = lands places a u op d anew (follows_at places p a u op d (anew_same p size (block_for op p)) f) in
    more_copies places a (q ∷ rest q) anew (more_copies places q (rest q) there.copy (others q there))
updated_copies places size p u op d false rest some copy f others =
    let q = committed op u.point.time p in
    let there = lands places p u op d copy f in
    more_copies places q (rest q) there.copy (others q there)

step_copies : (places : List Place) (size : ℕ) (p : Place) (u : Entry) (op : Op) (d : Contents)
    (rest : Place → List Place) → 0 < size
    → IsCopy places p → Follows places p u op d
    → ((q : Place) → Lands places q d → AreCopies places (rest q))
    → AreCopies places (update_or_stop size u.op u.point.time p rest)
step_copies places size p u op d rest some copy f others =
    let own : f.makes.op ≡ op = some_op f.makes.op op u.op f.makes.change f.is in
    let may : may_apply op p.rows ≡ true = ap (λ (x : Op). may_apply x p.rows) (sym own) ∙ f.makes.fits in
    let all : AreCopies places (then_all p (updated size op u.point.time p) rest) =
    updated_copies places size p u op d (is_too_long op p) rest some copy f others in
    let here : AreCopies places (update_or_stop size (Some op) u.point.time p rest) =
    subst (λ (b : Bool). AreCopies places (if b then then_all p (updated size op u.point.time p) rest else []))
    (sym may) all in
    subst (λ (o : Option Op). AreCopies places (update_or_stop size o u.point.time p rest)) (sym f.is) here

-- all updates that lead on from the contents of the place
pub updates_copies : (places : List Place) (size : ℕ) (us : List Entry) (p : Place) (c d : Contents) → 0 < size
    → IsCopy places p
    → contents_of p ≡ c → AreLinked places c us d
    → AreCopies places (all_updated size us p)
unfolding all_updated
updates_copies places size [] p c d some copy same leads = no_copies places
updates_copies places size (u ∷ us) p c d some copy same leads =
    let m : Makes (contents_of p) u leads.0 = subst (λ (x : Contents). Makes x u leads.0) (sym same) leads.2 in
    let f : Follows places p u m.op leads.0 =
    record {
      has = leads.1;
      is = m.change;
      makes = m;
      next = subst (λ (x : Contents). IsNext places x leads.0) (sym same) leads.4;
    } in
    step_copies places size p u m.op leads.0 (all_updated size us) some copy f
    (λ q there. updates_copies places size us q leads.0 d some there.copy there.same leads.3)

-- ---- a reply

taken_copies : (places : List Place) (size : ℕ) (p : Place) (r : PollReply) (taken : Bool)
    → is_taken (point_of p) r ≡ taken → IsOnePerPoint places
    → 0 < size → IsCopy places p
    → IsTrueOf places (Reply r) → AreCopies places (if taken then all_updated size r.updates p else [])
taken_copies places size p r true is one some copy told =
    let parts =
    and_parts (nat_eq r.code updates_here) (is_point r.asked (point_of p) && run_on (point_of p) r.updates) is in
    let at = and_parts (is_point r.asked (point_of p)) (run_on (point_of p) r.updates) parts.1 in
    let on = told (eqb-true r.code updates_here parts.0) in
    let from = on.on in
    let same : from.from ≡ contents_of p =
    one from.from (contents_of p) from.has copy.has (from.at ∙ point_is r.asked (point_of p) at.0) in
    updates_copies places size r.updates p from.from on.to some copy (sym same) from.leads
taken_copies places size p r false is one some copy told = no_copies places

pub reply_copies : (places : List Place) (size : ℕ) (place : Option Place) (r : PollReply)
    → IsOnePerPoint places → 0 < size
    → MayBeCopy places place → IsTrueOf places (Reply r)
    → AreCopies places (made_by_reply size place r)
reply_copies places size None r one some copy told = no_copies places
reply_copies places size (Some p) r one some copy told =
    taken_copies places size p r (is_taken (point_of p) r) refl one some copy told

pub one_copy : (places : List Place) (size : ℕ) (place : Option Place) (d : Contents)
    → IsCopy places (loaded size place d)
    → AreCopies places (loaded size place d ∷ [])
one_copy places size place d copy = more_copies places (loaded size place d) [] copy (no_copies places)
