-- A true reply at a replica's point is taken whole.
use Rattle.std.proofs.Common.{◌≡◌, ◌≢◌, ℕ, ◌+◌, ◌<◌, ◌≤◌, Bool, true, false, ◌&&◌, not, List}
use Rattle.std.proofs.Common.{[], ◌∷◌, length, Option, Some, None, refl, sym, ◌∙◌, ap, subst}
use Rattle.std.specs.Prelude.{nat_eq, nat_le, if◌then◌else◌}
use Rattle.std.proofs.lemmas.Bool.{and_from, eq-eqb, eqb-true, le-leb}
use Rattle.iprop_reply.proofs.Serials.{point_same}
use Rattle.iprop_reply.specs.Polls.{is_point}
use Rattle.iprop_truths.specs.Blocks.{block_for, is_too_long}
use Rattle.iprop_truths.specs.Parts.{end_of}
use Rattle.iprop_truths.specs.Polls.{PollReply, updates_here}
use Rattle.iprop_truths.specs.Truths.{Has, IsNext, IsOnePerPoint, IsTrueOf, AreLinked, Makes, Reply}
use Rattle.kdb_base.specs.Moments.{micros}
use Rattle.kdb_base.specs.declared.moments.Point.{Point}
use Rattle.kdb_places.specs.Places.{Contents, Place, committed, contents_of, last_point, point_of}
use Rattle.princ_rows.specs.declared.entries.Entry.{Entry}
use Rattle.princ_rows.specs.declared.entries.Op.{Op}
use Rattle.replica_steps.proofs.Copies.{Follows, Lands, anew_copy, anew_same, follows_at, lands}
use Rattle.replica_steps.specs.Judging.{Gap, Updated, all_updated, anew_for, follows, gap_in, has_next, is_taken}
use Rattle.replica_steps.specs.Judging.{judged, stop_in, stop_or, then_all, update_or_stop, updated, wanted}
use Rattle.replica_steps.specs.Replicas.{IsCopy}
use Rattle.replica_steps.specs.Wholes.{IsTakenWhole}

-- ---- the whole reply

not_equal : (n m : ℕ) (same : Bool) → nat_eq n m ≡ same → n ≢ m → not same ≡ true
not_equal n m true e other = absurd (other (eqb-true n m e))
not_equal n m false e other = refl

follows_true : (at : Point) (c d : Contents) (u : Entry) → c.point ≡ at → Makes c u d → follows true at u ≡ true
follows_true at c d u same m =
    let more : at.sno ≢ 4294967295 = subst (λ (x : Point). x.sno ≢ 4294967295) same m.more in
    let serial : u.point.sno ≡ at.sno + 1 = subst (λ (x : Point). u.point.sno ≡ x.sno + 1) same m.serial in
    let time : micros at.time ≤ micros u.point.time =
    subst (λ (x : Point). micros x.time ≤ micros u.point.time) same m.not_before in
    let is_next = nat_eq u.point.sno (at.sno + 1) in
    let is_after = nat_le (micros at.time) (micros u.point.time) in
    and_from (has_next true at) (is_next && is_after) (not_equal at.sno 4294967295 (nat_eq at.sno 4294967295) refl more)
    (and_from is_next is_after (eq-eqb u.point.sno (at.sno + 1) serial)
    (le-leb (micros at.time) (micros u.point.time) time))

no_gap : (places : List Place) (us : List Entry) (at : Point) (c d : Contents) → c.point ≡ at → AreLinked places c us d
    → gap_in true at us ≡ None
unfolding gap_in
no_gap places [] at c d same leads = refl
no_gap places (u ∷ us) at c d same leads =
    ap (λ (b : Bool). if b then gap_in true u.point us else Some (Gap (wanted true at) u.point))
    (follows_true at c leads.0 u same leads.2)
    ∙ no_gap places us u.point leads.0 d leads.2.point leads.3

-- ---- one update after another

last_then : (p : Place) (made : List Place) (rest : Place → List Place)
    → end_of p (then_all p made rest) ≡ end_of (end_of p made) (rest (end_of p made))
last_then p [] rest = refl
last_then p (q ∷ made) rest = last_then q made rest

updated_lands : (places : List Place) (size : ℕ) (p : Place) (u : Entry) (op : Op) (d : Contents) (long : Bool)
    → 0 < size → IsCopy places p
    → Follows places p u op d
    → Lands places
    (end_of p (if long then anew_for size op p ∷ committed op u.point.time (anew_for size op p) ∷ []
    else committed op u.point.time p ∷ [])) d
updated_lands places size p u op d true some copy f =
    let a = anew_for size op p in
    lands places a u op d (anew_copy places p size (block_for op p) copy some)
    (follows_at places p a u op d (anew_same p size (block_for op p)) f)
updated_lands places size p u op d false some copy f = lands places p u op d copy f

-- no update stops, and the last place has the contents to which they lead
record Ends (size : ℕ) (us : List Entry) (p : Place) (d : Contents) : Type 0 where
  none : stop_in size us p ≡ None
  same : contents_of (end_of p (all_updated size us p)) ≡ d

ends_step : (places : List Place) (size : ℕ) (u : Entry) (us : List Entry) (p : Place) (next d : Contents) → 0 < size
    → IsCopy places p
    → (m : Makes (contents_of p) u next) → Has places next
    → IsNext places (contents_of p) next → ((q : Place) → Lands places q next → Ends size us q d)
    → Ends size (u ∷ us) p d
unfolding stop_in all_updated
ends_step places size u us p next d some copy m has is_next others =
    let op = m.op in
    let made = updated size op u.point.time p in
    let q = end_of p made in
    let f : Follows places p u op next = record { has = has; is = m.change; makes = m; next = is_next } in
    let there : Lands places q next = updated_lands places size p u op next (is_too_long op p) some copy f in
    let rest = others q there in
    let stop : stop_or size u.op u.point p (stop_in size us) ≡ stop_in size us q =
    ap (λ (o : Option Op). stop_or size o u.point p (stop_in size us)) m.change
    ∙ ap (λ (b : Bool). if b then stop_in size us q else Some (Gap u.point.sno u.point)) m.fits in
    let makes : update_or_stop size u.op u.point.time p (all_updated size us) ≡ then_all p made (all_updated size us) =
    ap (λ (o : Option Op). update_or_stop size o u.point.time p (all_updated size us)) m.change
    ∙ ap (λ (b : Bool). if b then then_all p made (all_updated size us) else []) m.fits in
    let end : end_of p (update_or_stop size u.op u.point.time p (all_updated size us))
    ≡ end_of q (all_updated size us q) =
    ap (end_of p) makes ∙ last_then p made (all_updated size us) in
    record { none = stop ∙ rest.none; same = ap contents_of end ∙ rest.same }

ends_all : (places : List Place) (size : ℕ) (us : List Entry) (p : Place) (c d : Contents) → 0 < size → IsCopy places p
    → contents_of p ≡ c
    → AreLinked places c us d → Ends size us p d
unfolding stop_in all_updated
ends_all places size [] p c d some copy same leads = record { none = refl; same = same ∙ leads }
ends_all places size (u ∷ us) p c d some copy same leads =
    ends_step places size u us p leads.0 d some copy
    (subst (λ (x : Contents). Makes x u leads.0) (sym same) leads.2) leads.1
    (subst (λ (x : Contents). IsNext places x leads.0) (sym same) leads.4)
    (λ q there. ends_all places size us q leads.0 d some there.copy there.same leads.3)

-- ---- the judgement

-- the last of the updates' points is where they lead
leads_end : (places : List Place) (us : List Entry) (c d : Contents) (at : Point) → c.point ≡ at
    → AreLinked places c us d
    → last_point at us ≡ d.point
unfolding last_point
leads_end places [] c d at same leads = sym same ∙ ap (λ (x : Contents). x.point) leads
leads_end places (u ∷ us) c d at same leads = leads_end places us leads.0 d u.point leads.2.point leads.3

judged_whole : (size : ℕ) (p : Place) (r : PollReply) → nat_eq r.code updates_here ≡ true
    → is_point r.asked (point_of p) ≡ true
    → gap_in true (point_of p) r.updates ≡ None
    → stop_in size r.updates p ≡ None → judged size (Some p) r ≡ Updated (length r.updates)
unfolding judged
judged_whole size p r code at gap stop = rw (code, at, gap, stop) refl

taken_is : (p : Place) (r : PollReply) → nat_eq r.code updates_here ≡ true → is_point r.asked (point_of p) ≡ true
    → gap_in true (point_of p) r.updates ≡ None → is_taken (point_of p) r ≡ true
taken_is p r code at gap = rw (code, at, gap) refl

pub takes_whole : (places : List Place) (size : ℕ) (p : Place) (r : PollReply) → IsOnePerPoint places → 0 < size
    → IsCopy places p
    → IsTrueOf places (Reply r) → r.code ≡ updates_here
    → r.asked ≡ point_of p → IsTakenWhole places size p r
takes_whole places size p r one some copy told code asked =
    let on = (told code).on in
    let to = (told code).to in
    let same : on.from ≡ contents_of p = one on.from (contents_of p) on.has copy.has (on.at ∙ asked) in
    let leads : AreLinked places (contents_of p) r.updates to =
    subst (λ (x : Contents). AreLinked places x r.updates to) same on.leads in
    let ends = ends_all places size r.updates p (contents_of p) to some copy refl leads in
    let gap = no_gap places r.updates (point_of p) (contents_of p) to refl leads in
    let code_is : nat_eq r.code updates_here ≡ true = eq-eqb r.code updates_here code in
    let at_is : is_point r.asked (point_of p) ≡ true =
    point_same r.asked (point_of p) (ap (λ (x : Point). x.sno) asked) (ap (λ (x : Point). x.time) asked) in
    record {
      taken = taken_is p r code_is at_is gap;
      answer = judged_whole size p r code_is at_is gap ends.none;
      at = ap (λ (x : Contents). x.point) ends.same
          ∙ sym (leads_end places r.updates (contents_of p) to (point_of p) refl leads);
      has = subst (Has places) (sym ends.same) (to_there places r.updates (contents_of p) to copy.has leads);
    }
  where
    to_there : (all : List Place) (us : List Entry) (c d : Contents) → Has all c → AreLinked all c us d → Has all d
    to_there all [] c d has leads = subst (Has all) leads has
    to_there all (u ∷ us) c d has leads = to_there all us leads.0 d leads.1 leads.3
