-- What leads on from place to place stays when places are added, and goes on with the next one.
use Rattle.std.proofs.Common.{ℕ, zero, suc, ◌-◌, ◌<◌, inr, List, [], ◌∷◌, ◌++◌}
use Rattle.std.proofs.Common.{length, drop, refl, sym, subst, arith, length-append}
use Rattle.iprop_truths.proofs.Members.{contains_more}
use Rattle.iprop_truths.specs.Truths.{Has, IsNext, Makes, AreLinked, GoesOn}
use Rattle.iprop_truths.specs.Truths.{HoldsFrom, Message, Reply, Dumped, IsTrueOf}
use Rattle.kdb_base.specs.declared.moments.Point.{Point}
use Rattle.kdb_places.specs.Places.{Place, Contents, base_marker, last_entries}
use Rattle.princ_rows.specs.declared.entries.Entry.{Entry}

-- ---- more places

pub has_more : (q : Place) (places : List Place) (c : Contents) → Has places c → Has (q ∷ places) c
has_more q places c h = record { place = h.place; there = contains_more q places h.place h.there; is = h.is }

pub next_more : (q : Place) (places : List Place) (c d : Contents) → IsNext places c d → IsNext (q ∷ places) c d
next_more q [] c d h = absurd h
next_more q (p ∷ older) c d h = inr h

pub leads_more : (q : Place) (places : List Place) (c : Contents) (us : List Entry) (d : Contents)
    → AreLinked places c us d
    → AreLinked (q ∷ places) c us d
leads_more q places c [] d h = h
leads_more q places c (u ∷ us) d h =
    (h.0, has_more q places h.0 h.1, h.2, leads_more q places h.0 us d h.3, next_more q places c h.0 h.4)

pub goes_more : (q : Place) (places : List Place) (asked : Point) (us : List Entry) (d : Contents)
    → GoesOn places asked us d
    → GoesOn (q ∷ places) asked us d
goes_more q places asked us d h =
    record {
      from = h.from;
      has = has_more q places h.from h.has;
      at = h.at;
      leads = leads_more q places h.from us d h.leads;
    }

pub holds_more : (q : Place) (places : List Place) (held : List Entry) (d : Contents) → HoldsFrom places held d
    → HoldsFrom (q ∷ places) held d
holds_more q places [] d h = absurd h
holds_more q places (e ∷ entries) d h = goes_more q places e.point entries d h

pub true_more : (q : Place) (places : List Place) (m : Message) → IsTrueOf places m → IsTrueOf (q ∷ places) m
true_more q places (Reply r) h =
    λ code. record { to = (h code).to; on = goes_more q places r.asked r.updates (h code).to (h code).on }
true_more q places (Dumped c) h = has_more q places c h

-- ---- one update more

leads_push : (places : List Place) (c : Contents) (us : List Entry) (d : Contents) (u : Entry) (e : Contents)
    → AreLinked places c us d
    → Has places e → Makes d u e → IsNext places d e
    → AreLinked places c (us ++ u ∷ []) e
leads_push places c [] d u e h has makes next = (
  e,
  has,
  subst (λ (x : Contents). Makes x u e) (sym h) makes,
  refl,
  subst (λ (x : Contents). IsNext places x e) (sym h) next,
)
leads_push places c (v ∷ us) d u e h has makes next =
    (h.0, h.1, h.2, leads_push places h.0 us d u e h.3 has makes next, h.4)

holds_push : (places : List Place) (held : List Entry) (d : Contents) (u : Entry) (e : Contents)
    → HoldsFrom places held d → Has places e
    → Makes d u e → IsNext places d e
    → HoldsFrom places (held ++ u ∷ []) e
holds_push places [] d u e h has makes next = absurd h
holds_push places (f ∷ held) d u e h has makes next =
    record { from = h.from; has = h.has; at = h.at; leads = leads_push places h.from held d u e h.leads has makes next }

-- ---- the last entries

holds_rest : (places : List Place) (e f : Entry) (entries : List Entry) (d : Contents)
    → HoldsFrom places (e ∷ f ∷ entries) d
    → HoldsFrom places (f ∷ entries) d
holds_rest places e f entries d h =
    let first = h.leads in
    record { from = first.0; has = first.1; at = first.2.point; leads = first.3 }

holds_drop : (places : List Place) (k : ℕ) (entries : List Entry) (d : Contents) → k < length entries
    → HoldsFrom places entries d
    → HoldsFrom places (drop k entries) d
holds_drop places zero entries d some h = h
holds_drop places (suc k) [] d some h = absurd h
holds_drop places (suc k) (e ∷ []) d some h = absurd (omega (arith, some))
holds_drop places (suc k) (e ∷ f ∷ entries) d some h =
    holds_drop places k (f ∷ entries) d (omega (arith, some)) (holds_rest places e f entries d h)

-- what is held leads on to the place that the next change makes
pub holds_change : (places : List Place) (size : ℕ) (held : List Entry) (d : Contents) (u : Entry) (e : Contents)
    → 0 < size
    → HoldsFrom places held d → Has places e → Makes d u e
    → IsNext places d e → HoldsFrom places (last_entries size (held ++ u ∷ [])) e
holds_change places size held d u e some h has makes next =
    let long = length-append held (u ∷ []) in
    holds_drop places (length (held ++ u ∷ []) - size) (held ++ u ∷ []) e (omega (arith, long, some))
    (holds_push places held d u e h has makes next)

-- a log begun anew holds its base marker alone
pub holds_marker : (places : List Place) (c : Contents) → Has places c → HoldsFrom places (base_marker c.point ∷ []) c
holds_marker places c has = record { from = c; has = has; at = refl; leads = refl }
