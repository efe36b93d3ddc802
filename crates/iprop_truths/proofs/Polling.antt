-- A poll's reply is true where what is held leads on, and its updates stand behind a serial.
use Rattle.std.proofs.Common.{◌≡◌, ◌≢◌, ℕ, suc, ◌+◌, ◌-◌, inl, inr, Bool, true, false, List, [], ◌∷◌}
use Rattle.std.proofs.Common.{length, drop, Option, Some, None, refl, sym, ap, subst, ◌∙◌, arith}
use Rattle.std.specs.Prelude.{if◌then◌else◌}
use Rattle.std.specs.List.{All}
use Rattle.std.proofs.lemmas.Bool.{true≢false}
use Rattle.std.proofs.lemmas.List.Elements.{All-cons, All-nil}
use Rattle.iprop_reply.proofs.Serials.{found, point_is, point_same, runs_by}
use Rattle.iprop_reply.specs.Polls.{AreHeld, is_point, updates_after}
use Rattle.iprop_truths.specs.Polls.{WantsDump, poll_reply, told_of}
use Rattle.iprop_truths.specs.Truths.{GoesOn, HoldsFrom, Reply, IsTrueOf}
use Rattle.kdb_base.specs.declared.moments.Point.{Point}
use Rattle.kdb_places.specs.Places.{Place, Contents}
use Rattle.princ_rows.specs.declared.entries.Entry.{Entry}

goes_by : (places : List Place) (asked : Point) (e : Entry) (entries us : List Entry) (d : Contents) (here : Bool)
    → is_point e.point asked ≡ here
    → GoesOn places e.point entries d
    → (updates_after asked entries ≡ Some us → GoesOn places asked us d)
    → (if here then Some entries else updates_after asked entries) ≡ Some us
    → GoesOn places asked us d
goes_by places asked e entries us d true is h others f =
    let same : entries ≡ us = cc in
    let at : GoesOn places asked entries d =
    subst (λ (x : Point). GoesOn places x entries d) (point_is e.point asked is) h in
    subst (λ (x : List Entry). GoesOn places asked x d) same at
goes_by places asked e entries us d false is h others f = others f

-- from the entry with the point that is asked
goes_on : (places : List Place) (asked : Point) (held us : List Entry) (d : Contents) → HoldsFrom places held d
    → updates_after asked held ≡ Some us
    → GoesOn places asked us d
unfolding updates_after
goes_on places asked [] us d h f = absurd h
goes_on places asked (e ∷ []) us d h f =
    goes_by places asked e [] us d (is_point e.point asked) refl h (λ g. absurd cc) f
goes_on places asked (e ∷ u ∷ entries) us d h f =
    let first = h.leads in
    let rest : GoesOn places u.point entries d =
    record { from = first.0; has = first.1; at = first.2.point; leads = first.3 } in
    goes_by places asked e (u ∷ entries) us d (is_point e.point asked) refl h
    (λ g. goes_on places asked (u ∷ entries) us d rest g) f

told_true : (places : List Place) (busy : Bool) (asked : Point) (held : List Entry) (d : Contents)
    (updates : Option (List Entry))
    → HoldsFrom places held d → updates_after asked held ≡ updates
    → IsTrueOf places (Reply (told_of busy asked updates))
told_true places true asked held d None h is = λ code. absurd (omega (arith, code))
told_true places false asked held d None h is = λ code. absurd (omega (arith, code))
told_true places busy asked held d (Some []) h is = λ code. absurd (omega (arith, code))
told_true places busy asked held d (Some (u ∷ us)) h is =
    λ code. record { to = d; on = goes_on places asked held (u ∷ us) d h is }

pub poll_true : (places : List Place) (denied busy : Bool) (asked : Point) (held : List Entry) (d : Contents)
    → HoldsFrom places held d
    → IsTrueOf places (Reply (poll_reply denied busy asked held))
poll_true places true busy asked held d h = λ code. absurd (omega (arith, code))
poll_true places false busy asked held d h = told_true places busy asked held d (updates_after asked held) h refl

-- ---- serials

-- the updates are what stands behind so many entries
record IsBehind (entries us : List Entry) : Type 0 where
  before : ℕ
  is : us ≡ drop before entries
  count : before + length us ≡ length entries

behind_by : (asked : Point) (e : Entry) (entries us : List Entry) (here : Bool)
    → (updates_after asked entries ≡ Some us → IsBehind entries us)
    → (if here then Some entries else updates_after asked entries) ≡ Some us → IsBehind (e ∷ entries) us
behind_by asked e entries us true others f =
    let same : entries ≡ us = cc in
    subst (λ (x : List Entry). IsBehind (e ∷ entries) x) same (record { before = 1; is = refl; count = omega arith })
behind_by asked e entries us false others f =
    let h = others f in
    let count = h.count in
    record { before = suc h.before; is = h.is; count = omega arith }

behind : (asked : Point) (entries us : List Entry) → updates_after asked entries ≡ Some us → IsBehind entries us
unfolding updates_after
behind asked [] us f = absurd cc
behind asked (e ∷ entries) us f =
    behind_by asked e entries us (is_point e.point asked) (λ g. behind asked entries us g) f

pub updates_behind : (first last asked : Point) (entries us : List Entry) → AreHeld first last entries
    → updates_after asked entries ≡ Some us
    → us ≡ drop (asked.sno + 1 - first.sno) entries
updates_behind first last asked entries us held f =
    let b = behind asked entries us f in
    let count = b.count in
    let found_at = (found first.sno asked entries us (runs_by first.sno entries held.serials) f).count in
    let same : b.before ≡ asked.sno + 1 - first.sno = omega arith in
    b.is ∙ ap (λ (k : ℕ). drop k entries) same

-- ---- a dump is wanted

lost_by : (asked : Point) (e : Entry) (entries : List Entry) (here : Bool) → is_point e.point asked ≡ here
    → (updates_after asked entries ≡ None → All (λ (x : Entry). x.point ≢ asked) entries)
    → (if here then Some entries else updates_after asked entries) ≡ None
    → All (λ (x : Entry). x.point ≢ asked) (e ∷ entries)
lost_by asked e entries true is others f = absurd cc
lost_by asked e entries false is others f =
    let other : e.point ≢ asked =
    λ (same : e.point ≡ asked). true≢false
    (sym (point_same e.point asked (ap (λ (x : Point). x.sno) same) (ap (λ (x : Point). x.time) same)) ∙ is) in
    All-cons (λ (x : Entry). x.point ≢ asked) e entries other (others f)

lost : (asked : Point) (entries : List Entry) → updates_after asked entries ≡ None
    → All (λ (x : Entry). x.point ≢ asked) entries
unfolding updates_after
lost asked [] f = All-nil (λ (x : Entry). x.point ≢ asked)
lost asked (e ∷ entries) f = lost_by asked e entries (is_point e.point asked) refl (λ g. lost asked entries g) f

wanted_by : (busy : Bool) (asked : Point) (held : List Entry) (updates : Option (List Entry))
    → updates_after asked held ≡ updates
    → WantsDump (told_of busy asked updates).code → All (λ (x : Entry). x.point ≢ asked) held
wanted_by busy asked held None is wants = lost asked held is
wanted_by busy asked held (Some []) is (inl code) = absurd (omega (arith, code))
wanted_by busy asked held (Some []) is (inr code) = absurd (omega (arith, code))
wanted_by busy asked held (Some (u ∷ us)) is (inl code) = absurd (omega (arith, code))
wanted_by busy asked held (Some (u ∷ us)) is (inr code) = absurd (omega (arith, code))

pub wanted : (denied busy : Bool) (asked : Point) (held : List Entry)
    → WantsDump (poll_reply denied busy asked held).code
    → All (λ (x : Entry). x.point ≢ asked) held
wanted true busy asked held (inl code) = absurd (omega (arith, code))
wanted true busy asked held (inr code) = absurd (omega (arith, code))
wanted false busy asked held wants = wanted_by busy asked held (updates_after asked held) refl wants
