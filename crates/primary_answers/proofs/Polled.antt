-- What a log holds, as the entries by which a poll is answered.
use Rattle.std.proofs.Common.{◌≡◌, ◌≢◌, ℕ, zero, suc, ◌+◌, ◌-◌, ◌<◌, ◌≤◌, Bool, true, false, List}
use Rattle.std.proofs.Common.{[], ◌∷◌, ◌++◌, length, map, get_or, take, drop, Option, Some, None}
use Rattle.std.proofs.Common.{inl, inr, refl, sym, ap, subst, ◌∙◌, arith, length-drop, take_all}
use Rattle.std.specs.Prelude.{Contains, nat_eq, if◌then◌else◌}
use Rattle.std.specs.List.{All}
use Rattle.std.proofs.lemmas.Bool.{eq-eqb, eqb-true}
use Rattle.std.proofs.lemmas.List.{get_or-drop, get_or-map, length-map}
use Rattle.std.proofs.lemmas.List.Elements.{All-from_get_or, All-get_or}
use Rattle.std.proofs.Math.Seq.{take-suc}
use Rattle.iprop_reply.proofs.Serials.{RunsFrom, found, runs_by}
use Rattle.iprop_reply.specs.Polls.{AreHeld, status_of, time_of, updates_after}
use Rattle.iprop_reply.specs.declared.status.Status4.{Status4}
use Rattle.iprop_reply.specs.declared.status.Status4.TheVariants as status
use Rattle.iprop_truths.proofs.Members.{contains_cases}
use Rattle.iprop_truths.specs.Polls.{PollReply, code_of, reply_of, told_of}
use Rattle.kdb_base.specs.Moment.{Moment}
use Rattle.kdb_base.specs.declared.moments.Point.{Point}
use Rattle.princ_rows.specs.Entries.{IsSent, kind_of}
use Rattle.princ_rows.specs.declared.entries.Entry.{Entry}
use Rattle.princ_rows.specs.declared.entries.Logged.{Logged}
use Rattle.princ_rows.specs.declared.entries.Op.{Op}
use Rattle.princ_rows.specs.declared.entries.Op.TheVariants.{PutPrinc, DropPrinc, Rename, PutPolicy, DropPolicy}
use Rattle.update_log.specs.Logs.{IsJournal, IsMarked, Journal, entry_of}
use Rattle.update_log.specs.Slots.{IsSpelled}

-- ---- the entries of a log

abbrev bare : Entry → Logged
bare e = record { entry = e; cell = 0 }

-- by the points that a log gives
pub record IsHeldBy (log : Journal) (first last : Point) : Type 0 where
  pub journal : IsJournal log
  pub first_is : (d : Logged) → first ≡ (get_or log.held 0 d).entry.point
  pub last_is : (d : Logged) → last ≡ (get_or log.held (length log.held - 1) d).entry.point
  pub serials : (i : ℕ) (d : Logged) → i < length log.held → (get_or log.held i d).entry.point.sno ≡ first.sno + i

module _ (log : Journal) (first last : Point) (h : IsHeldBy log first last) where
  as_long : length (map entry_of log.held) ≡ length log.held
  as_long = length-map log.held entry_of

  entry_at : (i : ℕ) (d : Entry) → i < length log.held
      → get_or (map entry_of log.held) i d ≡ (get_or log.held i (bare d)).entry
  entry_at i d lt = get_or-map entry_of log.held i (bare d) d lt

  held_within : (i : ℕ) → i < length (map entry_of log.held) → i < length log.held
  held_within i lt = subst (λ (n : ℕ). i < n) as_long lt

  pub are_held : AreHeld first last (map entry_of log.held)
  are_held =
      let some = h.journal.some in
      record {
        some = subst (λ (n : ℕ). 0 < n) (sym as_long) some;
        last_is = λ d.
            ap (λ (n : ℕ). (get_or (map entry_of log.held) (n - 1) d).point) as_long
            ∙ ap (λ (e : Entry). e.point) (entry_at (length log.held - 1) d (omega (arith, some)))
            ∙ sym (h.last_is (bare d));
        serials = λ i d lt.
            ap (λ (e : Entry). e.point.sno) (entry_at i d (held_within i lt)) ∙ h.serials i (bare d) (held_within i lt);
      }

-- ---- the time of a serial

runs_behind : (first : ℕ) (entries : List Entry) (e : Entry) → RunsFrom first entries → Contains entries e
    → first ≤ e.point.sno
unfolding RunsFrom
runs_behind first [] e r c = let lt = c.1 in absurd (omega (arith, lt))
runs_behind first (x ∷ entries) e r c = elim (contains_cases x entries e c) [
  | inl same ↦ let at : e.point.sno ≡ first = ap (λ (y : Entry). y.point.sno) (sym same) ∙ r.0 in omega (arith, at)
  | inr rest ↦ let lt = runs_behind (first + 1) entries e r.1 rest in omega (arith, lt)
]

differs : (a b : ℕ) (test : Bool) → nat_eq a b ≡ test → (a ≡ b → ⊥) → test ≡ false
differs a b true e other = absurd (other (eqb-true a b e))
differs a b false e other = refl

pub time_held : (first : ℕ) (entries : List Entry) (sno : ℕ) (e : Entry) → RunsFrom first entries → Contains entries e
    → e.point.sno ≡ sno
    → Some e.point.time ≡ time_of sno entries
unfolding RunsFrom time_of
time_held first [] sno e r c at = let lt = c.1 in absurd (omega (arith, lt))
time_held first (x ∷ entries) sno e r c at = elim (contains_cases x entries e c) [
  | inl same ↦
      let here : nat_eq x.point.sno sno ≡ true = eq-eqb x.point.sno sno (ap (λ (y : Entry). y.point.sno) same ∙ at) in
      rw here (ap (λ (y : Entry). let t : Option Moment = Some y.point.time in t) (sym same))
  | inr rest ↦
      let lt = runs_behind (first + 1) entries e r.1 rest in
      let own = r.0 in
      let other : x.point.sno ≡ sno → ⊥ = λ (same : x.point.sno ≡ sno). absurd (omega (arith, lt, own, at, same)) in
      rw (differs x.point.sno sno (nat_eq x.point.sno sno) refl other) (time_held (first + 1) entries sno e r.1 rest at)
]

none_at : (held : List Logged) (sno : ℕ)
    → ((i : ℕ) (d : Logged) → i < length held → (get_or held i d).entry.point.sno ≢ sno)
    → None ≡ time_of sno (map entry_of held)
unfolding time_of
none_at [] sno none = refl
none_at (l ∷ held) sno none =
    let other : l.entry.point.sno ≡ sno → ⊥ = none 0 l (omega arith) in
    rw (differs l.entry.point.sno sno (nat_eq l.entry.point.sno sno) refl other)
    (none_at held sno (λ i d lt. none (suc i) d (omega (arith, lt))))

pub none_held : (held : List Logged) (sno : ℕ) → All (λ (l : Logged). l.entry.point.sno ≢ sno) held
    → None ≡ time_of sno (map entry_of held)
none_held held sno all =
    none_at held sno (λ i d lt. All-get_or (λ (l : Logged). l.entry.point.sno ≢ sno) held i d lt all)

pub runs_held : (first last : Point) (entries : List Entry) → AreHeld first last entries → RunsFrom first.sno entries
runs_held first last entries h = runs_by first.sno entries h.serials

-- ---- the entries behind one

module _ (first last : Point) (entries : List Entry) (h : AreHeld first last entries) (sno : ℕ)
    (from : first.sno ≤ sno) where
  abbrev behind : List Entry
  behind = drop (sno + 1 - first.sno) entries

  last_sno : last.sno + 1 ≡ first.sno + length entries
  last_sno =
      let some = h.some in
      let d : Entry = record { point = first; op = None } in
      let at : (get_or entries (length entries - 1) d).point.sno ≡ first.sno + (length entries - 1) =
      h.serials (length entries - 1) d (omega (arith, some)) in
      let end : (get_or entries (length entries - 1) d).point.sno ≡ last.sno =
      ap (λ (x : Point). x.sno) (h.last_is d) in
      omega (arith, some, at, end)

  pub one_more : (k : ℕ) (e : Entry) (items : List Entry) → sno ≤ k → k < last.sno → Contains entries e
      → e.point.sno ≡ k + 1 → items ≡ take (k - sno) behind
      → items ++ e ∷ [] ≡ take (k + 1 - sno) behind
  one_more k e items low high c at is =
      let end = last_sno in
      let own : (get_or entries c.0 e).point.sno ≡ first.sno + c.0 = h.serials c.0 e c.1 in
      let same : (get_or entries c.0 e).point.sno ≡ e.point.sno = ap (λ (x : Entry). x.point.sno) c.2 in
      let place : sno + 1 - first.sno + (k - sno) ≡ c.0 = omega (arith, low, from, own, same, at) in
      let here : get_or behind (k - sno) e ≡ e =
      get_or-drop (sno + 1 - first.sno) entries (k - sno) e ∙ ap (λ (n : ℕ). get_or entries n e) place ∙ c.2 in
      let len : length behind ≡ length entries - (sno + 1 - first.sno) = length-drop (sno + 1 - first.sno) entries in
      let lt : k - sno < length behind = omega (arith, low, high, from, end, len) in
      let more : take (suc (k - sno)) behind ≡ take (k - sno) behind ++ (get_or behind (k - sno) e ∷ []) =
      take-suc behind (k - sno) e lt in
      let count : suc (k - sno) ≡ k + 1 - sno = omega (arith, low) in
      ap (λ (xs : List Entry). xs ++ e ∷ []) is ∙ ap (λ (x : Entry). take (k - sno) behind ++ x ∷ []) (sym here)
      ∙ sym more ∙ ap (λ (n : ℕ). take n behind) count

  pub all_there : (k : ℕ) (items : List Entry) → sno ≤ k → last.sno ≤ k → items ≡ take (k - sno) behind → items ≡ behind
  all_there k items low high is =
      let end = last_sno in
      let len : length behind ≡ length entries - (sno + 1 - first.sno) = length-drop (sno + 1 - first.sno) entries in
      is ∙ take_all (k - sno) behind (omega (arith, low, high, from, end, len))

-- ---- replies

abbrev pub bare_of : ℕ → Point → PollReply
bare_of code asked = reply_of code asked []

pub resync_told : (busy : Bool) (asked : Point) (u : Option (List Entry)) → status.Resync ≡ status_of u
    → reply_of (code_of busy status.Resync) asked [] ≡ told_of busy asked u
resync_told busy asked None e = refl
resync_told busy asked (Some []) e = absurd cc
resync_told busy asked (Some (x ∷ us)) e = absurd cc

pub nil_told : (busy : Bool) (asked : Point) (u : Option (List Entry)) → status.Nil ≡ status_of u
    → reply_of 4 asked [] ≡ told_of busy asked u
nil_told busy asked None e = absurd cc
nil_told busy asked (Some []) e = refl
nil_told busy asked (Some (x ∷ us)) e = absurd cc

-- updates come behind a serial that is held
pub record AreUpdates (first asked : Point) (entries us : List Entry) : Type 0 where
  pub from : first.sno ≤ asked.sno
  pub is : us ≡ drop (asked.sno + 1 - first.sno) entries

pub ok_told : (busy : Bool) (first last asked : Point) (entries us : List Entry) (u : Option (List Entry))
    → updates_after asked entries ≡ u → AreHeld first last entries
    → status.Ok ≡ status_of u
    → ((vs : List Entry) → updates_after asked entries ≡ Some vs → vs ≡ drop (asked.sno + 1 - first.sno) entries)
    → (first.sno ≤ asked.sno → us ≡ drop (asked.sno + 1 - first.sno) entries)
    → reply_of 0 asked us ≡ told_of busy asked u
ok_told busy first last asked entries us None is h e law made = absurd cc
ok_told busy first last asked entries us (Some []) is h e law made = absurd cc
ok_told busy first last asked entries us (Some (x ∷ vs)) is h e law made =
    let from = (found first.sno asked entries (x ∷ vs) (runs_held first last entries h) is).from in
    ap (reply_of 0 asked) (made from ∙ sym (law (x ∷ vs) is))

pub ok_from : (first last asked : Point) (entries : List Entry) (u : Option (List Entry))
    → updates_after asked entries ≡ u → AreHeld first last entries
    → status.Ok ≡ status_of u → first.sno ≤ asked.sno
ok_from first last asked entries None is h e = absurd cc
ok_from first last asked entries (Some us) is h e =
    (found first.sno asked entries us (runs_held first last entries h) is).from

-- ---- updates have a spelling on the wire

some_kind : (op : Option Op) → op ≢ None → 0 < kind_of op
some_kind None other = absurd (other refl)
some_kind (Some (PutPrinc p)) other = omega arith
some_kind (Some (DropPrinc name)) other = omega arith
some_kind (Some (Rename old p)) other = omega arith
some_kind (Some (PutPolicy p)) other = omega arith
some_kind (Some (DropPolicy name)) other = omega arith

module _ (log : Journal) (first last : Point) (h : IsHeldBy log first last) where
  sent_at : (i : ℕ) (d : Entry) → 0 < i → i < length log.held → IsSent (get_or (map entry_of log.held) i d)
  sent_at i d low lt =
      let l = get_or log.held i (bare d) in
      let spelled : IsSpelled log.block l = All-get_or (IsSpelled log.block) log.held i (bare d) lt h.journal.spelled in
      let marked : IsMarked log.base l = All-get_or (IsMarked log.base) log.held i (bare d) lt h.journal.marked in
      let some = h.journal.some in
      let own : l.entry.point.sno ≡ first.sno + i = h.serials i (bare d) lt in
      let zeroth : (get_or log.held 0 (bare d)).entry.point.sno ≡ first.sno + 0 = h.serials 0 (bare d) some in
      let begun : (get_or log.held 0 (bare d)).entry.point.sno ≡ h.journal.first + 0 =
      h.journal.run.serials 0 (bare d) some in
      let base = h.journal.from_base in
      let other : l.entry.op ≢ None = λ (none : l.entry.op ≡ None).
      let at = marked.alone none in absurd (omega (arith, low, own, zeroth, begun, base, at)) in
      subst IsSent (sym (entry_at log first last h i d lt)) (record {
        point = spelled.fits.point;
        change = some_kind l.entry.op other;
        op = spelled.fits.op;
      })

  pub updates_sent : (sno : ℕ) (us : List Entry) → first.sno ≤ sno
      → us ≡ drop (sno + 1 - first.sno) (map entry_of log.held) → All IsSent us
  updates_sent sno us from is =
      let k = sno + 1 - first.sno in
      let d : Entry = record { point = first; op = None } in
      let len : length (drop k (map entry_of log.held)) ≡ length (map entry_of log.held) - k =
      length-drop k (map entry_of log.held) in
      let own = as_long log first last h in
      subst (All IsSent) (sym is)
      (All-from_get_or IsSent (drop k (map entry_of log.held)) d
      (λ i lt. subst IsSent (sym (get_or-drop k (map entry_of log.held) i d))
      (sent_at (k + i) d (omega (arith, from)) (omega (arith, lt, len, own)))))

-- ---- the status, by a copy of the point

pub told_status : (first last asked copied : Point) (entries : List Entry) (at : Option Moment) (st : Status4)
    → AreHeld first last entries → copied ≡ asked
    → at ≡ time_of asked.sno entries
    → ((es : List Entry) → AreHeld first last es → at ≡ time_of copied.sno es
    → st ≡ status_of (updates_after copied es))
    → st ≡ status_of (updates_after asked entries)
told_status first last asked copied entries at st h same timed by =
    by entries h (timed ∙ ap (λ (p : Point). time_of p.sno entries) (sym same))
    ∙ ap (λ (p : Point). status_of (updates_after p entries)) same
