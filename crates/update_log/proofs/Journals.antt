-- How a log file goes on from entry to entry.
use Rattle.std.proofs.Common.{◌≡◌, ◌≢◌, ℕ, ◌+◌, ◌-◌, ◌*◌, ◌<◌, ◌≤◌, ◌⊎◌, inl, inr, ⊎_elim, List, []}
use Rattle.std.proofs.Common.{◌∷◌, ◌++◌, length, get_or, take, refl, sym, ◌∙◌, ap, subst, arith}
use Rattle.std.proofs.Common.{length-append, length-take, length-drop, take-append-drop, None}
use Rattle.std.specs.List.{All}
use Rattle.std.proofs.Math.Seq.{get_or-append_seam}
use Rattle.std.proofs.Math.Nat.{mod-eq_of_lt}
use Rattle.std.proofs.lemmas.Bool.{cases_eq, cases_lt}
use Rattle.std.proofs.lemmas.List.{get_or_append_left, get_or-append-add, get_or-append_right}
use Rattle.kdb_base.specs.declared.moments.Point.{Point}
use Rattle.kdb_base.specs.Moments.{micros}
use Rattle.kdb_disk.specs.Files.{put}
use Rattle.princ_rows.specs.declared.entries.Logged.{Logged}
use Rattle.update_log.specs.Slots.{slot_of, slot_bytes, IsOpen, IsClosed, Spells, Stands, SameBut, Shuts, Fills}
use Rattle.update_log.specs.Logs.{IsMarked, IsRun, IsLog, HoldsIn, Journal, Holds, ComesNext, newest, marker_of}
use Rattle.update_log.specs.Moments.{IsReady}
use Rattle.update_log.proofs.Rounds.{slots_apart, slot_again, slot_next}
use Rattle.update_log.proofs.SlotWrites.{Opens, slot_within, not_whole, same_file, open_torn}

moved : {block k : ℕ} {old new : List ℕ} {e : Logged} → slot_bytes block k new ≡ slot_bytes block k old
    → Stands block k old e → Stands block k new e
moved {block} {e = e} is stands = record {
  gate = subst (IsOpen block) (sym is) stands.gate;
  spelled = subst (λ (b : List ℕ). Spells block b e) (sym is) stands.spelled;
}

-- an entry of the second part
behind : (older held : List Logged) (i : ℕ) (d : Logged) → get_or held i d ≡ get_or (older ++ held) (length older + i) d
behind older held i d = sym (get_or-append-add older held i d)

pub all_behind : (P : Logged → Type 0) (older held : List Logged) → All P (older ++ held) → All P held
all_behind P older held all i d lt =
    subst P (get_or-append-add older held i d) (all (length older + i) d (omega (arith, length-append older held, lt)))

pub run_behind : (older held : List Logged) (first : ℕ) → IsRun (older ++ held) first
    → IsRun held (first + length older)
run_behind older held first run = record {
  serials = λ i d lt. ap (λ (e : Logged). e.entry.point.sno) (behind older held i d)
      ∙ run.serials (length older + i) d (omega (arith, length-append older held, lt)) ∙ omega arith;
  times = λ i d lt.
      let at : length older + (i + 1) ≡ (length older + i) + 1 = omega arith in
      let le = run.times (length older + i) d (omega (arith, length-append older held, lt)) in
      subst (λ (e : Logged). micros e.entry.point.time ≤ micros (get_or held (i + 1) d).entry.point.time)
      (sym (behind older held i d))
      (subst (λ (e : Logged).
      micros (get_or (older ++ held) (length older + i) d).entry.point.time ≤ micros e.entry.point.time)
      (ap (λ (k : ℕ). get_or (older ++ held) k d) (sym at) ∙ sym (behind older held (i + 1) d)) le);
}

-- the serial behind the last one
pub next_serial : (held : List Logged) (first : ℕ) (next : Logged) → IsRun held first → 0 < length held
    → ComesNext held next → next.entry.point.sno ≡ first + length held
next_serial held first next run some comes =
    omega (arith, comes.serial next, run.serials (length held - 1) next (omega (arith, some)), some)

-- the slot of the next entry is none of theirs
next_apart : (base : Point) (size : ℕ) (held : List Logged) (first : ℕ) (next : Logged) → base.sno ≤ first
    → IsRun held first → 0 < length held → length held ≤ size → ComesNext held next
    → (i : ℕ) (d : Logged) → i < length held
    → slot_of base size (get_or held i d).entry.point.sno ≢ slot_of base size next.entry.point.sno
next_apart base size held first next from run some few comes i d lt =
    let here = run.serials i d lt in
    let there = next_serial held first next run some comes in
    slots_apart base size (get_or held i d).entry.point.sno next.entry.point.sno (omega (arith, here, from))
    (omega (arith, here, there, lt)) (omega (arith, here, there, few, lt))

-- the oldest of one entry too many has that slot
older_slot : (base : Point) (size : ℕ) (older held : List Logged) (first : ℕ) (next : Logged) → base.sno ≤ first
    → IsRun (older ++ held) first → 0 < length held → length older ≤ 1 → (0 < length older → length held ≡ size)
    → ComesNext held next
    → (i : ℕ) (d : Logged) → i < length older
    → slot_of base size next.entry.point.sno ≡ slot_of base size (get_or (older ++ held) i d).entry.point.sno
older_slot base size older held first next from run some one full comes i d lt =
    let here = run.serials i d (omega (arith, length-append older held, lt)) in
    let there = next_serial held (first + length older) next (run_behind older held first run) some comes in
    let all = full (omega (arith, lt)) in
    slot_again base size (get_or (older ++ held) i d).entry.point.sno next.entry.point.sno (omega (arith, here, from))
    (omega (arith, here, there, one, lt, all))

none_there : (base : Point) (size slot : ℕ) (older held : List Logged) (first : ℕ) (next : Logged) → base.sno ≤ first
    → IsRun (older ++ held) first → 0 < length held → length older ≤ 1 → (0 < length older → length held ≡ size)
    → ComesNext held next
    → slot ≢ slot_of base size next.entry.point.sno → All (λ e. slot_of base size e.entry.point.sno ≢ slot) held
    → All (λ e. slot_of base size e.entry.point.sno ≢ slot) (older ++ held)
none_there base size slot older held first next from run some one full comes other none i d lt = ⊎_elim
    (λ front is.
    other (sym is ∙ sym (older_slot base size older held first next from run some one full comes i d front)))
    (λ back.
    subst (λ (e : Logged). slot_of base size e.entry.point.sno ≢ slot)
    (sym (get_or-append_right older held (length older) i d refl back))
    (none (i - length older) d (omega (arith, length-append older held, lt, back))))
    (cases_lt i (length older))

-- where the slot of the next entry is closed, these entries alone stand
pub shut_log : {base : Point} {size block : ℕ} {held : List Logged} {next : Logged} {old new : List ℕ}
    → HoldsIn base size block held old → ComesNext held next
    → Shuts block (slot_of base size next.entry.point.sno) old new → IsLog base size block held new
shut_log {base} {size} {block} {held} {next} {old} {new} holds comes shuts =
    let older = holds.older in
    let is = holds.is in
    let k = slot_of base size next.entry.point.sno in
    let run = run_behind older held is.first is.run in
    let from : base.sno ≤ is.first + length older = omega (arith, is.from_base) in
    record {
      some = holds.some;
      few = omega (arith, holds.few);
      first = is.first + length older;
      from_base = from;
      run = run;
      marked = all_behind (IsMarked base) older held is.marked;
      open_slots = λ i d lt.
          moved (shuts.others.each (slot_of base size (get_or held i d).entry.point.sno)
          (next_apart base size held (is.first + length older) next from run holds.some holds.few comes i d lt))
          (all_behind (λ e. Stands block (slot_of base size e.entry.point.sno) old e) older held is.open_slots i d lt);
      others = λ slot le none. ⊎_elim
          (λ same. subst (λ (j : ℕ). IsClosed block (slot_bytes block j new)) (sym same) shuts.closed)
          (λ other. subst (IsClosed block) (sym (shuts.others.each slot other))
          (is.others slot le (none_there base size slot older held is.first next is.from_base is.run holds.some
          holds.one holds.full comes other none)))
          (cases_eq slot k);
    }

-- the entries of a log, where there are not too many
pub alone : {base : Point} {size block : ℕ} {held : List Logged} {file : List ℕ} → IsLog base size block held file
    → length held ≤ size → HoldsIn base size block held file
alone log few = record {
  some = log.some;
  few = few;
  older = [];
  one = omega arith;
  full = λ lt. absurd (omega (arith, lt));
  is = log;
}

pub shut_holds : {base : Point} {size block : ℕ} {held : List Logged} {next : Logged} {old new : List ℕ}
    → HoldsIn base size block held old → ComesNext held next
    → Shuts block (slot_of base size next.entry.point.sno) old new → HoldsIn base size block held new
shut_holds holds comes shuts = alone (shut_log holds comes shuts) holds.few

-- ---- one entry more

pub all_more : (P : Logged → Type 0) (held : List Logged) (next : Logged) → All P held → P next
    → All P (held ++ next ∷ [])
all_more P held next all last i d lt = ⊎_elim
    (λ front. subst P (sym (get_or_append_left held (next ∷ []) d i front)) (all i d front))
    (λ back.
    let at : i ≡ length held = omega (arith, back, lt, length-append held (next ∷ [])) in
    subst P (sym (ap (λ (j : ℕ). get_or (held ++ next ∷ []) j d) at ∙ get_or-append_seam held next [] d)) last)
    (cases_lt i (length held))

all_before : (P : Logged → Type 0) (held : List Logged) (next : Logged) → All P (held ++ next ∷ []) → All P held
all_before P held next all i d lt =
    subst P (get_or_append_left held (next ∷ []) d i lt) (all i d (omega (arith, lt, length-append held (next ∷ []))))

last_of : (P : Logged → Type 0) (held : List Logged) (next : Logged) → All P (held ++ next ∷ []) → P next
last_of P held next all = subst P (get_or-append_seam held next [] next)
    (all (length held) next (omega (arith, length-append held (next ∷ []))))

pub run_more : (held : List Logged) (first : ℕ) (next : Logged) → IsRun held first → 0 < length held
    → ComesNext held next → IsRun (held ++ next ∷ []) first
run_more held first next run some comes =
    let long = length-append held (next ∷ []) in
    let end : (d : Logged) → get_or (held ++ next ∷ []) (length held) d ≡ next =
    λ d. get_or-append_seam held next [] d in
    let front : (i : ℕ) (d : Logged) → i < length held → get_or (held ++ next ∷ []) i d ≡ get_or held i d =
    λ i d lt. get_or_append_left held (next ∷ []) d i lt in
    record {
      serials = λ i d lt. ⊎_elim
          (λ below. ap (λ (e : Logged). e.entry.point.sno) (front i d below) ∙ run.serials i d below)
          (λ above.
          let at : i ≡ length held = omega (arith, above, lt, long) in
          ap (λ (j : ℕ). (get_or (held ++ next ∷ []) j d).entry.point.sno) at ∙ ap (λ (e : Logged). e.entry.point.sno)
          (end d) ∙ next_serial held first next run some comes ∙ ap (λ (j : ℕ). first + j) (sym at))
          (cases_lt i (length held));
      times = λ i d lt. ⊎_elim
          (λ below.
          subst (λ (e : Logged). micros e.entry.point.time
          ≤ micros (get_or (held ++ next ∷ []) (i + 1) d).entry.point.time) (sym (front i d (omega (arith, below))))
          (subst (λ (e : Logged). micros (get_or held i d).entry.point.time ≤ micros e.entry.point.time)
          (sym (front (i + 1) d below)) (run.times i d below)))
          (λ above.
          let at : i + 1 ≡ length held = omega (arith, above, lt, long) in
          let here : i ≡ length held - 1 = omega (arith, at) in
          subst (λ (e : Logged). micros e.entry.point.time
          ≤ micros (get_or (held ++ next ∷ []) (i + 1) d).entry.point.time) (sym (front i d (omega (arith, at))))
          (subst (λ (e : Logged). micros (get_or held i d).entry.point.time ≤ micros e.entry.point.time)
          (sym (ap (λ (j : ℕ). get_or (held ++ next ∷ []) j d) at ∙ end d))
          (subst (λ (j : ℕ). micros (get_or held j d).entry.point.time ≤ micros next.entry.point.time) (sym here)
          (comes.time d))))
          (cases_lt (i + 1) (length held));
    }

-- the next entry is a change
pub next_marked : (base : Point) {held : List Logged} (next : Logged) → next.entry.point.sno ≢ base.sno
    → ComesNext held next → IsMarked base next
next_marked base next past comes = record {
  marker = λ e. absurd (past e);
  at_base = λ e. absurd (past e);
  alone = λ e. absurd (comes.change e);
  no_cell = λ e. absurd (comes.change e);
}

pub opened_log : {base : Point} {size block : ℕ} {held : List Logged} {next : Logged} {old new : List ℕ}
    → IsLog base size block held old → length held ≤ size → ComesNext held next
    → SameBut block (slot_of base size next.entry.point.sno) old new
    → Stands block (slot_of base size next.entry.point.sno) new next → IsLog base size block (held ++ next ∷ []) new
opened_log {base} {size} {block} {held} {next} {old} {new} log few comes same stands =
    let k = slot_of base size next.entry.point.sno in
    let serial = next_serial held log.first next log.run log.some comes in
    let past : next.entry.point.sno ≢ base.sno = λ e. absurd (omega (arith, serial, log.from_base, log.some, e)) in
    record {
      some = omega (arith, length-append held (next ∷ []));
      few = omega (arith, length-append held (next ∷ []), few);
      first = log.first;
      from_base = log.from_base;
      run = run_more held log.first next log.run log.some comes;
      marked = all_more (IsMarked base) held next log.marked (next_marked base next past comes);
      open_slots = all_more (λ e. Stands block (slot_of base size e.entry.point.sno) new e) held next
          (λ i d lt. moved (same.each (slot_of base size (get_or held i d).entry.point.sno)
          (next_apart base size held log.first next log.from_base log.run log.some few comes i d lt))
          (log.open_slots i d lt))
          stands;
      others = λ slot le none.
          let other : slot ≢ k =
          λ e. last_of (λ e. slot_of base size e.entry.point.sno ≢ slot) held next none (sym e) in
          subst (IsClosed block) (sym (same.each slot other))
          (log.others slot le (all_before (λ e. slot_of base size e.entry.point.sno ≢ slot) held next none));
    }

-- of one entry more the newest are held
pub newest_holds : {base : Point} {size block : ℕ} {entries : List Logged} {file : List ℕ} → 0 < size
    → IsLog base size block entries file → HoldsIn base size block (newest size entries) file
newest_holds {base} {size} {block} {entries} {file} pos log =
    let n = length entries - size in
    let long = length-drop n entries in
    let short = length-take n entries in
    record {
      some = omega (arith, long, log.some, pos);
      few = omega (arith, long);
      older = take n entries;
      one = omega (arith, short, log.few);
      full = λ lt. omega (arith, short, long, lt);
      is = subst (λ (l : List Logged). IsLog base size block l file) (sym (take-append-drop n entries)) log;
    }

-- ---- places

-- the slot of the next entry begins within the file, or at its end
pub place_within : {base : Point} {size block : ℕ} {held : List Logged} {next : Logged} {file : List ℕ}
    → 0 < block → HoldsIn base size block held file → ComesNext held next
    → slot_of base size next.entry.point.sno * block ≤ length file
place_within {base} {size} {block} {held} {next} {file} pos holds comes =
    let is = holds.is in
    let i = length held - 1 in
    let last = get_or held i next in
    let run = run_behind holds.older held is.first is.run in
    let here = run.serials i next (omega (arith, holds.some)) in
    let stands = all_behind (λ e. Stands block (slot_of base size e.entry.point.sno) file e) holds.older held
    is.open_slots i next (omega (arith, holds.some)) in
    let within = slot_within block (slot_of base size last.entry.point.sno) file pos stands.gate.whole in
    ⊎_elim
    (λ e. subst (λ (k : ℕ). k * block ≤ length file) (sym e) (omega arith))
    (λ e. subst (λ (k : ℕ). k * block ≤ length file) (sym e) (omega (arith, within)))
    (slot_next base size last.entry.point.sno next.entry.point.sno (omega (arith, here, is.from_base))
    (comes.serial next))

-- ---- the next entry is prepared and log_committed

pub ready_filled : (log : Journal) (next : Logged) (body old new : List ℕ) → ComesNext log.held next
    → Fills log.block (slot_of log.base log.size next.entry.point.sno) body old new → Spells log.block (0 ∷ body) next
    → IsReady log next new
ready_filled log next body old new comes fills spelled = record {
  comes = comes;
  whole = fills.whole;
  gate = fills.gate;
  entry = subst (λ (b : List ℕ). Spells log.block (0 ∷ b) next) (sym fills.body_is) spelled;
}

-- with the entry as the newest
abbrev pub HoldsMore : Journal → Logged → List ℕ → Type 0
HoldsMore log next file = HoldsIn log.base log.size log.block (newest log.size (log.held ++ next ∷ [])) file

pub opened_holds : (log : Journal) (next : Logged) (old new : List ℕ) → 0 < log.size → 0 < log.block
    → Holds log old → IsReady log next old → Opens log.block (slot_of log.base log.size next.entry.point.sno) old new
    → HoldsMore log next new
opened_holds log next old new size pos holds ready opens =
    let k = slot_of log.base log.size next.entry.point.sno in
    let closed : Shuts log.block k old old =
    record { others = same_file log.block k old; closed = λ slot. ready.gate slot.gate } in
    newest_holds size (opened_log (shut_log holds ready.comes closed) holds.few ready.comes opens.others
    (record {
      gate = opens.opened;
      spelled = subst (λ (b : List ℕ). Spells log.block (0 ∷ b) next) (sym opens.body_same) ready.entry;
    }))

-- what is torn of the opening of its gate
pub commit_torn : (log : Journal) (next : Logged) (bytes file : List ℕ) → 0 < log.size → 0 < log.block → Holds log file
    → IsReady log next file → length bytes ≤ 1
    → Holds log (put (slot_of log.base log.size next.entry.point.sno * log.block) bytes file)
    ⊎ HoldsMore log next (put (slot_of log.base log.size next.entry.point.sno * log.block) bytes file)
commit_torn log next bytes file size pos holds ready few =
    let k = slot_of log.base log.size next.entry.point.sno in
    ⊎_elim
    (λ shuts. inl (shut_holds holds ready.comes shuts))
    (λ opens. inr (opened_holds log next file _ size pos holds ready opens))
    (open_torn log.block k bytes file pos ready.whole ready.gate few)

-- ---- a new log

marker_there : (base : Point) (size : ℕ) → slot_of base size base.sno ≡ 0
unfolding slot_of
marker_there base size = let none : base.sno - base.sno ≡ 0 = omega arith in rw none (mod-eq_of_lt (omega arith))

empty_slot : (block i : ℕ) → 0 < block → IsClosed block (slot_bytes block i [])
empty_slot block i pos = not_whole block i [] pos (omega (arith, pos))

pub one_only : (P : Logged → Type 0) (e : Logged) → P e → All P (e ∷ [])
one_only P e has i d lt = let at : i ≡ 0 = omega (arith, lt) in subst (λ (j : ℕ). P (get_or (e ∷ []) j d)) (sym at) has

pub one_run : (e : Logged) → IsRun (e ∷ []) e.entry.point.sno
one_run e = record {
  serials = λ i d lt. let here : i ≡ 0 = omega (arith, lt) in
      subst (λ (j : ℕ). (get_or (e ∷ []) j d).entry.point.sno ≡ e.entry.point.sno + j) (sym here) (omega arith);
  times = λ i d lt. absurd (omega (arith, lt));
}

pub base_marked : (base : Point) → IsMarked base (marker_of base)
base_marked base = record { marker = λ e. refl; at_base = λ e. refl; alone = λ e. refl; no_cell = λ e. refl }

-- the base marker alone
pub begun_holds : (base : Point) (size block : ℕ) (marker : Logged) (mid new : List ℕ) → 0 < size → 0 < block
    → marker.entry.point ≡ base → marker.entry.op ≡ None → marker.cell ≡ 0
    → SameBut block 0 [] mid → length (slot_bytes block 0 mid) ≡ block → Spells block (slot_bytes block 0 mid) marker
    → Opens block 0 mid new → HoldsIn base size block (marker ∷ []) new
begun_holds base size block marker mid new large pos at none no_cell same whole spelled opens =
    let first : marker.entry.point.sno ≡ base.sno = ap (λ (p : Point). p.sno) at in
    let k : slot_of base size marker.entry.point.sno ≡ 0 = ap (slot_of base size) first ∙ marker_there base size in
    let stands : Stands block 0 new marker = record {
      gate = opens.opened;
      spelled = subst (λ (b : List ℕ). Spells block (0 ∷ b) marker) (sym opens.body_same) spelled;
    } in
    alone (record {
      some = omega arith;
      few = omega arith;
      first = base.sno;
      from_base = omega arith;
      run = subst (IsRun (marker ∷ [])) first (one_run marker);
      marked = one_only (IsMarked base) marker
          (record { marker = λ e. none; at_base = λ e. at; alone = λ e. first; no_cell = λ e. no_cell });
      open_slots = one_only (λ e. Stands block (slot_of base size e.entry.point.sno) new e) marker
          (subst (λ (j : ℕ). Stands block j new marker) (sym k) stands);
      others = λ slot le none.
          let other : slot ≢ 0 = λ e. none 0 marker (omega arith) (k ∙ sym e) in
          subst (IsClosed block) (sym (opens.others.each slot other ∙ same.each slot other))
          (empty_slot block slot pos);
    }) (omega (arith, large))
