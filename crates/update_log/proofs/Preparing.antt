-- How the next entry is prepared and log_committed, and a log begun.
use Rattle.std.proofs.Common.{◌≡◌, ◌≢◌, ℕ, ◌+◌, ◌*◌, ◌<◌, ◌⊎◌, inl, inr, ⊎_elim, List, [], ◌∷◌}
use Rattle.std.proofs.Common.{◌++◌, length, refl, sym, ◌∙◌, ap, subst, arith, Option, Some, None}
use Rattle.std.specs.Prelude.{option_to_list}
use Rattle.std.proofs.lemmas.Option.{same_Some}
use Rattle.std.proofs.lemmas.Bool.{cases_eq}
use Rattle.kdb_base.specs.declared.moments.Point.{Point}
use Rattle.kdb_disk.specs.Files.{Files, put, with_file}
use Rattle.kdb_disk.specs.View.{View, Torn, IsAfter}
use Rattle.kdb_disk.specs.Moments.{LeavesOnly, Differs, Replaced, Stands as DiskStands}
use Rattle.kdb_disk.proofs.Runs.{weaken, stands_here, stands_other}
use Rattle.kdb_disk.proofs.Puts.{same_files, with_file-same, with_file-other}
use Rattle.kdb_disk.proofs.Differing.{differs_run}
use Rattle.princ_rows.specs.declared.entries.Logged.{Logged}
use Rattle.update_log.specs.Slots.{slot_of, Shuts, Fills, Spells}
use Rattle.update_log.specs.Logs.{Journal, Holds, HoldsIn, ComesNext, with_prepared}
use Rattle.update_log.specs.Logs.{log_committed, newest, begun, marker_of}
use Rattle.update_log.specs.Moments.{LeavesLog, HasLog, IsBodyFor, IsDurable, MayShut, IsFilled, IsNext}
use Rattle.update_log.specs.Moments.{IsReady, HasPrepared, Prepares, LeavesEither, IsMarker, ReadsOthers}
use Rattle.update_log.proofs.SlotWrites.{fills_shut, slot_within, opened_by}
use Rattle.update_log.proofs.Journals.{HoldsMore, shut_holds, ready_filled, commit_torn, opened_holds, begun_holds}
use Rattle.update_log.proofs.Leaving.{torn_each, run_weaker}

-- closing the slot of the next entry takes none of those that are held
pub shut_log_slot : (log : Journal) {next : Logged} {bytes now : List ℕ} → Holds log now → ComesNext log.held next
    → (bytes ≡ now) ⊎ Shuts log.block (slot_of log.base log.size next.entry.point.sno) now bytes → Holds log bytes
shut_log_slot log holds comes (inl same) = subst (Holds log) (sym same) holds
shut_log_slot log holds comes (inr shuts) = shut_holds holds comes shuts

-- the plan by which an entry that is prepared is written
pub ready_plan : (log : Journal) (next : Logged) (file at : ℕ) (body : List ℕ) → file ≡ log.file
    → at ≡ slot_of log.base log.size next.entry.point.sno * log.block
    → ComesNext log.held next → IsBodyFor next log.block body → IsNext log next file at body
ready_plan log next file at body file_is place comes is = record {
  file_is = sym file_is;
  place = place;
  long = is.long;
  comes = comes;
  spelled = is.spelled;
}

-- a log is the one with what it has prepared
pub prepared_log : (log : Journal) (next : Logged) → log.prepared ≡ Some next → with_prepared (Some next) log ≡ log
prepared_log log next is = ap (λ (o : Option Logged). with_prepared o log) (sym is)

pub next_moments : {old new : View} {log : Journal} {next : Logged} {file at : ℕ} {body : List ℕ}
    → IsNext log next file at body → Holds log (old.seen log.file)
    → ((block slot : ℕ) → length body + 1 ≡ block → at ≡ slot * block
    → LeavesOnly old new (MayShut file block slot old)) → LeavesOnly old new (LeavesLog log old)
next_moments {old} {new} {log} {next} {file} {at} {body} plan holds run =
    let slot = slot_of log.base log.size next.entry.point.sno in
    let there = run log.block slot plan.long plan.place in
    let here : LeavesOnly old new (MayShut log.file log.block slot old) =
    subst (λ (f : ℕ). LeavesOnly old new (MayShut f log.block slot old)) (sym plan.file_is) there in
    run_weaker here (λ bytes may. shut_log_slot log holds plan.comes may)

pub next_prepared : {old new : View} {log : Journal} {next : Logged} {file at : ℕ} {body : List ℕ}
    → IsNext log next file at body → Holds log (old.seen log.file)
    → IsFilled log.file log.block (slot_of log.base log.size next.entry.point.sno) body old new
    → Prepares log next old new
next_prepared {old} {new} {log} {next} {body = body} plan holds filled = record {
  stands = shut_holds holds plan.comes (fills_shut filled.fills);
  ready = ready_filled log next body (old.seen log.file) (new.seen log.file) plan.comes filled.fills plan.spelled;
  durable = filled.durable;
  others = λ g ne. filled.others g ne;
}

prepared_each : {old new : View} (log : Journal) (next : Logged) → Prepares log next old new → (c : Files)
    → new.images c → IsReady log next (c log.file)
prepared_each log next is c now = subst (IsReady log next) (sym (is.durable.durable c now)) is.ready

same_next : (log : Journal) (a b : Logged) (bytes : List ℕ) → a ≡ b → IsReady log a bytes → IsReady log b bytes
same_next log a b bytes is ready = subst (λ (e : Logged). IsReady log e bytes) is ready

-- a log stands, whatever is noted of what is prepared
pub noted_log : {now : View} (log noted : Journal) (o : Option Logged) → noted ≡ with_prepared o log → HasLog log now
    → HasLog noted now
noted_log {now} log noted o is has = subst (λ (j : Journal). HasLog j now) (sym is) (record { each = has.each })

-- ready is ready, whatever is noted of what is prepared
ready_noted : (log : Journal) (noted : Option Logged) (next : Logged) (bytes : List ℕ) → IsReady log next bytes
    → IsReady (with_prepared noted log) next bytes
ready_noted log noted next bytes ready =
    record { comes = ready.comes; whole = ready.whole; gate = ready.gate; entry = ready.entry }

pub has_prepared : {old new : View} (log : Journal) (next : Logged) → Prepares log next old new
    → HasPrepared (with_prepared (Some next) log) new
has_prepared {old} {new} log next is = record {
  stands = record { each = λ c now. subst (Holds log) (sym (is.durable.durable c now)) is.stands };
  seen = λ e same. same_next (with_prepared (Some next) log) next e (new.seen log.file) (same_Some next e same)
      (ready_noted log (Some next) next (new.seen log.file) is.ready);
  each = λ e c same now. same_next (with_prepared (Some next) log) next e (c log.file) (same_Some next e same)
      (ready_noted log (Some next) next (c log.file) (prepared_each log next is c now));
}

-- ---- what is prepared is log_committed

pub some_of : (o : Option Logged) → o ≢ None → (next : Logged) × (o ≡ Some next)
some_of None is = absurd (is refl)
some_of (Some next) is = (next, refl)

more_committed : (log : Journal) (next : Logged) (bytes : List ℕ) → log.prepared ≡ Some next → HoldsMore log next bytes
    → Holds (log_committed log) bytes
more_committed log next bytes is holds =
    subst (λ (o : Option Logged).
    HoldsIn log.base log.size log.block (newest log.size (log.held ++ option_to_list o)) bytes) (sym is) holds

pub commit_within : {v : View} {log : Journal} {next : Logged} (at : ℕ) → 0 < log.block
    → HasPrepared log v → log.prepared ≡ Some next → at ≡ slot_of log.base log.size next.entry.point.sno * log.block
    → at < length (v.seen log.file)
commit_within {v} {log} {next} at pos has is place =
    let ready = has.seen next is in
    omega (
      arith,
      place,
      slot_within log.block (slot_of log.base log.size next.entry.point.sno) (v.seen log.file) pos ready.whole,
      pos,
    )

pub commit_moments : {old new : View} {log : Journal} {next : Logged} (at : ℕ) → 0 < log.size → 0 < log.block
    → HasPrepared log old → log.prepared ≡ Some next → at ≡ slot_of log.base log.size next.entry.point.sno * log.block
    → LeavesOnly old new (IsAfter (Torn log.file at 1) old)
    → LeavesOnly old new (LeavesEither log (log_committed log) old)
commit_moments {old} {new} {log} {next} at size pos has is place run = torn_each at 1 run (λ c bytes now few.
    subst (λ (k : ℕ). Holds log (put k bytes (c log.file)) ⊎ Holds (log_committed log) (put k bytes (c log.file)))
    (sym place)
    (⊎_elim (λ kept. inl kept) (λ more. inr (more_committed log next _ is more))
    (commit_torn log next bytes (c log.file) size pos (has.stands.each c now) (has.each next c is now) few)))

pub commit_holds : {old new : View} {log : Journal} {next : Logged} (at : ℕ)
    → 0 < log.size → 0 < log.block → HasPrepared log old → Holds log (old.seen log.file) → log.prepared ≡ Some next
    → at ≡ slot_of log.base log.size next.entry.point.sno * log.block
    → DiskStands log.file at (165 ∷ []) old new → HasLog (log_committed log) new
commit_holds {old} {new} {log} {next} at size pos has holds is place stands =
    let ready = has.seen next is in
    let bytes = old.seen log.file in
    let slot = slot_of log.base log.size next.entry.point.sno in
    let here : new.seen log.file ≡ put (slot * log.block) (165 ∷ []) bytes =
    stands_here stands ∙ ap (λ (k : ℕ). put k (165 ∷ []) bytes) place in
    let opens = opened_by log.block slot bytes pos ready.whole in
    let there = more_committed log next _ is
    (opened_holds log next bytes (put (slot * log.block) (165 ∷ []) bytes) size pos holds ready opens) in
    record { each = λ c now. subst (Holds (log_committed log)) (sym (stands.durable c now ∙ here)) there }

-- ---- a log is begun

pub shut_differs : {file block slot : ℕ} {old : View} {c : Files} → MayShut file block slot old c
    → IsAfter (Differs file) old c
shut_differs {file} {c = c} may = record {
  before = may.before;
  was = may.was;
  went = record {
    content = c file;
    is = same_files c (with_file file (c file) may.before) (λ g. ⊎_elim
        (λ same. ap c same
        ∙ sym (ap (with_file file (c file) may.before) same ∙ with_file-same file (c file) may.before))
        (λ other. may.others g other ∙ sym (with_file-other file g (c file) may.before other))
        (cases_eq g file));
  };
}

pub fill_differs : {file block slot : ℕ} {old mid new : View} → LeavesOnly old mid (IsAfter (Differs file) old)
    → LeavesOnly mid new (MayShut file block slot mid) → LeavesOnly old new (IsAfter (Differs file) old)
fill_differs so_far run = differs_run so_far (weaken run (λ c may. shut_differs may))

pub replaced_durable : {file : ℕ} {content : List ℕ} {old new : View} → Replaced file content old new
    → IsDurable file new
replaced_durable {file} {content} {old} {new} replaced = record {
  durable = λ c now. replaced.durable c now
      ∙ sym (ap (λ (files : Files). files file) replaced.seen ∙ with_file-same file content old.seen);
}

pub first_holds : {old mid filled new : View} {file : ℕ} {body : List ℕ}
    {base : Point} {size block : ℕ} {marker : Logged} → IsMarker base size block marker body → Replaced file [] old mid
    → IsFilled file block 0 body mid filled → DiskStands file 0 (165 ∷ []) filled new
    → HasLog (begun file base size block) new
first_holds {old} {mid} {filled} {new} {file} {body} {base} {size} {block} {marker} is emptied fill stands =
    let pos : 0 < block = omega (arith, is.long) in
    let none : mid.seen file ≡ [] = ap (λ (files : Files). files file) emptied.seen ∙ with_file-same file [] old.seen in
    let fills = subst (λ (l : List ℕ). Fills block 0 body l (filled.seen file)) none fill.fills in
    let opens = opened_by block 0 (filled.seen file) pos fills.whole in
    let here : new.seen file ≡ put (0 * block) (165 ∷ []) (filled.seen file) =
    stands_here stands ∙ ap (λ (k : ℕ). put k (165 ∷ []) (filled.seen file)) (omega arith) in
    let spelled = subst (λ (b : List ℕ). Spells block (0 ∷ b) marker) (sym fills.body_is) is.spelled in
    let at : marker.entry.point ≡ base = ap (λ (e : Logged). e.entry.point) is.is in
    let no_op : marker.entry.op ≡ None = ap (λ (e : Logged). e.entry.op) is.is in
    let no_cell : marker.cell ≡ 0 = ap (λ (e : Logged). e.cell) is.is in
    let there = begun_holds base size block marker (filled.seen file) (put (0 * block) (165 ∷ []) (filled.seen file))
    is.some_size pos at no_op no_cell fills.others fills.whole spelled opens in
    record {
      each = λ c now.
          subst (λ (l : List ℕ). HoldsIn base size block (marker_of base ∷ []) l) (sym (stands.durable c now ∙ here))
          (subst (λ (e : Logged). HoldsIn base size block (e ∷ []) (put (0 * block) (165 ∷ []) (filled.seen file)))
          is.is there);
    }

pub first_others : {old mid filled new : View} {file block : ℕ} {body : List ℕ} → Replaced file [] old mid
    → IsFilled file block 0 body mid filled → DiskStands file 0 (165 ∷ []) filled new → ReadsOthers file old new
first_others {old} {file = file} emptied fill stands g ne =
    stands_other g stands ne ∙ fill.others g ne ∙ ap (λ (files : Files). files g) emptied.seen
    ∙ with_file-other file g [] old.seen ne
