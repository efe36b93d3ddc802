-- What holds after some of the answers, made weaker.
use Rattle.std.proofs.Common.{◌≡◌, ℕ, inl, inr, Bool, false, List, [], ◌∷◌}
use Rattle.std.proofs.Common.{Option, Some, None, refl, sym, ap, subst, ◌∙◌}
use Rattle.std.specs.Prelude.{Result, Ok, Err}
use Rattle.iprop_truths.specs.Parts.{IsPart, end_of}
use Rattle.kdb_base.specs.declared.outcomes.Halt.TheVariants as halting
use Rattle.kdb_places.specs.Places.{Place}
use Rattle.princ_rows.specs.declared.entries.Entry.{Entry}
use Rattle.replica_core.specs.Taking.{AtHalt, AtJudgement, IsStoppedAs, OnHalt, UnlessFaulted, UnlessHalted, stored_in}
use Rattle.replica_core.specs.Opened.{HasSize, IsWhole, is_broken, place_in}
use Rattle.replica_core.specs.declared.stops.ReplicaStop.{ReplicaStop}
use Rattle.replica_core.specs.declared.stops.ReplicaStop.TheVariants as stop
use Rattle.replica_steps.specs.Bridges.{MayBePart}
use Rattle.replica_steps.specs.Judging.{Gap, Judged, WrongPoint, all_updated, is_based}
use Rattle.replica_steps.specs.Replicas.{place_after}
use Rattle.store_files.specs.Kept.{Kept, place_kept}

pub stopped_by : (s : ReplicaStop) (g h : Option Judged) → IsStoppedAs s g → ((j : Judged) → g ≡ Some j → h ≡ Some j)
    → IsStoppedAs s h
stopped_by (stop.WrongPoint reply mine) g h is go = go (WrongPoint reply mine) is
stopped_by (stop.Gap want found) g h is go = go (Gap want found) is
stopped_by (stop.Halt halt) g h is go = tt

pub judged_by : {A B : Type 0} (s : ReplicaStop) (g : Option Judged) → AtJudgement s A → IsStoppedAs s g
    → ((j : Judged) → g ≡ Some j → A → B) → AtJudgement s B
judged_by (stop.WrongPoint reply mine) g a is go = go (WrongPoint reply mine) is a
judged_by (stop.Gap want found) g a is go = go (Gap want found) is a
judged_by (stop.Halt halt) g a is go = tt

pub halted_by : {A B : Type 0} (s : ReplicaStop) → AtHalt s A → (A → B) → AtHalt s B
halted_by (stop.WrongPoint reply mine) a go = tt
halted_by (stop.Gap want found) a go = tt
halted_by (stop.Halt halt) a go = go a

pub unless_weaker : {X A B : Type 0} (r : Result X ReplicaStop) → UnlessHalted r A → (A → B) → UnlessHalted r B
unless_weaker (Ok x) a go = go a
unless_weaker (Err (stop.WrongPoint reply mine)) a go = go a
unless_weaker (Err (stop.Gap want found)) a go = go a
unless_weaker (Err (stop.Halt halt)) a go = tt

pub halt_weaker : {X A B : Type 0} (r : Result X ReplicaStop) → OnHalt r A → (A → B) → OnHalt r B
halt_weaker (Ok x) a go = tt
halt_weaker (Err s) a go = halted_by s a go

pub unless_fault_weaker : {X A B : Type 0} (r : Result X ReplicaStop) → UnlessFaulted r A → (A → B) → UnlessFaulted r B
unless_fault_weaker (Ok x) a go = go a
unless_fault_weaker (Err (stop.WrongPoint reply mine)) a go = go a
unless_fault_weaker (Err (stop.Gap want found)) a go = go a
unless_fault_weaker (Err (stop.Halt halting.MemoryOut)) a go = go a
unless_fault_weaker (Err (stop.Halt halting.DiskFault)) a go = tt

-- ---- where there is a database

-- no call failed still, where there is a database still or none
pub whole_after : (old new : Option Kept) (failed : Bool) → is_based (place_in new) ≡ is_based (place_in old)
    → is_broken old failed ≡ false → IsWhole new
    → is_broken new failed ≡ false
whole_after old (Some k) failed same before whole = whole
whole_after None None failed same before whole = before
whole_after (Some x) None failed same before whole = absurd cc

pub after_end : (p : Place) (made : List Place) → place_after (Some p) made ≡ Some (end_of p made)
after_end p [] = refl
after_end p (q ∷ made) = after_end q made

maybe_part : (p : Place) (made : List Place) (q : Place) → IsPart p made q → MayBePart (Some p) made (Some q)
maybe_part p [] q is = ap Some is
maybe_part p (x ∷ made) q (inl is) = inl (ap Some is)
maybe_part p (x ∷ made) q (inr is) = inr (maybe_part x made q is)

pub stored_place : {X : Type 0} (r : Result X ReplicaStop) (k new : Kept) (size : ℕ) (us : List Entry)
    → HasSize size (Some k)
    → UnlessHalted r (place_kept new ≡ end_of (place_kept k) (all_updated (place_kept k).size us (place_kept k)))
    → UnlessHalted r (Some (place_kept new) ≡ place_after (place_in (Some k)) (stored_in size us (place_in (Some k))))
stored_place r k new size us sized a =
    let p = place_kept k in
    unless_weaker r a (λ is. ap Some is ∙ ap (λ (n : ℕ). Some (end_of p (all_updated n us p))) sized.0
    ∙ sym (after_end p (all_updated size us p)))

pub stored_part : {X : Type 0} (r : Result X ReplicaStop) (k new : Kept) (size : ℕ) (us : List Entry)
    → HasSize size (Some k)
    → OnHalt r (IsPart (place_kept k) (all_updated (place_kept k).size us (place_kept k)) (place_kept new))
    → OnHalt r (MayBePart (place_in (Some k)) (stored_in size us (place_in (Some k))) (Some (place_kept new)))
stored_part r k new size us sized a =
    let p = place_kept k in
    halt_weaker r a (λ is. maybe_part p (all_updated size us p) (place_kept new)
    (subst (λ (n : ℕ). IsPart p (all_updated n us p) (place_kept new)) sized.0 is))
