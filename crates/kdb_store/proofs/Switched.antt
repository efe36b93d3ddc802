-- A database after a switch to another choice of files.
use Rattle.std.proofs.Common.{◌≡◌, ℕ, inl, List, [], ◌∷◌, Option, Some, refl, sym, ap, subst, ◌∙◌}
use Rattle.kdb_base.specs.declared.moments.Point.{Point}
use Rattle.kdb_disk.specs.View.{View}
use Rattle.kdb_disk.specs.Moments.{LeavesOnly}
use Rattle.kdb_disk.proofs.Runs.{started}
use Rattle.kdb_control.specs.Choice.{Choice}
use Rattle.kdb_control.specs.declared.force.Force.TheVariants.{Is}
use Rattle.kdb_control.specs.Moments.{HasInForce}
use Rattle.update_log.specs.Logs.{Journal, begun}
use Rattle.kdb_places.specs.Places.{Place, log_anew, restashed}
use Rattle.store_files.specs.Kept.{Kept, IsKept, IsOnDisk, place_kept}
use Rattle.store_files.specs.Recovery.{LeavesPart}
use Rattle.store_files.specs.Switches.{reset_choice, stash_choice}
use Rattle.store_files.proofs.Placed.{kept_recovers}
use Rattle.store_switches.specs.Switched.{with_log, with_stash, IsUnder}

-- what is kept stands on the disk under its choice of files
pub is_under : (k old : Kept) (v : View) → k ≡ old → IsKept k → IsOnDisk old v → IsUnder k.control k v
is_under k old v is kept on =
    record { control_is = refl; chosen = kept.chosen; on = subst (λ (x : Kept). IsOnDisk x v) (sym is) on }

pub in_force_now : (k old : Kept) (v : View) → k ≡ old → IsOnDisk old v → HasInForce (Is k.control) v
in_force_now k old v is on c now =
    let here = subst (λ (x : Kept). IsOnDisk x v) (sym is) on in
    (here.stands.each c now).force

pub nothing_done : (k : Kept) (next : Place) (v : View) (choice : Choice) → IsUnder choice k v
    → LeavesOnly v v (LeavesPart (place_kept k) (next ∷ []))
unfolding LeavesPart
nothing_done k next v choice under =
    started v (LeavesPart (place_kept k) (next ∷ [])) (λ c here. inl (kept_recovers k v under.on c here))

-- ---- the log begun anew

pub place_reset : (k old : Kept) (next : Choice) (log : Journal) (base : Point) (size block : ℕ) → k ≡ old
    → next ≡ reset_choice next.log base size block k.control → log ≡ begun next.log base size block
    → place_kept (with_log next log k) ≡ log_anew base size block (place_kept old)
place_reset k old next log base size block is chosen begun_is =
    let made : Choice → Journal → Place = λ (c : Choice) (l : Journal). place_kept (with_log c l k) in
    ap (λ (c : Choice). made c log) chosen
    ∙ ap (made (reset_choice next.log base size block k.control)) begun_is
    ∙ ap (λ (x : Kept). log_anew base size block (place_kept x)) is

pub reset_told : {v new : View} (k old : Kept) (base : Point) (size block : ℕ) → k ≡ old
    → LeavesOnly v new (LeavesPart (place_kept k) (log_anew base size block (place_kept k) ∷ []))
    → LeavesOnly v new (LeavesPart (place_kept old) (log_anew base size block (place_kept old) ∷ []))
reset_told {v} {new} k old base size block is run = subst
    (λ (x : Kept). LeavesOnly v new (LeavesPart (place_kept x) (log_anew base size block (place_kept x) ∷ []))) is run

-- ---- another stash

pub place_restashed : (k old : Kept) (next : Choice) (bytes : List ℕ) (stash : Option (List ℕ)) → k ≡ old
    → next ≡ stash_choice next.stash k.control
    → stash ≡ Some bytes
    → place_kept (record {
      control = next;
      log = k.log;
      cells = k.cells;
      rows = k.rows;
      realm = k.realm;
      stash = stash;
      broken = k.broken;
    }) ≡ restashed bytes (place_kept old)
place_restashed k old next bytes stash is chosen some =
    let made : Choice → Option (List ℕ) → Place = λ (c : Choice) (s : Option (List ℕ)). place_kept (record {
      control = c;
      log = k.log;
      cells = k.cells;
      rows = k.rows;
      realm = k.realm;
      stash = s;
      broken = k.broken;
    }) in
    ap (λ (c : Choice). made c stash) chosen
    ∙ ap (made (stash_choice next.stash k.control)) some
    ∙ ap (λ (x : Kept). restashed bytes (place_kept x)) is

pub on_restashed : (k : Kept) (next : Choice) (bytes : List ℕ) (stash : Option (List ℕ)) (v : View) → stash ≡ Some bytes
    → IsOnDisk (with_stash next bytes k) v
    → IsOnDisk (record {
      control = next;
      log = k.log;
      cells = k.cells;
      rows = k.rows;
      realm = k.realm;
      stash = stash;
      broken = k.broken;
    }) v
on_restashed k next bytes stash v some on =
    subst (λ (s : Option (List ℕ)). IsOnDisk (record {
      control = next;
      log = k.log;
      cells = k.cells;
      rows = k.rows;
      realm = k.realm;
      stash = s;
      broken = k.broken;
    }) v) (sym some) on

pub stash_told : {v new : View} (k old : Kept) (bytes : List ℕ) → k ≡ old
    → LeavesOnly v new (LeavesPart (place_kept k) (restashed bytes (place_kept k) ∷ []))
    → LeavesOnly v new (LeavesPart (place_kept old) (restashed bytes (place_kept old) ∷ []))
stash_told {v} {new} k old bytes is run =
    subst (λ (x : Kept). LeavesOnly v new (LeavesPart (place_kept x) (restashed bytes (place_kept x) ∷ []))) is run

-- ---- the choice that names a log begun anew

pub own_leaves : {v new : View} (k : Kept) (next now : Choice) (base : Point) (size block : ℕ)
    → next ≡ reset_choice next.log base size block now
    → LeavesOnly v new (LeavesPart (place_kept k) (log_anew next.base next.size next.block (place_kept k) ∷ []))
    → LeavesOnly v new (LeavesPart (place_kept k) (log_anew base size block (place_kept k) ∷ []))
own_leaves {v} {new} k next now base size block is run =
    subst (λ (c : Choice).
    LeavesOnly v new (LeavesPart (place_kept k) (log_anew c.base c.size c.block (place_kept k) ∷ []))) is run

-- ---- where memory ran out

pub still_reset : {D : Type 0} (view : D → View) (k old : Kept) (control : Choice) (log : Journal) (before after : D)
    → k ≡ old → control ≡ k.control
    → log ≡ k.log → after ≡ before → IsOnDisk old (view before) → IsOnDisk (with_log control log k) (view after)
still_reset {D} view k old control log before after is same same_log nothing on =
    let here : IsOnDisk k (view before) = subst (λ (x : Kept). IsOnDisk x (view before)) (sym is) on in
    let there : IsOnDisk (with_log control k.log k) (view before) =
    subst (λ (c : Choice). IsOnDisk (with_log c k.log k) (view before)) (sym same) here in
    let all : IsOnDisk (with_log control log k) (view before) =
    subst (λ (l : Journal). IsOnDisk (with_log control l k) (view before)) (sym same_log) there in
    subst (λ (x : D). IsOnDisk (with_log control log k) (view x)) (sym nothing) all

pub still_stash : {D : Type 0} (view : D → View) (k old : Kept) (control : Choice) (stash : Option (List ℕ))
    (before after : D) → k ≡ old → control ≡ k.control
    → stash ≡ k.stash → after ≡ before → IsOnDisk old (view before)
    → IsOnDisk (record {
      control = control;
      log = k.log;
      cells = k.cells;
      rows = k.rows;
      realm = k.realm;
      stash = stash;
      broken = k.broken;
    }) (view after)
still_stash {D} view k old control stash before after is same same_stash nothing on =
    let made : Choice → Option (List ℕ) → Kept = λ (c : Choice) (s : Option (List ℕ)). record {
      control = c;
      log = k.log;
      cells = k.cells;
      rows = k.rows;
      realm = k.realm;
      stash = s;
      broken = k.broken;
    } in
    let here : IsOnDisk k (view before) = subst (λ (x : Kept). IsOnDisk x (view before)) (sym is) on in
    let there : IsOnDisk (made control k.stash) (view before) =
    subst (λ (c : Choice). IsOnDisk (made c k.stash) (view before)) (sym same) here in
    let all : IsOnDisk (made control stash) (view before) =
    subst (λ (s : Option (List ℕ)). IsOnDisk (made control s) (view before)) (sym same_stash) there in
    subst (λ (x : D). IsOnDisk (made control stash) (view x)) (sym nothing) all
