-- What writes into one slot leave in force.
use Rattle.std.proofs.Common.{◌≡◌, ◌≢◌, ℕ, ◌+◌, ◌-◌, ◌<◌, ◌≤◌, ◌⊎◌, inl, inr, ⊎_elim, List, [], ◌∷◌}
use Rattle.std.proofs.Common.{◌++◌, length, get_or, take, drop, Option, Some, None, refl, sym, ◌∙◌}
use Rattle.std.proofs.Common.{ap, subst, arith, length-take, length-drop, take-suc, take-append-drop}
use Rattle.std.proofs.Math.Seq.{take-append-add}
use Rattle.std.proofs.lemmas.Bool.{cases_eq, cases_lt, ne_eqb, eq-eqb, lt-ltb, le-ltb}
use Rattle.std.proofs.lemmas.List.{drop-drop, append-nil, get_or-take, get_or-drop, get_or_past}
use Rattle.kdb_disk.specs.Files.{put}
use Rattle.kdb_disk.proofs.Puts.{put_split, put_nothing, length-put, take-put, drop-put}
use Rattle.kdb_disk.proofs.Puts.{drop-put_behind, get_or-put_in, get_or-put_before}
use Rattle.kdb_control.specs.declared.force.Slot.{Slot}
use Rattle.kdb_control.specs.declared.force.Slot.TheVariants.{Closed, Holds, Torn}
use Rattle.kdb_control.specs.declared.force.Force.{Force}
use Rattle.kdb_control.specs.declared.force.Force.TheVariants.{Nothing, Is, Broken}
use Rattle.kdb_control.specs.Choice.{Choice}
use Rattle.kdb_control.specs.Bodies.{body_at, body, IsBody, body_field}
use Rattle.kdb_control.specs.Force.{slot, slot_bytes, of_body, newer, newer_of, in_force, turn_after}
use Rattle.kdb_control.specs.Moments.{IsPlace, without, force_of, next_turn, spare_at, HasTurn, StillHolds}

slot_short : (bytes : List ℕ) → length bytes < 64 → slot bytes ≡ Closed
unfolding slot
slot_short bytes lt = rw (lt-ltb (length bytes) 64 lt) refl

slot_closed : (bytes : List ℕ) → get_or bytes 0 0 ≢ 165 → slot bytes ≡ Closed
unfolding slot
slot_closed bytes other = ⊎_elim
    (λ lt. rw (lt-ltb (length bytes) 64 lt) refl)
    (λ ge. rw (le-ltb (length bytes) 64 ge, ne_eqb (get_or bytes 0 0) 165 other) refl)
    (cases_lt (length bytes) 64)

gate_of : (at : ℕ) (file : List ℕ) → get_or (slot_bytes at file) 0 0 ≡ get_or file at 0
unfolding slot_bytes
gate_of at file =
    let here : at ≡ at + 0 = omega arith in
    get_or-take 64 (drop at file) 0 0 (omega arith) ∙ get_or-drop at file 0 0
    ∙ ap (λ (i : ℕ). get_or file i 0) (sym here)

-- a closed slot counts for nothing
closed_without : (at : ℕ) (file : List ℕ) → IsPlace at → slot (slot_bytes at file) ≡ Closed
    → in_force file ≡ without at file
unfolding in_force without
closed_without at file (inl is) closed =
    rw is (rw (subst (λ (i : ℕ). slot (slot_bytes i file) ≡ Closed) is closed) refl)
closed_without at file (inr is) closed =
    rw is (rw (subst (λ (i : ℕ). slot (slot_bytes i file) ≡ Closed) is closed) refl)

pub gate_closed : (at : ℕ) (file : List ℕ) → IsPlace at → get_or file at 0 ≢ 165 → in_force file ≡ without at file
gate_closed at file place other =
    closed_without at file place (slot_closed (slot_bytes at file) (λ is. other (sym (gate_of at file) ∙ is)))

pub not_whole : (at : ℕ) (file : List ℕ) → IsPlace at → length file < at + 64 → in_force file ≡ without at file
unfolding slot_bytes
not_whole at file place short = closed_without at file place
    (slot_short (slot_bytes at file) (omega (arith, length-take 64 (drop at file), length-drop at file)))

-- the other slot stays as it is
pub without-put : (at from : ℕ) (bytes file : List ℕ) → IsPlace at → at ≤ from → from + length bytes ≤ at + 64
    → from ≤ length file → without at (put from bytes file) ≡ without at file
unfolding without slot_bytes
without-put at from bytes file (inl is) le within fits = rw is
    (ap (λ (l : List ℕ). newer Closed (slot (take 64 l))) (drop-put_behind 64 from bytes file (omega (arith, is)) fits))
without-put at from bytes file (inr is) le within fits =
    rw is (ap (λ (l : List ℕ). newer (slot l) Closed) (take-put 64 from bytes file (omega (arith, is)) fits))

-- a byte over the same byte
put_same : (at byte : ℕ) (file : List ℕ) → at < length file → get_or file at 0 ≡ byte → put at (byte ∷ []) file ≡ file
put_same at byte file lt is =
    let here : at + 0 ≡ at = omega arith in
    let one : take 1 (drop at file) ≡ byte ∷ [] =
    take-suc (drop at file) 0 0 (omega (arith, length-drop at file))
    ∙ ap (λ (b : ℕ). b ∷ []) (get_or-drop at file 0 0 ∙ ap (λ (i : ℕ). get_or file i 0) here ∙ is) in
    put_split at (byte ∷ []) file
    ∙ ap (λ (l : List ℕ). take at file ++ (l ++ drop (at + 1) file)) (sym one)
    ∙ ap (λ (l : List ℕ). take at file ++ (take 1 (drop at file) ++ l)) (sym (drop-drop 1 at file))
    ∙ ap (λ (l : List ℕ). take at file ++ l) (take-append-drop 1 (drop at file))
    ∙ take-append-drop at file

-- the byte of a gate
pub gate_put : (at byte : ℕ) (file : List ℕ) → at ≤ length file → get_or (put at (byte ∷ []) file) at 0 ≡ byte
gate_put at byte file le =
    let here : at ≡ at + 0 = omega arith in
    ap (λ (i : ℕ). get_or (put at (byte ∷ []) file) i 0) here ∙ get_or-put_in 0 at (byte ∷ []) file 0 (omega arith) le

-- a gate that was not opened
closed_byte : (at byte : ℕ) (file : List ℕ) → IsPlace at → at ≤ length file → byte ≢ 165
    → in_force (put at (byte ∷ []) file) ≡ without at file
closed_byte at byte file place le other =
    gate_closed at (put at (byte ∷ []) file) place (λ is. other (sym (gate_put at byte file le) ∙ is))
    ∙ without-put at at (byte ∷ []) file place (omega arith) (omega arith) le

-- what is torn of an open gate that is closed
pub shut_torn : (at : ℕ) (bytes file : List ℕ) → IsPlace at → at < length file → get_or file at 0 ≡ 165 → length bytes
    ≤ 1 → (in_force (put at bytes file) ≡ in_force file) ⊎ (in_force (put at bytes file) ≡ without at file)
shut_torn at [] file place lt open_gate few = inl (ap in_force (put_nothing at file))
shut_torn at (byte ∷ []) file place lt open_gate few = ⊎_elim
    (λ is. inl (ap (λ (b : ℕ). in_force (put at (b ∷ []) file)) is ∙ ap in_force (put_same at 165 file lt open_gate)))
    (λ other. inr (closed_byte at byte file place (omega arith) other))
    (cases_eq byte 165)
shut_torn at (byte ∷ (more ∷ rest)) file place lt open_gate few = absurd (omega arith)

-- what is torn of a gate that begins a slot
pub begun_torn : (at : ℕ) (bytes file : List ℕ) → IsPlace at → at ≡ length file → length bytes ≤ 1
    → in_force (put at bytes file) ≡ without at file
begun_torn at bytes file place end few =
    not_whole at (put at bytes file) place (omega (arith, length-put at bytes file (omega arith)))
    ∙ without-put at at bytes file place (omega arith) (omega arith) (omega arith)

-- what is torn of a body
pub body_torn : (at : ℕ) (bytes file : List ℕ) → IsPlace at → at < length file → get_or file at 0 ≢ 165
    → length bytes ≤ 63 → in_force (put (at + 1) bytes file) ≡ without at file
body_torn at bytes file place lt gate few =
    gate_closed at (put (at + 1) bytes file) place
    (λ is. gate (sym (get_or-put_before at (at + 1) bytes file 0 (omega arith) (omega arith)) ∙ is))
    ∙ without-put at (at + 1) bytes file place (omega arith) (omega arith) (omega arith)

-- the slot at this place is the newer one, where its turn comes next
turn_not : (t u : ℕ) → u < 3 → t ≡ turn_after u → u ≢ turn_after t
unfolding turn_after
turn_not t u lt is other = absurd (omega arith)

turn_of : Force → ℕ
turn_of (Is choice) = choice.turn
turn_of Nothing = 0
turn_of (Broken place) = 0

choice_of : Choice → Force → Choice
choice_of other (Is choice) = choice
choice_of other Nothing = other
choice_of other (Broken place) = other

closed_not : (c : Choice) → ◌≡◌ {A = Slot} Closed (Holds c) → ⊥
closed_not c is = absurd cc

torn_not : (c : Choice) → ◌≡◌ {A = Slot} Torn (Holds c) → ⊥
torn_not c is = absurd cc

broken_not : (place : ℕ) (c : Choice) → ◌≡◌ {A = Force} (Broken place) (Is c) → ⊥
broken_not place c is = absurd cc

turn_held : Slot → ℕ
turn_held (Holds c) = c.turn
turn_held Closed = 0
turn_held Torn = 0

newer_of_second : (c d : Choice) → d.turn ≡ turn_after c.turn → newer_of c d ≡ Is d
unfolding newer_of
newer_of_second c d after = rw (eq-eqb d.turn (turn_after c.turn) after) refl

newer_of_first : (c d : Choice) → d.turn ≢ turn_after c.turn → c.turn ≡ turn_after d.turn → newer_of c d ≡ Is c
unfolding newer_of
newer_of_first c d other before =
    rw (ne_eqb d.turn (turn_after c.turn) other, eq-eqb c.turn (turn_after d.turn) before) refl

newer_of_neither : (c d : Choice) → d.turn ≢ turn_after c.turn → c.turn ≢ turn_after d.turn → newer_of c d ≡ Broken 64
unfolding newer_of
newer_of_neither c d other neither =
    rw (ne_eqb d.turn (turn_after c.turn) other, ne_eqb c.turn (turn_after d.turn) neither) refl

newer_of_not : (c d : Choice) → newer_of c d ≡ Nothing → ⊥
newer_of_not c d is = ⊎_elim
    (λ after. let e : Is d ≡ Nothing = sym (newer_of_second c d after) ∙ is in cc)
    (λ other. ⊎_elim
    (λ before. let e : Is c ≡ Nothing = sym (newer_of_first c d other before) ∙ is in cc)
    (λ neither. let e : Broken 64 ≡ Nothing = sym (newer_of_neither c d other neither) ∙ is in cc)
    (cases_eq c.turn (turn_after d.turn)))
    (cases_eq d.turn (turn_after c.turn))

length_slot : (at : ℕ) (file : List ℕ) → length (slot_bytes at file) ≤ length file
unfolding slot_bytes
length_slot at file = omega (arith, length-take 64 (drop at file), length-drop at file)

newer_first : (now : Option Choice) (next : Choice) (other : Slot) → HasTurn now → newer Closed other ≡ force_of now
    → next.turn ≡ next_turn now → newer (Holds next) other ≡ Is next
unfolding newer newer_of turn_of
newer_first None next Closed lt is turn = refl
newer_first None next (Holds x) lt is turn = absurd cc
newer_first None next Torn lt is turn = absurd cc
newer_first (Some c) next Closed lt is turn = absurd cc
newer_first (Some c) next Torn lt is turn = absurd cc
newer_first (Some c) next (Holds x) lt is turn =
    let same : x.turn ≡ c.turn = ap turn_of is in
    let after : next.turn ≡ turn_after x.turn = turn ∙ ap turn_after (sym same) in
    rw (
      ne_eqb x.turn (turn_after next.turn) (turn_not next.turn x.turn (omega (arith, same, lt)) after),
      eq-eqb next.turn (turn_after x.turn) after,
    ) refl

newer_second : (now : Option Choice) (next : Choice) (other : Slot) → newer other Closed ≡ force_of now
    → next.turn ≡ next_turn now → newer other (Holds next) ≡ Is next
unfolding newer newer_of turn_of
newer_second now next Closed is turn = refl
newer_second None next (Holds x) is turn = absurd cc
newer_second None next Torn is turn = absurd cc
newer_second (Some c) next Torn is turn = absurd cc
newer_second (Some c) next (Holds x) is turn =
    let same : x.turn ≡ c.turn = ap turn_of is in
    let after : next.turn ≡ turn_after x.turn = turn ∙ ap turn_after (sym same) in
    rw (eq-eqb next.turn (turn_after x.turn) after) refl

slot_opened : (next : Choice) → IsBody next → length (body next) ≡ 63 → slot (165 ∷ body next) ≡ Holds next
unfolding slot
slot_opened next fits long =
    let read : body_at (body next) ≡ Some (next, []) =
    ap body_at (sym (append-nil (body next))) ∙ body_field.again next [] fits in
    rw (le-ltb (length (165 ∷ body next)) 64 (omega (arith, long))) (ap of_body read)

newer_here : (at : ℕ) (now : Option Choice) (next : Choice) (file : List ℕ) → IsPlace at
    → HasTurn now → slot (slot_bytes at file) ≡ Holds next → without at file ≡ force_of now → next.turn ≡ next_turn now
    → in_force file ≡ Is next
unfolding in_force without
newer_here at now next file (inl is) lt holds force turn =
    let here : slot (slot_bytes 0 file) ≡ Holds next =
    subst (λ (i : ℕ). slot (slot_bytes i file) ≡ Holds next) is holds in
    let there : newer Closed (slot (slot_bytes 64 file)) ≡ force_of now =
    subst (λ (i : ℕ). without i file ≡ force_of now) is force in
    ap (λ (x : Slot). newer x (slot (slot_bytes 64 file))) here
    ∙ newer_first now next (slot (slot_bytes 64 file)) lt there turn
newer_here at now next file (inr is) lt holds force turn =
    let here : slot (slot_bytes 64 file) ≡ Holds next =
    subst (λ (i : ℕ). slot (slot_bytes i file) ≡ Holds next) is holds in
    let there : newer (slot (slot_bytes 0 file)) Closed ≡ force_of now =
    subst (λ (i : ℕ). without i file ≡ force_of now) is force in
    ap (λ (x : Slot). newer (slot (slot_bytes 0 file)) x) here
    ∙ newer_second now next (slot (slot_bytes 0 file)) there turn

-- an opened slot
pub opened : (at : ℕ) (now : Option Choice) (next : Choice) (file : List ℕ) → IsPlace at → HasTurn now
    → at + 64 ≤ length file → take 63 (drop (at + 1) file) ≡ body next → IsBody next → without at file ≡ force_of now
    → next.turn ≡ next_turn now → in_force (put at (165 ∷ []) file) ≡ Is next
unfolding slot_bytes
opened at now next file place lt long there fits force turn =
    let whole : length (body next) ≡ 63 = omega (
      arith,
      ap (λ (l : List ℕ). length l) there,
      length-take 63 (drop (at + 1) file),
      length-drop (at + 1) file,
    ) in
    let bytes : slot_bytes at (put at (165 ∷ []) file) ≡ 165 ∷ body next =
    ap (take 64) (drop-put at (165 ∷ []) file (omega arith)) ∙ take-append-add (165 ∷ []) (drop (at + 1) file) 63
    ∙ ap (λ (l : List ℕ). 165 ∷ l) there in
    newer_here at now next (put at (165 ∷ []) file) place lt (ap slot bytes ∙ slot_opened next fits whole)
    (without-put at at (165 ∷ []) file place (omega arith) (omega arith) (omega arith) ∙ force) turn

-- what is torn of a gate that is opened
pub open_torn : (at : ℕ) (now : Option Choice) (next : Choice) (bytes file : List ℕ) → IsPlace at
    → HasTurn now → at + 64 ≤ length file → get_or file at 0 ≢ 165 → take 63 (drop (at + 1) file) ≡ body next
    → IsBody next → without at file ≡ force_of now → next.turn ≡ next_turn now → length bytes ≤ 1
    → (in_force (put at bytes file) ≡ force_of now) ⊎ (in_force (put at bytes file) ≡ Is next)
open_torn at now next [] file place lt long gate there fits force turn few =
    inl (ap in_force (put_nothing at file) ∙ gate_closed at file place gate ∙ force)
open_torn at now next (byte ∷ []) file place lt long gate there fits force turn few = ⊎_elim
    (λ is. inr (ap (λ (b : ℕ). in_force (put at (b ∷ []) file)) is
    ∙ opened at now next file place lt long there fits force turn))
    (λ other. inl (closed_byte at byte file place (omega arith) other ∙ force))
    (cases_eq byte 165)
open_torn at now next (byte ∷ (more ∷ rest)) file place lt long gate there fits force turn few = absurd (omega arith)

-- of two open slots
newer_of_is : (c d now : Choice) → newer_of c d ≡ Is now
    → ((Is d ≡ Is now) × (d.turn ≡ turn_after c.turn)) ⊎ (Is c ≡ Is now)
unfolding newer_of
newer_of_is c d now is = ⊎_elim
    (λ after. inl (sym (newer_of_second c d after) ∙ is, after))
    (λ other. ⊎_elim
    (λ before. inr (sym (newer_of_first c d other before) ∙ is))
    (λ neither. absurd (broken_not 64 now (sym (newer_of_neither c d other neither) ∙ is)))
    (cases_eq c.turn (turn_after d.turn)))
    (cases_eq d.turn (turn_after c.turn))

turn_self : (t : ℕ) → t ≢ turn_after t
unfolding turn_after
turn_self t is = absurd (omega arith)

spare : (first second : Slot) (now : Choice) → newer first second ≡ Is now
    → ((c : Choice) → first ≡ Holds c → c.turn ≢ now.turn) → newer Closed second ≡ Is now
unfolding newer turn_of
spare Torn second now is other = absurd cc
spare Closed second now is other = is
spare (Holds c) Torn now is other = absurd cc
spare (Holds c) Closed now is other = absurd (other c refl (ap turn_of is))
spare (Holds c) (Holds d) now is other =
    ⊎_elim (λ e. e.0) (λ e. absurd (other c refl (ap turn_of e))) (newer_of_is c d now is)

newer_holds : (c : Choice) (second : Slot) (now : Choice) → newer (Holds c) second ≡ Is now → c.turn ≡ now.turn
    → newer (Holds c) Closed ≡ Is now
unfolding newer turn_of
newer_holds c Torn now is same = absurd cc
newer_holds c Closed now is same = is
newer_holds c (Holds d) now is same = ⊎_elim
    (λ e. absurd (turn_self c.turn (same ∙ sym (ap turn_of e.0) ∙ e.1)))
    (λ e. e)
    (newer_of_is c d now is)

slot_holds : (bytes : List ℕ) (c : Choice) → slot bytes ≡ Holds c → 64 ≤ length bytes
slot_holds bytes c is = ⊎_elim
    (λ lt. absurd (closed_not c (sym (slot_short bytes lt) ∙ is)))
    (λ ge. ge)
    (cases_lt (length bytes) 64)

pub spare_place : (first : Slot) (turn : ℕ) → IsPlace (spare_at first turn)
unfolding spare_at
spare_place Closed turn = inl refl
spare_place Torn turn = inl refl
spare_place (Holds c) turn = ⊎_elim (λ is. inr (rw (eq-eqb c.turn turn is) refl))
    (λ other. inl (rw (ne_eqb c.turn turn other) refl)) (cases_eq c.turn turn)

spare_second : (c : Choice) (turn : ℕ) → c.turn ≡ turn → spare_at (Holds c) turn ≡ 64
unfolding spare_at
spare_second c turn is = rw (eq-eqb c.turn turn is) refl

spare_first : (c : Choice) (turn : ℕ) → c.turn ≢ turn → spare_at (Holds c) turn ≡ 0
unfolding spare_at
spare_first c turn other = rw (ne_eqb c.turn turn other) refl

at_place : (at place : ℕ) (file : List ℕ) (now : Choice) → at ≡ place → without place file ≡ Is now
    → place ≤ length file → (without at file ≡ Is now) × (at ≤ length file)
at_place at place file now is alone within =
    (subst (λ (i : ℕ). without i file ≡ Is now) (sym is) alone, omega (arith, is, within))

-- the slot that is not the newer one counts for nothing, and does not begin past the end
spare_is : (file : List ℕ) (now : Choice) (first : Slot) → slot (slot_bytes 0 file) ≡ first → in_force file ≡ Is now
    → (without (spare_at first now.turn) file ≡ Is now) × (spare_at first now.turn ≤ length file)
unfolding in_force without spare_at turn_held
spare_is file now Closed first is = (
  spare (slot (slot_bytes 0 file)) (slot (slot_bytes 64 file)) now is (λ c e. absurd (closed_not c (sym first ∙ e))),
  omega arith,
)
spare_is file now Torn first is = (
  spare (slot (slot_bytes 0 file)) (slot (slot_bytes 64 file)) now is (λ c e. absurd (torn_not c (sym first ∙ e))),
  omega arith,
)
spare_is file now (Holds c) first is = ⊎_elim
    (λ same.
    let place = spare_second c now.turn same in
    let long = slot_holds (slot_bytes 0 file) c first in
    let alone : newer (slot (slot_bytes 0 file)) Closed ≡ Is now = ap (λ (x : Slot). newer x Closed) first ∙ newer_holds
    c (slot (slot_bytes 64 file)) now (sym (ap (λ (x : Slot). newer x (slot (slot_bytes 64 file))) first) ∙ is) same in
    at_place (spare_at (Holds c) now.turn) 64 file now place alone (omega (arith, long, length_slot 0 file)))
    (λ other.
    let place = spare_first c now.turn other in
    let alone : newer Closed (slot (slot_bytes 64 file)) ≡ Is now = spare (slot (slot_bytes 0 file))
    (slot (slot_bytes 64 file)) now is (λ d e. λ t. other (ap turn_held (sym first ∙ e) ∙ t)) in
    at_place (spare_at (Holds c) now.turn) 0 file now place alone (omega arith))
    (cases_eq c.turn now.turn)

pub spare_without : (file : List ℕ) (now : Choice) → in_force file ≡ Is now
    → without (spare_at (slot (slot_bytes 0 file)) now.turn) file ≡ Is now
spare_without file now is = (spare_is file now (slot (slot_bytes 0 file)) refl is).0

pub spare_within : (file : List ℕ) (now : Choice) → in_force file ≡ Is now
    → spare_at (slot (slot_bytes 0 file)) now.turn ≤ length file
spare_within file now is = (spare_is file now (slot (slot_bytes 0 file)) refl is).1

-- where nothing is in force, both slots are closed
both_closed : (first second : Slot) → newer first second ≡ Nothing
    → (newer Closed second ≡ Nothing) × (newer first Closed ≡ Nothing)
unfolding newer
both_closed Closed Closed is = (refl, refl)
both_closed Closed Torn is = absurd cc
both_closed Closed (Holds d) is = absurd cc
both_closed Torn second is = absurd cc
both_closed (Holds c) Closed is = absurd cc
both_closed (Holds c) Torn is = absurd cc
both_closed (Holds c) (Holds d) is = absurd (newer_of_not c d is)

pub nothing_without : (at : ℕ) (file : List ℕ) → IsPlace at → in_force file ≡ Nothing → without at file ≡ Nothing
unfolding in_force without
nothing_without at file (inl place) is =
    rw place ((both_closed (slot (slot_bytes 0 file)) (slot (slot_bytes 64 file)) is).0)
nothing_without at file (inr place) is =
    rw place ((both_closed (slot (slot_bytes 0 file)) (slot (slot_bytes 64 file)) is).1)

pub gate_within : (at : ℕ) (file : List ℕ) → get_or file at 0 ≡ 165 → at < length file
gate_within at file is = ⊎_elim
    (λ lt. lt)
    (λ ge. let zero : 0 ≡ 165 = sym (get_or_past file at 0 ge) ∙ is in absurd cc)
    (cases_lt at (length file))

-- what counts alone stands in a slot
alone_holds : (s : Slot) (now : Choice) → (newer Closed s ≡ Is now) ⊎ (newer s Closed ≡ Is now) → s ≡ Holds now
unfolding newer choice_of
alone_holds Closed now (inl is) = absurd cc
alone_holds Closed now (inr is) = absurd cc
alone_holds Torn now (inl is) = absurd cc
alone_holds Torn now (inr is) = absurd cc
alone_holds (Holds c) now (inl is) = ap (λ (force : Force). Holds (choice_of now force)) is
alone_holds (Holds c) now (inr is) = ap (λ (force : Force). Holds (choice_of now force)) is

pub still_holds : (at : ℕ) (file : List ℕ) (now : Choice) → IsPlace at → without at file ≡ Is now → StillHolds now file
unfolding without
still_holds at file now (inl place) is =
    let there : newer Closed (slot (slot_bytes 64 file)) ≡ Is now =
    subst (λ (i : ℕ). without i file ≡ Is now) place is in
    inr (alone_holds (slot (slot_bytes 64 file)) now (inl there))
still_holds at file now (inr place) is =
    let there : newer (slot (slot_bytes 0 file)) Closed ≡ Is now =
    subst (λ (i : ℕ). without i file ≡ Is now) place is in
    inl (alone_holds (slot (slot_bytes 0 file)) now (inr there))

-- where one gate is closed, the other alone counts
pub both_shut : (at other : ℕ) (file : List ℕ) → IsPlace at → other ≡ 64 - at → get_or file at 0 ≢ 165
    → without other file ≡ Nothing
unfolding without newer
both_shut at other file (inl is) from gate =
    let there : other ≡ 64 = omega (arith, is, from) in
    let closed : slot (slot_bytes 0 file) ≡ Closed =
    slot_closed (slot_bytes 0 file) (λ e. gate (ap (λ (i : ℕ). get_or file i 0) is ∙ sym (gate_of 0 file) ∙ e)) in
    rw there (ap (λ (x : Slot). newer x Closed) closed)
both_shut at other file (inr is) from gate =
    let there : other ≡ 0 = omega (arith, is, from) in
    let closed : slot (slot_bytes 64 file) ≡ Closed =
    slot_closed (slot_bytes 64 file) (λ e. gate (ap (λ (i : ℕ). get_or file i 0) is ∙ sym (gate_of 64 file) ∙ e)) in
    rw there (ap (λ (x : Slot). newer Closed x) closed)

alone_long : (bytes : List ℕ) (now : Choice) (s : Slot) → slot bytes ≡ s → newer Closed s ≡ Is now → 64 ≤ length bytes
unfolding newer
alone_long bytes now Closed is alone = absurd cc
alone_long bytes now Torn is alone = absurd cc
alone_long bytes now (Holds c) is alone = slot_holds bytes c is

-- the newer slot is within the file
pub other_within : (at other : ℕ) (now : Choice) (file : List ℕ) → IsPlace at → other ≡ 64 - at
    → without at file ≡ Is now → other ≤ length file
unfolding without
other_within at other now file (inl is) from alone =
    let there : newer Closed (slot (slot_bytes 64 file)) ≡ Is now =
    subst (λ (i : ℕ). without i file ≡ Is now) is alone in
    omega (arith, from, alone_long (slot_bytes 64 file) now (slot (slot_bytes 64 file)) refl there, length_slot 64 file)
other_within at other now file (inr is) from alone = omega (arith, is, from)
