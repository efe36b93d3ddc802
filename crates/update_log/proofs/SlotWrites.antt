-- What writes into one slot leave in the slots.
use Rattle.std.proofs.Common.{◌≡◌, ◌≢◌, ℕ, ◌+◌, ◌-◌, ◌*◌, ◌<◌, ◌≤◌, ◌⊎◌, inl, inr, ⊎_elim, List}
use Rattle.std.proofs.Common.{[], ◌∷◌, ◌++◌, length, get_or, take, drop, refl, sym, ◌∙◌, ap}
use Rattle.std.proofs.Common.{subst, arith, length-take, length-drop, take-suc, take-append-drop}
use Rattle.std.proofs.Math.Nat.{mul-le-mul_right}
use Rattle.std.proofs.lemmas.Bool.{cases_eq, cases_lt}
use Rattle.std.proofs.lemmas.List.{drop-drop, drop-take, get_or-take, get_or-drop, get_or_past}
use Rattle.kdb_disk.specs.Files.{put}
use Rattle.kdb_disk.proofs.Puts.{put_split, put_nothing, length-put, take-put, drop-put_behind}
use Rattle.kdb_disk.proofs.Puts.{get_or-put_in, get_or-put_before, between-put}
use Rattle.update_log.specs.Slots.{slot_bytes, IsOpen, IsClosed, SameBut, Shuts, Fills}

pub same_file : (block k : ℕ) (file : List ℕ) → SameBut block k file file
same_file block k file = record { each = λ i ne. refl }

pub same_then : {block k : ℕ} {a b c : List ℕ} → SameBut block k a b → SameBut block k b c → SameBut block k a c
same_then first second = record { each = λ i ne. second.each i ne ∙ first.each i ne }

place_below : (block i k : ℕ) → i < k → i * block + block ≤ k * block
place_below block i k lt =
    let le : (i + 1) * block ≤ k * block = mul-le-mul_right block (omega (arith, lt)) in
    omega (arith, le)

-- a write within a slot
pub put_within : (block k at : ℕ) (bytes file : List ℕ) → k * block ≤ at → at + length bytes ≤ k * block + block
    → at ≤ length file → SameBut block k file (put at bytes file)
unfolding slot_bytes
put_within block k at bytes file le ge within = record {
  each = λ i ne. ⊎_elim
      (λ lt.
      let below = place_below block i k lt in
      sym (drop-take (i * block) block (put at bytes file))
      ∙ ap (drop (i * block)) (take-put (i * block + block) at bytes file (omega (arith, below, le)) within)
      ∙ drop-take (i * block) block file)
      (λ not_below.
      let above = place_below block k i (omega (arith, ne, not_below)) in
      ap (take block) (drop-put_behind (i * block) at bytes file (omega (arith, above, ge)) within))
      (cases_lt i k);
}

pub gate_of : (block k : ℕ) (file : List ℕ) → 0 < block
    → get_or (slot_bytes block k file) 0 0 ≡ get_or file (k * block) 0
unfolding slot_bytes
gate_of block k file pos =
    let here : k * block ≡ k * block + 0 = omega arith in
    get_or-take block (drop (k * block) file) 0 0 pos ∙ get_or-drop (k * block) file 0 0
    ∙ ap (λ (i : ℕ). get_or file i 0) (sym here)

pub long_slot : (block k : ℕ) (file : List ℕ) → k * block + block ≤ length file
    → length (slot_bytes block k file) ≡ block
unfolding slot_bytes
long_slot block k file le = omega (arith, length-take block (drop (k * block) file), length-drop (k * block) file, le)

-- a whole slot lies within the file
pub slot_within : (block k : ℕ) (file : List ℕ) → 0 < block → length (slot_bytes block k file) ≡ block
    → k * block + block ≤ length file
unfolding slot_bytes
slot_within block k file pos is =
    omega (arith, length-take block (drop (k * block) file), length-drop (k * block) file, is, pos)

pub closed_gate : (block k : ℕ) (file : List ℕ) → 0 < block → get_or file (k * block) 0 ≢ 165
    → IsClosed block (slot_bytes block k file)
closed_gate block k file pos other slot = other (sym (gate_of block k file pos) ∙ slot.gate)

pub not_whole : (block k : ℕ) (file : List ℕ) → 0 < block → length file < k * block + block
    → IsClosed block (slot_bytes block k file)
not_whole block k file pos short slot = let le =
    slot_within block k file pos slot.whole in absurd (omega (arith, le, short))

-- a byte over the same byte
put_same : (at byte : ℕ) (file : List ℕ) → at < length file → get_or file at 0 ≡ byte → put at (byte ∷ []) file ≡ file
put_same at byte file lt is =
    let here : at + 0 ≡ at = omega arith in
    let one : take 1 (drop at file) ≡ byte ∷ [] =
    take-suc (drop at file) 0 0 (omega (arith, length-drop at file))
    ∙ ap (λ (b : ℕ). b ∷ []) (get_or-drop at file 0 0 ∙ ap (λ (i : ℕ). get_or file i 0) here ∙ is) in
    put_split at (byte ∷ []) file
    ∙ ap (λ (l : List ℕ). take at file ++ (l ++ drop (at + 1) file)) (sym one)
    ∙ ap (λ (l : List ℕ). take at file ++ (take 1 (drop at file) ++ l)) (sym (drop-drop 1 at file))
    ∙ ap (λ (l : List ℕ). take at file ++ l) (take-append-drop 1 (drop at file))
    ∙ take-append-drop at file

pub gate_put : (at byte : ℕ) (file : List ℕ) → at ≤ length file → get_or (put at (byte ∷ []) file) at 0 ≡ byte
gate_put at byte file le =
    let here : at ≡ at + 0 = omega arith in
    ap (λ (i : ℕ). get_or (put at (byte ∷ []) file) i 0) here ∙ get_or-put_in 0 at (byte ∷ []) file 0 (omega arith) le

shut_by : (block k byte : ℕ) (file : List ℕ) → 0 < block → k * block ≤ length file → byte ≢ 165
    → Shuts block k file (put (k * block) (byte ∷ []) file)
shut_by block k byte file pos le other = record {
  others = put_within block k (k * block) (byte ∷ []) file (omega arith) (omega (arith, pos)) le;
  closed = closed_gate block k (put (k * block) (byte ∷ []) file) pos
      (λ is. other (sym (gate_put (k * block) byte file le) ∙ is));
}

pub gate_within : (at : ℕ) (file : List ℕ) → get_or file at 0 ≡ 165 → at < length file
gate_within at file is = ⊎_elim
    (λ lt. lt)
    (λ ge. let zero : 0 ≡ 165 = sym (get_or_past file at 0 ge) ∙ is in absurd cc)
    (cases_lt at (length file))

-- what is torn of an open gate that is closed
pub shut_torn : (block k : ℕ) (bytes file : List ℕ) → 0 < block → get_or file (k * block) 0 ≡ 165 → length bytes ≤ 1
    → (put (k * block) bytes file ≡ file) ⊎ Shuts block k file (put (k * block) bytes file)
shut_torn block k [] file pos gate few = inl (put_nothing (k * block) file)
shut_torn block k (byte ∷ []) file pos gate few =
    let lt = gate_within (k * block) file gate in
    ⊎_elim
    (λ is. inl (ap (λ (b : ℕ). put (k * block) (b ∷ []) file) is ∙ put_same (k * block) 165 file lt gate))
    (λ other. inr (shut_by block k byte file pos (omega (arith, lt)) other))
    (cases_eq byte 165)
shut_torn block k (byte ∷ (more ∷ rest)) file pos gate few = absurd (omega (arith, few))

-- what is torn of a gate that begins a slot
pub begun_torn : (block k : ℕ) (bytes file : List ℕ) → 2 ≤ block → k * block ≡ length file → length bytes ≤ 1
    → Shuts block k file (put (k * block) bytes file)
begun_torn block k bytes file two end few = record {
  others = put_within block k (k * block) bytes file (omega arith) (omega (arith, two, few)) (omega (arith, end));
  closed = not_whole block k (put (k * block) bytes file) (omega (arith, two))
      (omega (arith, length-put (k * block) bytes file (omega (arith, end)), end, two, few));
}

-- a gate that reads closed
pub shut_already : (block k : ℕ) (file : List ℕ) → 0 < block → get_or file (k * block) 0 ≢ 165 → Shuts block k file file
shut_already block k file pos other =
    record { others = same_file block k file; closed = closed_gate block k file pos other }

-- what is torn of a body
pub body_torn : (block k : ℕ) (bytes file : List ℕ) → 0 < block → k * block < length file
    → get_or file (k * block) 0 ≢ 165 → length bytes ≤ block - 1 → Shuts block k file (put (k * block + 1) bytes file)
body_torn block k bytes file pos lt gate few = record {
  others = put_within block k (k * block + 1) bytes file (omega arith) (omega (arith, pos, few)) (omega (arith, lt));
  closed = closed_gate block k (put (k * block + 1) bytes file) pos (λ is.
      gate (sym (get_or-put_before (k * block) (k * block + 1) bytes file 0 (omega arith) (omega (arith, lt))) ∙ is));
}

-- what stands behind the gate
pub body_of : (block k : ℕ) (file : List ℕ) → 0 < block
    → drop 1 (slot_bytes block k file) ≡ take (block - 1) (drop (k * block + 1) file)
unfolding slot_bytes
body_of block k file pos =
    let whole : block ≡ 1 + (block - 1) = omega (arith, pos) in
    ap (λ (n : ℕ). drop 1 (take n (drop (k * block) file))) whole
    ∙ drop-take 1 (block - 1) (drop (k * block) file)
    ∙ ap (take (block - 1)) (drop-drop 1 (k * block) file)

-- the body is filled in behind a closed gate
pub filled : (block k : ℕ) (body file : List ℕ) → 0 < block → k * block < length file → get_or file (k * block) 0 ≢ 165
    → length body ≡ block - 1 → Fills block k body file (put (k * block + 1) body file)
filled block k body file pos lt gate long =
    let new = put (k * block + 1) body file in
    let within : k * block + 1 ≤ length file = omega (arith, lt) in
    record {
      others = put_within block k (k * block + 1) body file (omega arith) (omega (arith, pos, long)) within;
      whole = long_slot block k new (omega (arith, length-put (k * block + 1) body file within, long, pos));
      gate = λ is. gate (sym (get_or-put_before (k * block) (k * block + 1) body file 0 (omega arith) within)
          ∙ sym (gate_of block k new pos) ∙ is);
      body_is = body_of block k new pos ∙ ap (λ (n : ℕ). take n (drop (k * block + 1) new)) (sym long)
          ∙ between-put (k * block + 1) body file within;
    }

pub fills_shut : {block k : ℕ} {body old new : List ℕ} → Fills block k body old new → Shuts block k old new
fills_shut fills = record { others = fills.others; closed = λ slot. fills.gate slot.gate }

pub shut_then_filled : {block k : ℕ} {body old mid new : List ℕ} → SameBut block k old mid → Fills block k body mid new
    → Fills block k body old new
shut_then_filled same fills =
    record { others = same_then same fills.others; whole = fills.whole; gate = fills.gate; body_is = fills.body_is }

-- the gate is opened: the slot is whole, with what stood behind its gate
pub record Opens (block k : ℕ) (old new : List ℕ) : Type 0 where
  pub others : SameBut block k old new
  pub opened : IsOpen block (slot_bytes block k new)
  pub body_same : drop 1 (slot_bytes block k new) ≡ drop 1 (slot_bytes block k old)

pub opened_by : (block k : ℕ) (file : List ℕ) → 0 < block → length (slot_bytes block k file) ≡ block
    → Opens block k file (put (k * block) (165 ∷ []) file)
opened_by block k file pos whole =
    let new = put (k * block) (165 ∷ []) file in
    let end = slot_within block k file pos whole in
    let within : k * block ≤ length file = omega (arith, end) in
    record {
      others = put_within block k (k * block) (165 ∷ []) file (omega arith) (omega (arith, pos)) within;
      opened = record {
        whole = long_slot block k new (omega (arith, length-put (k * block) (165 ∷ []) file within, end));
        gate = gate_of block k new pos ∙ gate_put (k * block) 165 file within;
      };
      body_same = body_of block k new pos
          ∙ ap (take (block - 1)) (drop-put_behind (k * block + 1) (k * block) (165 ∷ []) file (omega arith) within)
          ∙ sym (body_of block k file pos);
    }

-- what is torn of a gate that is opened
pub open_torn : (block k : ℕ) (bytes file : List ℕ) → 0 < block → length (slot_bytes block k file) ≡ block
    → get_or (slot_bytes block k file) 0 0 ≢ 165 → length bytes ≤ 1
    → Shuts block k file (put (k * block) bytes file) ⊎ Opens block k file (put (k * block) bytes file)
open_torn block k [] file pos whole gate few =
    inl (subst (Shuts block k file) (sym (put_nothing (k * block) file))
    (shut_already block k file pos (λ is. gate (gate_of block k file pos ∙ is))))
open_torn block k (byte ∷ []) file pos whole gate few = ⊎_elim
    (λ is. inr (subst (λ (b : ℕ). Opens block k file (put (k * block) (b ∷ []) file)) (sym is)
    (opened_by block k file pos whole)))
    (λ other. let end =
    slot_within block k file pos whole in inl (shut_by block k byte file pos (omega (arith, end)) other))
    (cases_eq byte 165)
open_torn block k (byte ∷ (more ∷ rest)) file pos whole gate few = absurd (omega (arith, few))
