-- The link is read only where more has to come.
use Rattle.std.proofs.Common.{◌≡◌, ℕ, ◌+◌, ◌≤◌, true, false, List, [], ◌++◌, length, Option, Some, None, Ok}
use Rattle.std.proofs.Common.{Err, refl, sym, ap, subst, ◌∙◌, append_assoc, append-nil, arith, inl, inr}
use Rattle.std.specs.Prelude.{◌⊎◌, Result, IfErr, IfOk, OnOk}
use Rattle.iprop_links.specs.Arriving.{Arrives, ArrivesOf, HasEnded, IsUnended, Needs}
use Rattle.iprop_links.specs.Arriving.{StopsShort, WantsMore, coming, in_all, led}
use Rattle.iprop_links.specs.declared.halts.LinkHalt.{LinkHalt}
use Rattle.iprop_links.specs.declared.halts.LinkHalt.TheVariants as halt
use Rattle.iprop_links.specs.declared.inbox.Arrival.{Arrival}
use Rattle.iprop_links.proofs.Steps.{gave_both}
use Rattle.iprop_wire.specs.Decoding.{State, fed, fresh, is_going}
use Rattle.iprop_wire.specs.Due.{narrowed}
use Rattle.iprop_wire.specs.declared.due.Due.{Due}
use Rattle.iprop_wire.proofs.Reading.{fed_parts}
use Rattle.kdb_ports.specs.Links.{Wire, after_sent, before_received}

pub gave_none : (told : Option Wire) → told ≡ before_received [] told
gave_none None = refl
gave_none (Some w) = refl

-- what came so far, with no end before the last piece of it
pub record Reads (d : Due) (s : State) (p : List ℕ) (old new : Option Wire) (t : State) (q : List ℕ) : Type 0 where
  pub needs : Needs d s p old new
  pub leads : fed t q ≡ fed s (p ++ (needs.front ++ needs.last))

-- of a link: no call was made yet, or so much came
abbrev pub ReadsSo : {X : Type 0} → (X → Option Wire) → X → X → Due → State → List ℕ → State → List ℕ → Type 0
ReadsSo wire x y d s p t q = ((y ≡ x) × ((t ≡ s) × (q ≡ p))) ⊎ Reads d s p (wire x) (wire y) t q

-- bytes came that lead to this
pub record CameTo (s : State) (p : List ℕ) (old new : Option Wire) (u : State) : Type 0 where
  pub piece : List ℕ
  pub gave : old ≡ before_received piece new
  pub leads : u ≡ fed s (p ++ piece)

module _ {X : Type 0} (wire : X → Option Wire) (x y : X) (d : Due) (s : State) (p : List ℕ) (t : State)
    (q : List ℕ) where
  pub reads_of : ReadsSo wire x y d s p t q → (y ≡ x) ⊎ Needs d s p (wire x) (wire y)
  reads_of (inl none) = inl none.0
  reads_of (inr reads) = inr reads.needs

  came_to : ReadsSo wire x y d s p t q → (u : State) → u ≡ fed t q → CameTo s p (wire x) (wire y) u
  came_to (inl none) u is = record {
    piece = [];
    gave = gave_none (wire x) ∙ ap (λ (z : X). before_received [] (wire z)) (sym none.0);
    leads = is ∙ ap (λ (v : State). fed v q) none.1.0 ∙ ap (fed s) (none.1.1 ∙ sym (append-nil p));
  }
  came_to (inr reads) u is =
      record { piece = reads.needs.front ++ reads.needs.last; gave = reads.needs.gave; leads = is ∙ reads.leads }

  -- all that came makes an end
  pub has_ended : ReadsSo wire x y d s p t q → is_going (led d t q) ≡ false → HasEnded d s p (wire x) (wire y)
  has_ended so ended =
      let came = came_to so (fed t q) refl in
      record {
        piece = came.piece;
        gave = came.gave;
        ended = ap (λ (v : State). is_going (narrowed d v)) (sym came.leads) ∙ ended;
      }

  -- more has to come
  module _ (so : ReadsSo wire x y d s p t q) (u : State) (is : u ≡ fed t q)
      (going : is_going (narrowed d u) ≡ true) where
    pub wants_more : (new : Option Wire) → new ≡ wire y → WantsMore d s p (wire x) new
    wants_more new same =
        let came = came_to so u is in
        record {
          piece = came.piece;
          gave = came.gave ∙ ap (before_received came.piece) (sym same);
          going = ap (λ (v : State). is_going (narrowed d v)) (sym came.leads) ∙ going;
        }

    pub reads_on : (v : State) (r : List ℕ) (new : Option Wire) → v ≡ u → wire y ≡ before_received r new
        → length r ≤ 16384 → Reads d s p (wire x) new v r
    reads_on v r new same gave few =
        let came = came_to so u is in
        record {
          needs = record {
            front = came.piece;
            last = r;
            few = few;
            gave = came.gave ∙ ap (before_received came.piece) gave ∙ gave_both came.piece r new;
            needed = ap (λ (v : State). is_going (narrowed d v)) (sym came.leads) ∙ going;
          };
          leads = ap (λ (v : State). fed v r) (same ∙ came.leads) ∙ sym (fed_parts s (p ++ came.piece) r)
              ∙ ap (fed s) (append_assoc p came.piece r);
        }

-- and nothing came
pub needs_none : (d : Due) (s : State) (p : List ℕ) (old new : Option Wire) → WantsMore d s p old new
    → Needs d s p old new
needs_none d s p old new wants = record {
  front = wants.piece;
  last = [];
  few = omega arith;
  gave = wants.gave ∙ ap (λ (q : List ℕ). before_received q new) (sym (append-nil wants.piece));
  needed = wants.going;
}

pub stops_short : (h : LinkHalt) (d : Due) (s : State) (p : List ℕ) (old new : Option Wire) → WantsMore d s p old new
    → StopsShort h d s p old new
stops_short halt.MemoryOut d s p old new wants = tt
stops_short halt.LinkFault d s p old new wants = wants
stops_short halt.InputTooLong d s p old new wants = wants

pub stops_memory : (h : LinkHalt) (d : Due) (s : State) (p : List ℕ) (old new : Option Wire) → h ≡ halt.MemoryOut
    → StopsShort h d s p old new
stops_memory h d s p old new is = subst (λ (h : LinkHalt). StopsShort h d s p old new) (sym is) tt

-- ---- too much came

pub some_is : {A : Type 0} (a b : A) → Some a ≡ Some b → a ≡ b
some_is a b e = cc

abbrev pub left_in : Option Wire → List ℕ
left_in None = []
left_in (Some w) = w.left

pub unended : (d : Due) (p rest : List ℕ) (r n all : ℕ) (old new : Option Wire) → coming p old ≡ Some rest
    → in_all r old ≡ Some all → in_all r old ≡ in_all n new → n ≡ 4294967296
    → WantsMore d fresh p old new → IsUnended d rest all
unended d p rest r n all None new told all_is same most wants = absurd cc
unended d p rest r n all (Some w) None told all_is same most wants = absurd cc
unended d p rest r n all (Some w) (Some v) told all_is same most wants =
    let left : w.left ≡ wants.piece ++ v.left = ap left_in wants.gave in
    let number : length v.left + n ≡ all = some_is (length v.left + n) all (sym same ∙ all_is) in
    record {
      came = p ++ wants.piece;
      left = v.left;
      parts = sym (some_is (p ++ w.left) rest told) ∙ ap (λ (q : List ℕ). p ++ q) left
          ∙ sym (append_assoc p wants.piece v.left);
      count = omega (arith, number, most);
      going = wants.going;
    }

-- ---- behind what was sent

pub ok_of : {A E P : Type 0} (r : Result A E) → P → OnOk r P
ok_of (Ok x) p = p
ok_of (Err e) p = tt

pub same_coming : (p text : List ℕ) (told : Option Wire) → coming p (after_sent told text) ≡ coming p told
same_coming p text None = refl
same_coming p text (Some w) = refl

pub same_all : (n : ℕ) (text : List ℕ) (told : Option Wire) → in_all n (after_sent told text) ≡ in_all n told
same_all n text None = refl
same_all n text (Some w) = refl

pub arrives_sent : {E : Type 0} (d : Due) (r : Result Arrival E) (s : State) (before : Option (List ℕ)) (rest : List ℕ)
    (after : Option (List ℕ)) → s ≡ fresh → before ≡ Some rest
    → IfOk r (λ a. Arrives d a s before after) → IfOk r (λ a. ArrivesOf d a fresh rest after)
arrives_sent d (Ok a) s before rest after new told is = subst (λ (t : State). ArrivesOf d a t rest after) new
    (subst (λ (b : Option (List ℕ)). Arrives d a s b after) told is)
arrives_sent d (Err e) s before rest after new told is = tt

pub stopped_long : {A : Type 0} (d : Due) (r : Result A LinkHalt) (s : State) (p : List ℕ) (old new : Option Wire)
    → s ≡ fresh → r ≡ Err halt.InputTooLong
    → IfErr r (λ h. StopsShort h d s p old new) → WantsMore d fresh p old new
stopped_long {A = A} d r s p old new is long short =
    subst (λ (t : State). WantsMore d t p old new) is
    (subst (λ (r : Result A LinkHalt). IfErr r (λ h. StopsShort h d s p old new)) long short)

pub needs_sent : {X : Type 0} (wire : X → Option Wire) (x y : X) (d : Due) (s : State) (p : List ℕ) (told : Option Wire)
    → s ≡ fresh → p ≡ [] → wire x ≡ told
    → ((y ≡ x) ⊎ Needs d s p (wire x) (wire y)) → Needs d fresh [] told (wire y)
unfolding fed
needs_sent wire x y d s p told new none is (inl same) = record {
  front = [];
  last = [];
  few = omega arith;
  gave = sym (ap wire same ∙ is) ∙ gave_none (wire y);
  needed = refl;
}
needs_sent wire x y d s p told new none is (inr needs) =
    subst (λ (t : Option Wire). Needs d fresh [] t (wire y)) is
    (subst (λ (q : List ℕ). Needs d fresh q (wire x) (wire y)) none
    (subst (λ (t : State). Needs d t p (wire x) (wire y)) new needs))
