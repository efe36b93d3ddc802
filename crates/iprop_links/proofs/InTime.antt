-- What is answered is made of what was received, which is 4294967296 bytes at most.
use Rattle.std.proofs.Common.{◌≡◌, ℕ, ◌+◌, ◌≤◌, Bool, true, false, List, [], ◌∷◌, ◌++◌, length, take, drop, Option}
use Rattle.std.proofs.Common.{Some, None, Ok, Err, refl, sym, ap, subst, ◌∙◌, append_assoc, arith, inl, inr}
use Rattle.std.specs.Prelude.{◌⊎◌, Result, OnOk}
use Rattle.std.proofs.lemmas.List.{length-append, take-append-drop, take-append-le, take_all}
use Rattle.iprop_links.specs.Arriving.{EndsEarly, HasEnded, IsUnended, coming, in_all, led}
use Rattle.iprop_links.proofs.Needed.{left_in, some_is}
use Rattle.iprop_links.proofs.Steps.{refused_is}
use Rattle.iprop_wire.specs.Decoding.{State, Going, Waits, Broken, Spent, fed, fresh, is_going}
use Rattle.iprop_wire.specs.Due.{is_due, narrowed}
use Rattle.iprop_wire.specs.declared.due.Due.{Due}
use Rattle.iprop_wire.proofs.Awaited.{stays_not}
use Rattle.iprop_wire.proofs.Reading.{fed_parts}
use Rattle.kdb_ports.specs.Links.{Wire, after_dial, after_sent, first_of}

-- ---- what ended does not go on

stays_ended : (s : State) (more : List ℕ) → is_going s ≡ false → fed s more ≡ s
unfolding fed
stays_ended s [] ended = refl
stays_ended (Going b h) (x ∷ more) ended = absurd cc
stays_ended (Waits m) (x ∷ more) ended = refl
stays_ended Broken (x ∷ more) ended = refl
stays_ended Spent (x ∷ more) ended = refl

ends_on : (d : Due) (s : State) (more : List ℕ) → is_going (narrowed d s) ≡ false
    → is_going (narrowed d (fed s more)) ≡ false
ends_on d s more ended = by (is_due d s) (is_going s) refl refl
  where
    by : (due going : Bool) → is_due d s ≡ due → is_going s ≡ going → is_going (narrowed d (fed s more)) ≡ false
    by false going not_due is = ap is_going (refused_is d (fed s more) (stays_not d s more not_due))
    by true false due is = ap (λ (t : State). is_going (narrowed d t)) (stays_ended s more is) ∙ ended
    by true true due is = absurd cc

-- ---- a front of the same bytes that is as long

front_of : (a b c e : List ℕ) → a ++ b ≡ c ++ e → length e ≤ length b → c ≡ a ++ drop (length a) c
front_of a b c e same few =
    let long : length a + length b ≡ length c + length e =
    sym (length-append a b) ∙ ap (λ (t : List ℕ). length t) same ∙ length-append c e in
    let front : take (length a) c ≡ a =
    sym (take-append-le (length a) c e (omega (arith, long, few))) ∙ ap (λ (t : List ℕ). take (length a) t) (sym same)
    ∙ take-append-le (length a) a b (omega arith) ∙ take_all (length a) a (omega arith) in
    sym (take-append-drop (length a) c) ∙ ap (λ (t : List ℕ). t ++ drop (length a) c) front

-- ---- of a connection that gives too much

differ : (b : Bool) → b ≡ true → b ≡ false → ⊥
differ true yes_is no_is = absurd cc
differ false yes_is no_is = absurd cc

ended_not : (d : Due) (p rest : List ℕ) (r n all : ℕ) (old new : Option Wire) → coming p old ≡ Some rest
    → in_all r old ≡ Some all → in_all r old ≡ in_all n new → n ≤ 4294967296
    → HasEnded d fresh p old new → IsUnended d rest all → ⊥
ended_not d p rest r n all None new told all_is same room has un = absurd cc
ended_not d p rest r n all (Some w) None told all_is same room has un = absurd cc
ended_not d p rest r n all (Some w) (Some v) told all_is same room has un =
    let left : w.left ≡ has.piece ++ v.left = ap left_in has.gave in
    let number : length v.left + n ≡ all = some_is (length v.left + n) all (sym same ∙ all_is) in
    let count = un.count in
    let few : length un.left ≤ length v.left = omega (arith, number, room, count) in
    let parts : (p ++ has.piece) ++ v.left ≡ un.came ++ un.left =
    append_assoc p has.piece v.left ∙ ap (λ (q : List ℕ). p ++ q) (sym left)
    ∙ some_is (p ++ w.left) rest told ∙ un.parts in
    let more = drop (length (p ++ has.piece)) un.came in
    let on : fed fresh un.came ≡ fed (fed fresh (p ++ has.piece)) more =
    ap (fed fresh) (front_of (p ++ has.piece) v.left un.came un.left parts few)
    ∙ fed_parts fresh (p ++ has.piece) more in
    differ (is_going (led d fresh un.came)) un.going
    (ap (λ (t : State). is_going (narrowed d t)) on ∙ ends_on d (fed fresh (p ++ has.piece)) more has.ended)

early_not : (d : Due) (p q rest : List ℕ) (r n all : ℕ) (old new : Option Wire) → in_all r old ≡ Some all
    → in_all r old ≡ in_all n new
    → EndsEarly n (coming q new) → IsUnended d rest all → ⊥
early_not d p q rest r n all old None all_is same early un = absurd (none (sym same ∙ all_is))
  where
    none : None ≡ Some all → ⊥
    none e = absurd cc
early_not d p q rest r n all old (Some v) all_is same early un =
    let number : length v.left + n ≡ all = some_is (length v.left + n) all (sym same ∙ all_is) in
    let over : length q + length v.left ≡ 0 = sym (length-append q v.left) ∙ ap (λ (t : List ℕ). length t) early.over in
    let few = early.few in
    let count = un.count in
    absurd (omega (arith, number, over, few, count))

pub not_unended : {A E : Type 0} (d : Due) (result : Result A E) (s : State) (p q rest : List ℕ) (r n all : ℕ)
    (old new : Option Wire) → s ≡ fresh
    → coming p old ≡ Some rest → in_all r old ≡ Some all → in_all r old ≡ in_all n new → n ≤ 4294967296
    → OnOk result (HasEnded d s p old new ⊎ EndsEarly n (coming q new)) → OnOk result (IsUnended d rest all → ⊥)
not_unended d (Ok x) s p q rest r n all old new is told all_is same room (inl has) =
    ended_not d p rest r n all old new told all_is same room (subst (λ (t : State). HasEnded d t p old new) is has)
not_unended d (Ok x) s p q rest r n all old new is told all_is same room (inr early) =
    early_not d p q rest r n all old new all_is same early
not_unended d (Err e) s p q rest r n all old new is told all_is same room in_time = tt

-- nothing came yet on a connection that was made
pub begun : (p hello poll : List ℕ) (r : ℕ) (told made : Option Wire) (w : Wire) → p ≡ [] → r ≡ 0 → told ≡ Some w
    → made ≡ after_sent (after_sent (after_dial told) hello) poll
    → (coming p made ≡ Some (first_of w.to_come)) × (in_all r made ≡ Some (length (first_of w.to_come)))
begun p hello poll r told made w no_bytes none is made_as =
    let made_is : made ≡ after_sent (after_sent (after_dial (Some w)) hello) poll =
    made_as ∙ ap (λ (t : Option Wire). after_sent (after_sent (after_dial t) hello) poll) is in
    let all : length (first_of w.to_come) + 0 ≡ length (first_of w.to_come) = omega arith in (
      ap (λ (q : List ℕ). coming q made) no_bytes ∙ ap (coming []) made_is,
      ap (λ (n : ℕ). in_all n made) none ∙ ap (in_all 0) made_is ∙ ap Some all,
    )
