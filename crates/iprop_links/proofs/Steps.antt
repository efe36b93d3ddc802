-- What bytes that are taken leave of those to come.
use Rattle.std.proofs.Common.{◌≡◌, ℕ, suc, ◌+◌, ◌≤◌, Bool, true, false, List, [], ◌∷◌, ◌++◌, length}
use Rattle.std.proofs.Common.{drop, Option, Some, None, refl, sym, ap, subst, ◌∙◌, append_assoc, arith}
use Rattle.std.specs.Prelude.{Result, Ok, option_map, if◌then◌else◌}
use Rattle.iprop_links.specs.Arriving.{Arrives, HasGiven, Holds, IsOver, Steps, coming, led}
use Rattle.iprop_links.specs.declared.halts.LinkHalt.{LinkHalt}
use Rattle.iprop_links.specs.declared.inbox.Arrival.{Arrival}
use Rattle.iprop_links.specs.declared.inbox.Arrival.TheVariants as arrival
use Rattle.iprop_wire.specs.Decoding.{State, Going, Waits, Broken, Spent, Takes, fed, handed_out}
use Rattle.iprop_wire.specs.Decoding.{is_going, is_sound, settled, taken, waiting_in}
use Rattle.iprop_wire.specs.Due.{is_due, is_due_message, narrowed}
use Rattle.iprop_wire.specs.declared.due.Due.{Due}
use Rattle.iprop_wire.specs.declared.messages.Message.{Message}
use Rattle.iprop_wire.proofs.Awaited.{stays_not}
use Rattle.kdb_ports.specs.Links.{Wire, before_received}

-- no more is taken than there is
pub taken_within : (s : State) (p : List ℕ) → taken s p ≤ length p
unfolding taken
taken_within s [] = omega arith
taken_within (Going b h) (x ∷ p) = let rest = taken_within (settled b (h ++ (x ∷ []))) p in omega arith
taken_within (Waits m) (x ∷ p) = omega arith
taken_within Broken (x ∷ p) = omega arith
taken_within Spent (x ∷ p) = omega arith

behind : (n x : ℕ) (p : List ℕ) → drop (1 + n) (x ∷ p) ≡ drop n p
behind n x p = ap (λ (k : ℕ). drop k (x ∷ p)) (one n)
  where
    one : (k : ℕ) → 1 + k ≡ suc k
    one k = omega arith

none_taken : (m : Message) (r : List ℕ) → drop (taken (Waits m) r) r ≡ r
unfolding taken
none_taken m [] = refl
none_taken m (x ∷ r) = refl

waits_on : (m : Message) (r : List ℕ) → fed (Waits m) r ≡ Waits m
unfolding fed
waits_on m [] = refl
waits_on m (x ∷ r) = refl

-- what is left of a piece leads on as the whole of it
pub leads_on : (s : State) (p r : List ℕ) → fed (fed s p) (drop (taken s p) p ++ r) ≡ fed s (p ++ r)
unfolding fed taken
leads_on s [] r = refl
leads_on (Going b h) (x ∷ p) r =
    let t = settled b (h ++ (x ∷ [])) in
    ap (λ (q : List ℕ). fed (fed t p) (q ++ r)) (behind (taken t p) x p) ∙ leads_on t p r
leads_on (Waits m) (x ∷ p) r = refl
leads_on Broken (x ∷ p) r = refl
leads_on Spent (x ∷ p) r = refl

pub left_on : (s : State) (p r : List ℕ)
    → drop (taken (fed s p) (drop (taken s p) p ++ r)) (drop (taken s p) p ++ r) ≡ drop (taken s (p ++ r)) (p ++ r)
unfolding fed taken
left_on s [] r = refl
left_on (Going b h) (x ∷ p) r =
    let t = settled b (h ++ (x ∷ [])) in
    ap (λ (q : List ℕ). drop (taken (fed t p) (q ++ r)) (q ++ r)) (behind (taken t p) x p) ∙ left_on t p r
    ∙ sym (behind (taken t (p ++ r)) x (p ++ r))
left_on (Waits m) (x ∷ p) r = refl
left_on Broken (x ∷ p) r = refl
left_on Spent (x ∷ p) r = refl

-- where more has to come, all was taken
pub all_taken : (s : State) (p : List ℕ) → is_going (fed s p) ≡ true → drop (taken s p) p ≡ []
unfolding fed taken
all_taken s [] going = refl
all_taken (Going b h) (x ∷ p) going = let t = settled b (h ++ (x ∷ [])) in behind (taken t p) x p ∙ all_taken t p going
all_taken (Waits m) (x ∷ p) going = absurd cc
all_taken Broken (x ∷ p) going = absurd cc
all_taken Spent (x ∷ p) going = absurd cc

-- ---- of what is told

pub refused_is : (d : Due) (s : State) → is_due d s ≡ false → narrowed d s ≡ Broken
refused_is d s not_due = ap (λ (b : Bool). if b then s else Broken) not_due

pub due_is : (d : Due) (s : State) → is_due d s ≡ true → narrowed d s ≡ s
due_is d s yes_due = ap (λ (b : Bool). if b then s else Broken) yes_due

-- what is not due of the bytes that wait is not due of all
pub bad_here : (d : Due) (s : State) (p : List ℕ) (told : Option Wire) (after : Option (List ℕ))
    → is_due d (fed s p) ≡ false → Arrives d arrival.Bad s (coming p told) after
bad_here d s p None after not_due = tt
bad_here d s p (Some w) after not_due =
    let rest = drop (taken s p) p ++ w.left in
    refused_is d (fed s (p ++ w.left)) (sym (ap (is_due d) (leads_on s p w.left)) ∙ stays_not d (fed s p) rest not_due)

pub broken_here : (d : Due) (s : State) (p : List ℕ) (told : Option Wire) (after : Option (List ℕ)) → fed s p ≡ Broken
    → Arrives d arrival.Bad s (coming p told) after
broken_here d s p told after e = bad_here d s p told after (ap (is_due d) e)

pub came_here : (d : Due) (s : State) (p : List ℕ) (told : Option Wire) (m : Message) → is_due_message d m ≡ true
    → fed s p ≡ Waits m
    → Arrives d (arrival.Came m) s (coming p told) (coming (drop (taken s p) p) told)
came_here d s p None m is e = tt
came_here d s p (Some w) m is e =
    let rest = drop (taken s p) p ++ w.left in (
      ap (narrowed d) (sym (leads_on s p w.left) ∙ ap (λ (t : State). fed t rest) e ∙ waits_on m rest)
          ∙ due_is d (Waits m) is,
      ap Some (sym (none_taken m rest) ∙ ap (λ (t : State). drop (taken t rest) rest) (sym e) ∙ left_on s p w.left),
    )

pub steps_here : (s : State) (p : List ℕ) (told : Option Wire)
    → Steps s (coming p told) (fed s p) (coming (drop (taken s p) p) told)
steps_here s p None = tt
steps_here s p (Some w) = record { leads = leads_on s p w.left; left = left_on s p w.left }

-- ---- one call

-- so many bytes that wait were taken
pub fits : (s : State) (p q : List ℕ) (n : ℕ) → p ≡ q → n ≡ taken s p → n ≤ length q
fits s p q n same is =
    subst (λ (xs : List ℕ). n ≤ length xs) same (subst (λ (k : ℕ). k ≤ length p) (sym is) (taken_within s p))

-- what the message that waits is answered as
abbrev pub answer_in : State → Result (Option Arrival) LinkHalt
answer_in t = Ok (option_map (λ m. arrival.Came m) (waiting_in t))

held_at : (d : Due) (s : State) (p : List ℕ) (t : State) → fed s p ≡ t → is_due d t ≡ true → (told : Option Wire)
    → Holds d (answer_in t) s (coming p told) (handed_out t) (coming (drop (taken s p) p) told)
held_at d s p (Going b h) e is told =
    subst (λ (u : State). Steps s (coming p told) u (coming (drop (taken s p) p) told)) e (steps_here s p told)
held_at d s p (Waits m) e is told = came_here d s p told m is e
held_at d s p Broken e is told =
    subst (λ (u : State). Steps s (coming p told) u (coming (drop (taken s p) p) told)) e (steps_here s p told)
held_at d s p Spent e is told =
    subst (λ (u : State). Steps s (coming p told) u (coming (drop (taken s p) p) told)) e (steps_here s p told)

pub held : (d : Due) (s : State) (p q left : List ℕ) (n : ℕ) (t u : State) (r : Result (Option Arrival) LinkHalt)
    → p ≡ q → Takes p s n t → is_due d t ≡ true → left ≡ drop n q → u ≡ handed_out t → r ≡ answer_in t
    → (told : Option Wire) → Holds d r s (coming q told) u (coming left told)
held d s p q left n t u r same takes is left_is u_is r_is told =
    let here = subst (λ (xs : List ℕ). Holds d (answer_in t) s (coming xs told) (handed_out t)
    (coming (drop (taken s xs) xs) told)) same (held_at d s p t (sym takes.leads) is told) in
    let count = takes.count_is ∙ ap (taken s) same in
    let there = subst (λ (xs : List ℕ). Holds d (answer_in t) s (coming q told) (handed_out t) (coming xs told))
    (sym (left_is ∙ ap (λ (k : ℕ). drop k q) count)) here in
    subst (λ (x : Result (Option Arrival) LinkHalt). Holds d x s (coming q told) u (coming left told)) (sym r_is)
    (subst (λ (v : State). Holds d (answer_in t) s (coming q told) v (coming left told)) (sym u_is) there)

none_at : (s : State) (p : List ℕ) (t : State) → fed s p ≡ t → is_sound t ≡ true → answer_in t ≡ Ok None
    → drop (taken s p) p ≡ []
none_at s p (Going b h) e sound none = all_taken s p (ap is_going e)
none_at s p (Waits m) e sound none = absurd cc
none_at s p Broken e sound none = absurd cc
none_at s p Spent e sound none = absurd cc

pub none_left : (s : State) (p q left : List ℕ) (n : ℕ) (t : State) (r : Result (Option Arrival) LinkHalt)
    → p ≡ q → Takes p s n t → left ≡ drop n q → r ≡ answer_in t → r ≡ Ok None → left ≡ []
none_left s p q left n t r same takes left_is r_is none =
    left_is ∙ ap (λ (xs : List ℕ). drop n xs) (sym same) ∙ ap (λ (k : ℕ). drop k p) takes.count_is
    ∙ none_at s p t (sym takes.leads) takes.sound (sym r_is ∙ none)

-- ---- what an answer is made of

pub broken_ends : (d : Due) (s : State) (p q : List ℕ) → p ≡ q → fed s p ≡ Broken → is_going (led d s q) ≡ false
broken_ends d s p q same broken =
    ap (λ (xs : List ℕ). is_going (led d s xs)) (sym same) ∙ ap (λ (t : State). is_going (narrowed d t)) broken

pub undue_ends : (d : Due) (s : State) (p q : List ℕ) (t : State) → p ≡ q → t ≡ fed s p → is_due d t ≡ false
    → is_going (led d s q) ≡ false
undue_ends d s p q t same leads not_due =
    ap (λ (xs : List ℕ). is_going (led d s xs)) (sym same) ∙ ap (λ (u : State). is_going (narrowed d u)) (sym leads)
    ∙ ap is_going (refused_is d t not_due)

waits_in : (t : State) (a : Arrival) → answer_in t ≡ Ok (Some a) → is_going t ≡ false
waits_in (Going b h) a is = absurd cc
waits_in (Waits m) a is = refl
waits_in Broken a is = refl
waits_in Spent a is = refl

pub came_ends : (d : Due) (s : State) (p q : List ℕ) (n : ℕ) (t : State)
    (r : Result (Option Arrival) LinkHalt) (a : Arrival)
    → p ≡ q → Takes p s n t → is_due d t ≡ true → r ≡ answer_in t → r ≡ Ok (Some a) → is_going (led d s q) ≡ false
came_ends d s p q n t r a same takes is r_is came =
    ap (λ (xs : List ℕ). is_going (led d s xs)) (sym same)
    ∙ ap (λ (u : State). is_going (narrowed d u)) (sym takes.leads)
    ∙ ap is_going (due_is d t is) ∙ waits_in t a (sym r_is ∙ came)

-- ---- a run of steps

pub step_none : (d : Due) (r : Result (Option Arrival) LinkHalt) (s t : State) (a b : Option (List ℕ)) → r ≡ Ok None
    → Holds d r s a t b → Steps s a t b
step_none d r s t a b is holds = subst (λ (x : Result (Option Arrival) LinkHalt). Holds d x s a t b) is holds

pub step_some : (d : Due) (r : Result (Option Arrival) LinkHalt) (x : Arrival) (s t : State) (a b : Option (List ℕ))
    → r ≡ Ok (Some x) → Holds d r s a t b → Arrives d x s a b
step_some d r x s t a b is holds = subst (λ (y : Result (Option Arrival) LinkHalt). Holds d y s a t b) is holds

pub steps_read : (s t u : State) (a b c : Option (List ℕ)) → Steps s a t b → u ≡ t → c ≡ b → Steps s a u c
steps_read s t u a b c one state same =
    subst (λ (v : State). Steps s a v c) (sym state) (subst (λ (x : Option (List ℕ)). Steps s a t x) (sym same) one)

pub given_none : (told : Option Wire) → HasGiven told told
given_none None = record { piece = []; gave = refl }
given_none (Some w) = record { piece = []; gave = refl }

pub gave_both : (p q : List ℕ) (told : Option Wire)
    → before_received p (before_received q told) ≡ before_received (p ++ q) told
gave_both p q None = refl
gave_both p q (Some w) = ap (λ (left : List ℕ). Some (record { sent = w.sent; left = left; to_come = w.to_come }))
    (sym (append_assoc p q w.left))

pub given_then : (a b c : Option Wire) → HasGiven a b → HasGiven b c → HasGiven a c
given_then a b c one two = record {
  piece = one.piece ++ two.piece;
  gave = one.gave ∙ ap (before_received one.piece) two.gave ∙ gave_both one.piece two.piece c;
}

pub steps_same : (s : State) (told : Option (List ℕ)) → Steps s told s told
steps_same s None = tt
steps_same s (Some bytes) = record { leads = refl; left = refl }

pub steps_then : (s t u : State) (a b c : Option (List ℕ)) → Steps s a t b → Steps t b u c → Steps s a u c
steps_then s t u None b c one two = tt
steps_then s t u (Some a) None c one two = absurd one
steps_then s t u (Some a) (Some b) None one two = absurd two
steps_then s t u (Some a) (Some b) (Some c) one two =
    record { leads = two.leads ∙ one.leads; left = two.left ∙ one.left }

pub arrives_then : (d : Due) (x : Arrival) (s t : State) (a b c : Option (List ℕ)) → Steps s a t b → Arrives d x t b c
    → Arrives d x s a c
arrives_then d x s t None b c one is = tt
arrives_then d x s t (Some a) None c one is = absurd one
arrives_then d (arrival.Came m) s t (Some a) (Some b) c one is =
    (ap (narrowed d) (sym one.leads) ∙ is.0, is.1 ∙ ap Some one.left)
arrives_then d arrival.Cut s t (Some a) (Some b) c one is =
    ap (λ (u : State). is_going (narrowed d u)) (sym one.leads) ∙ is
arrives_then d arrival.Bad s t (Some a) (Some b) c one is = ap (narrowed d) (sym one.leads) ∙ is

pub cut_then : (d : Due) (s t : State) (a b c : Option (List ℕ)) → Steps s a t b → is_going (narrowed d t) ≡ true
    → IsOver b → Arrives d arrival.Cut s a c
unfolding fed
cut_then d s t None b c one going over = tt
cut_then d s t (Some a) None c one going over = absurd one
cut_then d s t (Some a) (Some b) c one going over =
    ap (λ (u : State). is_going (narrowed d u)) (sym one.leads ∙ ap (λ (q : List ℕ). fed t q) over) ∙ going
