-- Where digits end, and what groups may stand where.
use Rattle.std.proofs.Common.{◌≡◌, ℕ, suc, ◌+◌, ◌*◌, ◌^◌, ◌<◌, ◌≤◌, Bool, true, false, cond, not, nat_eq}
use Rattle.std.proofs.Common.{List, [], ◌∷◌, ◌++◌, length, take, drop, get_or, ◌-◌, Option, Some, None}
use Rattle.std.proofs.Common.{IfSome, inl, inr, refl, sym, ap, subst, ◌∙◌, arith, length-append}
use Rattle.std.specs.List.{list_all, prefix_len}
use Rattle.std.proofs.lemmas.Bool.{and_parts}
use Rattle.std.proofs.lemmas.List.Folds.{list_all-append}
use Rattle.std.proofs.lemmas.Bool.Decides.{nat_tests}
use Rattle.kadm_values.specs.declared.durations.Unit.{Unit}
use Rattle.kadm_values.specs.Numbers.{is_digit, decimal_value, IsDigits, SpellsSeconds}
use Rattle.kadm_values.specs.Durations.{IsUnit, IsUnits, SpellsGroups, SpellsDuration, units}

all_cons : {A : Type 0} (p : A → Bool) (x : A) (xs : List A) → list_all p (x ∷ xs) ≡ true
    → (p x ≡ true) × (list_all p xs ≡ true)
all_cons p x xs all = and_parts (p x) (list_all p xs) all

-- what passes is as long as the first that does not pass lies far
pub prefix_is : (p : ℕ → Bool) (xs : List ℕ) (y : ℕ) (ys : List ℕ) → list_all p xs ≡ true → p y ≡ false
    → prefix_len p (xs ++ y ∷ ys) ≡ length xs
prefix_is p [] y ys all fails = rw fails
prefix_is p (x ∷ xs) y ys all fails =
    let parts = all_cons p x xs all in
    rw (parts.0, prefix_is p xs y ys parts.1 fails) (omega arith)

step_prefix : (p : ℕ → Bool) (x : ℕ) (xs : List ℕ) (n : ℕ) (b : Bool) → p x ≡ b → list_all p (take n xs) ≡ true
    → list_all p (take (cond b (1 + n) 0) (x ∷ xs)) ≡ true
step_prefix p x xs n true e all = let one : 1 + n ≡ suc n = omega arith in rw (one, e) all
step_prefix p x xs n false e all = refl

pub all_prefix : (p : ℕ → Bool) (xs : List ℕ) → list_all p (take (prefix_len p xs) xs) ≡ true
all_prefix p [] = refl
all_prefix p (x ∷ xs) = step_prefix p x xs (prefix_len p xs) (p x) refl (all_prefix p xs)

pub record SameSplit (number number' : List ℕ) (letter letter' : ℕ) (behind behind' : List ℕ) : Type 0 where
  pub number_is : number ≡ number'
  pub letter_is : letter ≡ letter'
  pub behind_is : behind ≡ behind'

-- a text is split in one way only
pub split_same : (p : ℕ → Bool) (xs xs' : List ℕ) (y y' : ℕ) (ys ys' : List ℕ) → list_all p xs ≡ true
    → list_all p xs' ≡ true → p y ≡ false → p y' ≡ false
    → xs ++ y ∷ ys ≡ xs' ++ y' ∷ ys' → SameSplit xs xs' y y' ys ys'
split_same p [] [] y y' ys ys' all all' fails fails' e = record { number_is = refl; letter_is = cc; behind_is = cc }
split_same p [] (x' ∷ xs') y y' ys ys' all all' fails fails' e =
    let parts = all_cons p x' xs' all' in let same : y ≡ x' = cc in cc
split_same p (x ∷ xs) [] y y' ys ys' all all' fails fails' e =
    let parts = all_cons p x xs all in let same : x ≡ y' = cc in cc
split_same p (x ∷ xs) (x' ∷ xs') y y' ys ys' all all' fails fails' e =
    let parts = all_cons p x xs all in
    let parts' = all_cons p x' xs' all' in
    let rest = split_same p xs xs' y y' ys ys' parts.1 parts'.1 fails fails' cc in
    let number = rest.number_is in
    record { number_is = cc; letter_is = rest.letter_is; behind_is = rest.behind_is }

-- groups of units do not begin with a group of another one
pub not_of_others : (others : List Unit) (number : List ℕ) (letter : ℕ) (behind text : List ℕ) (secs : ℕ)
    → IsDigits number → is_digit letter ≡ false
    → text ≡ number ++ letter ∷ behind → IsUnits others
    → list_all (λ other. not (nat_eq other.letter letter)) others ≡ true → SpellsGroups others text secs → ⊥
unfolding SpellsGroups IsUnits
not_of_others [] number letter behind text secs digits fails e are once end =
    omega (arith, ap length (sym end.0 ∙ e), length-append number (letter ∷ behind))
not_of_others (unit ∷ others) number letter behind text secs digits fails e are once (inl rest) =
    not_of_others others number letter behind text secs digits fails e are.1
    (all_cons (λ other. not (nat_eq other.letter letter)) unit others once).1 rest
not_of_others (unit ∷ others) number letter behind text secs digits fails e are once (inr led) =
    let same = split_same is_digit led.number number unit.letter letter led.behind behind led.digits.digits
    digits.digits are.0.letter fails (sym led.text_is ∙ e) in
    let letters = same.letter_is in
    let differ = (all_cons (λ other. not (nat_eq other.letter letter)) unit others once).0 in
    grind (arith, nat_tests)

-- what is left behind the first group, and its seconds
pub record Behind (unit : Unit) (others : List Unit) (number behind : List ℕ) (secs : ℕ) : Type 0 where
  pub more : ℕ
  pub rest : SpellsGroups others behind more
  pub secs_is : secs ≡ decimal_value number * unit.seconds + more

pub behind_first : (unit : Unit) (others : List Unit) (number behind text : List ℕ) (secs : ℕ) → IsUnits (unit ∷ others)
    → IsDigits number
    → text ≡ number ++ unit.letter ∷ behind → SpellsGroups (unit ∷ others) text secs
    → Behind unit others number behind secs
unfolding SpellsGroups IsUnits
behind_first unit others number behind text secs are digits e (inl rest) =
    absurd (not_of_others others number unit.letter behind text secs digits are.0.letter e are.1 are.0.once rest)
behind_first unit others number behind text secs are digits e (inr led) =
    let same = split_same is_digit led.number number unit.letter unit.letter led.behind behind led.digits.digits
    digits.digits are.0.letter are.0.letter (sym led.text_is ∙ e) in
    let P : List ℕ → Type 0 = λ text. SpellsGroups others text led.more in
    record {
      more = led.more;
      rest = subst P same.behind_is led.rest;
      secs_is = led.secs_is ∙ ap (λ n. decimal_value n * unit.seconds + led.more) same.number_is;
    }

pub none_first : (unit : Unit) (others : List Unit) (text : List ℕ) (secs : ℕ)
    → ((number behind : List ℕ) → IsDigits number → text ≡ number ++ unit.letter ∷ behind → 0 ≡ length number)
    → SpellsGroups (unit ∷ others) text secs → SpellsGroups others text secs
unfolding SpellsGroups
none_first unit others text secs none (inl rest) = rest
none_first unit others text secs none (inr led) =
    absurd (let n = none led.number led.behind led.digits led.text_is in let s = led.digits.some in omega arith)

pub are_units : IsUnits units
unfolding IsUnits units
are_units = (
  record { letter = refl; once = refl; some = omega arith; few = omega arith },
  (
    record { letter = refl; once = refl; some = omega arith; few = omega arith },
    (
      record { letter = refl; once = refl; some = omega arith; few = omega arith },
      (record { letter = refl; once = refl; some = omega arith; few = omega arith }, tt),
    ),
  ),
)

-- where the digits end, the letter stands
letter_at : (xs : List ℕ) (y : ℕ) (ys : List ℕ) → get_or (xs ++ y ∷ ys) (length xs) 0 ≡ y
letter_at [] y ys = refl
letter_at (x ∷ xs) y ys = letter_at xs y ys

pub record EndsAt (text number : List ℕ) (letter count : ℕ) : Type 0 where
  pub count_is : count ≡ length number
  pub within : count < length text
  pub letter_is : get_or text count 0 ≡ letter

pub ends_at : (text number : List ℕ) (letter : ℕ) (behind : List ℕ) (count : ℕ) → count ≡ prefix_len is_digit text
    → is_digit letter ≡ false → IsDigits number
    → text ≡ number ++ letter ∷ behind → EndsAt text number letter count
ends_at text number letter behind count counted fails digits e =
    let at : count ≡ length number =
    counted ∙ ap (λ t. prefix_len is_digit t) e ∙ prefix_is is_digit number letter behind digits.digits fails in
    record {
      count_is = at;
      within = omega (arith, ap length e, length-append number (letter ∷ behind));
      letter_is = rw (e, at) (letter_at number letter behind);
    }

-- a group has a letter
pub not_digits : (others : List Unit) (text : List ℕ) (secs : ℕ) → IsUnits others → SpellsGroups others text secs
    → 1 ≤ length text → list_all is_digit text ≡ true → ⊥
unfolding SpellsGroups IsUnits
not_digits [] text secs are end some digits = omega (arith, ap length end.0)
not_digits (unit ∷ others) text secs are (inl rest) some digits = not_digits others text secs are.1 rest some digits
not_digits (unit ∷ others) text secs are (inr led) some digits =
    let all = rw (led.text_is, list_all-append is_digit led.number (unit.letter ∷ led.behind)) at digits in
    let behind = and_parts (list_all is_digit led.number) (list_all is_digit (unit.letter ∷ led.behind)) all in
    let letter = (all_cons is_digit unit.letter led.behind behind.1).0 in
    let fails = are.0.letter in
    cc

take_length : (us : List Unit) → take (length us) us ≡ us
take_length [] = refl
take_length (unit ∷ us) = ap (λ rest. unit ∷ rest) (take_length us)

-- a list of units that is not empty, as its first one and the others
pub units_split : (all : List Unit) (other : Unit) → 1 ≤ length all
    → all ≡ get_or all 0 other ∷ take (length all - 1) (drop 1 all)
units_split [] other some = absurd (omega arith)
units_split (unit ∷ others) other some =
    let count : length (unit ∷ others) - 1 ≡ length others = omega arith in
    rw count (ap (λ us. unit ∷ us) (sym (take_length others)))

pub no_units : (all : List Unit) → length all < 1 → all ≡ []
no_units [] none = refl
no_units (unit ∷ others) none = absurd (omega arith)

pub first_unit : (all : List Unit) (unit : Unit) (others : List Unit) → all ≡ unit ∷ others → IsUnits all
    → IsUnit unit others × IsUnits others
unfolding IsUnits
first_unit all unit others e are = rw e at are

pub groups_of : (all : List Unit) (unit : Unit) (others : List Unit) (text : List ℕ) (secs : ℕ) → all ≡ unit ∷ others
    → SpellsGroups all text secs → SpellsGroups (unit ∷ others) text secs
groups_of all unit others text secs e groups = let P : List Unit → Type 0 =
    λ us. SpellsGroups us text secs in subst P e groups

pub skip_spelled : (r : Option ℕ) (all : List Unit) (unit : Unit) (others : List Unit) (text : List ℕ)
    → all ≡ unit ∷ others
    → IfSome r (λ secs. SpellsGroups others text secs) → IfSome r (λ secs. SpellsGroups all text secs)
unfolding SpellsGroups
skip_spelled None all unit others text e h = h
skip_spelled (Some secs) all unit others text e h = let P : List Unit → Type 0 =
    λ us. SpellsGroups us text secs in subst P (sym e) (inl h)

pub led_spelled : (r : Option ℕ) (all : List Unit) (unit : Unit) (others : List Unit) (text number behind : List ℕ)
    (more : ℕ) → all ≡ unit ∷ others
    → text ≡ number ++ unit.letter ∷ behind → IsDigits number → SpellsGroups others behind more
    → IfSome r (λ secs. secs ≡ decimal_value number * unit.seconds + more)
    → IfSome r (λ secs. SpellsGroups all text secs)
unfolding SpellsGroups
led_spelled None all unit others text number behind more e split digits rest h = h
led_spelled (Some secs) all unit others text number behind more e split digits rest h =
    let P : List Unit → Type 0 = λ us. SpellsGroups us text secs in
    subst P (sym e) (inr (record {
      number = number;
      behind = behind;
      more = more;
      digits = digits;
      text_is = split;
      rest = rest;
      secs_is = h;
    }))

pub end_spelled : (r : Option ℕ) (all : List Unit) (text : List ℕ) → all ≡ []
    → IfSome r (λ secs. (text ≡ []) × (secs ≡ 0)) → IfSome r (λ secs. SpellsGroups all text secs)
unfolding SpellsGroups
end_spelled None all text e h = h
end_spelled (Some secs) all text e h = let P : List Unit → Type 0 = λ us. SpellsGroups us text secs in subst P (sym e) h

pub end_only : (all : List Unit) (text : List ℕ) (secs : ℕ) → all ≡ [] → SpellsGroups all text secs
    → (text ≡ []) × (secs ≡ 0)
unfolding SpellsGroups
end_only all text secs e groups = rw e at groups

pub groups_at : (all : List Unit) (text text' : List ℕ) (secs : ℕ) → text ≡ text' → SpellsGroups all text' secs
    → SpellsGroups all text secs
groups_at all text text' secs e groups = let P : List ℕ → Type 0 =
    λ t. SpellsGroups all t secs in subst P (sym e) groups

pub number_then_duration : (r : Option ℕ) (text : List ℕ) → IfSome r (λ secs. SpellsSeconds text secs)
    → IfSome r (λ secs. SpellsDuration text secs)
unfolding SpellsDuration
number_then_duration None text h = h
number_then_duration (Some secs) text h = inl h

some_byte : (text : List ℕ) → list_all is_digit text ≡ false → 1 ≤ length text
some_byte [] fails = cc
some_byte (byte ∷ text) fails = omega arith

pub sum_then_duration : (r : Option ℕ) (all : List Unit) (text : List ℕ) → all ≡ units → list_all is_digit text ≡ false
    → IfSome r (λ secs. SpellsGroups all text secs)
    → IfSome r (λ secs. secs < 2 ^ 32) → IfSome r (λ secs. SpellsDuration text secs)
unfolding SpellsDuration
sum_then_duration None all text e fails h fits = h
sum_then_duration (Some secs) all text e fails h fits =
    let P : List Unit → Type 0 = λ us. SpellsGroups us text secs in
    inr (record { some = some_byte text fails; groups = subst P e h; fits = fits })

pub digits_are_number : (text : List ℕ) (secs : ℕ) → list_all is_digit text ≡ true → SpellsDuration text secs
    → SpellsSeconds text secs
unfolding SpellsDuration
digits_are_number text secs all (inl number) = number
digits_are_number text secs all (inr sum) = absurd (not_digits units text secs are_units sum.groups sum.some all)

pub else_sum : (all : List Unit) (text : List ℕ) (secs : ℕ) → all ≡ units → list_all is_digit text ≡ false
    → SpellsDuration text secs → SpellsGroups all text secs × (secs < 2 ^ 32)
unfolding SpellsDuration
else_sum all text secs e fails (inl number) = let digits = number.number.digits.digits in cc
else_sum all text secs e fails (inr sum) =
    let P : List Unit → Type 0 = λ us. SpellsGroups us text secs in
    (subst P (sym e) sum.groups, sum.fits)
