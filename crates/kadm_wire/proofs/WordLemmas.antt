-- Where the fault of a name's word lies, and words of a line by their places.
use Rattle.std.proofs.Common.{◌≡◌, ℕ, zero, suc, ◌+◌, ◌-◌, ◌<◌, ◌≤◌, nat_le, get_or, take, option_map, sym, subst}
use Rattle.std.proofs.Common.{Result, Ok, Err, Bool, true, false, ◌==◌, ◌||◌, ◌&&◌, Option, Some, None, List, []}
use Rattle.std.proofs.Common.{◌∷◌, length, unwrap_or, if◌then◌else◌, inl, inr, refl, ap, arith, length-append}
use Rattle.std.specs.Option.{option_and_then}
use Rattle.std.proofs.lemmas.Bool.{and_parts, leb-true}
use Rattle.kadm_options.specs.OptionValues.{number_within}
use Rattle.kadm_options.specs.Options.{is_dashes}
use Rattle.kadm_options.proofs.OptionValueLemmas.{number_spelled}
use Rattle.kadm_words.specs.Split.{IsSplit}
use Rattle.kadm_words.specs.Words.{AreWithin}
use Rattle.kadm_words.proofs.ShortWords.{words_short}
use Rattle.kadm_wire.specs.LineReadings.{are_short}
use Rattle.kadm_wire.specs.Shapes.{others_in}
use Rattle.princ_name.specs.Answers.{AnswersReading, IsRefusedAt}
use Rattle.princ_name.specs.Names.{NameParts}
use Rattle.princ_name.specs.declared.faults.NameFault.{NameFault}
use Rattle.princ_name.specs.declared.faults.NameFault.TheVariants.{BadName}
use Rattle.princ_name.specs.Bytes.{is_refused}
use Rattle.princ_name.specs.Faults.{fault_from, first_fault, fault_place}

-- some number, which is a fixed one or that of a part
pick : (p q r s : Bool) (one two three : Option ℕ) (at bound k : ℕ) → at ≤ bound → (one ≡ Some k → k ≤ bound)
    → (two ≡ Some k → k ≤ bound) → (three ≡ Some k → k ≤ bound)
    → (if p then Some at else (if q then one else (if r then two else (if s then Some at else three)))) ≡ Some k
    → k ≤ bound
pick true q r s one two three at bound k fits a b c e = let same : at ≡ k = cc in omega arith
pick false true r s one two three at bound k fits a b c e = a e
pick false false true s one two three at bound k fits a b c e = b e
pick false false false true one two three at bound k fits a b c e = let same : at ≡ k = cc in omega arith
pick false false false false one two three at bound k fits a b c e = c e

fault_within : (word : List ℕ) (at : ℕ) (slash realm : Bool) (k : ℕ) → fault_from at slash realm word ≡ Some k
    → k ≤ at + length word
unfolding fault_from
fault_within [] at true realm k e = let same : at - 1 ≡ k = cc in omega arith
fault_within [] at false realm k e = cc
fault_within (b ∷ word) at slash realm k e =
    pick (is_refused b) slash (b == 92) ((b == 47 || b == 64) && realm) (fault_from (at + 1) false realm word)
    (fault_from (at + 1) true realm word)
    (fault_from (at + 1) false (b == 64 || realm) word) at (at + length (b ∷ word)) k (omega arith)
    (λ f. (let h = fault_within word (at + 1) false realm k f in omega arith))
    (λ f. (let h = fault_within word (at + 1) true realm k f in omega arith))
    (λ f. (let h = fault_within word (at + 1) false (b == 64 || realm) k f in omega arith)) e

place_of : (fault : Option ℕ) (bound : ℕ) → ((k : ℕ) → fault ≡ Some k → k ≤ bound) → unwrap_or fault bound ≤ bound
place_of None bound h = omega arith
place_of (Some k) bound h = h k refl

place_within : (word : List ℕ) → fault_place word ≤ length word
unfolding fault_place first_fault
place_within word = place_of (fault_from 0 false false word) (length word)
    (λ k e. (let h = fault_within word 0 false false k e in omega arith))

pub refused_within : (word realm : List ℕ) (offset : ℕ) → IsRefusedAt word realm offset → offset ≤ length word
refused_within word realm offset (inl none) = let h = place_within word in let e = none.1 in omega arith
refused_within word realm offset (inr other) =
    let e = other.place in
    let whole = other.spelled.whole in
    omega (arith, ap length whole, length-append other.spelled.front (64 ∷ other.spelled.back))

-- ---- what is read of a word

pub name_given : (reading : Result NameParts ℕ) (name : NameParts) → AnswersReading reading (Ok name)
    → Ok name ≡ reading
unfolding AnswersReading
name_given reading name h = sym h

pub fault_given : (reading : Result NameParts ℕ) (fault : NameFault) (offset : ℕ) → fault ≡ BadName offset
    → AnswersReading reading (Err fault) → Err offset ≡ reading
unfolding AnswersReading
fault_given reading fault offset is h =
    let P : NameFault → Type 0 = λ f. AnswersReading reading (Err f) in
    sym (subst P is h)

-- ---- words

pub within_at : (most : ℕ) (words : List (List ℕ)) (i : ℕ) (word : List ℕ) → AreWithin most words → i < length words
    → word ≡ get_or words i word → length word ≤ most
unfolding AreWithin
within_at most [] i word short lt is = absurd (omega arith)
within_at most (first ∷ words) zero word short lt is = rw is short.0
within_at most (first ∷ words) (suc i) word short lt is = within_at most words i word short.1 (omega arith) is

pick_short : (most : ℕ) (word : List ℕ) (words : List (List ℕ)) (dashes : Bool)
    → (length word ≤ most) × AreWithin most words
    → AreWithin most (if dashes then words else word ∷ words)
unfolding AreWithin
pick_short most word words true short = short.1
pick_short most word words false short = short

pub short_tail : (most : ℕ) (word : List ℕ) (behind words : List (List ℕ)) → words ≡ word ∷ behind
    → AreWithin most words → AreWithin most behind
unfolding AreWithin
short_tail most word behind words is short = (rw is at short).1

pub short_take : (most k : ℕ) (words : List (List ℕ)) → AreWithin most words → AreWithin most (take k words)
unfolding AreWithin
short_take most zero words short = tt
short_take most (suc k) [] short = tt
short_take most (suc k) (word ∷ words) short = (short.0, short_take most k words short.1)

pub words_of_line : {V : Type 0} (items : V → List (List ℕ)) (line : List ℕ) (r : Option V) (words : V) → r ≡ Some words
    → IsSplit line (option_map items r)
    → length line ≤ 65536 → AreWithin 65536 (items words)
words_of_line {V} items line r words is split short =
    let P : Option V → Type 0 = λ x. IsSplit line (option_map items x) in
    words_short 65536 (items words) line (subst P is split) short

-- the words behind the options are short where all are
pub others_short : (most : ℕ) (words : List (List ℕ)) → AreWithin most words → AreWithin most (others_in words)
unfolding others_in AreWithin
others_short most [] short = tt
others_short most (word ∷ words) short = pick_short most word words (is_dashes word) short

-- ---- numbers of options

pub given_within : (least most : ℕ) (r : Option (List ℕ)) (number : ℕ)
    → Some number ≡ option_and_then (number_within least most) r → (least ≤ number) × (number ≤ most)
given_within least most None number e = cc
given_within least most (Some word) number e = let s = number_spelled least most word number (sym e) in (s.from, s.to)

-- words of which none is longer than a line may be
pub short_words : (words : List (List ℕ)) → are_short words ≡ true → AreWithin 65536 words
unfolding are_short AreWithin
short_words [] e = tt
short_words (word ∷ words) e = let both = and_parts (nat_le (length word) 65536) (are_short words) e in
    (leb-true (length word) 65536 both.0, short_words words both.1)
