-- Where the fault of a name's word lies.
use Rattle.std.proofs.Common.{◌≡◌, ℕ, ◌+◌, ◌-◌, ◌≤◌, Bool, true, false, ◌==◌, ◌||◌, ◌&&◌, Option}
use Rattle.std.proofs.Common.{Some, None, List, [], ◌∷◌, length, unwrap_or, if◌then◌else◌, inl}
use Rattle.std.proofs.Common.{inr, refl, sym, subst, ap, Result, Ok, Err, arith, length-append}
use Rattle.princ_name.specs.Answers.{AnswersReading, IsRefusedAt}
use Rattle.princ_name.specs.Bytes.{is_refused}
use Rattle.princ_name.specs.Faults.{fault_from, first_fault, fault_place}
use Rattle.princ_name.specs.Names.{NameParts}
use Rattle.princ_name.specs.declared.faults.NameFault.{NameFault}
use Rattle.princ_name.specs.declared.faults.NameFault.TheVariants.{BadName}

-- some number, which is a fixed one or that of a part
pick : (p q r s : Bool) (one two three : Option ℕ) (at bound k : ℕ) → at ≤ bound → (one ≡ Some k → k ≤ bound)
    → (two ≡ Some k → k ≤ bound) → (three ≡ Some k → k ≤ bound)
    → (if p then Some at else (if q then one else (if r then two else (if s then Some at else three)))) ≡ Some k
    → k ≤ bound
pick true q r s one two three at bound k fits a b c e = let same : at ≡ k = cc in omega arith
pick false true r s one two three at bound k fits a b c e = a e
pick false false true s one two three at bound k fits a b c e = b e
pick false false false true one two three at bound k fits a b c e = let same : at ≡ k = cc in omega arith
pick false false false false one two three at bound k fits a b c e = c e

fault_within : (word : List ℕ) (at : ℕ) (slash realm : Bool) (k : ℕ) → fault_from at slash realm word ≡ Some k
    → k ≤ at + length word
unfolding fault_from
fault_within [] at true realm k e = let same : at - 1 ≡ k = cc in omega arith
fault_within [] at false realm k e = cc
fault_within (b ∷ word) at slash realm k e =
    pick (is_refused b) slash (b == 92) ((b == 47 || b == 64) && realm) (fault_from (at + 1) false realm word)
    (fault_from (at + 1) true realm word)
    (fault_from (at + 1) false (b == 64 || realm) word) at (at + length (b ∷ word)) k (omega arith)
    (λ f. (let h = fault_within word (at + 1) false realm k f in omega arith))
    (λ f. (let h = fault_within word (at + 1) true realm k f in omega arith))
    (λ f. (let h = fault_within word (at + 1) false (b == 64 || realm) k f in omega arith)) e

place_of : (fault : Option ℕ) (bound : ℕ) → ((k : ℕ) → fault ≡ Some k → k ≤ bound) → unwrap_or fault bound ≤ bound
place_of None bound h = omega arith
place_of (Some k) bound h = h k refl

pub place_within : (word : List ℕ) → fault_place word ≤ length word
unfolding fault_place first_fault
place_within word = place_of (fault_from 0 false false word) (length word)
    (λ k e. (let h = fault_within word 0 false false k e in omega arith))

pub refused_within : (word realm : List ℕ) (offset : ℕ) → IsRefusedAt word realm offset → offset ≤ length word
refused_within word realm offset (inl none) = let h = place_within word in let e = none.1 in omega arith
refused_within word realm offset (inr other) =
    let e = other.place in
    let whole = other.spelled.whole in
    omega (arith, ap length whole, length-append other.spelled.front (64 ∷ other.spelled.back))

-- ---- what is read of a word

pub name_given : (reading : Result NameParts ℕ) (name : NameParts) → AnswersReading reading (Ok name)
    → Ok name ≡ reading
unfolding AnswersReading
name_given reading name h = sym h

pub fault_given : (reading : Result NameParts ℕ) (fault : NameFault) (offset : ℕ) → fault ≡ BadName offset
    → AnswersReading reading (Err fault) → Err offset ≡ reading
unfolding AnswersReading
fault_given reading fault offset is h =
    let P : NameFault → Type 0 = λ f. AnswersReading reading (Err f) in
    sym (subst P is h)
