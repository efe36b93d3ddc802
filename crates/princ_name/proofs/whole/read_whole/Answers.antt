-- The word's one shape, by the limits of names.
use Rattle.std.proofs.Common.{◌≡◌, ◌≢◌, ℕ, true, Some, None, List, [], length, map, Err, sym, ap, subst, ◌∙◌, refl}
use Rattle.std.specs.List.{list_all}
use Rattle.princ_name.specs.Bytes.{can_stand}
use Rattle.princ_name.specs.Faults.{first_fault, fault_place}
use Rattle.princ_name.specs.Names.{IsName}
use Rattle.princ_name.specs.Spelling.{SpellsPart, SpellsWord}
use Rattle.princ_name.specs.Whole.{AnswersParts, given_part, name_of}
use Rattle.princ_name.specs.declared.parts.Part.{Part}
use Rattle.princ_name.specs.declared.faults.NameFault.{NameFault}
use Rattle.princ_name.specs.declared.faults.NameFault.TheVariants.{BadName, MemoryOut}
use Rattle.princ_name.proofs.Shapes.{shape_stands, at_word, same_shape, word_read}
use Rattle.princ_name.proofs.whole.read_whole.Goals as goal

-- a fault of a byte is none of a spelled word
fault_only : (word : List ℕ) (given realm : Part) (parts : List Part) (fault : NameFault)
    → ((offset : ℕ) → fault ≡ BadName offset → first_fault word ≡ Some offset)
    → SpellsWord SpellsPart word given parts realm → AnswersParts parts realm (Err fault)
unfolding AnswersParts
fault_only word given realm parts MemoryOut found h = tt
fault_only word given realm parts (BadName offset) found h =
    let none = (word_read word given realm parts h).faultless in
    let some = found offset refl in
    cc

place_told : (word : List ℕ) (offset : ℕ) → first_fault word ≡ Some offset → offset ≡ fault_place word
unfolding fault_place
place_told word offset some = rw some refl

place_end : (word : List ℕ) (offset : ℕ) → first_fault word ≡ None → length word ≡ offset → offset ≡ fault_place word
unfolding fault_place
place_end word offset none same = rw none (sym same)

pub returns-in-Err-clause-only : goal.returns-in-Err-clause-only
returns-in-Err-clause-only c = λ parts realm h _. fault_only c.args.word.now
    (given_part c.args.given.now) realm parts c.in-Err.fault (λ offset is. c.in-Err.ensures.fault offset (ap Err is)) h

pub returns-in-Err-clause-place : goal.returns-in-Err-clause-place
returns-in-Err-clause-place c = λ offset is.
    let fault : c.in-Err.fault ≡ BadName offset = cc in
    place_told c.args.word.now offset (c.in-Err.ensures.fault offset (ap Err fault))

pub returns-in-Err-with_realm-clause-only : goal.returns-in-Err-with_realm-clause-only
unfolding AnswersParts
returns-in-Err-with_realm-clause-only c = λ parts realm h _. tt

pub printed_len-requires-clause-some : goal.printed_len-requires-clause-some
printed_len-requires-clause-some c =
    let shape = c.in-Ok-with_realm.ensures c.args.word.now c.in-Ok.ensures.said in
    subst (λ (ps : List Part). ps ≢ []) (sym c.deref.ensures.value)
    (shape_stands c.args.word.now c.args.given.now _ _ _ shape).0

pub printed_len-requires-clause-bytes : goal.printed_len-requires-clause-bytes
printed_len-requires-clause-bytes c =
    let shape = c.in-Ok-with_realm.ensures c.args.word.now c.in-Ok.ensures.said in
    subst (λ (ps : List Part). list_all (list_all can_stand) (map (λ p. p.text) ps) ≡ true) (sym c.deref.ensures.value)
    (shape_stands c.args.word.now c.args.given.now _ _ _ shape).1

pub returns-in-Some-clause-only : goal.returns-in-Some-clause-only
unfolding AnswersParts
returns-in-Some-clause-only c = λ parts realm h _.
    let shape = c.in-Ok-with_realm.ensures c.args.word.now c.in-Ok.ensures.said in
    same_shape c.args.word.now (given_part c.args.given.now) _ realm _ parts
    (at_word c.args.word.now c.args.given.now _ _ _ shape) h

pub returns-in-None-clause-only : goal.returns-in-None-clause-only
unfolding AnswersParts
returns-in-None-clause-only c = λ parts realm h name.
    let shape = c.in-Ok-with_realm.ensures c.args.word.now c.in-Ok.ensures.said in
    let same = same_shape c.args.word.now (given_part c.args.given.now) _ realm _ parts
    (at_word c.args.word.now c.args.given.now _ _ _ shape) h in
    c.in-None.ensures.none refl (subst (λ (ps : List Part). IsName (name_of ps c.in-Ok-with_realm.shape.realm))
    (sym same.0 ∙ sym c.deref.ensures.value)
    (subst (λ (r : Part). IsName (name_of parts r)) (sym same.1) name))

pub returns-in-None-clause-place : goal.returns-in-None-clause-place
returns-in-None-clause-place c = λ offset is.
    let same : length c.args.word.now ≡ offset = cc in
    place_end c.args.word.now offset c.in-Ok.ensures.said.faultless same
