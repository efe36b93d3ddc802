-- The loop begins at the word, and a fault of a byte is the word's.
use Rattle.std.proofs.Common.{◌≡◌, ◌+◌, true, [], ◌∷◌, Err, refl, sym, ap, ◌∙◌, drop}
use Rattle.std.proofs.lemmas.List.{drop_more}
use Rattle.princ_name.specs.Reading.{Said, texts_with, said_texts}
use Rattle.princ_name.specs.Faults.{first_fault}
use Rattle.princ_name.specs.Steps.{fault_of}
use Rattle.princ_name.specs.declared.parts.Part.{Part}
use Rattle.princ_name.specs.declared.faults.NameFault.TheVariants.{BadName}
use Rattle.princ_name.proofs.Takes.{joined-none}
use Rattle.princ_name.proofs.reading.read_word.Goals as goal

texts-none : (said : Said) → texts_with [] [] true said ≡ said_texts said
unfolding texts_with
texts-none said = ap (λ (p : Part). p ∷ said.others) (joined-none said.first)

pub loop-at-init : goal.loop-at-init
unfolding first_fault
loop-at-init c =
    let texts = c.new-reading.ensures.texts in
    let text = c.new-reading.ensures.text in
    let bare = c.new-reading.ensures.bare in
    let behind = c.new-reading.ensures.behind_slash in
    let mark = c.new-reading.ensures.realm_at in
    record {
      texts = rw (texts, text, bare, behind, mark) (texts-none _);
      mark = rw (behind, mark) refl;
      fault = rw (behind, mark) refl;
    }

pub returns-in-Err-clause-fault : goal.returns-in-Err-clause-fault
returns-in-Err-clause-fault c = λ offset is.
    let fault : c.in-Err.fault ≡ BadName offset = cc in
    let lt = c.loop-at-test.true in
    sym c.loop-at.invariant.fault
    ∙ ap (λ bytes. fault_of c.loop-at.at c.loop-at.reading bytes) (drop_more c.args.word.now c.loop-at.at 0 lt)
    ∙ c.in-Err.ensures.fault offset (ap Err fault) (drop (c.loop-at.at + 1) c.args.word.now)
