-- What a word says where nothing is left of it.
use Rattle.std.proofs.Common.{◌≡◌, ℕ, Some, List, [], ◌∷◌, ◌++◌, refl, sym, ap, ◌∙◌}
use Rattle.princ_name.specs.Faults.{fault_from}
use Rattle.princ_name.specs.Reading.{says, texts_with}
use Rattle.princ_name.specs.declared.parts.Part.{Part}
use Rattle.princ_name.proofs.Takes.{joined-end}
use Rattle.princ_name.proofs.reading.Reading.finish.Goals as goal

pub returns-then-self-clause-fault : goal.returns-then-self-clause-fault
unfolding fault_from
returns-then-self-clause-fault c = λ offset is.
    let same : c.saturating_sub-offset.result ≡ offset = cc in
    rw c.if-self.true (ap Some (sym c.saturating_sub-offset.ensures ∙ same))

pub returns-clause-texts : goal.returns-clause-texts
unfolding says texts_with
returns-clause-texts c =
    ap (λ (t : List ℕ). c.args.self.texts.items ++ (record { text = t; bare = c.args.self.bare }) ∷ [])
    c.from_vec.ensures
    ∙ ap (λ (p : Part). c.args.self.texts.items ++ p ∷ []) (sym (joined-end c.args.self.text.items c.args.self.bare))

pub returns-clause-mark : goal.returns-clause-mark
unfolding says
returns-clause-mark c = refl

pub returns-clause-faultless : goal.returns-clause-faultless
unfolding fault_from
returns-clause-faultless c = rw c.if-self.false refl
