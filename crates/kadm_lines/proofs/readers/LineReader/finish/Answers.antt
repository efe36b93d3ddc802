-- What is held at the end of the input.
use Rattle.std.proofs.Common.{◌≡◌, true, false, length, sym, ap, ◌∙◌, refl, arith}
use Rattle.std.proofs.lemmas.List.{nil_from_length}
use Rattle.kadm_lines.proofs.Steps.{gives-long, gives-last, gives-end}
use Rattle.kadm_lines.proofs.readers.LineReader.finish.Goals as goal

pub returns-then-self-clause-next : goal.returns-then-self-clause-next
returns-then-self-clause-next c =
    let skipping : c.args.self.now.skipping ≡ true = sym (ap (λ s. s.skipping) c.self.view_is) ∙ c.if-self.true in
    let none = c.requires.waits.skips skipping in
    gives-long _ _ skipping none refl (ap (λ s. s.pending) c.self.view_is ∙ none) c.requires.over
    (ap (λ s. s.over) c.self.view_is ∙ c.requires.over)

pub returns-then-pending_len-eq0-clause-next : goal.returns-then-pending_len-eq0-clause-next
returns-then-pending_len-eq0-clause-next c =
    let within : c.args.self.now.skipping ≡ false = sym (ap (λ s. s.skipping) c.self.view_is) ∙ c.if-self.false in
    gives-end _ within (nil_from_length _ (omega (arith, ap (λ s. length s.pending) c.self.view_is))) c.requires.over

pub returns-clause-next : goal.returns-clause-next
returns-clause-next c =
    let within : c.args.self.now.skipping ≡ false = sym (ap (λ s. s.skipping) c.self.view_is) ∙ c.if-self.false in
    gives-last c.args.self.now _ within c.requires.waits.lacks
    (omega (arith, ap (λ s. length s.pending) c.self.view_is)) c.requires.waits.short
    (c.take_rest.ensures.text ∙ ap (λ s. s.pending) c.self.view_is) (ap (λ s. s.skipping) c.self.view_is ∙ within)
    c.take_rest.ensures.pending c.requires.over (ap (λ s. s.over) c.self.view_is ∙ c.requires.over)
