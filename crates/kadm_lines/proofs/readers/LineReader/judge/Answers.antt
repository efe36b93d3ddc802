-- A line whose line feed was found.
use Rattle.std.proofs.Common.{◌≡◌, ◌<◌, ◌≤◌, ◌⊎◌, true, false, length, inl, inr, sym, ap, ◌∙◌, arith}
use Rattle.kdb_base.specs.Limits.{longest_line}
use Rattle.kadm_lines.proofs.Steps.{answers-line, answers-long}
use Rattle.kadm_lines.proofs.readers.LineReader.judge.Goals as goal
use Rattle.kadm_lines.proofs.readers.LineReader.judge.Goals.{then-self-via-then-self}
use Rattle.kadm_lines.proofs.readers.LineReader.judge.Goals.{then-self-via-else-self+then-text_len-gt-MAX_LINE_LEN}

pub returns-then-self-clause-line : goal.returns-then-self-clause-line
returns-then-self-clause-line c =
    let why : (c.args.self.now.skipping ≡ true) ⊎ (longest_line < length c.args.self.now.text) =
    elim c.then-self.branch [
      | then-self-via-then-self w ↦ inl (sym (ap (λ s. s.skipping) c.self.view_is) ∙ w.if-self.true)
      | then-self-via-else-self+then-text_len-gt-MAX_LINE_LEN w ↦ inr (omega (
        arith,
        ap (λ s. length s.text) c.self.view_is,
        w.text_len.ensures,
        w.if-text_len-gt-MAX_LINE_LEN.true,
      ))
    ] in
    answers-long _ _ _ why

pub returns-clause-line : goal.returns-clause-line
returns-clause-line c =
    let within : c.args.self.now.skipping ≡ false = sym (ap (λ s. s.skipping) c.self.view_is) ∙ c.if-self.false in
    let short : length c.args.self.now.text ≤ longest_line = omega (arith, ap (λ s. length s.text) c.self.view_is) in
    answers-line _ _ within short
