-- What is pending belongs to a line that is too long.
use Rattle.std.proofs.Common.{◌≡◌, ◌<◌, ◌⊎◌, true, length, inl, inr, refl, sym, ap, ◌∙◌, arith}
use Rattle.kdb_base.specs.Limits.{longest_line}
use Rattle.kadm_lines.specs.Windows.{lacks_feed}
use Rattle.kadm_lines.proofs.Ranges.{lacks-none}
use Rattle.kadm_lines.proofs.Steps.{keeps-given-up}
use Rattle.kadm_lines.proofs.readers.LineReader.give_up.Goals as goal
use Rattle.kadm_lines.proofs.readers.LineReader.give_up.Goals.{then-self-via-then-self}
use Rattle.kadm_lines.proofs.readers.LineReader.give_up.Goals.{then-self-via-else-self+then-pending_len-gt-MAX_LINE_LEN}

pub returns-then-self-clause-same : goal.returns-then-self-clause-same
returns-then-self-clause-same c =
    let why : (c.args.self.now.skipping ≡ true) ⊎ (longest_line < length c.args.self.now.pending) =
    elim c.then-self.branch [
      | then-self-via-then-self w ↦ inl (sym (ap (λ s. s.skipping) c.self.view_is) ∙ w.if-self.true)
      | then-self-via-else-self+then-pending_len-gt-MAX_LINE_LEN w ↦ inr (omega (
        arith,
        ap (λ s. length s.pending) c.self.view_is,
        w.pending_len.ensures,
        w.if-pending_len-gt-MAX_LINE_LEN.true,
      ))
    ] in
    keeps-given-up _ _ c.requires.lacks why refl c.discard.ensures.pending (ap (λ s. s.over) c.self.view_is)

pub returns-then-self-clause-waits : goal.returns-then-self-clause-waits
returns-then-self-clause-waits c = record {
  no_text = c.discard.ensures.text;
  lacks = ap (λ t. lacks_feed t) c.discard.ensures.pending ∙ lacks-none;
  short = omega (arith, ap length c.discard.ensures.pending);
  skips = λ _. c.discard.ensures.pending;
}
