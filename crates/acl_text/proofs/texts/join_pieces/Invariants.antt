use Rattle.std.proofs.Common.{◌≡◌, ◌≤◌, drop, map}
use Rattle.acl_text.specs.Joining.{lines_with}
use Rattle.acl_text.specs.Texts.{lines_from}
use Rattle.acl_text.proofs.texts.join_pieces.Given as goal

abbrev pub invariant-loop-at : goal.invariant-loop-at
invariant-loop-at l = record {
  first : l.joiner.first ≤ l.at;
  lines : lines_with l.joiner l.at (drop l.at (map (λ p. p.now) l.pieces)) ≡ lines_from 1 (map (λ p. p.now) l.pieces);
}
