-- The bytes that were read come behind those that are pending.
use Rattle.std.proofs.Common.{◌≡◌, ◌++◌, length, drop, sym, ap, ◌∙◌}
use Rattle.std.proofs.lemmas.Bool.{eqb-true}
use Rattle.std.proofs.lemmas.List.{take-append-drop}
use Rattle.kadm_lines.proofs.Steps.{keeps-read}
use Rattle.kadm_lines.proofs.readers.LineReader.read_on.Goals as goal

pub returns-in-Ok-clause-same : goal.returns-in-Ok-clause-same
returns-in-Ok-clause-same g c =
    let piece = drop (length c.self.inside.window.pending) c.read.new.self.pending in
    let pending : c.read.new.self.pending ≡ c.args.self.now.pending ++ piece =
    sym (take-append-drop (length c.self.inside.window.pending) c.read.new.self.pending)
    ∙ ap (λ t. t ++ piece) (c.in-Ok.ensures.kept ∙ ap (λ s. s.pending) c.self.view_is) in
    keeps-read _ _ piece _ _ c.in-Ok.ensures.bytes pending (ap (λ s. s.skipping) c.self.view_is) c.requires.going
    (λ is. c.in-Ok.ensures.end (eqb-true _ _ is))
