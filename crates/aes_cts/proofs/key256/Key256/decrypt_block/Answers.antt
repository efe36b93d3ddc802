use Rattle.std.proofs.Common.{ap, ◌∙◌, lit≤, subst}
use Rattle.std.proofs.lemmas.List.Elements.{recursion_from_All}
use Rattle.aes_cts.specs.Inverse.{uncipher_by}
use Rattle.aes_cts.specs.Words.{schedule_bytes}
use Rattle.aes_cts.proofs.Inversion.{IsBlock}
use Rattle.aes_cts.proofs.Expansion.{decrypted_is, decrypted_only, block_block_of}
use Rattle.aes_cts.proofs.key256.Key256.decrypt_block.Goals as goal

pub returns-clause-inverse : goal.returns-clause-inverse
returns-clause-inverse c =
    decrypted_is 2 c.self.inside.encrypt c.self.inside.decrypt c.args.self.now c.args.block.now _
    (lit≤ tt) c.self.invariant c.self.view_is
    (subst IsBlock c.load.ensures (block_block_of c.load.result))
    (c.store.ensures ∙ c.decrypt-s.ensures ∙ ap (uncipher_by (schedule_bytes c.self.inside.decrypt) 14) c.load.ensures)

pub returns-clause-only : goal.returns-clause-only
returns-clause-only c b whole bytes is =
    decrypted_only 2 c.self.inside.encrypt c.self.inside.decrypt c.args.self.now c.args.block.now _ b
    (lit≤ tt) c.self.invariant c.self.view_is
    (c.store.ensures ∙ c.decrypt-s.ensures ∙ ap (uncipher_by (schedule_bytes c.self.inside.decrypt) 14) c.load.ensures)
    (record { whole = whole; bytes = recursion_from_All _ b bytes }) is
