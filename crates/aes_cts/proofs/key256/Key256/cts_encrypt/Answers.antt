use Rattle.std.proofs.Common.{◌∙◌, lit≤, arith}
use Rattle.aes_cts.proofs.Keyed.{cts_of}
use Rattle.aes_cts.proofs.key256.Key256.cts_encrypt.Goals as goal

pub returns-clause-text : goal.returns-clause-text
returns-clause-text c =
    c.encrypt_text.ensures
    ∙ cts_of 2 c.self.inside.encrypt c.self.inside.decrypt c.args.self.now c.args.text.now
    (lit≤ tt) c.self.invariant c.self.view_is (grind arith)
