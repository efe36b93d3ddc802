use Rattle.std.proofs.Common.{ap, ◌∙◌, lit≤}
use Rattle.aes_cts.specs.Cipher.{cipher}
use Rattle.aes_cts.proofs.Expansion.{cipher_of}
use Rattle.aes_cts.proofs.key256.Key256.encrypt_block.Goals as goal

pub returns : goal.returns
returns c =
    c.store.ensures ∙ c.encrypt-s.ensures
    ∙ cipher_of 2 c.self.inside.encrypt c.self.inside.decrypt c.args.self.now _
    (lit≤ tt) c.self.invariant c.self.view_is
    ∙ ap (cipher c.args.self.now) c.load.ensures
