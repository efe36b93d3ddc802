use Rattle.std.proofs.Common.{lit≤, arith}
use Rattle.std.proofs.lemmas.List.Elements.{recursion_from_All}
use Rattle.aes_cts.proofs.Keyed.{returned_is, returned_only}
use Rattle.aes_cts.proofs.key256.Key256.cts_decrypt.Goals as goal

pub returns-clause-inverse : goal.returns-clause-inverse
returns-clause-inverse c =
    returned_is 2 c.self.inside.encrypt c.self.inside.decrypt c.args.self.now c.args.text.now c.decrypt_text.new.text
    (lit≤ tt) c.self.invariant c.self.view_is
    (recursion_from_All _ c.args.text.now c.is_short.ensures.bytes)
    (grind arith) c.decrypt_text.auto.text c.decrypt_text.ensures

pub returns-clause-only : goal.returns-clause-only
returns-clause-only c t bytes is =
    returned_only 2 c.self.inside.encrypt c.self.inside.decrypt c.args.self.now c.args.text.now c.decrypt_text.new.text
    t (lit≤ tt) c.self.invariant c.self.view_is
    (grind arith) c.decrypt_text.ensures (recursion_from_All _ t bytes) is
