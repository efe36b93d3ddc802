use Rattle.std.proofs.Common.{refl}
use Rattle.kadm_words.proofs.SplittingLemmas.{takes_quote, takes_quoted}
use Rattle.kadm_words.proofs.words.Splitter.take_quoted.Goals as goal

pub returns-then-byte-eq34 : goal.returns-then-byte-eq34
returns-then-byte-eq34 c = takes_quote c.args.byte c.args.self.now _ c.requires c.if-byte-eq34.true refl refl refl

pub returns : goal.returns
returns c = takes_quoted c.args.byte c.args.self.now _ c.requires c.if-byte-eq34.false refl
    c.in_ok-push.ensures.items c.requires
