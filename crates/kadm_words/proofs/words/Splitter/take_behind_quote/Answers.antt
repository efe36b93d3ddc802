use Rattle.std.proofs.Common.{refl, sym}
use Rattle.kadm_words.proofs.SplittingLemmas.{from_behind, takes_close, takes_second, refuses}
use Rattle.kadm_words.specs.declared.words.ByteKind.TheVariants.{Control, Plain}
use Rattle.kadm_words.specs.declared.words.Place.TheVariants.{BehindQuote}
use Rattle.kadm_words.proofs.words.Splitter.take_behind_quote.Goals as goal

pub returns-in_ok-end_word-in-Gap : goal.returns-in_ok-end_word-in-Gap
returns-in_ok-end_word-in-Gap c =
    takes_close c.args.byte c.args.self.now _ c.requires (sym c.in-Gap.ensures) c.in_ok-end_word-in-Gap.ensures.words
    c.in_ok-end_word-in-Gap.ensures.place

pub returns-in_ok-push-in-Quote : goal.returns-in_ok-push-in-Quote
returns-in_ok-push-in-Quote c = takes_second c.args.byte c.args.self.now _ c.requires
    (sym c.in-Quote.ensures) refl c.in_ok-push-in-Quote.ensures.items refl

pub returns-in-Control : goal.returns-in-Control
returns-in-Control c = refuses c.args.byte c.args.self.now BehindQuote c.requires
    (λ rest. from_behind c.args.byte rest Control (sym c.in-Control.ensures))

pub returns-in-Plain : goal.returns-in-Plain
returns-in-Plain c = refuses c.args.byte c.args.self.now BehindQuote c.requires
    (λ rest. from_behind c.args.byte rest Plain (sym c.in-Plain.ensures))
