use Rattle.std.proofs.Common.{refl, sym}
use Rattle.kadm_words.proofs.SplittingLemmas.{from_plain, takes_end, takes_plain, refuses}
use Rattle.kadm_words.specs.declared.words.ByteKind.TheVariants.{Quote, Control}
use Rattle.kadm_words.specs.declared.words.Place.TheVariants.{InPlain}
use Rattle.kadm_words.proofs.words.Splitter.take_plain.Goals as goal

pub returns-in_ok-end_word-in-Gap : goal.returns-in_ok-end_word-in-Gap
returns-in_ok-end_word-in-Gap c =
    takes_end c.args.byte c.args.self.now _ c.requires (sym c.in-Gap.ensures) c.in_ok-end_word-in-Gap.ensures.words
    c.in_ok-end_word-in-Gap.ensures.place

pub returns-in-Quote : goal.returns-in-Quote
returns-in-Quote c = refuses c.args.byte c.args.self.now InPlain c.requires
    (λ rest. from_plain c.args.byte rest Quote (sym c.in-Quote.ensures))

pub returns-in-Control : goal.returns-in-Control
returns-in-Control c = refuses c.args.byte c.args.self.now InPlain c.requires
    (λ rest. from_plain c.args.byte rest Control (sym c.in-Control.ensures))

pub returns-in_ok-push-in-Plain : goal.returns-in_ok-push-in-Plain
returns-in_ok-push-in-Plain c =
    takes_plain c.args.byte c.args.self.now _ c.requires
    (sym c.in-Plain.ensures) refl c.in_ok-push-in-Plain.ensures.items c.requires
