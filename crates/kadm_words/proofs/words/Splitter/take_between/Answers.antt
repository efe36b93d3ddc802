use Rattle.std.proofs.Common.{ℕ, List, [], ◌∷◌, ◌++◌, refl, sym, ap, ◌∙◌}
use Rattle.kadm_words.proofs.SplittingLemmas.{from_between, takes_gap, takes_first, takes_open, refuses}
use Rattle.kadm_words.specs.declared.words.ByteKind.TheVariants.{Control}
use Rattle.kadm_words.specs.declared.words.Place.TheVariants.{Between}
use Rattle.kadm_words.proofs.words.Splitter.take_between.Goals as goal

pub returns-in-Gap : goal.returns-in-Gap
returns-in-Gap c = takes_gap c.args.byte c.args.self.now c.requires (sym c.in-Gap.ensures)

pub returns-in-Quote : goal.returns-in-Quote
returns-in-Quote c =
    takes_open c.args.byte c.args.self.now _ c.requires (sym c.in-Quote.ensures) refl c.clear.ensures.items refl

pub returns-in-Control : goal.returns-in-Control
returns-in-Control c = refuses c.args.byte c.args.self.now Between c.requires
    (λ rest. from_between c.args.byte rest Control (sym c.in-Control.ensures))

pub returns-in_ok-push-in-Plain : goal.returns-in_ok-push-in-Plain
returns-in_ok-push-in-Plain c =
    takes_first c.args.byte c.args.self.now _ c.requires (sym c.in-Plain.ensures) refl
    (c.in_ok-push-in-Plain.ensures.items
    ∙ ap (λ (bytes : List ℕ). bytes ++ c.args.byte ∷ []) c.clear-in-Plain.ensures.items) refl
