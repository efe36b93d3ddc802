use Rattle.std.proofs.Common.{rules, ◌≡◌, ap, eqb, ◌∙◌}
use Rattle.std.specs.Prelude.{not}
use Rattle.std.proofs.lemmas.Fn.{filter_same}
use Rattle.kdb_base.specs.declared.versions.Activation.{Activation}
use Rattle.key_activation.specs.Activations.{without_activation}
use Rattle.key_activation.proofs.Edits.{rising_after_drop}
use Rattle.key_activation.proofs.Single.{numbered_without, without_gone, without_others}
use Rattle.key_activation.proofs.activations.drop_version.Goals as goal

pub from_vec-requires : goal.from_vec-requires
unfolding without_activation
from_vec-requires c =
    let is = filter_same _ (λ (a : Activation). not (eqb a.version c.args.version)) _
    (λ x b f' called. search rules) _ _ c.retain.ensures.filtered in
    rising_after_drop c.args.version c.take-items.result.items c.retain.new.self.items c.take-items.ensures.rising is

kept : (c : goal.After-drop-list) → c.from_vec.result ≡ without_activation c.args.version c.args.list.now
unfolding without_activation
kept c =
    let is = filter_same _ (λ (a : Activation). not (eqb a.version c.args.version)) _
    (λ x b f' called. search rules) _ _ c.retain.ensures.filtered in
    c.from_vec.ensures ∙ is ∙ ap (without_activation c.args.version) c.take-items.ensures.value

pub returns-clause-is : goal.returns-clause-is
returns-clause-is c = kept c

pub returns-clause-gone : goal.returns-clause-gone
returns-clause-gone c = rw (kept c) (without_gone c.args.version c.args.list.now)

pub returns-clause-others : goal.returns-clause-others
returns-clause-others c = λ v other. rw (kept c) (without_others c.args.version c.args.list.now v other)

pub returns-clause-numbered : goal.returns-clause-numbered
returns-clause-numbered c = λ h. rw (kept c) (numbered_without c.args.version c.args.list.now h)
