use Rattle.std.proofs.Common.{◌≡◌, set, rules, ◌∙◌}
use Rattle.std.proofs.lemmas.Fn.{always_returns_same}
use Rattle.key_activation.specs.Activations.{with_activation}
use Rattle.key_activation.proofs.Edits.{set_found, insert_found, rising_after_put}
use Rattle.key_activation.proofs.Order.{version_of}
use Rattle.key_activation.proofs.activations.put.Goals as goal

replaced : (c : goal.After-items-1) → set c.args.items.now.items c.in-Ok.at c.args.activation
    ≡ with_activation c.args.activation.version c.args.activation.secs c.args.items.now.items
replaced c =
    set_found c.args.activation c.args.items.now.items c.deref.result.now c.in-Ok.at c.deref.ensures.value c.requires
    c.in-Ok.ensures.bound
    (c.in-Ok.ensures.position version_of (always_returns_same _ _ _ (λ a r f' called. (search rules, search rules))))

pub returns-in-Ok-clause-ok : goal.returns-in-Ok-clause-ok
returns-in-Ok-clause-ok c = replaced c

pub returns-in-Ok-clause-rising : goal.returns-in-Ok-clause-rising
returns-in-Ok-clause-rising c =
    rising_after_put c.args.activation.version c.args.activation.secs c.args.items.now.items _ c.requires (replaced c)

inserted : (c : goal.In_ok-insert-in-Err)
    → c.insert.new.self.items ≡ with_activation c.args.activation.version c.args.activation.secs c.args.items.now.items
inserted c =
    c.in_ok-insert-in-Err.ensures.items
    ∙ insert_found c.args.activation c.args.items.now.items c.deref.result.now c.in-Err.at c.deref.ensures.value
    c.requires c.in-Err.ensures.bound
    (c.in-Err.ensures.position version_of (always_returns_same _ _ _ (λ a r f' called. (search rules, search rules))))

pub returns-in_ok-insert-in-Err-clause-ok : goal.returns-in_ok-insert-in-Err-clause-ok
returns-in_ok-insert-in-Err-clause-ok c = inserted c

pub returns-in_ok-insert-in-Err-clause-rising : goal.returns-in_ok-insert-in-Err-clause-rising
returns-in_ok-insert-in-Err-clause-rising c =
    rising_after_put c.args.activation.version c.args.activation.secs c.args.items.now.items _ c.requires (inserted c)
