use Rattle.std.proofs.Common.{refl, sym, ◌∙◌}
use Rattle.iprop_reply.proofs.Serials.{is_nil, is_ok, is_resync}
use Rattle.iprop_reply.proofs.status.sno_status.Goals as goal

pub returns-then-not-is_at : goal.returns-then-not-is_at
returns-then-not-is_at c = λ entries h at.
    is_resync c.args.held.0 c.args.held.1 c.args.asked entries h (λ same. (c.if-not-is_at.ensures.no refl) (at ∙ same))

pub returns-then-asked-held : goal.returns-then-asked-held
returns-then-asked-held c = λ entries h at. is_nil c.args.held.0 c.args.held.1 c.args.asked entries h
    (sym (c.if-not-is_at.ensures.yes refl) ∙ at) c.if-asked-held.true

pub returns-else-asked-held : goal.returns-else-asked-held
returns-else-asked-held c = λ entries h at. is_ok c.args.held.0 c.args.held.1 c.args.asked entries h
    (sym (c.if-not-is_at.ensures.yes refl) ∙ at) c.if-asked-held.false
