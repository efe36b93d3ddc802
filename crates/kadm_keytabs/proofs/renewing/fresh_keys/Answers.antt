-- The keys that are told now, and those that follow them.
use Rattle.kadm_keytabs.proofs.Freshness.{fresh_so}
use Rattle.kadm_keytabs.proofs.renewing.fresh_keys.Goals as goal

pub returns-in-Ok-Ok : goal.returns-in-Ok-Ok
returns-in-Ok-Ok c = λ s has.
    fresh_so c.keys_after.result s c.args.name.now c.args.random.now c.args.etypes.now c.as_slice.result.now
    c.in-Ok-Ok.old c.keys_told.result _
    (c.keys_told.ensures s has) (c.in-Ok-Ok.is) c.in-Ok-Ok.field-0-is c.as_slice.ensures c.keys_after.ensures
