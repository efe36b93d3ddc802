use Rattle.std.proofs.Common.{sym, ◌∙◌}
use Rattle.kdb_histories.specs.Seen.{seen}
use Rattle.primary_core.specs.Opened.{place_of}
use Rattle.kadm_keytabs.specs.Renewals.{wanted}
use Rattle.kadm_keytabs.proofs.Freshness.{behind_accepted, behind_refused, fresh_behind}
use Rattle.kadm_keytabs.proofs.renewing.keys_behind.Goals as goal

pub returns-in-Some : goal.returns-in-Some
returns-in-Some c = λ s has answered. behind_refused _ c.in-Some.why _ (sym c.refused_in.ensures ∙ c.in-Some.is)

pub returns-in-Ok : goal.returns-in-Ok
returns-in-Ok c = λ s has answered.
    behind_accepted _ c.in-Ok.keys _ (sym c.refused_in.ensures ∙ c.in-None.is)
    (fresh_behind (seen (place_of c.args.primary.now) s) (wanted c.args.client.now c.args.name.now c.args.etypes.now)
    c.args.now c.args.random.now c.args.reply.now c.in-Ok.keys
    answered (sym c.refused_in.ensures ∙ c.in-None.is) (c.in-Ok.ensures s has))
