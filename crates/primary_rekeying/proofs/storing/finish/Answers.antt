use Rattle.std.proofs.Common.{subst}
use Rattle.kdb_disk.proofs.Runs.{started}
use Rattle.kdb_histories.specs.Asks.{Answer, Moved}
use Rattle.kdb_histories.specs.Calls.{Perform}
use Rattle.kdb_histories.specs.Leaving.{Does}
use Rattle.primary_core.proofs.Carried.{stays}
use Rattle.primary_core.specs.Opened.{place_of}
use Rattle.primary_rekeying.proofs.StoredCalls.{answers_does, answers_state, same_answer}
use Rattle.primary_rekeying.proofs.storing.finish.Goals as goal
use Rattle.primary_rekeying.specs.Moving.{IsFoundOut}
use Rattle.rekey_work.specs.declared.works.Settled.TheVariants as settled

pub returns-in-Updated-clause-does : goal.returns-in-Updated-clause-does
returns-in-Updated-clause-does g c = λ s ask answer at has found e.
    c.store.ensures.does s ask answer at has (subst (IsFoundOut c.args.primary.now ask) c.in-Updated.is found) e

pub returns-in-Updated-clause-state : goal.returns-in-Updated-clause-state
returns-in-Updated-clause-state g c = λ s ask answer at has found e.
    c.store.ensures.state s ask answer at has (subst (IsFoundOut c.args.primary.now ask) c.in-Updated.is found) e

pub returns-in-Already-clause-does : goal.returns-in-Already-clause-does
returns-in-Already-clause-does g c = λ s ask answer at has found e.
    subst (λ (a : Answer). Does (place_of c.args.primary.now) s (Perform ask) a (place_of c.args.primary.now))
    (same_answer (Moved settled.Already) answer e) (answers_does c.args.primary.now ask (Moved settled.Already) s has
    (subst (IsFoundOut c.args.primary.now ask) c.in-Already.is found))

pub returns-in-Already-clause-state : goal.returns-in-Already-clause-state
returns-in-Already-clause-state g c = λ s ask answer at has found e. answers_state c.args.primary.now ask
    (Moved settled.Already) s has (subst (IsFoundOut c.args.primary.now ask) c.in-Already.is found)

pub returns-in-Already-clause-crash : goal.returns-in-Already-clause-crash
returns-in-Already-clause-crash g c = λ s ask at has found. record {
  told = λ t. started _ _
      (λ f i. stays c.args.primary.now s ask f (c.what_is_kept_is_recovered.ensures _ (c.requires.on t) f i));
}

pub returns-in-Gone-clause-does : goal.returns-in-Gone-clause-does
returns-in-Gone-clause-does g c = λ s ask answer at has found e.
    subst (λ (a : Answer). Does (place_of c.args.primary.now) s (Perform ask) a (place_of c.args.primary.now))
    (same_answer (Moved settled.Gone) answer e) (answers_does c.args.primary.now ask (Moved settled.Gone) s has
    (subst (IsFoundOut c.args.primary.now ask) c.in-Gone.is found))

pub returns-in-Gone-clause-state : goal.returns-in-Gone-clause-state
returns-in-Gone-clause-state g c = λ s ask answer at has found e. answers_state c.args.primary.now ask
    (Moved settled.Gone) s has (subst (IsFoundOut c.args.primary.now ask) c.in-Gone.is found)

pub returns-in-Gone-clause-crash : goal.returns-in-Gone-clause-crash
returns-in-Gone-clause-crash g c = λ s ask at has found. record {
  told = λ t. started _ _
      (λ f i. stays c.args.primary.now s ask f (c.what_is_kept_is_recovered.ensures _ (c.requires.on t) f i));
}

pub returns-in-Changed-clause-does : goal.returns-in-Changed-clause-does
returns-in-Changed-clause-does g c = λ s ask answer at has found e.
    subst (λ (a : Answer). Does (place_of c.args.primary.now) s (Perform ask) a (place_of c.args.primary.now))
    (same_answer (Moved (settled.Changed c.in-Changed.record c.in-Changed.version)) answer e)
    (answers_does c.args.primary.now ask (Moved (settled.Changed c.in-Changed.record c.in-Changed.version)) s has
    (subst (IsFoundOut c.args.primary.now ask) c.in-Changed.is found))

pub returns-in-Changed-clause-state : goal.returns-in-Changed-clause-state
returns-in-Changed-clause-state g c = λ s ask answer at has found e.
    answers_state c.args.primary.now ask (Moved (settled.Changed c.in-Changed.record c.in-Changed.version)) s has
    (subst (IsFoundOut c.args.primary.now ask) c.in-Changed.is found)

pub returns-in-Changed-clause-crash : goal.returns-in-Changed-clause-crash
returns-in-Changed-clause-crash g c = λ s ask at has found. record {
  told = λ t. started _ _
      (λ f i. stays c.args.primary.now s ask f (c.what_is_kept_is_recovered.ensures _ (c.requires.on t) f i));
}
