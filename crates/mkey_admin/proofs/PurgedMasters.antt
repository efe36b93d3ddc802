-- Plans of purge_mkeys.
use Rattle.std.proofs.Common.{◌≡◌, ◌≢◌, ℕ, List, [], ◌∷◌, length, Option, Some, None, refl, sym, ap, subst, ◌∙◌, arith}
use Rattle.std.specs.Prelude.{Result, Ok, Err}
use Rattle.std.specs.List.{Contains}
use Rattle.command_plans.specs.Given.{IsAnswer, IsGiven}
use Rattle.command_plans.specs.declared.given.Given.{Given}
use Rattle.command_plans.proofs.Lists.{both}
use Rattle.command_plans.proofs.Seen.{access_of, told_at}
use Rattle.kadm_commands.specs.declared.commands.Command.TheVariants as command
use Rattle.kadm_commands.specs.declared.replies.Reply.TheVariants as reply
use Rattle.kadm_commands.specs.declared.versions.PurgeRow.{PurgeRow}
use Rattle.kdb_base.specs.declared.outcomes.Refusal.{Refusal}
use Rattle.kdb_base.specs.declared.versions.Master.{Master}
use Rattle.kdb_model.specs.Calls.{Call, secs_of}
use Rattle.kdb_model.specs.Entries.{entry_of, unless_none_dead}
use Rattle.kdb_model.specs.Masters.{purge_rows}
use Rattle.kdb_model.specs.Refusals.{bytes_put, first, refusal, target, too_large}
use Rattle.kdb_model.specs.Steps.{change_reply, reading_of}
use Rattle.kdb_plain.specs.declared.changes.PlainOp.{PlainOp}
use Rattle.kdb_plain.specs.declared.changes.PlainOp.TheVariants.{PutMasters}
use Rattle.kdb_plain.specs.declared.states.State.{State}
use Rattle.master_keys.specs.Chain.{IsChain}
use Rattle.master_keys.specs.Purging.{live_masters, purged_record}
use Rattle.master_keys.specs.Versions.{last_version}
use Rattle.mkey_admin.specs.KeptMasters.{kept_masters_of, unless_none}
use Rattle.mkey_admin.specs.Plans.{IsEntry, IsMasterJudged, IsMasterPut, IsPurge, grounds_of, master_denied}
use Rattle.mkey_admin.specs.Told.{dead_told}
use Rattle.mkey_admin.specs.declared.planned.MasterPlan.{MasterPlan}
use Rattle.mkey_admin.specs.declared.planned.MasterPlan.TheVariants.{Answer}
use Rattle.mkey_admin.specs.declared.planned.Told.TheVariants.{Purged}
use Rattle.mkey_admin.proofs.MasterPuts.{MasterPutting, puts}
use Rattle.mkey_admin.proofs.MasterTests.{purge_tests}
use Rattle.mkey_admin.proofs.OwnRecord.{own, own_chain, own_keys, own_name, there}
use Rattle.mkey_admin.proofs.PurgedRecord.{left_chain, others_stay, purged_name, purged_shows}
use Rattle.mkey_admin.proofs.ToldRows.{dead_alike, denied_alike, rows_alike, secs_are}
use Rattle.mkey_admin.proofs.Unserving.{newest_lives}
use Rattle.princ_rows.specs.declared.entries.Op.{Op}
use Rattle.princ_rows.specs.declared.entries.Op.TheVariants as op
use Rattle.princ_record.specs.Princs.{IsPrinc}
use Rattle.princ_record.specs.declared.princs.Princ.{Princ}
use Rattle.row_keys.specs.Shows.{ShowsPrinc}
use Rattle.serving_versions.proofs.Purged.{purged_serving}
use Rattle.serving_versions.specs.MasterChanges.{purges_masters, serving_activations, with_serving}
use Rattle.serving_versions.specs.Versions.{dead_versions, serving_masters}

-- ---- what comes of a list of dead versions

with_dead : (dead : List ℕ) (change : Option PlainOp) → dead ≢ [] → unless_none_dead dead change ≡ change
with_dead [] change some = absurd (some refl)
with_dead (v ∷ vs) change some = refl

with_kept : (dead : List ℕ) (change : Option Op) → dead ≢ [] → unless_none dead change ≡ change
with_kept [] change some = absurd (some refl)
with_kept (v ∷ vs) change some = refl

name_stays : (dead : List ℕ) (p : Princ) → (purged_record dead p).name ≡ p.name
unfolding purged_record
name_stays dead p = refl

-- ---- plans

module _ (g : Given) (denied : Option Refusal) (denied_is : denied ≡ master_denied g) where
  left : (s : State) (call : Call) (given : IsGiven g command.PurgeMasters s call) (change : Option PlainOp)
      → entry_of s (told_at g command.PurgeMasters given.called.clock) command.PurgeMasters ≡ change
      → refusal s (told_at g command.PurgeMasters given.called.clock) ≡ first (denied ∷ too_large s change ∷ [])
  left s call given change e =
      purge_tests s g.client.now given.called.clock g.random.now (access_of g) change e
      ∙ both _ _ _ _ (denied_alike g command.PurgeMasters s call given denied denied_is) refl

  pub purge_refused : (why : Refusal) → denied ≡ Some why → IsMasterJudged g command.PurgeMasters (Err why)
  unfolding first
  purge_refused why is = record {
    plan_is = λ s call given.
        let change = entry_of s (told_at g command.PurgeMasters given.called.clock) command.PurgeMasters in
        ap (refusal s) given.called.call_is ∙ left s call given change refl ∙ rw is refl;
    applies = tt;
  }

  module _ (none : denied ≡ None) (p : Princ) (entry : IsEntry g p) (rows : List PurgeRow) (dead : List ℕ)
      (purge : IsPurge g p rows dead) where
    told_alike : (s : State) (call : Call) (given : IsGiven g command.PurgeMasters s call)
        → rows ≡ purge_rows s (secs_of s (told_at g command.PurgeMasters given.called.clock))
    told_alike s call given = purge.rows_are ∙ rows_alike g p purge.part entry purge.part_is s call given
        ∙ ap (purge_rows s) (sym (secs_are g command.PurgeMasters s call given))

    dead_is : (s : State) (call : Call) (given : IsGiven g command.PurgeMasters s call)
        → dead ≡ dead_versions s (secs_of s (told_at g command.PurgeMasters given.called.clock))
    dead_is s call given = purge.dead_are ∙ ap dead_told (told_alike s call given)
        ∙ dead_alike s (secs_of s (told_at g command.PurgeMasters given.called.clock))

    pub purge_answers : dead ≡ [] → IsMasterJudged g command.PurgeMasters (Ok (Answer (reply.MastersPurged None rows)))
    unfolding entry_of first reading_of target bytes_put
    purge_answers all_serve = record {
      plan_is = λ s call given.
          let call_now = told_at g command.PurgeMasters given.called.clock in
          let no_dead : dead_versions s (secs_of s call_now) ≡ [] = sym (dead_is s call given) ∙ all_serve in
          let change : entry_of s call_now command.PurgeMasters ≡ None = rw no_dead refl in
          subst (λ (c : Call). IsAnswer s c (reply.MastersPurged None rows)) (sym given.called.call_is) (record {
            accepted = left s call given None change ∙ rw none refl;
            no_entry = change;
            reply_is = ap (reply.MastersPurged None) (told_alike s call given);
          });
      applies = tt;
    }

    module _ (some : dead ≢ []) (masters : List Master) (masters_are : masters ≡ live_masters dead g.masters.now)
        (chain : IsChain (purged_record dead p) (live_masters dead g.masters.now)) where
      putting : (s : State) (call : Call) (given : IsGiven g command.PurgeMasters s call)
          → MasterPutting g command.PurgeMasters (purged_record dead p) masters (Purged rows) s call given
      unfolding entry_of purges_masters kept_masters_of change_reply first
      putting s call given =
          let call_now = told_at g command.PurgeMasters given.called.clock in
          let secs = secs_of s call_now in
          let q = own g command.PurgeMasters p entry s call given in
          let keys = own_keys g command.PurgeMasters p entry s call given in
          let old = own_chain g command.PurgeMasters p entry s call given in
          let same = dead_is s call given in
          let some_now : dead_versions s secs ≢ [] = (λ e. some (same ∙ e)) in
          let made_is : purged_record dead p ≡ purged_record (dead_versions s secs) p =
          ap (λ (vs : List ℕ). purged_record vs p) same in
          let whole : live_masters dead g.masters.now ≡ serving_masters s secs =
          ap (λ (vs : List ℕ). live_masters vs g.masters.now) same
          ∙ ap (live_masters (dead_versions s secs)) (sym given.seen.masters_are) ∙ purged_serving s secs in
          let chain_now : IsChain (purged_record dead p) (serving_masters s secs) =
          subst (λ (ms : List Master). IsChain (purged_record dead p) ms) whole chain in
          let change : entry_of s call_now command.PurgeMasters
          ≡ Some (PutMasters (with_serving s secs q.other) (serving_masters s secs) (serving_activations s secs)) =
          with_dead (dead_versions s secs) _ some_now ∙ rw q.there refl in
          record {
            other = with_serving s secs q.other;
            kept = serving_masters s secs;
            activations = serving_activations s secs;
            tests = left s call given
                (Some (PutMasters (with_serving s secs q.other) (serving_masters s secs) (serving_activations s secs)))
                change ∙ rw none refl;
            entry_is = change;
            shows = subst (λ (r : Princ). ShowsPrinc (serving_masters s secs) given.seen.shows.history r
                (with_serving s secs q.other)) (sym made_is)
                (purged_shows s secs given.seen.shows.history p q.other q.beside keys old.chain);
            chain = left_chain s secs p dead old same given.seen.valid.activations chain_now;
            spares = record {
              is_master = purged_name s secs q.other (own_name g command.PurgeMasters p entry s call given);
              same_keys = λ k d lt. others_stay s secs k d lt;
            };
            masters_are = masters_are ∙ whole;
            exact = with_kept (dead_versions s secs) _ some_now ∙ rw (there g command.PurgeMasters p entry s call given)
                (ap (λ (r : Princ). Some (op.PutPrinc r)) (sym made_is));
            told_is = λ point. ap (reply.MastersPurged (Some point)) (told_alike s call given);
          }

      pub purges : (plan : Result MasterPlan Refusal) → IsPrinc (purged_record dead p)
          → IsMasterPut (purged_record dead p) masters (Purged rows) plan → IsMasterJudged g command.PurgeMasters plan
      purges plan fits put = puts g command.PurgeMasters p (purged_record dead p) masters (Purged rows) entry fits
          (name_stays dead p) putting plan put

-- ---- what the code makes

pub newest_is_none : (g : Given) (p : Princ) (rows : List PurgeRow) (dead : List ℕ) → IsPurge g p rows dead
    → Contains dead (last_version g.masters.now) → ⊥
newest_is_none g p rows dead purge is =
    newest_lives (grounds_of g purge.part.activations)
    (subst (λ (vs : List ℕ). Contains vs (last_version g.masters.now))
    (purge.dead_are ∙ ap dead_told purge.rows_are) is)

pub purged_comes : (g : Given) (p : Princ) (rows : List PurgeRow) (dead : List ℕ) → master_denied g ≡ None → IsEntry g p
    → IsPurge g p rows dead → dead ≢ []
    → (made : Princ) (masters : List Master) → made ≡ purged_record dead p → masters ≡ live_masters dead g.masters.now
    → IsChain made masters → IsPrinc made
    → (plan : Result MasterPlan Refusal) → IsMasterPut made masters (Purged rows) plan
    → IsMasterJudged g command.PurgeMasters plan
purged_comes g p rows dead allowed entry purge some made masters made_is masters_are chain fits plan put =
    let chain_now : IsChain (purged_record dead p) (live_masters dead g.masters.now) =
    subst (λ (r : Princ). IsChain r (live_masters dead g.masters.now)) made_is
    (subst (λ (ms : List Master). IsChain made ms) masters_are chain) in
    purges g (master_denied g) refl allowed p entry rows dead purge some masters masters_are chain_now plan
    (subst IsPrinc made_is fits)
    (subst (λ (r : Princ). IsMasterPut r masters (Purged rows) plan) made_is put)

pub empty_list : (xs : List ℕ) → length xs ≡ 0 → xs ≡ []
empty_list [] e = refl
empty_list (x ∷ xs) e = absurd (omega arith)
