-- Plans of use_mkey.
use Rattle.std.proofs.Common.{◌≡◌, ℕ, ◌^◌, ◌<◌, List, [], ◌∷◌, Option, Some}
use Rattle.std.proofs.Common.{None, refl, sym, ap, subst, ◌∙◌, inr, arith}
use Rattle.std.specs.Prelude.{Result, Err, is_none, option_map, unwrap_or}
use Rattle.command_plans.specs.Given.{IsGiven}
use Rattle.command_plans.specs.declared.given.Given.{Given}
use Rattle.command_plans.proofs.Lists.{both, early, later}
use Rattle.command_plans.proofs.Seen.{access_of, told_at}
use Rattle.kadm_commands.specs.Commands.{IsCommand, IsKvno}
use Rattle.kadm_commands.specs.declared.commands.Command.TheVariants as command
use Rattle.kadm_commands.specs.declared.commands.UseMaster.{UseMaster}
use Rattle.kadm_commands.specs.declared.replies.Reply.TheVariants as reply
use Rattle.kdb_base.specs.declared.outcomes.Refusal.{Refusal}
use Rattle.kdb_base.specs.declared.outcomes.Refusal.TheVariants.{NoActiveMaster, UnknownMaster}
use Rattle.kdb_base.specs.declared.versions.Activation.{Activation}
use Rattle.kdb_base.specs.declared.versions.Master.{Master}
use Rattle.kdb_model.specs.Calls.{Call, secs_of}
use Rattle.kdb_model.specs.Entries.{entry_of}
use Rattle.kdb_model.specs.Masters.{used_activations}
use Rattle.kdb_model.specs.Refusals.{first, no_active_master, refusal, too_large, unknown_master, when}
use Rattle.kdb_model.specs.Steps.{change_reply}
use Rattle.kdb_plain.specs.States.{master_of}
use Rattle.kdb_plain.specs.declared.changes.PlainOp.{PlainOp}
use Rattle.kdb_plain.specs.declared.changes.PlainOp.TheVariants.{PutMasters}
use Rattle.kdb_plain.specs.declared.states.State.{State}
use Rattle.key_activation.specs.Activations.{active, with_activation}
use Rattle.mkey_admin.specs.KeptMasters.{kept_masters_of, kept_used, with_activations}
use Rattle.mkey_admin.specs.Plans.{IsEntry, IsMasterJudged, IsMasterPut, master_denied, version_unknown}
use Rattle.mkey_admin.specs.declared.planned.MasterPlan.{MasterPlan}
use Rattle.mkey_admin.specs.declared.planned.Told.TheVariants.{Used}
use Rattle.mkey_admin.proofs.MasterPuts.{MasterPutting, puts}
use Rattle.mkey_admin.proofs.MasterTests.{use_tests}
use Rattle.mkey_admin.proofs.OwnRecord.{entry_row, own, own_activations, own_chain, own_name, there}
use Rattle.mkey_admin.proofs.ToldRows.{denied_alike, secs_are}
use Rattle.mkey_admin.proofs.UsedRecord.{used_fits}
use Rattle.princ_rows.specs.declared.entries.Op.TheVariants as op
use Rattle.princ_record.specs.Princs.{IsPrinc}
use Rattle.princ_record.specs.declared.facts.ChainPart.{ChainPart}
use Rattle.princ_record.specs.declared.princs.Princ.{Princ}
use Rattle.serving_versions.specs.MasterChanges.{uses_version}
use Rattle.tagged_data.specs.Numbers.{IsVersion}

-- ---- plans

module _ (g : Given) (c : UseMaster) (unlisted denied : Option Refusal)
    (unlisted_is : unlisted ≡ version_unknown g c.version)
    (denied_is : denied ≡ master_denied g) where
  unknown_alike : (s : State) (call : Call) (given : IsGiven g (command.UseMaster c) s call)
      → unknown_master s (command.UseMaster c) ≡ unlisted
  unknown_alike s call given = ap (λ (ms : List Master).
      when (is_none (master_of ms c.version)) (UnknownMaster c.version)) given.seen.masters_are ∙ sym unlisted_is

  left : (s : State) (call : Call) (given : IsGiven g (command.UseMaster c) s call) (change : Option PlainOp)
      → entry_of s (told_at g (command.UseMaster c) given.called.clock) (command.UseMaster c) ≡ change
      → refusal s (told_at g (command.UseMaster c) given.called.clock)
      ≡ first (unlisted ∷ denied ∷ no_active_master s (told_at g (command.UseMaster c) given.called.clock)
      (command.UseMaster c) ∷ too_large s change ∷ [])
  left s call given change e =
      use_tests s g.client.now given.called.clock g.random.now (access_of g) c change e
      ∙ both _ _ _ _ (unknown_alike s call given)
      (both _ _ _ _ (denied_alike g (command.UseMaster c) s call given denied denied_is) refl)

  pub use_refused : (why : Refusal) → first (unlisted ∷ denied ∷ []) ≡ Some why
      → IsMasterJudged g (command.UseMaster c) (Err why)
  use_refused why is = record {
    plan_is = λ s call given.
        let call_now = told_at g (command.UseMaster c) given.called.clock in
        let change = entry_of s call_now (command.UseMaster c) in
        ap (refusal s) given.called.call_is ∙ left s call given change refl
        ∙ early (unlisted ∷ denied ∷ [])
        (no_active_master s call_now (command.UseMaster c) ∷ too_large s change ∷ []) why is;
    applies = tt;
  }

  module _ (none : first (unlisted ∷ denied ∷ []) ≡ None) (p : Princ) (part : ChainPart) (entry : IsEntry g p)
      (part_is : p.chain ≡ Some part) (secs : ℕ) (secs_is : secs ≡ unwrap_or c.secs g.moment.secs) where
    abbrev used : List Activation
    used = with_activation c.version secs part.activations

    used_alike : (s : State) (call : Call) (given : IsGiven g (command.UseMaster c) s call)
        → used ≡ used_activations s (told_at g (command.UseMaster c) given.called.clock) c
    used_alike s call given =
        ap (λ n. with_activation c.version n part.activations)
        (secs_is ∙ ap (unwrap_or c.secs) (sym (secs_are g (command.UseMaster c) s call given)))
        ∙ ap (λ (acts : List Activation).
        with_activation c.version (unwrap_or c.secs (secs_of s (told_at g (command.UseMaster c) given.called.clock)))
        acts) (own_activations g (command.UseMaster c) p entry s call given part part_is)

    behind : (s : State) (call : Call) (given : IsGiven g (command.UseMaster c) s call) (change : Option PlainOp)
        → entry_of s (told_at g (command.UseMaster c) given.called.clock) (command.UseMaster c) ≡ change
        → refusal s (told_at g (command.UseMaster c) given.called.clock)
        ≡ first (when (is_none (active used g.moment.secs)) NoActiveMaster ∷ too_large s change ∷ [])
    behind s call given change e =
        let call_now = told_at g (command.UseMaster c) given.called.clock in
        left s call given change e
        ∙ later (unlisted ∷ denied ∷ [])
        (no_active_master s call_now (command.UseMaster c) ∷ too_large s change ∷ []) none
        ∙ ap (λ (acts : List Activation). first (when (is_none (active acts (secs_of s call_now))) NoActiveMaster
        ∷ too_large s change ∷ [])) (sym (used_alike s call given))
        ∙ ap (λ n. first (when (is_none (active used n)) NoActiveMaster ∷ too_large s change ∷ []))
        (secs_are g (command.UseMaster c) s call given)

    pub use_inactive : active used g.moment.secs ≡ None → IsMasterJudged g (command.UseMaster c) (Err NoActiveMaster)
    unfolding first
    use_inactive inactive = record {
      plan_is = λ s call given. ap (refusal s) given.called.call_is ∙ behind s call given
          (entry_of s (told_at g (command.UseMaster c) given.called.clock) (command.UseMaster c)) refl
          ∙ rw inactive refl;
      applies = tt;
    }

    module _ (active_version : ℕ) (is_active : active used g.moment.secs ≡ Some active_version) (masters : List Master)
        (masters_are : masters ≡ g.masters.now) where
      putting : (s : State) (call : Call) (given : IsGiven g (command.UseMaster c) s call)
          → MasterPutting g (command.UseMaster c) (kept_used used p) masters (Used c.version secs) s call given
      unfolding entry_of uses_version kept_masters_of change_reply first
      putting s call given =
          let call_now = told_at g (command.UseMaster c) given.called.clock in
          let q = own g (command.UseMaster c) p entry s call given in
          let chain = own_chain g (command.UseMaster c) p entry s call given in
          let alike = used_alike s call given in
          let change : entry_of s call_now (command.UseMaster c) ≡ Some (PutMasters q.other s.masters used) =
          rw q.there (ap (λ (acts : List Activation). Some (PutMasters q.other s.masters acts)) (sym alike)) in
          record {
            other = q.other;
            kept = s.masters;
            activations = used;
            tests = behind s call given (Some (PutMasters q.other s.masters used)) change ∙ rw is_active refl;
            entry_is = change;
            shows = record {
              master = q.beside.master;
              named = q.beside.named;
              under = record { fields = q.beside.under.fields; keys = q.beside.under.keys; old = q.beside.under.old };
            };
            chain = record {
              chain = record {
                newest = chain.chain.newest;
                under = record {
                  older = chain.chain.under.older;
                  masters_are = chain.chain.under.masters_are;
                  rising = chain.chain.under.rising;
                  keys = chain.chain.under.keys;
                  part = with_activations used chain.chain.under.part;
                  part_is = ap (option_map (with_activations used)) chain.chain.under.part_is;
                  aux = chain.chain.under.aux;
                };
              };
              part = with_activations used part;
              part_is = ap (option_map (with_activations used)) part_is;
              activations_are = refl;
            };
            spares = record {
              is_master = own_name g (command.UseMaster c) p entry s call given;
              same_keys = λ k d lt. inr refl;
            };
            masters_are = masters_are ∙ sym given.seen.masters_are;
            exact = rw (there g (command.UseMaster c) p entry s call given)
                (ap (λ (acts : List Activation). Some (op.PutPrinc (kept_used acts p))) (sym alike));
            told_is = λ point. ap (λ n. reply.MasterUsed point c.version n)
                (secs_is ∙ ap (unwrap_or c.secs) (sym (secs_are g (command.UseMaster c) s call given)));
          }

      pub uses : (plan : Result MasterPlan Refusal)
          → IsPrinc (kept_used used p) → IsMasterPut (kept_used used p) masters (Used c.version secs) plan
          → IsMasterJudged g (command.UseMaster c) plan
      uses plan fits put = puts g (command.UseMaster c) p (kept_used used p) masters
          (Used c.version secs) entry fits refl putting plan put

      pub used_comes : (made : Princ) → made ≡ kept_used used p → IsPrinc made → (plan : Result MasterPlan Refusal)
          → IsMasterPut made masters (Used c.version secs) plan → IsMasterJudged g (command.UseMaster c) plan
      used_comes made made_is fits plan put = uses plan (subst IsPrinc made_is fits)
          (subst (λ (r : Princ). IsMasterPut r masters (Used c.version secs) plan) made_is put)

-- the version of the command
pub kvno_of : (realm : List ℕ) (c : UseMaster) → IsCommand realm (command.UseMaster c) → IsKvno c.version
unfolding IsCommand
kvno_of realm c is = is.0

pub version_of : (realm : List ℕ) (c : UseMaster) → IsCommand realm (command.UseMaster c) → IsVersion c.version
version_of realm c is = let kvno = kvno_of realm c is in let from_one = kvno.from_one in let short =
    kvno.short in record { some = omega arith; short = omega arith }

-- the record that is made has a spelling
pub made_fits : (g : Given) (c : UseMaster) (p : Princ) (part : ChainPart) (secs : ℕ) (made : Princ) → IsEntry g p
    → p.chain ≡ Some part → IsCommand g.realm.now (command.UseMaster c) → secs < 2 ^ 32
    → made ≡ kept_used (with_activation c.version secs part.activations) p → IsPrinc made
made_fits g c p part secs made entry part_is is short made_is = subst IsPrinc (sym made_is)
    (used_fits c.version secs p part (entry_row g p entry) part_is (version_of g.realm.now c is) short)
