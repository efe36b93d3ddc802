-- Plans of add_mkey.
use Rattle.std.proofs.Common.{◌≡◌, ℕ, ◌<◌, Bool, true, false, List, [], ◌∷◌, ◌++◌, length, get_or}
use Rattle.std.proofs.Common.{take, Option, Some, None, refl, sym, ap, subst, ◌∙◌, inr, arith}
use Rattle.std.specs.Prelude.{Result, Err, nat_le, ◌||◌}
use Rattle.std.specs.List.{last_or}
use Rattle.std.proofs.Math.Decide.{dec_lt}
use Rattle.std.proofs.lemmas.Bool.{le-leb}
use Rattle.command_plans.specs.Given.{IsGiven}
use Rattle.command_plans.specs.declared.given.Given.{Given}
use Rattle.command_plans.proofs.Lists.{both, early, later, none_of, when_not}
use Rattle.command_plans.proofs.Seen.{access_of, told_at}
use Rattle.kadm_commands.specs.declared.commands.Command.TheVariants as command
use Rattle.kadm_commands.specs.declared.replies.Reply.TheVariants as reply
use Rattle.kdb_base.specs.Etypes.{key_len}
use Rattle.kdb_base.specs.Key.{Key}
use Rattle.kdb_base.specs.Limits.{most_masters}
use Rattle.kdb_base.specs.declared.keys.Etype.{Etype}
use Rattle.kdb_base.specs.declared.outcomes.Refusal.{Refusal}
use Rattle.kdb_base.specs.declared.outcomes.Refusal.TheVariants.{TooManyMasters}
use Rattle.kdb_base.specs.declared.versions.Activation.{Activation}
use Rattle.kdb_base.specs.declared.versions.Master.{Master}
use Rattle.kdb_model.proofs.Accepted.{or_false}
use Rattle.kdb_model.specs.Calls.{Call}
use Rattle.kdb_model.specs.Entries.{entry_of}
use Rattle.kdb_model.specs.Masters.{new_etype, new_master}
use Rattle.kdb_model.specs.Refusals.{first, greatest_kvno, refusal, too_large, too_many_masters, when}
use Rattle.kdb_model.specs.Steps.{change_reply}
use Rattle.kdb_plain.specs.declared.changes.PlainOp.{PlainOp}
use Rattle.kdb_plain.specs.declared.changes.PlainOp.TheVariants.{PutMasters}
use Rattle.kdb_plain.specs.declared.princs.PlainPrinc.{PlainPrinc}
use Rattle.kdb_plain.specs.declared.states.State.{State}
use Rattle.master_keys.specs.Adding.{added_masters, added_record, next_version}
use Rattle.master_keys.specs.Chain.{IsChain}
use Rattle.master_keys.specs.First.{master_name}
use Rattle.master_keys.specs.Versions.{last_version}
use Rattle.mkey_admin.specs.KeptMasters.{confounders, kept_added, kept_masters_of}
use Rattle.mkey_admin.specs.Plans.{IsEntry, IsMasterJudged, IsMasterPut, master_denied, masters_full}
use Rattle.mkey_admin.specs.declared.planned.MasterPlan.{MasterPlan}
use Rattle.mkey_admin.specs.declared.planned.Told.TheVariants.{Added}
use Rattle.mkey_admin.proofs.AddedRecord.{added_chain, added_shows, same_masters, still_named}
use Rattle.mkey_admin.proofs.MasterPuts.{MasterPutting, puts}
use Rattle.mkey_admin.proofs.MasterTests.{add_tests}
use Rattle.mkey_admin.proofs.OwnRecord.{own, own_activations, own_chain, own_keys, own_name, there}
use Rattle.mkey_admin.proofs.ToldRows.{denied_alike}
use Rattle.princ_rows.specs.declared.entries.Op.TheVariants as op
use Rattle.princ_record.specs.Princs.{IsPrinc}
use Rattle.princ_record.specs.declared.facts.ChainPart.{ChainPart}
use Rattle.princ_record.specs.declared.princs.Princ.{Princ}
use Rattle.row_keys.specs.Shows.{ShowsChain, ShowsPrinc}
use Rattle.serving_versions.specs.MasterChanges.{adds_master, with_master}

-- ---- names stay

named : (n : List ℕ) (m : Master) (q : PlainPrinc) → q.name ≡ n → (with_master m q).name ≡ n
unfolding with_master
named n m q e = e

added_name : (p : Princ) (masters : List Master) (key : Key) (random : List ℕ)
    → (added_record p masters key random).name ≡ p.name
unfolding added_record
added_name p masters key random = refl

-- ---- room for one more

not_from : (m n : ℕ) → nat_le m n ≡ false → n < m
not_from m n e =
    elim (dec_lt n m) [
      | yes lt ↦ lt
      | no ge ↦ let le = le-leb m n (omega (arith, ge)) in absurd (true_not (nat_le m n) le e)
    ]
  where
    true_not : (b : Bool) → b ≡ true → b ≡ false → ⊥
    true_not b t f = cc

pub has_room : (g : Given) → first (master_denied g ∷ masters_full g ∷ []) ≡ None
    → (length g.masters.now < most_masters) × (last_version g.masters.now < 65535)
has_room g e =
    let full = (none_of (masters_full g) [] (none_of (master_denied g) (masters_full g ∷ []) e).1).0 in
    let parts =
    or_false (nat_le most_masters (length g.masters.now)) (nat_le greatest_kvno (last_version g.masters.now))
    (when_not (nat_le most_masters (length g.masters.now) || nat_le greatest_kvno (last_version g.masters.now))
    (TooManyMasters most_masters) full) in
    (not_from most_masters (length g.masters.now) parts.0, not_from greatest_kvno (last_version g.masters.now) parts.1)

-- ---- plans

module _ (g : Given) (asked : Option Etype) (denied full : Option Refusal)
    (denied_is : denied ≡ master_denied g)
    (full_is : full ≡ masters_full g) where
  full_alike : (s : State) (call : Call) (given : IsGiven g (command.AddMaster asked) s call)
      → too_many_masters s (command.AddMaster asked) ≡ full
  full_alike s call given =
      ap (λ (ms : List Master). when (nat_le most_masters (length ms) || nat_le greatest_kvno (last_version ms))
      (TooManyMasters most_masters)) given.seen.masters_are ∙ sym full_is

  left : (s : State) (call : Call) (given : IsGiven g (command.AddMaster asked) s call) (change : Option PlainOp)
      → entry_of s (told_at g (command.AddMaster asked) given.called.clock) (command.AddMaster asked) ≡ change
      → refusal s (told_at g (command.AddMaster asked) given.called.clock)
      ≡ first (denied ∷ full ∷ too_large s change ∷ [])
  left s call given change e =
      add_tests s g.client.now given.called.clock g.random.now (access_of g) asked change e
      ∙ both _ _ _ _ (denied_alike g (command.AddMaster asked) s call given denied denied_is)
      (both _ _ _ _ (full_alike s call given) refl)

  pub add_refused : (why : Refusal) → first (denied ∷ full ∷ []) ≡ Some why
      → IsMasterJudged g (command.AddMaster asked) (Err why)
  add_refused why is = record {
    plan_is = λ s call given.
        let change = entry_of s (told_at g (command.AddMaster asked) given.called.clock) (command.AddMaster asked) in
        ap (refusal s) given.called.call_is ∙ left s call given change refl
        ∙ early (denied ∷ full ∷ []) (too_large s change ∷ []) why is;
    applies = tt;
  }

  module _ (none : first (denied ∷ full ∷ []) ≡ None) (p : Princ) (part : ChainPart) (entry : IsEntry g p)
      (part_is : p.chain ≡ Some part)
      (newest : Master) (newest_is : last_or None g.masters.now ≡ Some newest) where
    abbrev etype : Etype
    etype = new_etype asked newest

    abbrev made : Princ
    made = kept_added etype g.random.now g.masters.now p

    module _ (masters : List Master)
        (masters_are : masters ≡ added_masters g.masters.now (new_master etype g.random.now g.masters.now).key)
        (chain : IsChain made (added_masters g.masters.now (new_master etype g.random.now g.masters.now).key)) where
      putting : (s : State) (call : Call) (given : IsGiven g (command.AddMaster asked) s call)
          → MasterPutting g (command.AddMaster asked) made masters (Added (next_version g.masters.now)) s call given
      unfolding entry_of adds_master kept_masters_of change_reply
      putting s call given =
          let call_now = told_at g (command.AddMaster asked) given.called.clock in
          let q = own g (command.AddMaster asked) p entry s call given in
          let same = given.seen.masters_are in
          let m = new_master etype g.random.now s.masters in
          let last : last_or None s.masters ≡ Some newest = ap (last_or None) same ∙ newest_is in
          let made_is : made ≡ kept_added etype g.random.now s.masters p =
          ap (λ (ms : List Master). kept_added etype g.random.now ms p) (sym same) in
          let whole : added_masters g.masters.now (new_master etype g.random.now g.masters.now).key
          ≡ s.masters ++ m ∷ [] =
          ap (λ (ms : List Master). added_masters ms (new_master etype g.random.now ms).key) (sym same)
          ∙ same_masters s.masters etype g.random.now in
          let chain_now : IsChain (kept_added etype g.random.now s.masters p) (s.masters ++ m ∷ []) =
          subst (λ (r : Princ). IsChain r (s.masters ++ m ∷ [])) made_is
          (subst (λ (ms : List Master). IsChain made ms) whole chain) in
          let keys = own_keys g (command.AddMaster asked) p entry s call given in
          let old = (own_chain g (command.AddMaster asked) p entry s call given).chain in
          let change : entry_of s call_now (command.AddMaster asked)
          ≡ Some (PutMasters (with_master m q.other) (s.masters ++ m ∷ []) s.activations) = rw (last, q.there) refl in
          record {
            other = with_master m q.other;
            kept = s.masters ++ m ∷ [];
            activations = s.activations;
            tests =
                left s call given (Some (PutMasters (with_master m q.other) (s.masters ++ m ∷ []) s.activations)) change
                ∙ later (denied ∷ full ∷ [])
                (too_large s (Some (PutMasters (with_master m q.other) (s.masters ++ m ∷ []) s.activations)) ∷ []) none;
            entry_is = change;
            shows = subst (λ (r : Princ).
                ShowsPrinc (s.masters ++ m ∷ []) given.seen.shows.history r (with_master m q.other)) (sym made_is)
                (added_shows s.masters given.seen.shows.history etype g.random.now p q.other q.beside keys
                old chain_now);
            chain = subst (λ (r : Princ). ShowsChain (s.masters ++ m ∷ []) s.activations r) (sym made_is)
                (subst (λ (acts : List Activation).
                ShowsChain (s.masters ++ m ∷ []) acts (kept_added etype g.random.now s.masters p))
                (own_activations g (command.AddMaster asked) p entry s call given part part_is)
                (added_chain s.masters given.seen.shows.history etype g.random.now p q.other q.beside keys old part
                part_is chain_now));
            spares = record {
              is_master =
                  named (master_name s.realm) m q.other (own_name g (command.AddMaster asked) p entry s call given);
              same_keys =
                  λ k d lt. inr (still_named s.masters m (get_or s.princs k d).mkvno (given.seen.valid.listed k d lt));
            };
            masters_are = masters_are ∙ whole;
            exact = rw (last, there g (command.AddMaster asked) p entry s call given)
                (ap (λ (r : Princ). Some (op.PutPrinc r)) (sym made_is));
            told_is = λ point. ap (λ (ms : List Master). reply.MasterAdded point (next_version ms)) (sym same);
          }

      pub adds : (plan : Result MasterPlan Refusal)
          → IsPrinc made → IsMasterPut made masters (Added (next_version g.masters.now)) plan
          → IsMasterJudged g (command.AddMaster asked) plan
      adds plan fits put =
          puts g (command.AddMaster asked) p made masters (Added (next_version g.masters.now)) entry fits
          (added_name p g.masters.now (new_master etype g.random.now g.masters.now).key
          (confounders etype g.random.now)) putting plan put

-- ---- what the code makes

pub made_key : (random : List ℕ) (masters : List Master) (etype : Etype) (key : Key) → key.etype ≡ etype
    → key.bytes ≡ take (key_len etype) random → key ≡ (new_master etype random masters).key
unfolding new_master
made_key random masters etype key of_type bytes = ap (λ (t : Etype). record { etype = t; bytes = key.bytes }) of_type
    ∙ ap (λ (bs : List ℕ). record { etype = etype; bytes = bs }) bytes

made_version : (p : Princ) (masters : List Master) (key : Key) (random : List ℕ)
    → (added_record p masters key random).mkvno ≡ next_version masters
unfolding added_record
made_version p masters key random = refl

module _ (g : Given)
    (asked : Option Etype) (p : Princ) (newest : Master) (newest_is : last_or None g.masters.now ≡ Some newest)
    (front : first (master_denied g ∷ masters_full g ∷ []) ≡ None) (entry : IsEntry g p)
    (old : IsChain p g.masters.now)
    (key : Key) (bytes : List ℕ) (key_is : key ≡ (new_master (new_etype asked newest) g.random.now g.masters.now).key)
    (bytes_are : bytes ≡ confounders (new_etype asked newest) g.random.now)
    (made : Princ) (masters : List Master) (made_is : made ≡ added_record p g.masters.now key bytes)
    (masters_are : masters ≡ added_masters g.masters.now key) (chain : IsChain made masters) (fits : IsPrinc made) where
  abbrev whole : List Master
  whole = added_masters g.masters.now (new_master (new_etype asked newest) g.random.now g.masters.now).key

  abbrev kept : Princ
  kept = kept_added (new_etype asked newest) g.random.now g.masters.now p

  same_made : made ≡ kept
  same_made =
      made_is ∙ ap (λ (k : Key). added_record p g.masters.now k bytes) key_is
      ∙ ap (λ (bs : List ℕ).
      added_record p g.masters.now (new_master (new_etype asked newest) g.random.now g.masters.now).key bs) bytes_are

  same_whole : masters ≡ whole
  same_whole = masters_are ∙ ap (added_masters g.masters.now) key_is

  kept_chain : IsChain kept whole
  kept_chain =
      subst (λ (r : Princ). IsChain r whole) same_made (subst (λ (ms : List Master). IsChain made ms) same_whole chain)

  pub added_comes : (plan : Result MasterPlan Refusal) → IsMasterPut made masters (Added made.mkvno) plan
      → IsMasterJudged g (command.AddMaster asked) plan
  added_comes plan put =
      let version : made.mkvno ≡ next_version g.masters.now =
      ap (λ (r : Princ). r.mkvno) made_is ∙ made_version p g.masters.now key bytes in
      adds g asked (master_denied g) (masters_full g) refl refl front p old.under.part entry old.under.part_is newest
      newest_is masters same_whole kept_chain plan (subst IsPrinc same_made fits)
      (subst (λ (r : Princ). IsMasterPut r masters (Added (next_version g.masters.now)) plan) same_made
      (subst (λ n. IsMasterPut made masters (Added n) plan) version put))
