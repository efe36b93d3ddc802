-- Plans that put K/M's record.
use Rattle.std.proofs.Common.{◌≡◌, ℕ, ◌^◌, ◌<◌, ◌≤◌, true, false, List, [], ◌∷◌, length}
use Rattle.std.proofs.Common.{Option, Some, None, refl, sym, ap, subst, ◌∙◌, arith}
use Rattle.std.specs.Prelude.{Result, Ok, Err, nat_lt}
use Rattle.std.proofs.lemmas.Bool.{le-ltb, lt-ltb}
use Rattle.command_plans.specs.Given.{IsAnswer, IsGiven}
use Rattle.command_plans.specs.Targets.{IsTooLong}
use Rattle.command_plans.specs.declared.given.Given.{Given}
use Rattle.command_plans.proofs.Puts.{same_history}
use Rattle.command_plans.proofs.Rooms.{may_replace}
use Rattle.command_plans.proofs.Seen.{ComesTo, told_at}
use Rattle.kadm_commands.specs.declared.commands.Command.{Command}
use Rattle.kadm_commands.specs.declared.replies.Reply.{Reply}
use Rattle.kdb_base.specs.Key.{Key}
use Rattle.kdb_base.specs.Limits.{longest_row}
use Rattle.kdb_base.specs.declared.moments.Point.{Point}
use Rattle.kdb_base.specs.declared.outcomes.Refusal.{Refusal}
use Rattle.kdb_base.specs.declared.outcomes.Refusal.TheVariants.{RecordTooLarge}
use Rattle.kdb_base.specs.declared.versions.Activation.{Activation}
use Rattle.kdb_base.specs.declared.versions.Master.{Master}
use Rattle.kdb_model.specs.Calls.{Call}
use Rattle.kdb_model.specs.Entries.{entry}
use Rattle.kdb_model.specs.Refusals.{bytes_put, first, len_under, refusal, too_large, when}
use Rattle.kdb_model.specs.Steps.{change_reply, reading}
use Rattle.kdb_places.specs.Applying.{may_apply}
use Rattle.kdb_plain.specs.Changes.{effect_on}
use Rattle.kdb_plain.specs.Lengths.{in_64_bits}
use Rattle.kdb_plain.specs.States.{history_key, master_of}
use Rattle.kdb_plain.specs.declared.changes.PlainOp.TheVariants.{PutMasters}
use Rattle.kdb_plain.specs.declared.princs.PlainPrinc.{PlainPrinc}
use Rattle.kdb_plain.specs.declared.states.State.{State}
use Rattle.mkey_admin.specs.KeptMasters.{kept_masters}
use Rattle.mkey_admin.specs.Plans.{IsEntry, IsMasterChange, IsMasterJudged, IsMasterPut, reply_at}
use Rattle.mkey_admin.specs.declared.planned.MasterPlan.{MasterPlan}
use Rattle.mkey_admin.specs.declared.planned.MasterPlan.TheVariants.{Answer, Change}
use Rattle.mkey_admin.specs.declared.planned.Told.{Told}
use Rattle.mkey_admin.proofs.OwnRecord.{entry_name}
use Rattle.princ_rows.specs.declared.entries.Op.TheVariants as op
use Rattle.princ_record.specs.Princs.{IsPrinc, princ}
use Rattle.princ_record.specs.declared.princs.Princ.{Princ}
use Rattle.row_keys.proofs.Effects.{change_shows}
use Rattle.row_keys.proofs.Lengths.{chain_long, row_long}
use Rattle.row_keys.proofs.Names.{same_mkvno}
use Rattle.row_keys.specs.Lookups.{record_named}
use Rattle.row_keys.specs.ShownChanges.{MayPutMasters}
use Rattle.row_keys.specs.Shows.{ShowsChain, ShowsPrinc}

-- ---- refusals and answers

module _ (g : Given) (cmd : Command) (causes : List (Option Refusal)) (to : ComesTo g cmd causes) where
  pub refused : (why : Refusal) → first causes ≡ Some why → IsMasterJudged g cmd (Err why)
  refused why is = record { plan_is = λ s call given. to s call given ∙ is; applies = tt }

  pub answered : (reply : Reply) → first causes ≡ None
      → ((s : State) (call : Call) (given : IsGiven g cmd s call)
      → (entry s (told_at g cmd given.called.clock) ≡ None) × (reply ≡ reading s (told_at g cmd given.called.clock)))
      → IsMasterJudged g cmd (Ok (Answer reply))
  answered reply none each = record {
    plan_is = λ s call given. subst (λ (c : Call). IsAnswer s c reply) (sym given.called.call_is) (record {
      accepted = ap (refusal s) (sym given.called.call_is) ∙ to s call given ∙ none;
      no_entry = (each s call given).0;
      reply_is = (each s call given).1;
    });
    applies = tt;
  }

-- ---- the length of K/M's row is told of the plain principal

pub master_len_is : (s : State) (history : Key) (p : Princ) (q : PlainPrinc) (masters : List Master)
    (activations : List Activation) → history_key s.realm s.princs ≡ Some history
    → ShowsPrinc masters history p q → ShowsChain masters activations p
    → bytes_put s (Some (PutMasters q masters activations)) ≡ length (princ p)
unfolding bytes_put len_under
master_len_is s history p q masters activations is f chain =
    let named : master_of masters q.mkvno ≡ Some f.master = ap (master_of masters) (sym (same_mkvno p q f)) ∙ f.named in
    rw (named, is) (omega (arith, row_long f.master history p q f.under, chain_long masters activations p chain))

-- ---- a record that is put

-- In a state, the change puts this K/M with these master keys and activations, and nothing is left of the causes but
-- the length of its row.
pub record MasterPutting (g : Given) (cmd : Command) (made : Princ) (masters : List Master) (told : Told) (s : State)
    (call : Call) (given : IsGiven g cmd s call) : Type 0 where
  pub other : PlainPrinc
  pub kept : List Master
  pub activations : List Activation
  pub tests : refusal s (told_at g cmd given.called.clock)
      ≡ first (too_large s (Some (PutMasters other kept activations)) ∷ [])
  pub entry_is : entry s (told_at g cmd given.called.clock) ≡ Some (PutMasters other kept activations)
  pub shows : ShowsPrinc kept given.seen.shows.history made other
  pub chain : ShowsChain kept activations made
  pub spares : MayPutMasters s other kept
  pub masters_are : masters ≡ kept
  pub exact : kept_masters g.rows.now s (told_at g cmd given.called.clock) ≡ Some (op.PutPrinc made)
  pub told_is : (point : Point) → reply_at point told ≡ change_reply s (told_at g cmd given.called.clock) point cmd

module _ (g : Given) (cmd : Command) (p made : Princ) (masters : List Master) (told : Told) (is : IsEntry g p)
    (fits : IsPrinc made) (name : made.name ≡ p.name)
    (each : (s : State) (call : Call) (given : IsGiven g cmd s call)
    → MasterPutting g cmd made masters told s call given) where
  size_is : (s : State) (call : Call) (given : IsGiven g cmd s call) → bytes_put s
      (Some (PutMasters (each s call given).other (each s call given).kept (each s call given).activations))
      ≡ length (princ made)
  size_is s call given =
      let e = each s call given in
      master_len_is s given.seen.shows.history made e.other e.kept e.activations given.seen.shows.history_is
      e.shows e.chain

  in_few_bits : (n : ℕ) → n < 2 ^ 64 → in_64_bits n ≡ n
  in_few_bits n lt = omega (arith, lt)

  too_long : (why : Refusal) → IsTooLong made why → IsMasterJudged g cmd (Err why)
  unfolding first
  too_long why long = record {
    plan_is = λ s call given.
        let over : nat_lt longest_row (length (princ made)) ≡ true =
        lt-ltb longest_row (length (princ made)) long.long in
        ap (refusal s) given.called.call_is ∙ (each s call given).tests
        ∙ ap (λ n. first (when (nat_lt longest_row n) (RecordTooLarge (in_64_bits n)) ∷ [])) (size_is s call given)
        ∙ rw (over, in_few_bits (length (princ made)) long.told) (ap Some (sym long.why_is));
    applies = tt;
  }

  room : may_apply (op.PutPrinc made) g.rows.now ≡ true
  room = may_replace made p g.rows.now is.rows
      (ap (λ n. record_named n g.rows.now.princs) (name ∙ entry_name g p is) ∙ is.there)

  puts_so : length (princ made) ≤ longest_row
      → IsMasterJudged g cmd (Ok (Change (record { op = op.PutPrinc made; masters = masters; told = told })))
  unfolding first effect_on
  puts_so short = record {
    plan_is = λ s call given. subst (λ (c : Call). IsMasterChange g.rows.now s c
        (record { op = op.PutPrinc made; masters = masters; told = told })) (sym given.called.call_is)
        (let within : nat_lt longest_row (length (princ made)) ≡ false =
        le-ltb longest_row (length (princ made)) short in
        let e = each s call given in
        record {
          accepted = e.tests ∙ ap (λ n. first (when (nat_lt longest_row n) (RecordTooLarge (in_64_bits n)) ∷ []))
              (size_is s call given) ∙ rw within refl;
          plain = PutMasters e.other e.kept e.activations;
          entry_is = e.entry_is;
          shown = λ history history_is. (
            subst (λ (h : Key). ShowsPrinc e.kept h made e.other)
                (same_history s given.seen.shows.history history given.seen.shows.history_is history_is) e.shows,
            e.chain,
          );
          left = change_shows g.rows.now s (op.PutPrinc made) (PutMasters e.other e.kept e.activations) given.seen.shows
              (e.shows, e.chain) e.spares;
          masters_are = e.masters_are;
          exact = e.exact;
          told_is = e.told_is;
        });
    applies = record { spelled = record { fits = fits; short = short }; applies = room };
  }

  pub puts : (plan : Result MasterPlan Refusal) → IsMasterPut made masters told plan → IsMasterJudged g cmd plan
  puts (Ok planned) put = subst (λ (x : MasterPlan). IsMasterJudged g cmd (Ok x)) (sym put.0) (puts_so put.1)
  puts (Err why) put = too_long why put
