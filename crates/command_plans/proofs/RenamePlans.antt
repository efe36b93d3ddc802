-- Plans of renprinc.
use Rattle.std.proofs.Common.{◌≡◌, ℕ, ◌+◌, ◌^◌, ◌<◌, ◌≤◌, Bool, true, false, ◌&&◌, List, [], ◌∷◌}
use Rattle.std.proofs.Common.{◌++◌, length, Option, Some, None, refl, sym, ap, subst, ◌∙◌, arith}
use Rattle.std.specs.Prelude.{Result, Ok, Err, is_none, is_some, nat_lt}
use Rattle.std.specs.List.{AllZip, list_any}
use Rattle.std.proofs.lemmas.Bool.{le-ltb, lt-ltb}
use Rattle.kadm_commands.specs.Commands.{IsCommand, IsOwnName}
use Rattle.kadm_commands.specs.declared.commands.Command.TheVariants as command
use Rattle.kadm_commands.specs.declared.commands.RenPrinc.{RenPrinc}
use Rattle.command_plans.specs.Causes.{denial_of, is_locked_record}
use Rattle.command_plans.specs.Given.{IsChange, IsGiven, IsJudged}
use Rattle.command_plans.specs.KeptEntries.{kept_entry_of, kept_renamed}
use Rattle.command_plans.specs.Renaming.{IsRenamed, both_asked}
use Rattle.command_plans.specs.Targets.{IsBy, IsPut, IsTooLong, by_given}
use Rattle.command_plans.specs.declared.given.Given.{Given}
use Rattle.command_plans.specs.declared.planned.Planned.{Planned}
use Rattle.command_plans.specs.declared.planned.Planned.TheVariants.{Change}
use Rattle.command_plans.proofs.CommandTests.{rename_rest, rename_tests}
use Rattle.command_plans.proofs.Lists.{both, early, later, nested, none_of, when_not}
use Rattle.command_plans.proofs.PrintedPairs.{not_master}
use Rattle.command_plans.proofs.Puts.{by_alike, len_is, same_history}
use Rattle.command_plans.proofs.RenamedFits.{may_rename, renamed_fits, row_fits, row_name, settled_fit}
use Rattle.command_plans.proofs.Seen.{absent_alike, access_of, found_both, locked_alike, told_at}
use Rattle.kdb_base.specs.Key.{Key}
use Rattle.kdb_base.specs.Limits.{longest_row}
use Rattle.kdb_base.specs.declared.outcomes.Refusal.{Refusal}
use Rattle.kdb_base.specs.declared.outcomes.Refusal.TheVariants.{Duplicate, LockedDown, Protected}
use Rattle.kdb_base.specs.declared.outcomes.Refusal.TheVariants.{RecordTooLarge, UnknownPrincipal}
use Rattle.kdb_base.specs.declared.versions.Master.{Master}
use Rattle.kdb_model.specs.Calls.{Call}
use Rattle.kdb_model.specs.Entries.{entry_of}
use Rattle.kdb_model.specs.Fields.{By, marked, renamed_head}
use Rattle.kdb_model.specs.Records.{renamed}
use Rattle.kdb_model.specs.Refusals.{bytes_put, first, is_protected, refusal, too_large, when}
use Rattle.kdb_model.proofs.Accepted.{two_names}
use Rattle.kdb_plain.specs.Heads.{plain_head, plain_of}
use Rattle.kdb_plain.specs.Lengths.{in_64_bits}
use Rattle.kdb_plain.specs.States.{princ_named}
use Rattle.kdb_plain.specs.declared.changes.PlainOp.TheVariants as plain
use Rattle.kdb_plain.specs.declared.princs.PlainPrinc.{PlainPrinc}
use Rattle.kdb_plain.specs.declared.states.State.{State}
use Rattle.plain_keys.specs.Keys.{settled_items}
use Rattle.princ_rows.specs.declared.entries.Op.TheVariants as op
use Rattle.princ_name.specs.Names.{NameParts, printed}
use Rattle.princ_name.specs.Printed.{is_master}
use Rattle.princ_name.specs.Realms.{IsRealm}
use Rattle.princ_record.specs.Princs.{IsPrinc, princ}
use Rattle.princ_record.specs.declared.facts.ChainPart.{ChainPart}
use Rattle.princ_record.specs.declared.princs.Princ.{Princ}
use Rattle.princ_rows.specs.Rows.{AreRows}
use Rattle.row_keys.proofs.Kept.{settled_shows}
use Rattle.row_keys.proofs.Sides.{both_beside}
use Rattle.row_keys.specs.KeptKeys.{settled_keys}
use Rattle.row_keys.specs.Lookups.{record_named}
use Rattle.row_keys.specs.Shows.{ShowsItem, ShowsPrinc}
use Rattle.row_keys.specs.Sides.{AreBoth, IsBeside}

abbrev pub with_name : By → NameParts → List ℕ → Princ → Princ
with_name by old name p = record (renamed_head name by p) { keys = settled_keys old p.keys }

renamed_shows : (masters : List Master) (history : Key) (by : By) (old : NameParts) (name : List ℕ) (p : Princ)
    (q : PlainPrinc) → ShowsPrinc masters history p q
    → ShowsPrinc masters history (with_name by old name p)
    (plain_of (renamed_head name by (plain_head q)) (settled_items old q.keys) q.old)
renamed_shows masters history by old name p q f = record {
  master = f.master;
  named = f.named;
  under = record {
    fields = ap (renamed_head name by) f.under.fields;
    keys = settled_shows f.master old p.keys q.keys f.under.keys;
    old = f.under.old;
  };
}

both_well : (realm : List ℕ) (c : RenPrinc) → IsCommand realm (command.RenPrinc c)
    → IsOwnName realm c.name × IsOwnName realm c.new_name
unfolding IsCommand
both_well realm c is = is

no_chain : (o : Option ChainPart) → is_some o ≡ false → o ≡ None
no_chain None e = refl
no_chain (Some part) e = absurd cc

both_there : {A B : Type 0} (R : A → B → Type 0) (a : Option A) (b : Option B) → AreBoth R a b → is_some a ≡ is_some b
both_there R None None h = refl
both_there R (Some x) (Some y) h = refl
both_there R None (Some y) h = absurd h
both_there R (Some x) None h = absurd h

free_so : {A : Type 0} (o : Option A) → is_some o ≡ false → o ≡ None
free_so None e = refl
free_so (Some x) e = absurd cc

module _ (g : Given) (c : RenPrinc) where
  abbrev pub denied : Option Refusal
  denied = denial_of (access_of g) g.client.now (both_asked c.name c.new_name)

  abbrev pub protected : Option Refusal
  protected = when (list_any (is_protected g.realm.now) (c.name ∷ c.new_name ∷ [])) Protected

  abbrev pub fresh : Option Princ
  fresh = record_named (printed c.new_name) g.rows.now.princs

  abbrev pub standing : Option Princ
  standing = record_named (printed c.name) g.rows.now.princs

  abbrev pub tests_before : List (Option Refusal)
  tests_before = denied ∷ protected ∷ when (is_some fresh) Duplicate ∷ []

  module _ (s : State) (call : Call) (given : IsGiven g (command.RenPrinc c) s call) where
    abbrev R : Princ → PlainPrinc → Type 0
    R = ShowsPrinc s.masters given.seen.shows.history

    abbrev told : Call
    told = told_at g (command.RenPrinc c) given.called.clock

    sides_of : (name : NameParts)
        → AreBoth R (record_named (printed name) g.rows.now.princs) (princ_named (printed name) s.princs)
    sides_of name = found_both g (command.RenPrinc c) s call given (printed name) (printed name)
        (record_named (printed name) g.rows.now.princs) refl refl

    comes_to : refusal s told ≡ first (denied ∷ protected ∷ when (is_some fresh) Duplicate
        ∷ when (is_none standing) UnknownPrincipal ∷ rename_rest s told c (princ_named (printed c.name) s.princs))
    comes_to =
        rename_tests s g.client.now given.called.clock g.random.now (access_of g) c
        (princ_named (printed c.new_name) s.princs) (princ_named (printed c.name) s.princs) refl refl
        ∙ both _ _ _ _ refl
        (both _ _ _ _
        (ap (λ r. when (list_any (is_protected r) (c.name ∷ c.new_name ∷ [])) Protected) given.seen.realm_is)
        (both _ _ _ _ (ap (λ b. when b Duplicate)
        (sym (both_there R fresh (princ_named (printed c.new_name) s.princs) (sides_of c.new_name))))
        (both _ _ _ _ (ap (λ b. when b UnknownPrincipal) (sym (absent_alike s.masters given.seen.shows.history standing
        (princ_named (printed c.name) s.princs) (sides_of c.name)))) refl)))

    beside_of : (p : Princ) → standing ≡ Some p → IsBeside R p (princ_named (printed c.name) s.princs)
    beside_of p is = both_beside R standing (princ_named (printed c.name) s.princs) p (sides_of c.name) is

    abbrev bytes_tests : PlainPrinc → List (Option Refusal)
    bytes_tests q = too_large s (Some (plain.Rename (printed c.name) (renamed s told c q))) ∷ []

    left_of : (p : Princ) (is : standing ≡ Some p) → first tests_before ≡ None
        → refusal s told ≡ first
        (when (is_some (access_of g) && is_locked_record (Some p)) LockedDown ∷ bytes_tests (beside_of p is).other)
    unfolding first
    left_of p is none =
        comes_to ∙ later tests_before
        (when (is_none standing) UnknownPrincipal ∷ rename_rest s told c (princ_named (printed c.name) s.princs)) none
        ∙ rw (is, (beside_of p is).there)
        (ap (λ b. first (when (is_some (access_of g) && b) LockedDown ∷ bytes_tests (beside_of p is).other))
        (sym (locked_alike s.masters given.seen.shows.history (Some p) (Some (beside_of p is).other)
        (beside_of p is).beside)))

  pub rename_early : (why : Refusal) → first (first tests_before ∷ when (is_none standing) UnknownPrincipal ∷ [])
      ≡ Some why → IsJudged g (command.RenPrinc c) (Err why)
  rename_early why e = record {
    plan_is = λ s call given.
        ap (refusal s) given.called.call_is ∙ comes_to s call given
        ∙ early (denied ∷ protected ∷ when (is_some fresh) Duplicate ∷ when (is_none standing) UnknownPrincipal ∷ [])
        (rename_rest s (told_at g (command.RenPrinc c) given.called.clock) c
        (princ_named (printed c.name) s.princs)) why
        (sym (nested tests_before (when (is_none standing) UnknownPrincipal ∷ [])) ∙ e);
    applies = tt;
  }

  module _ (p : Princ) where
    pub rename_locked : (why : Refusal) → first tests_before ≡ None
        → standing ≡ Some p → when (is_some (access_of g) && is_locked_record (Some p)) LockedDown ≡ Some why
        → IsJudged g (command.RenPrinc c) (Err why)
    unfolding first
    rename_locked why none is locked = record {
      plan_is = λ s call given. ap (refusal s) given.called.call_is ∙ left_of s call given p is none ∙ rw locked refl;
      applies = tt;
    }

    pub rename_found : AreRows g.rows.now → first tests_before ≡ None → standing ≡ Some p
        → when (is_some (access_of g) && is_locked_record (Some p)) LockedDown ≡ None → IsRenamed g c p
    rename_found rows none is unlocked =
        let a = none_of denied (protected ∷ when (is_some fresh) Duplicate ∷ []) none in
        let b = none_of protected (when (is_some fresh) Duplicate ∷ []) a.1 in
        let d = none_of (when (is_some fresh) Duplicate) [] b.1 in
        record {
          allowed = a.0;
          unprotected = when_not (list_any (is_protected g.realm.now) (c.name ∷ c.new_name ∷ [])) Protected b.0;
          free = free_so fresh (when_not (is_some fresh) Duplicate d.0);
          there = is;
          unlocked = when_not (is_some (access_of g) && is_locked_record (Some p)) LockedDown unlocked;
          rows = rows;
        }

    module _ (r : IsRenamed g c p) (by : IsBy (by_given g)) (realm : IsRealm g.realm.now)
        (own : IsCommand g.realm.now (command.RenPrinc c)) where
      abbrev pub rename_made : Princ
      rename_made = with_name (by_given g) c.name (printed c.new_name) p

      was_other : is_master p.name ≡ false
      was_other = ap is_master (row_name (printed c.name) g.rows.now p r.there) ∙ not_master g.realm.now c.name realm
          (both_well g.realm.now c own).0.own (two_names g.realm.now c.name c.new_name r.unprotected).0

      now_other : is_master (printed c.new_name) ≡ false
      now_other = not_master g.realm.now c.new_name realm (both_well g.realm.now c own).1.own
          (two_names g.realm.now c.name c.new_name r.unprotected).1

      was_fit : IsPrinc p
      was_fit = row_fits (printed c.name) g.rows.now p r.rows r.there

      pub rename_fits : IsPrinc rename_made
      rename_fits =
          renamed_fits (by_given g) (printed c.new_name) (settled_keys c.name p.keys) p by
          (c.new_name, ((both_well g.realm.now c own).1.is_name, refl)) now_other was_other
          (settled_fit c.name p.keys (both_well g.realm.now c own).0.is_name was_fit.keys) was_fit

      nothing_before : first tests_before ≡ None
      unfolding first
      nothing_before = rw (r.allowed, r.unprotected, r.free) refl

      module _ (s : State) (call : Call) (given : IsGiven g (command.RenPrinc c) s call) where
        abbrev other : PlainPrinc
        other = renamed s (told s call given) c (beside_of s call given p r.there).other

        made_shows : ShowsPrinc s.masters given.seen.shows.history rename_made other
        unfolding renamed
        made_shows = subst (λ (b : By). ShowsPrinc s.masters given.seen.shows.history rename_made
            (plain_of (renamed_head (printed c.new_name) b (plain_head (beside_of s call given p r.there).other))
            (settled_items c.name (beside_of s call given p r.there).other.keys)
            (beside_of s call given p r.there).other.old))
            (sym (by_alike g (command.RenPrinc c) s call given))
            (renamed_shows s.masters given.seen.shows.history (by_given g) c.name (printed c.new_name) p
            (beside_of s call given p r.there).other (beside_of s call given p r.there).beside)

        size_of : bytes_put s (Some (plain.Rename (printed c.name) other)) ≡ length (princ rename_made)
        unfolding bytes_put
        size_of = len_is s given.seen.shows.history rename_made other given.seen.shows.history_is made_shows
            (no_chain p.chain (was_fit.facts.chain_there ∙ was_other))

        judged_by : refusal s (told s call given) ≡ first (when (nat_lt longest_row (length (princ rename_made)))
            (RecordTooLarge (in_64_bits (length (princ rename_made)))) ∷ [])
        unfolding first
        judged_by =
            left_of s call given p r.there nothing_before
            ∙ rw r.unlocked (ap (λ n. first (when (nat_lt longest_row n) (RecordTooLarge (in_64_bits n)) ∷ [])) size_of)

        makes_op : IsChange g.rows.now s (told s call given) (op.Rename (printed c.name) rename_made)
            → IsChange g.rows.now s call (op.Rename (printed c.name) rename_made)
        makes_op = subst (λ (x : Call). IsChange g.rows.now s x (op.Rename (printed c.name) rename_made))
            (sym given.called.call_is)

      in_few_bits : (n : ℕ) → n < 2 ^ 64 → in_64_bits n ≡ n
      in_few_bits n lt = omega (arith, lt)

      rename_long : (why : Refusal) → IsTooLong rename_made why → IsJudged g (command.RenPrinc c) (Err why)
      unfolding first
      rename_long why is = record {
        plan_is = λ s call given.
            let over : nat_lt longest_row (length (princ rename_made)) ≡ true =
            lt-ltb longest_row (length (princ rename_made)) is.long in
            ap (refusal s) given.called.call_is ∙ judged_by s call given
            ∙ rw (over, in_few_bits (length (princ rename_made)) is.told) (ap Some (sym is.why_is));
        applies = tt;
      }

      rename_short : length (princ rename_made) ≤ longest_row
          → IsJudged g (command.RenPrinc c) (Ok (Change (op.Rename (printed c.name) rename_made)))
      unfolding first entry_of kept_entry_of kept_renamed
      rename_short short = record {
        plan_is = λ s call given.
            let within : nat_lt longest_row (length (princ rename_made)) ≡ false =
            le-ltb longest_row (length (princ rename_made)) short in
            makes_op s call given (record {
              accepted = judged_by s call given ∙ rw within refl;
              plain = plain.Rename (printed c.name) (other s call given);
              entry_is = rw (beside_of s call given p r.there).there refl;
              shown = λ history is. (
                refl,
                subst (λ (h : Key). ShowsPrinc s.masters h rename_made (other s call given))
                    (same_history s given.seen.shows.history history given.seen.shows.history_is is)
                    (made_shows s call given),
              );
              exact = rw r.there
                  (ap (λ (b : By). Some (op.Rename (printed c.name) (with_name b c.name (printed c.new_name) p)))
                  (by_alike g (command.RenPrinc c) s call given));
            });
        applies = record {
          spelled =
              ((c.name, ((both_well g.realm.now c own).0.is_name, refl)), record { fits = rename_fits; short = short });
          applies = may_rename (printed c.name) rename_made p g.rows.now r.rows r.there r.free;
        };
      }

      pub renames : (plan : Result Planned Refusal) → IsPut (op.Rename (printed c.name)) rename_made plan
          → IsJudged g (command.RenPrinc c) plan
      renames (Ok planned) put =
          subst (λ (x : Planned). IsJudged g (command.RenPrinc c) (Ok x)) (sym put.0) (rename_short put.1)
      renames (Err why) put = rename_long why put
