-- Plans that put a record.
use Rattle.std.proofs.Common.{◌≡◌, ℕ, ◌^◌, ◌<◌, ◌≤◌, true, false, List, [], ◌∷◌, length}
use Rattle.std.proofs.Common.{Option, Some, None, refl, sym, ap, subst, ◌∙◌, arith}
use Rattle.std.specs.Prelude.{Result, Ok, Err, is_none, is_some, nat_lt}
use Rattle.std.specs.List.{list_any}
use Rattle.std.proofs.lemmas.Bool.{le-ltb, lt-ltb}
use Rattle.kadm_commands.specs.declared.commands.Command.{Command}
use Rattle.command_plans.specs.Causes.{denial_of}
use Rattle.command_plans.specs.Given.{IsChange, IsGiven, IsJudged}
use Rattle.command_plans.specs.KeptEntries.{kept_entry}
use Rattle.command_plans.specs.Targets.{IsPut, IsTarget, IsTooLong, by_given, target_refusal}
use Rattle.command_plans.specs.declared.given.Given.{Given}
use Rattle.command_plans.specs.declared.planned.Planned.{Planned}
use Rattle.command_plans.specs.declared.planned.Planned.TheVariants.{Change}
use Rattle.command_plans.proofs.Lists.{early, there}
use Rattle.command_plans.proofs.PrintedPairs.{not_master}
use Rattle.command_plans.proofs.Rooms.{found_holds}
use Rattle.command_plans.proofs.Seen.{access_of, found_both, told_at}
use Rattle.kdb_base.specs.Key.{Key}
use Rattle.kdb_base.specs.Limits.{longest_row}
use Rattle.kdb_base.specs.Moment.{Moment}
use Rattle.kdb_base.specs.declared.outcomes.Refusal.{Refusal}
use Rattle.kdb_base.specs.declared.outcomes.Refusal.TheVariants.{Protected, RecordTooLarge, UnknownPrincipal}
use Rattle.kdb_model.specs.Access.{asking}
use Rattle.kdb_places.specs.Applying.{may_apply}
use Rattle.kdb_model.specs.Calls.{Call}
use Rattle.kdb_model.specs.Entries.{entry}
use Rattle.kdb_model.specs.Records.{by_of}
use Rattle.kdb_model.specs.Refusals.{bytes_put, first, is_protected, len_under, refusal, too_large, when}
use Rattle.kdb_model.proofs.Accepted.{one_name}
use Rattle.kdb_plain.specs.Lengths.{in_64_bits}
use Rattle.kdb_plain.specs.States.{history_key, master_of, princ_named}
use Rattle.kdb_plain.specs.declared.changes.PlainOp.TheVariants as plain
use Rattle.kdb_plain.specs.declared.princs.PlainPrinc.{PlainPrinc}
use Rattle.kdb_plain.specs.declared.states.State.{State}
use Rattle.princ_rows.specs.EntryLaws.{same_bytes}
use Rattle.princ_rows.specs.declared.entries.Op.TheVariants as op
use Rattle.princ_name.specs.Names.{NameParts, printed}
use Rattle.princ_name.specs.Printed.{is_master}
use Rattle.princ_name.specs.Realms.{IsRealm}
use Rattle.princ_record.specs.Princs.{IsPrinc, princ}
use Rattle.princ_record.specs.RowLimits.{IsRow}
use Rattle.princ_record.specs.Sizes as sizes
use Rattle.princ_record.specs.declared.facts.ChainPart.{ChainPart}
use Rattle.princ_record.specs.declared.princs.Princ.{Princ}
use Rattle.princ_rows.specs.Rows.{AreRows}
use Rattle.row_keys.proofs.Formed.{items_from}
use Rattle.row_keys.proofs.Lengths.{row_long}
use Rattle.row_keys.proofs.Names.{same_mkvno}
use Rattle.row_keys.proofs.Sides.{both_beside}
use Rattle.row_keys.proofs.Whole.{find_there}
use Rattle.row_keys.specs.Formed.{AreItems}
use Rattle.row_keys.specs.Lookups.{has_name, record_named}
use Rattle.row_keys.specs.Shows.{ShowsPrinc}
use Rattle.row_keys.specs.Sides.{AreBoth, IsBeside}

-- ---- who changes a record

pub by_alike : (g : Given) (cmd : Command) (s : State) (call : Call) (given : IsGiven g cmd s call)
    → by_of s (told_at g cmd given.called.clock) ≡ by_given g
by_alike g cmd s call given =
    ap (λ (m : Moment). record { client = printed g.client.now; secs = m.secs }) given.called.moment_is

-- ---- what is known of a target

module _ (g : Given) (letter : ℕ) (name : NameParts) (p : Princ) (target : IsTarget g letter name p) where
  pub target_name : p.name ≡ printed name
  unfolding record_named
  target_name =
      same_bytes p.name (printed name) (find_there (has_name (printed name)) g.rows.now.princs p target.there).1

  pub target_fits : IsPrinc p
  unfolding record_named
  target_fits = (found_holds IsRow (has_name (printed name)) g.rows.now.princs p target.there target.rows.princs).fits

  pub target_other : IsRealm g.realm.now → name.realm ≡ g.realm.now → is_master p.name ≡ false
  target_other is own =
      ap is_master target_name ∙ not_master g.realm.now name is own (one_name g.realm.now name target.unprotected)

  pub target_alone : IsRealm g.realm.now → name.realm ≡ g.realm.now → p.chain ≡ None
  target_alone is own = no_chain p.chain (target_fits.facts.chain_there ∙ target_other is own)
    where
      no_chain : (o : Option ChainPart) → is_some o ≡ false → o ≡ None
      no_chain None e = refl
      no_chain (Some part) e = absurd cc

-- ---- a command of one principal that has to be there

-- the tests behind those of the target, over the plain principal

-- the tests that the target owes, in a state
abbrev front : Given → ℕ → NameParts → State → List (Option Refusal)
front g letter name s = denial_of (access_of g) g.client.now (asking letter name ∷ [])
    ∷ when (list_any (is_protected s.realm) (name ∷ [])) Protected ∷ []

pub record Touches (g : Given) (cmd : Command) (letter : ℕ) (name : NameParts)
    (rest : State → Call → PlainPrinc → List (Option Refusal)) : Type 0 where
  pub absent : (s : State) (clock : Moment) → princ_named (printed name) s.princs ≡ None
      → refusal s (told_at g cmd clock) ≡ first (denial_of (access_of g) g.client.now (asking letter name ∷ [])
      ∷ when (list_any (is_protected s.realm) (name ∷ [])) Protected ∷ Some UnknownPrincipal ∷ [])
  pub present : (s : State) (clock : Moment) (q : PlainPrinc) → AreItems q.keys
      → princ_named (printed name) s.princs ≡ Some q
      → refusal s (told_at g cmd clock) ≡ first (denial_of (access_of g) g.client.now (asking letter name ∷ [])
      ∷ when (list_any (is_protected s.realm) (name ∷ [])) Protected ∷ rest s (told_at g cmd clock) q)

module _ (g : Given) (cmd : Command) (letter : ℕ) (name : NameParts)
    (rest : State → Call → PlainPrinc → List (Option Refusal)) (touches : Touches g cmd letter name rest) where
  abbrev denied : Option Refusal
  denied = denial_of (access_of g) g.client.now (asking letter name ∷ [])

  abbrev protected : Option Refusal
  protected = when (list_any (is_protected g.realm.now) (name ∷ [])) Protected

  keys_in_form : (s : State) (call : Call) (given : IsGiven g cmd s call) (rows : AreRows g.rows.now) (p : Princ)
      (q : PlainPrinc) → record_named (printed name) g.rows.now.princs ≡ Some p
      → ShowsPrinc s.masters given.seen.shows.history p q → AreItems q.keys
  unfolding record_named
  keys_in_form s call given rows p q e f =
      items_from f.master p.keys q.keys f.under.keys
      (found_holds IsRow (has_name (printed name)) g.rows.now.princs p e rows.princs).fits.keys

  -- in a state
  early_in : (rows : AreRows g.rows.now) (s : State) (call : Call) (given : IsGiven g cmd s call) (found : Option Princ)
      (other : Option PlainPrinc) (why : Refusal)
      → record_named (printed name) g.rows.now.princs ≡ found → princ_named (printed name) s.princs ≡ other
      → AreBoth (ShowsPrinc s.masters given.seen.shows.history) found other
      → first (denied ∷ protected ∷ when (is_none found) UnknownPrincipal ∷ []) ≡ Some why
      → refusal s (told_at g cmd given.called.clock) ≡ Some why
  unfolding first
  early_in rows s call given None None why here there sides e =
      touches.absent s given.called.clock there
      ∙ ap (λ r. first (denied ∷ when (list_any (is_protected r) (name ∷ [])) Protected ∷ Some UnknownPrincipal ∷ []))
      given.seen.realm_is ∙ e
  early_in rows s call given (Some p) (Some q) why here there sides e =
      touches.present s given.called.clock q (keys_in_form s call given rows p q here sides) there
      ∙ ap (λ r. first (denied ∷ when (list_any (is_protected r) (name ∷ [])) Protected
      ∷ rest s (told_at g cmd given.called.clock) q)) given.seen.realm_is
      ∙ early (denied ∷ protected ∷ []) (rest s (told_at g cmd given.called.clock) q) why
      (drop_none denied protected why e)
    where
      drop_none : (a b : Option Refusal) (w : Refusal) → first (a ∷ b ∷ None ∷ []) ≡ Some w
          → first (a ∷ b ∷ []) ≡ Some w
      drop_none None None w f = absurd cc
      drop_none None (Some x) w f = f
      drop_none (Some x) b w f = f
  early_in rows s call given None (Some q) why here there sides e = absurd sides
  early_in rows s call given (Some p) None why here there sides e = absurd sides

  pub touch_early : (why : Refusal) → AreRows g.rows.now → target_refusal g letter name ≡ Some why
      → IsJudged g cmd (Err why)
  touch_early why rows e = record {
    plan_is = λ s call given.
        ap (refusal s) given.called.call_is
        ∙ early_in rows s call given (record_named (printed name) g.rows.now.princs)
        (princ_named (printed name) s.princs) why refl refl
        (found_both g cmd s call given (printed name) (printed name)
        (record_named (printed name) g.rows.now.princs) refl refl) e;
    applies = tt;
  }

  module _ (p : Princ) (target : IsTarget g letter name p) where
    pub target_beside : (s : State) (call : Call) (given : IsGiven g cmd s call)
        → IsBeside (ShowsPrinc s.masters given.seen.shows.history) p (princ_named (printed name) s.princs)
    target_beside s call given =
        both_beside (ShowsPrinc s.masters given.seen.shows.history) (record_named (printed name) g.rows.now.princs)
        (princ_named (printed name) s.princs) p
        (found_both g cmd s call given (printed name) (printed name)
        (record_named (printed name) g.rows.now.princs) refl refl) target.there

    -- what is left of the causes
    pub touch_left : (s : State) (call : Call) (given : IsGiven g cmd s call)
        → refusal s (told_at g cmd given.called.clock)
        ≡ first (rest s (told_at g cmd given.called.clock) (target_beside s call given).other)
    unfolding first
    touch_left s call given =
        let q = target_beside s call given in
        touches.present s given.called.clock q.other
        (keys_in_form s call given target.rows p q.other target.there q.beside) q.there
        ∙ ap (λ r. first (denied ∷ when (list_any (is_protected r) (name ∷ [])) Protected
        ∷ rest s (told_at g cmd given.called.clock) q.other)) given.seen.realm_is
        ∙ rw (target.allowed, target.unprotected) refl

    pub touch_refused : (why : Refusal)
        → ((s : State) (call : Call) (given : IsGiven g cmd s call)
        → first (rest s (told_at g cmd given.called.clock) (target_beside s call given).other) ≡ Some why)
        → IsJudged g cmd (Err why)
    touch_refused why each = record {
      plan_is = λ s call given. ap (refusal s) given.called.call_is ∙ touch_left s call given ∙ each s call given;
      applies = tt;
    }

-- ---- a record that is put

pub same_history : (s : State) (a b : Key) → history_key s.realm s.princs ≡ Some a
    → history_key s.realm s.princs ≡ Some b → a ≡ b
same_history s a b e f = some_same (sym e ∙ f)
  where
    some_same : ◌≡◌ {A = Option Key} (Some a) (Some b) → a ≡ b
    some_same h = cc

-- the length of a row is told of the plain principal
pub len_is : (s : State) (history : Key) (p : Princ) (q : PlainPrinc) → history_key s.realm s.princs ≡ Some history
    → ShowsPrinc s.masters history p q → p.chain ≡ None
    → len_under s.masters (history_key s.realm s.princs) q ≡ length (princ p)
unfolding len_under
len_is s history p q is f none =
    let named : master_of s.masters q.mkvno ≡ Some f.master =
    ap (master_of s.masters) (sym (same_mkvno p q f)) ∙ f.named in
    rw (named, is) (omega (arith, row_long f.master history p q f.under, ap sizes.chain_len none))

-- in a state, the change puts this principal, and nothing is left of the causes but the length of its row
pub record Putting (g : Given) (cmd : Command) (made : Princ) (s : State) (call : Call)
    (given : IsGiven g cmd s call) : Type 0 where
  pub other : PlainPrinc
  pub tests : refusal s (told_at g cmd given.called.clock) ≡ first (too_large s (Some (plain.PutPrinc other)) ∷ [])
  pub entry_is : entry s (told_at g cmd given.called.clock) ≡ Some (plain.PutPrinc other)
  pub shows : ShowsPrinc s.masters given.seen.shows.history made other
  pub exact : kept_entry g.rows.now s (told_at g cmd given.called.clock) ≡ Some (op.PutPrinc made)

module _ (g : Given) (cmd : Command) (made : Princ) (fits : IsPrinc made) (alone : made.chain ≡ None)
    (each : (s : State) (call : Call) (given : IsGiven g cmd s call) → Putting g cmd made s call given) where
  size_is : (s : State) (call : Call) (given : IsGiven g cmd s call)
      → bytes_put s (Some (plain.PutPrinc (each s call given).other)) ≡ length (princ made)
  unfolding bytes_put
  size_is s call given = len_is s given.seen.shows.history made (each s call given).other given.seen.shows.history_is
      (each s call given).shows alone

  in_few_bits : (n : ℕ) → n < 2 ^ 64 → in_64_bits n ≡ n
  in_few_bits n lt = omega (arith, lt)

  too_long : (why : Refusal) → IsTooLong made why → IsJudged g cmd (Err why)
  unfolding first
  too_long why is = record {
    plan_is = λ s call given.
        let over : nat_lt longest_row (length (princ made)) ≡ true = lt-ltb longest_row (length (princ made)) is.long in
        ap (refusal s) given.called.call_is ∙ (each s call given).tests
        ∙ ap (λ n. first (when (nat_lt longest_row n) (RecordTooLarge (in_64_bits n)) ∷ [])) (size_is s call given)
        ∙ rw (over, in_few_bits (length (princ made)) is.told) (ap Some (sym is.why_is));
    applies = tt;
  }

  puts_so : length (princ made) ≤ longest_row → may_apply (op.PutPrinc made) g.rows.now ≡ true
      → IsJudged g cmd (Ok (Change (op.PutPrinc made)))
  unfolding first
  puts_so short room = record {
    plan_is =
        λ s call given. subst (λ (c : Call). IsChange g.rows.now s c (op.PutPrinc made)) (sym given.called.call_is)
        (let within : nat_lt longest_row (length (princ made)) ≡ false =
        le-ltb longest_row (length (princ made)) short in
        let e = each s call given in
        record {
          accepted = e.tests ∙ ap (λ n. first (when (nat_lt longest_row n) (RecordTooLarge (in_64_bits n)) ∷ []))
              (size_is s call given) ∙ rw within refl;
          plain = plain.PutPrinc e.other;
          entry_is = e.entry_is;
          shown = λ history is. subst (λ (h : Key). ShowsPrinc s.masters h made e.other)
              (same_history s given.seen.shows.history history given.seen.shows.history_is is) e.shows;
          exact = e.exact;
        });
    applies = record { spelled = record { fits = fits; short = short }; applies = room };
  }

  pub puts : (plan : Result Planned Refusal) → IsPut op.PutPrinc made plan
      → may_apply (op.PutPrinc made) g.rows.now ≡ true → IsJudged g cmd plan
  puts (Ok planned) put room = subst (λ (x : Planned). IsJudged g cmd (Ok x)) (sym put.0) (puts_so put.1 room)
  puts (Err why) put room = too_long why put
