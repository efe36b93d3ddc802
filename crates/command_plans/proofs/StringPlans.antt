-- Plans of setstr and delstr.
use Rattle.std.proofs.Common.{◌≡◌, ℕ, Bool, true, false, List, length, Some, refl, sym, ap, subst, ◌∙◌}
use Rattle.std.specs.Prelude.{Result, Err, IsTrue, nat_lt}
use Rattle.std.proofs.lemmas.Bool.{le-ltb}
use Rattle.kadm_commands.specs.Commands.{IsCommand}
use Rattle.kadm_commands.specs.declared.commands.Command.TheVariants as command
use Rattle.kadm_commands.specs.declared.commands.DelString.{DelString}
use Rattle.kadm_commands.specs.declared.commands.SetString.{SetString}
use Rattle.command_plans.specs.Given.{IsGiven, IsJudged}
use Rattle.command_plans.specs.KeptEntries.{kept_entry_of, kept_restrung}
use Rattle.command_plans.specs.Targets.{IsBy, IsPut, IsTarget, by_given, target_refusal}
use Rattle.command_plans.specs.declared.given.Given.{Given}
use Rattle.command_plans.specs.declared.planned.Planned.{Planned}
use Rattle.command_plans.proofs.CommandTests.{drop_string_absent, drop_string_present, drop_string_rest}
use Rattle.command_plans.proofs.CommandTests.{set_string_absent, set_string_present, set_string_rest}
use Rattle.command_plans.proofs.Fits.{marked_fits, restrung_fits}
use Rattle.command_plans.proofs.Puts.{Touches, by_alike, puts, target_alone, target_beside, target_fits}
use Rattle.command_plans.proofs.Puts.{target_name, target_other, touch_early, touch_left, touch_refused}
use Rattle.command_plans.proofs.Rooms.{may_replace}
use Rattle.command_plans.proofs.Seen.{access_of, told_at}
use Rattle.kdb_base.specs.Key.{Key}
use Rattle.kdb_base.specs.Limits.{most_keys, most_strings}
use Rattle.kdb_base.specs.declared.outcomes.Refusal.{Refusal}
use Rattle.kdb_base.specs.declared.outcomes.Refusal.TheVariants.{StringsFull, UnknownString}
use Rattle.kdb_base.specs.declared.versions.Master.{Master}
use Rattle.kdb_model.specs.Access.{modifying}
use Rattle.kdb_model.specs.Calls.{Call}
use Rattle.kdb_model.specs.Entries.{entry_of}
use Rattle.kdb_model.specs.Fields.{By, marked}
use Rattle.kdb_model.specs.Records.{restrung}
use Rattle.kdb_model.specs.Refusals.{first}
use Rattle.kdb_plain.proofs.StringsInForm.{set_in_form, taken_in_form}
use Rattle.kdb_plain.specs.Heads.{plain_head, plain_of}
use Rattle.kdb_plain.specs.Strings.{has_room_for, has_string, with_string, without_string}
use Rattle.kdb_plain.specs.declared.princs.PlainPrinc.{PlainPrinc}
use Rattle.kdb_plain.specs.declared.states.State.{State}
use Rattle.plain_keys.specs.declared.items.PlainItem.{PlainItem}
use Rattle.princ_rows.specs.declared.entries.Op.TheVariants as op
use Rattle.princ_name.specs.Realms.{IsRealm}
use Rattle.princ_record.specs.Princs.{IsPrinc}
use Rattle.princ_record.specs.declared.princs.Princ.{Princ}
use Rattle.princ_rows.specs.Rows.{AreRows}
use Rattle.kdb_plain.specs.States.{princ_named}
use Rattle.princ_name.specs.Names.{printed}
use Rattle.row_keys.specs.Lookups.{record_named}
use Rattle.row_keys.specs.Sides.{IsBeside}
use Rattle.tagged_data.specs.Strings.{is_string_key, is_string_value}
use Rattle.row_keys.specs.Formed.{AreItems}
use Rattle.row_keys.specs.Shows.{ShowsPrinc}
use Rattle.tagged_data.specs.declared.string_attributes.StringAttribute.{StringAttribute}

-- a record with other attributes shows the principal with them
abbrev pub with_list : By → (List StringAttribute → List StringAttribute) → Princ → Princ
with_list by change h = record (marked by h) { strings = change h.strings }

restrung_shows : (masters : List Master) (history : Key) (by : By)
    (change : List StringAttribute → List StringAttribute) (p : Princ) (q : PlainPrinc) → ShowsPrinc masters history p q
    → ShowsPrinc masters history (with_list by change p)
    (record (plain_of (marked by (plain_head q)) q.keys q.old) { strings = change q.strings })
restrung_shows masters history by change p q f = record {
  master = f.master;
  named = f.named;
  under = record { fields = ap (with_list by change) f.under.fields; keys = f.under.keys; old = f.under.old };
}

few_keys : (keys : List PlainItem) → AreItems keys → nat_lt most_keys (length keys) ≡ false
few_keys keys are = le-ltb most_keys (length keys) are.few

strings_alike : (masters : List Master) (history : Key) (p : Princ) (q : PlainPrinc) → ShowsPrinc masters history p q
    → q.strings ≡ p.strings
strings_alike masters history p q f = sym (ap (λ (h : Princ). h.strings) f.under.fields)

-- ---- setstr

set_well : (realm : List ℕ) (c : SetString) → IsCommand realm (command.SetString c)
    → (c.name.realm ≡ realm) × (IsTrue (is_string_key c.key) × IsTrue (is_string_value c.value))
unfolding IsCommand
set_well realm c is = (is.0.own, (is.1, is.2))

module _ (g : Given) (c : SetString) where
  pub set_touches : Touches g (command.SetString c) modifying c.name (λ s call q. set_string_rest s call c q)
  set_touches = record {
    absent = λ s clock e. set_string_absent s g.client.now clock g.random.now (access_of g) c e;
    present = λ s clock q are e.
        set_string_present s g.client.now clock g.random.now (access_of g) c q (few_keys q.keys are) e;
  }

  pub set_early : (why : Refusal) → AreRows g.rows.now → target_refusal g modifying c.name ≡ Some why
      → IsJudged g (command.SetString c) (Err why)
  set_early why rows e = touch_early g (command.SetString c) modifying c.name
      (λ s call q. set_string_rest s call c q) set_touches why rows e

  module _ (p : Princ) (target : IsTarget g modifying c.name p) where
    abbrev set_other : (s : State) (call : Call) (given : IsGiven g (command.SetString c) s call)
        → IsBeside (ShowsPrinc s.masters given.seen.shows.history) p (princ_named (printed c.name) s.princs)
    set_other s call given = target_beside g (command.SetString c) modifying c.name
        (λ s call q. set_string_rest s call c q) set_touches p target s call given

    room_alike : (s : State) (call : Call) (given : IsGiven g (command.SetString c) s call) (b : Bool)
        → has_room_for c.key p.strings ≡ b → has_room_for c.key (set_other s call given).other.strings ≡ b
    room_alike s call given b e = ap (has_room_for c.key) (strings_alike s.masters given.seen.shows.history p
        (set_other s call given).other (set_other s call given).beside) ∙ e

    pub set_full : has_room_for c.key p.strings ≡ false
        → IsJudged g (command.SetString c) (Err (StringsFull most_strings))
    unfolding first
    set_full e = touch_refused g (command.SetString c) modifying c.name
        (λ s call q. set_string_rest s call c q) set_touches p target (StringsFull most_strings)
        (λ s call given. rw (room_alike s call given false e) refl)

    abbrev pub set_made : Princ
    set_made = with_list (by_given g) (with_string c.key c.value) p

    set_fits : has_room_for c.key p.strings ≡ true → IsBy (by_given g) → IsRealm g.realm.now
        → IsCommand g.realm.now (command.SetString c) → IsPrinc set_made
    set_fits room by realm is =
        let well = set_well g.realm.now c is in
        let fits = target_fits g modifying c.name p target in
        restrung_fits (with_string c.key c.value p.strings) (marked (by_given g) p)
        (target_other g modifying c.name p target realm well.0)
        (set_in_form c.key c.value p.strings fits.facts.strings well.1.0 well.1.1 room)
        (marked_fits (by_given g) p by fits)

    pub set_so : has_room_for c.key p.strings ≡ true → IsBy (by_given g) → IsRealm g.realm.now
        → IsCommand g.realm.now (command.SetString c) → IsPrinc set_made
    set_so = set_fits

    pub sets : (plan : Result Planned Refusal) → has_room_for c.key p.strings ≡ true → IsBy (by_given g)
        → IsRealm g.realm.now → IsCommand g.realm.now (command.SetString c) → IsPut op.PutPrinc set_made plan
        → IsJudged g (command.SetString c) plan
    unfolding entry_of kept_entry_of kept_restrung restrung first
    sets plan room by realm is put =
        let well = set_well g.realm.now c is in
        puts g (command.SetString c) set_made (set_fits room by realm is)
        (target_alone g modifying c.name p target realm well.0)
        (λ s call given.
        let q = set_other s call given in
        record {
          other = restrung s (told_at g (command.SetString c) given.called.clock)
              (with_string c.key c.value q.other.strings) q.other;
          tests = touch_left g (command.SetString c) modifying c.name (λ s call q. set_string_rest s call c q)
              set_touches p target s call given ∙ rw (room_alike s call given true room) refl;
          entry_is = rw q.there refl;
          shows = subst (λ (b : By). ShowsPrinc s.masters given.seen.shows.history set_made
              (record (plain_of (marked b (plain_head q.other)) q.other.keys q.other.old)
              { strings = with_string c.key c.value q.other.strings }))
              (sym (by_alike g (command.SetString c) s call given)) (restrung_shows s.masters given.seen.shows.history
              (by_given g) (with_string c.key c.value) p q.other q.beside);
          exact = rw target.there (ap (λ (b : By). Some (op.PutPrinc (with_list b (with_string c.key c.value) p)))
              (by_alike g (command.SetString c) s call given));
        }) plan put (may_replace set_made p g.rows.now target.rows
        (ap (λ n. record_named n g.rows.now.princs) (target_name g modifying c.name p target) ∙ target.there))

-- ---- delstr

drop_well : (realm : List ℕ) (c : DelString) → IsCommand realm (command.DelString c) → c.name.realm ≡ realm
unfolding IsCommand
drop_well realm c is = is.0.own

module _ (g : Given) (c : DelString) where
  pub drop_touches : Touches g (command.DelString c) modifying c.name (λ s call q. drop_string_rest s call c q)
  drop_touches = record {
    absent = λ s clock e. drop_string_absent s g.client.now clock g.random.now (access_of g) c e;
    present = λ s clock q are e.
        drop_string_present s g.client.now clock g.random.now (access_of g) c q (few_keys q.keys are) e;
  }

  pub drop_early : (why : Refusal) → AreRows g.rows.now → target_refusal g modifying c.name ≡ Some why
      → IsJudged g (command.DelString c) (Err why)
  drop_early why rows e = touch_early g (command.DelString c) modifying c.name
      (λ s call q. drop_string_rest s call c q) drop_touches why rows e

  module _ (p : Princ) (target : IsTarget g modifying c.name p) where
    abbrev drop_other : (s : State) (call : Call) (given : IsGiven g (command.DelString c) s call)
        → IsBeside (ShowsPrinc s.masters given.seen.shows.history) p (princ_named (printed c.name) s.princs)
    drop_other s call given = target_beside g (command.DelString c) modifying c.name
        (λ s call q. drop_string_rest s call c q) drop_touches p target s call given

    has_alike : (s : State) (call : Call) (given : IsGiven g (command.DelString c) s call) (b : Bool)
        → has_string c.key p.strings ≡ b → has_string c.key (drop_other s call given).other.strings ≡ b
    has_alike s call given b e = ap (has_string c.key) (strings_alike s.masters given.seen.shows.history p
        (drop_other s call given).other (drop_other s call given).beside) ∙ e

    pub drop_unknown : has_string c.key p.strings ≡ false → IsJudged g (command.DelString c) (Err UnknownString)
    unfolding first
    drop_unknown e = touch_refused g (command.DelString c) modifying c.name
        (λ s call q. drop_string_rest s call c q) drop_touches p target UnknownString
        (λ s call given. rw (has_alike s call given false e) refl)

    abbrev pub drop_made : Princ
    drop_made = with_list (by_given g) (without_string c.key) p

    pub drop_so : IsBy (by_given g) → IsRealm g.realm.now → IsCommand g.realm.now (command.DelString c)
        → IsPrinc drop_made
    drop_so by realm is =
        let fits = target_fits g modifying c.name p target in
        restrung_fits (without_string c.key p.strings) (marked (by_given g) p)
        (target_other g modifying c.name p target realm (drop_well g.realm.now c is))
        (taken_in_form c.key p.strings fits.facts.strings) (marked_fits (by_given g) p by fits)

    pub drops : (plan : Result Planned Refusal) → has_string c.key p.strings ≡ true → IsBy (by_given g)
        → IsRealm g.realm.now → IsCommand g.realm.now (command.DelString c) → IsPut op.PutPrinc drop_made plan
        → IsJudged g (command.DelString c) plan
    unfolding entry_of kept_entry_of kept_restrung restrung first
    drops plan has by realm is put =
        puts g (command.DelString c) drop_made (drop_so by realm is)
        (target_alone g modifying c.name p target realm (drop_well g.realm.now c is))
        (λ s call given.
        let q = drop_other s call given in
        record {
          other = restrung s (told_at g (command.DelString c) given.called.clock)
              (without_string c.key q.other.strings) q.other;
          tests = touch_left g (command.DelString c) modifying c.name (λ s call q. drop_string_rest s call c q)
              drop_touches p target s call given ∙ rw (has_alike s call given true has) refl;
          entry_is = rw q.there refl;
          shows = subst (λ (b : By). ShowsPrinc s.masters given.seen.shows.history drop_made
              (record (plain_of (marked b (plain_head q.other)) q.other.keys q.other.old)
              { strings = without_string c.key q.other.strings }))
              (sym (by_alike g (command.DelString c) s call given)) (restrung_shows s.masters given.seen.shows.history
              (by_given g) (without_string c.key) p q.other q.beside);
          exact = rw target.there (ap (λ (b : By). Some (op.PutPrinc (with_list b (without_string c.key) p)))
              (by_alike g (command.DelString c) s call given));
        }) plan put (may_replace drop_made p g.rows.now target.rows
        (ap (λ n. record_named n g.rows.now.princs) (target_name g modifying c.name p target) ∙ target.there))
