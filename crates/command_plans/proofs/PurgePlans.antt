-- Plans of purgekeys.
use Rattle.std.proofs.Common.{◌≡◌, ℕ, Bool, true, false, List, [], ◌∷◌, length, Option}
use Rattle.std.proofs.Common.{Some, None, refl, sym, ap, subst, ◌∙◌, inl, inr, arith}
use Rattle.std.specs.Prelude.{Result, Err, filter, nat_lt, unwrap_or}
use Rattle.std.specs.List.{AllZip, list_all}
use Rattle.std.proofs.lemmas.Bool.{and_from, and_parts, le-ltb}
use Rattle.std.proofs.lemmas.List.Elements.{All-filter}
use Rattle.std.proofs.lemmas.List.Sums.{count_by-le-length, length-filter}
use Rattle.kadm_commands.specs.Commands.{IsCommand}
use Rattle.kadm_commands.specs.declared.commands.Command.TheVariants as command
use Rattle.kadm_commands.specs.declared.commands.PurgeKeys.{PurgeKeys}
use Rattle.command_plans.specs.Given.{IsJudged}
use Rattle.command_plans.specs.KeptEntries.{kept_entry_of, kept_purged}
use Rattle.command_plans.specs.Targets.{IsBy, IsPut, IsTarget, by_given, target_refusal}
use Rattle.command_plans.specs.declared.given.Given.{Given}
use Rattle.command_plans.specs.declared.planned.Planned.{Planned}
use Rattle.command_plans.proofs.CommandTests.{purge_absent, purge_present, purge_rest}
use Rattle.command_plans.proofs.Fits.{marked_fits, rekept_fits}
use Rattle.command_plans.proofs.Puts.{Touches, by_alike, puts, target_alone, target_beside}
use Rattle.command_plans.proofs.Puts.{target_fits, target_name, target_other, touch_early, touch_left}
use Rattle.command_plans.proofs.Rooms.{may_replace}
use Rattle.command_plans.proofs.Seen.{access_of, told_at}
use Rattle.kdb_base.specs.Key.{Key}
use Rattle.kdb_base.specs.Limits.{most_keys}
use Rattle.kdb_base.specs.declared.outcomes.Refusal.{Refusal}
use Rattle.kdb_base.specs.declared.versions.Master.{Master}
use Rattle.kdb_model.specs.Access.{modifying}
use Rattle.kdb_model.specs.Entries.{entry_of}
use Rattle.kdb_model.specs.Fields.{By, marked}
use Rattle.kdb_model.specs.Records.{purged}
use Rattle.kdb_plain.specs.Heads.{plain_head, plain_of}
use Rattle.kdb_plain.specs.declared.princs.PlainPrinc.{PlainPrinc}
use Rattle.plain_keys.specs.Keys.{keys_from, least_kvno, newest_kvno}
use Rattle.plain_keys.specs.declared.items.PlainItem.{PlainItem}
use Rattle.princ_rows.specs.declared.entries.Op.TheVariants as op
use Rattle.princ_keys.specs.Keys.{AreKeys, IsKey, are_ordered, may_follow}
use Rattle.princ_keys.specs.declared.keys.KeyItem.{KeyItem}
use Rattle.princ_name.specs.Realms.{IsRealm}
use Rattle.princ_record.specs.Princs.{IsPrinc}
use Rattle.princ_record.specs.declared.princs.Princ.{Princ}
use Rattle.princ_rows.specs.Rows.{AreRows}
use Rattle.row_keys.proofs.FormedKeys.{from_formed}
use Rattle.row_keys.proofs.Kept.{from_shows}
use Rattle.row_keys.proofs.Sides.{kept, left_out, truth}
use Rattle.row_keys.specs.Formed.{AreItems}
use Rattle.row_keys.specs.KeptKeys.{is_kept_from, kept_from}
use Rattle.row_keys.specs.Lookups.{newest_version, record_named}
use Rattle.row_keys.specs.Shows.{ShowsItem, ShowsPrinc}

-- ---- keys of a record from a version on

all_passed : (p q : KeyItem → Bool) (keys : List KeyItem) → list_all q keys ≡ true → list_all q (filter p keys) ≡ true
all_passed p q [] e = refl
all_passed p q (k ∷ keys) e =
    let both = and_parts (q k) (list_all q keys) e in
    let rest = all_passed p q keys both.1 in
    elim (truth (p k)) [
      | inl here ↦ ap (list_all q) (kept p k keys here) ∙ and_from (q k) (list_all q (filter p keys)) both.0 rest
      | inr other ↦ ap (list_all q) (left_out p k keys other) ∙ rest
    ]

passed_ordered : (p : KeyItem → Bool) (keys : List KeyItem) → are_ordered keys ≡ true
    → are_ordered (filter p keys) ≡ true
unfolding are_ordered
passed_ordered p [] e = refl
passed_ordered p (k ∷ keys) e =
    let both = and_parts (list_all (may_follow k) keys) (are_ordered keys) e in
    let rest = passed_ordered p keys both.1 in
    elim (truth (p k)) [
      | inl here ↦ ap are_ordered (kept p k keys here) ∙ and_from (list_all (may_follow k) (filter p keys))
          (are_ordered (filter p keys)) (all_passed p (may_follow k) keys both.0) rest
      | inr other ↦ ap are_ordered (left_out p k keys other) ∙ rest
    ]

from_fits : (kvno : ℕ) (keys : List KeyItem) → AreKeys keys → AreKeys (kept_from kvno keys)
unfolding kept_from
from_fits kvno keys f = record {
  few = let few =
      f.few in omega (arith, length-filter (is_kept_from kvno) keys, count_by-le-length (is_kept_from kvno) keys);
  each = All-filter (is_kept_from kvno) IsKey keys f.each;
  ordered = passed_ordered (is_kept_from kvno) keys f.ordered;
}

-- the version of the newest key
newest_alike : (master : Key) (items : List KeyItem) (keys : List PlainItem) → AllZip (ShowsItem master) items keys
    → newest_version items ≡ newest_kvno keys
newest_alike master [] [] f = refl
newest_alike master [] (k ∷ keys) f = absurd f
newest_alike master (item ∷ items) [] f = absurd f
newest_alike master (item ∷ items) (k ∷ keys) f = f.0.kvno

least_alike : (named : Option ℕ) (master : Key) (items : List KeyItem) (keys : List PlainItem)
    → AllZip (ShowsItem master) items keys → unwrap_or named (newest_version items) ≡ least_kvno named keys
least_alike None master items keys f = newest_alike master items keys f
least_alike (Some kvno) master items keys f = refl

-- ---- records

abbrev pub with_from : By → Option ℕ → Princ → Princ
with_from by named p = record (marked by p) { keys = kept_from (unwrap_or named (newest_version p.keys)) p.keys }

purged_shows : (masters : List Master) (history : Key) (by : By) (named : Option ℕ) (p : Princ) (q : PlainPrinc)
    → ShowsPrinc masters history p q
    → ShowsPrinc masters history (with_from by named p)
    (plain_of (marked by (plain_head q)) (keys_from (least_kvno named q.keys) q.keys) q.old)
purged_shows masters history by named p q f = record {
  master = f.master;
  named = f.named;
  under = record {
    fields = ap (marked by) f.under.fields;
    keys = subst (λ n. AllZip (ShowsItem f.master) (kept_from (unwrap_or named (newest_version p.keys)) p.keys)
        (keys_from n q.keys)) (least_alike named f.master p.keys q.keys f.under.keys)
        (from_shows f.master (unwrap_or named (newest_version p.keys)) p.keys q.keys f.under.keys);
    old = f.under.old;
  };
}

few_from : (kvno : ℕ) (keys : List PlainItem) → AreItems keys → nat_lt most_keys (length (keys_from kvno keys)) ≡ false
few_from kvno keys are = le-ltb most_keys (length (keys_from kvno keys)) (from_formed kvno keys are).few

purge_well : (realm : List ℕ) (c : PurgeKeys) → IsCommand realm (command.PurgeKeys c) → c.name.realm ≡ realm
unfolding IsCommand
purge_well realm c is = is.0.own

-- ---- plans

module _ (g : Given) (c : PurgeKeys) where
  pub purge_touches : Touches g (command.PurgeKeys c) modifying c.name (λ s call q. purge_rest s call c q)
  purge_touches = record {
    absent = λ s clock e. purge_absent s g.client.now clock g.random.now (access_of g) c e;
    present = λ s clock q are e. purge_present s g.client.now clock g.random.now (access_of g) c q
        (few_from (least_kvno c.keep q.keys) q.keys are) e;
  }

  pub purge_early : (why : Refusal) → AreRows g.rows.now → target_refusal g modifying c.name ≡ Some why
      → IsJudged g (command.PurgeKeys c) (Err why)
  purge_early why rows e =
      touch_early g (command.PurgeKeys c) modifying c.name (λ s call q. purge_rest s call c q) purge_touches why rows e

  module _ (p : Princ) (target : IsTarget g modifying c.name p) where
    abbrev pub purge_made : Princ
    purge_made = with_from (by_given g) c.keep p

    pub purge_so : IsBy (by_given g) → IsRealm g.realm.now → IsCommand g.realm.now (command.PurgeKeys c)
        → IsPrinc purge_made
    purge_so by realm is =
        let fits = target_fits g modifying c.name p target in
        rekept_fits (kept_from (unwrap_or c.keep (newest_version p.keys)) p.keys) (marked (by_given g) p)
        (target_other g modifying c.name p target realm (purge_well g.realm.now c is))
        (from_fits (unwrap_or c.keep (newest_version p.keys)) p.keys fits.keys) (marked_fits (by_given g) p by fits)

    pub purges : (plan : Result Planned Refusal) → IsBy (by_given g)
        → IsRealm g.realm.now → IsCommand g.realm.now (command.PurgeKeys c) → IsPut op.PutPrinc purge_made plan
        → IsJudged g (command.PurgeKeys c) plan
    unfolding entry_of kept_entry_of kept_purged purged
    purges plan by realm is put =
        puts g (command.PurgeKeys c) purge_made (purge_so by realm is)
        (target_alone g modifying c.name p target realm (purge_well g.realm.now c is))
        (λ s call given.
        let q = target_beside g (command.PurgeKeys c) modifying c.name
        (λ s call q. purge_rest s call c q) purge_touches p target s call given in
        record {
          other = purged s (told_at g (command.PurgeKeys c) given.called.clock) c q.other;
          tests = touch_left g (command.PurgeKeys c) modifying c.name (λ s call q. purge_rest s call c q) purge_touches
              p target s call given;
          entry_is = rw q.there refl;
          shows = subst (λ (b : By). ShowsPrinc s.masters given.seen.shows.history purge_made (plain_of
              (marked b (plain_head q.other)) (keys_from (least_kvno c.keep q.other.keys) q.other.keys) q.other.old))
              (sym (by_alike g (command.PurgeKeys c) s call given))
              (purged_shows s.masters given.seen.shows.history (by_given g) c.keep p q.other q.beside);
          exact = rw target.there (ap (λ (b : By). Some (op.PutPrinc (with_from b c.keep p)))
              (by_alike g (command.PurgeKeys c) s call given));
        }) plan put (may_replace purge_made p g.rows.now target.rows
        (ap (λ n. record_named n g.rows.now.princs) (target_name g modifying c.name p target) ∙ target.there))
