-- A new record has a spelling, and shows the new principal.
use Rattle.std.proofs.Common.{◌≡◌, ℕ, ◌^◌, ◌<◌, true, false, List, [], Option}
use Rattle.std.proofs.Common.{Some, None, refl, sym, ap, subst, ◌∙◌, arith}
use Rattle.std.specs.Prelude.{IfSome}
use Rattle.std.specs.List.{AllZip}
use Rattle.std.proofs.lemmas.List.Elements.{All-nil}
use Rattle.princ_record.proofs.Attributes.{attributes_short}
use Rattle.acl_text.specs.Limits.{IsLimits}
use Rattle.acl_text.specs.Restricting.{restricted}
use Rattle.acl_text.specs.declared.limits.Limits.{Limits}
use Rattle.command_plans.specs.Targets.{IsBy}
use Rattle.kadm_commands.specs.Commands.{AreOptions}
use Rattle.kadm_commands.specs.declared.options.PrincOptions.{PrincOptions}
use Rattle.kdb_base.specs.Key.{Key}
use Rattle.kdb_base.specs.declared.versions.Master.{Master}
use Rattle.kdb_model.specs.Fields.{By, added_head, blank_head, keyed_by, limited}
use Rattle.kdb_model.specs.Fields.{marked, wanted_of, with_options, with_wanted}
use Rattle.kdb_plain.specs.Heads.{head, plain_head, plain_of}
use Rattle.kdb_plain.specs.States.{master_of}
use Rattle.plain_keys.specs.declared.items.PlainItem.{PlainItem}
use Rattle.princ_keys.specs.declared.keys.KeyItem.{KeyItem}
use Rattle.princ_keys.specs.declared.remembered.OldSet.{OldSet}
use Rattle.princ_name.specs.Printed.{IsPrinted, is_master}
use Rattle.princ_plans.proofs.Attributes.{flags_known}
use Rattle.princ_plans.proofs.ModifyFits.{limited_attributes, limited_policy}
use Rattle.princ_record.specs.Facts.{IsPw}
use Rattle.princ_record.specs.Princs.{AreLives, IsPolicyOr, IsPrinc, are_attributes, lives_of}
use Rattle.princ_record.specs.declared.princs.Princ.{Princ}
use Rattle.row_keys.proofs.Formed.{formed_princ}
use Rattle.row_keys.specs.Formed.{AreFields, AreItems, IsSet}
use Rattle.row_keys.specs.Shows.{ShowsItem, ShowsPrinc, ShowsSet, ShowsUnder}
use Rattle.tagged_data.specs.Numbers.{IsVersion}
use Rattle.tagged_data.specs.StringLaws.{no_strings}
use Rattle.tagged_data.specs.Strings.{AreStrings}
use Rattle.tagged_data.specs.declared.string_attributes.StringAttribute.{StringAttribute}

-- what the name, the version and the client tell of the fields
pub record AreTold (name : List ℕ) (version : ℕ) (by : By) (h : Princ) : Type 0 where
  pub name_is : h.name ≡ name
  pub pw_changed : IsBy by → IsPw h.pw_changed
  pub modified : h.modified ≡ by.secs
  pub modifier : h.modifier ≡ by.client
  pub mkvno : h.mkvno ≡ version
  pub strings : h.strings ≡ []
  pub old : h.old ≡ []
  pub chain : h.chain ≡ None
  pub bare : (keys : List KeyItem) → head (record h { keys = keys }) ≡ h
  pub whole : (items : List PlainItem) → plain_head (plain_of h items []) ≡ h

module _ (name : List ℕ) (version : ℕ) (policy : Option (List ℕ)) (options : PrincOptions) (by : By) where
  -- the fields before restrictions
  abbrev asked : Option ℕ → Princ
  asked life = marked by (with_options options (keyed_by life by.secs (blank_head name version policy)))

  abbrev pub head_of : Option ℕ → Option Limits → Princ
  head_of life limits = added_head name version policy life limits options by

  none_known : are_attributes 0 ≡ true
  unfolding are_attributes
  none_known = refl

  asked_attributes : (life : Option ℕ) → AreOptions options → are_attributes (asked life).attributes ≡ true
  unfolding with_options blank_head
  asked_attributes None are = flags_known 0 options.flags none_known are.flags
  asked_attributes (Some life) are = flags_known 0 options.flags none_known are.flags

  asked_policy : (life : Option ℕ) → IsPolicyOr policy → IsPolicyOr (asked life).policy
  unfolding with_options blank_head
  asked_policy None fit = fit
  asked_policy (Some life) fit = fit

  pub head_attributes : (life : Option ℕ) (limits : Option Limits) → IfSome limits IsLimits → AreOptions options
      → are_attributes (head_of life limits).attributes ≡ true
  unfolding added_head
  head_attributes life limits fit are = limited_attributes limits by.secs (asked life) fit (asked_attributes life are)

  pub head_policy : (life : Option ℕ) (limits : Option Limits) → IfSome limits IsLimits → IsPolicyOr policy
      → IsPolicyOr (head_of life limits).policy
  unfolding added_head
  head_policy life limits fit named = limited_policy limits by.secs (asked life) fit (asked_policy life named)

  asked_told : (life : Option ℕ) → AreTold name version by (asked life)
  unfolding with_options blank_head
  asked_told None = record {
    name_is = refl;
    pw_changed = λ is. tt;
    modified = refl;
    modifier = refl;
    mkvno = refl;
    strings = refl;
    old = refl;
    chain = refl;
    bare = λ keys. refl;
    whole = λ items. refl;
  }
  asked_told (Some life) = record {
    name_is = refl;
    pw_changed = λ is. is.secs;
    modified = refl;
    modifier = refl;
    mkvno = refl;
    strings = refl;
    old = refl;
    chain = refl;
    bare = λ keys. refl;
    whole = λ items. refl;
  }

  limited_told : (limits : Option Limits) (secs : ℕ) (h : Princ) → AreTold name version by h
      → AreTold name version by (limited limits secs h)
  limited_told None secs h t = t
  limited_told (Some l) secs h t = record {
    name_is = t.name_is;
    pw_changed = t.pw_changed;
    modified = t.modified;
    modifier = t.modifier;
    mkvno = t.mkvno;
    strings = t.strings;
    old = t.old;
    chain = t.chain;
    bare = λ keys. ap (with_wanted (restricted l secs (wanted_of h))) (t.bare keys);
    whole = λ items. ap (with_wanted (restricted l secs (wanted_of h))) (t.whole items);
  }

  pub told : (life : Option ℕ) (limits : Option Limits) → AreTold name version by (head_of life limits)
  unfolding added_head
  told life limits = limited_told limits by.secs (asked life) (asked_told life)

-- ---- spellings

pub fields_formed : (name : List ℕ) (version : ℕ) (by : By) (h : Princ) → AreTold name version by h → IsBy by
    → IsPrinted name
    → is_master name ≡ false → IsVersion version
    → are_attributes h.attributes ≡ true
    → AreLives (lives_of h) → IsPolicyOr h.policy → AreFields h
fields_formed name version by h t is prints other known attributes lives named = record {
  name = subst IsPrinted (sym t.name_is) prints;
  other = ap is_master t.name_is ∙ other;
  attributes = attributes;
  attributes_short = attributes_short h.attributes attributes;
  lives = lives;
  pw_changed = t.pw_changed is;
  modified = subst (λ n. n < 2 ^ 32) (sym t.modified) is.secs;
  modifier = subst IsPrinted (sym t.modifier) is.client;
  mkvno = subst IsVersion (sym t.mkvno) known;
  strings = subst (λ (xs : List StringAttribute). AreStrings xs) (sym t.strings) no_strings;
  policy = named;
}

module _ (name : List ℕ) (version : ℕ) (by : By) (h : Princ) (t : AreTold name version by h) (keys : List KeyItem)
    (items : List PlainItem) where
  no_sets : (history : Key) → AllZip (ShowsSet history) h.old []
  no_sets history = subst (λ (sets : List OldSet). AllZip (ShowsSet history) sets []) (sym t.old) tt

  pub new_under : (master history : Key) → AllZip (ShowsItem master) keys items
      → ShowsUnder master history (record h { keys = keys }) (plain_of h items [])
  new_under master history shows =
      record { fields = t.bare keys ∙ sym (t.whole items); keys = shows; old = no_sets history }

  pub new_shows : (masters : List Master) (master history : Key) → master_of masters version ≡ Some master
      → AllZip (ShowsItem master) keys items
      → ShowsPrinc masters history (record h { keys = keys }) (plain_of h items [])
  new_shows masters master history is shows =
      record { master = master; named = ap (master_of masters) t.mkvno ∙ is; under = new_under master history shows }

  pub new_fits : (master : Key) → AllZip (ShowsItem master) keys items → AreFields h → AreItems items
      → IsPrinc (record h { keys = keys })
  new_fits master shows fields are =
      formed_princ master master (record h { keys = keys }) (plain_of h items [])
      (new_under master master shows) t.chain
      (record {
        fields = subst AreFields (sym (t.whole items)) fields;
        keys = are;
        old = record { few = omega arith; each = All-nil IsSet };
      })
