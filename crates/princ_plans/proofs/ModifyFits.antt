-- A record with other fields has a spelling, and shows the principal with them.
use Rattle.std.proofs.Common.{◌≡◌, ℕ, true, List, Option, Some, None, refl, ap}
use Rattle.std.specs.Prelude.{IfSome, IsTrue}
use Rattle.princ_record.proofs.Attributes.{attributes_short, either_known, part_known}
use Rattle.acl_text.specs.Limits.{IsLimits}
use Rattle.acl_text.specs.Restricting.{restricted}
use Rattle.acl_text.specs.declared.limits.Limits.{Limits}
use Rattle.acl_text.specs.declared.limits.Wanted.{Wanted}
use Rattle.command_plans.specs.Targets.{IsBy}
use Rattle.kadm_commands.specs.Commands.{AreOptions, IsPolicyChoice}
use Rattle.kadm_commands.specs.declared.options.PrincOptions.{PrincOptions}
use Rattle.kadm_commands.specs.declared.policies.PolicyChoice.{PolicyChoice}
use Rattle.kdb_base.specs.Key.{Key}
use Rattle.kdb_base.specs.declared.versions.Master.{Master}
use Rattle.kdb_model.specs.Fields.{By, chosen, limited, marked, modified_head, wanted_of, with_options, with_wanted}
use Rattle.kdb_plain.specs.Heads.{plain_head, plain_of}
use Rattle.kdb_plain.specs.declared.princs.PlainPrinc.{PlainPrinc}
use Rattle.princ_plans.proofs.Attributes.{flags_known}
use Rattle.princ_plans.proofs.PolicyFits.{chosen_fits, forced_fits}
use Rattle.princ_record.specs.Princs.{AreLives, IsPolicyOr, IsPrinc, are_attributes, lives_of}
use Rattle.princ_record.specs.declared.princs.Princ.{Princ}
use Rattle.row_keys.specs.Shows.{ShowsPrinc}

-- ---- spellings

abbrev with_fields : Wanted → By → Princ → Princ
with_fields w by p = with_wanted w (marked by p)

fields_fit : (w : Wanted) (by : By) (p : Princ) → IsBy by → IsTrue (are_attributes w.attributes)
    → AreLives (lives_of (with_fields w by p))
    → IsPolicyOr w.policy
    → IsPrinc p → IsPrinc (with_fields w by p)
fields_fit w by p is attributes lives policy f = record {
  name = f.name;
  attributes = attributes;
  attributes_short = attributes_short w.attributes attributes;
  lives = lives;
  facts = record {
    pw_changed = f.facts.pw_changed;
    modified = is.secs;
    modifier = is.client;
    mkvno = f.facts.mkvno;
    chain_there = f.facts.chain_there;
    chain = f.facts.chain;
    strings = f.facts.strings;
    no_strings = f.facts.no_strings;
  };
  keys = f.keys;
  masters = f.masters;
  policy = policy;
  old = f.old;
}

-- the attributes and the policy behind restrictions
pub limited_attributes : (limits : Option Limits) (secs : ℕ) (h : Princ) → IfSome limits IsLimits
    → are_attributes h.attributes ≡ true
    → are_attributes (limited limits secs h).attributes ≡ true
unfolding restricted
limited_attributes None secs h fit e = e
limited_attributes (Some l) secs h fit e = part_known _ _ (either_known h.attributes l.set e fit.set)

pub limited_policy : (limits : Option Limits) (secs : ℕ) (h : Princ) → IfSome limits IsLimits → IsPolicyOr h.policy
    → IsPolicyOr (limited limits secs h).policy
unfolding restricted
limited_policy None secs h fit e = e
limited_policy (Some l) secs h fit e = forced_fits l.policy h.policy fit.policy e

module _ (choice : Option PolicyChoice) (options : PrincOptions) (by : By) (p : Princ) where
  -- the record before restrictions
  abbrev asked : Princ
  asked = marked by (with_options options (record p { policy = chosen choice p.policy }))

  asked_attributes : AreOptions options → IsPrinc p → are_attributes asked.attributes ≡ true
  unfolding with_options
  asked_attributes are f = flags_known p.attributes options.flags f.attributes are.flags

  asked_policy : IfSome choice IsPolicyChoice → IsPrinc p → IsPolicyOr asked.policy
  unfolding with_options
  asked_policy named f = chosen_fits choice p.policy named f.policy

  pub modified_fits : (limits : Option Limits) → IfSome limits IsLimits → IfSome choice IsPolicyChoice
      → AreOptions options → IsBy by
      → AreLives (lives_of (modified_head choice limits options by p)) → IsPrinc p
      → IsPrinc (modified_head choice limits options by p)
  unfolding modified_head with_options
  modified_fits None fit named are is lives f =
      fields_fit (wanted_of (modified_head choice None options by p)) by p is (asked_attributes are f) lives
      (asked_policy named f) f
  modified_fits (Some l) fit named are is lives f =
      fields_fit (wanted_of (modified_head choice (Some l) options by p)) by p is
      (limited_attributes (Some l) by.secs asked fit (asked_attributes are f)) lives
      (limited_policy (Some l) by.secs asked fit (asked_policy named f)) f

-- ---- what is shown

module _ (masters : List Master) (history : Key) (choice : Option PolicyChoice) (options : PrincOptions) (by : By)
    (p : Princ) (q : PlainPrinc) where
  pub modified_shows : (limits : Option Limits) → ShowsPrinc masters history p q
      → ShowsPrinc masters history (modified_head choice limits options by p)
      (plain_of (modified_head choice limits options by (plain_head q)) q.keys q.old)
  unfolding modified_head with_options
  modified_shows None f = record {
    master = f.master;
    named = f.named;
    under = record {
      fields = ap (modified_head choice None options by) f.under.fields;
      keys = f.under.keys;
      old = f.under.old;
    };
  }
  modified_shows (Some l) f = record {
    master = f.master;
    named = f.named;
    under = record {
      fields = ap (modified_head choice (Some l) options by) f.under.fields;
      keys = f.under.keys;
      old = f.under.old;
    };
  }

module _ (choice : Option PolicyChoice) (options : PrincOptions) (by : By) (p : Princ) where
  pub same_name : (limits : Option Limits) → (modified_head choice limits options by p).name ≡ p.name
  unfolding modified_head with_options
  same_name None = refl
  same_name (Some l) = refl

  pub same_chain : (limits : Option Limits) → (modified_head choice limits options by p).chain ≡ p.chain
  unfolding modified_head with_options
  same_chain None = refl
  same_chain (Some l) = refl
