-- Records that commands put have a spelling.
use Rattle.std.proofs.Common.{◌≡◌, false, List, sym, ◌∙◌}
use Rattle.std.proofs.lemmas.Bool.{false≢true}
use Rattle.command_plans.specs.Targets.{IsBy}
use Rattle.kdb_model.specs.Fields.{By, marked}
use Rattle.princ_keys.specs.Keys.{AreKeys}
use Rattle.princ_keys.specs.declared.keys.KeyItem.{KeyItem}
use Rattle.princ_name.specs.Printed.{is_master}
use Rattle.princ_record.specs.Princs.{IsPrinc}
use Rattle.princ_record.specs.declared.princs.Princ.{Princ}
use Rattle.tagged_data.specs.Strings.{AreStrings}
use Rattle.tagged_data.specs.declared.string_attributes.StringAttribute.{StringAttribute}

pub marked_fits : (by : By) (p : Princ) → IsBy by → IsPrinc p → IsPrinc (marked by p)
marked_fits by p is f = record {
  name = f.name;
  attributes = f.attributes;
  attributes_short = f.attributes_short;
  lives = f.lives;
  facts = record {
    pw_changed = f.facts.pw_changed;
    modified = is.secs;
    modifier = is.client;
    mkvno = f.facts.mkvno;
    chain_there = f.facts.chain_there;
    chain = f.facts.chain;
    strings = f.facts.strings;
    no_strings = f.facts.no_strings;
  };
  keys = f.keys;
  masters = f.masters;
  policy = f.policy;
  old = f.old;
}

-- K/M has no string attributes
pub restrung_fits : (strings : List StringAttribute) (p : Princ) → is_master p.name ≡ false → AreStrings strings
    → IsPrinc p → IsPrinc (record p { strings = strings })
restrung_fits strings p other are f = record {
  name = f.name;
  attributes = f.attributes;
  attributes_short = f.attributes_short;
  lives = f.lives;
  facts = record {
    pw_changed = f.facts.pw_changed;
    modified = f.facts.modified;
    modifier = f.facts.modifier;
    mkvno = f.facts.mkvno;
    chain_there = f.facts.chain_there;
    chain = f.facts.chain;
    strings = are;
    no_strings = λ master. absurd (false≢true (sym other ∙ master));
  };
  keys = f.keys;
  masters = f.masters;
  policy = f.policy;
  old = f.old;
}

-- other keys, where it is not K/M
pub rekept_fits : (keys : List KeyItem) (p : Princ) → is_master p.name ≡ false → AreKeys keys → IsPrinc p
    → IsPrinc (record p { keys = keys })
rekept_fits keys p other are f = record {
  name = f.name;
  attributes = f.attributes;
  attributes_short = f.attributes_short;
  lives = f.lives;
  facts = f.facts;
  keys = are;
  masters = λ master. absurd (false≢true (sym other ∙ master));
  policy = f.policy;
  old = f.old;
}
