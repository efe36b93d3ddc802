-- What is shown of records.
use Rattle.std.specs.Prelude.{map}
use Rattle.kadm_commands.specs.declared.shown.KeyShown.{KeyShown}
use Rattle.kadm_commands.specs.declared.shown.PrincShown.{PrincShown}
use Rattle.kdb_model.specs.Steps.{is_special}
use Rattle.princ_keys.specs.declared.keys.KeyItem.{KeyItem}
use Rattle.princ_record.specs.declared.princs.Princ.{Princ}

abbrev pub key_shown : KeyItem → KeyShown
key_shown k = record { kvno = k.kvno; etype = k.etype; special = is_special k.salt }

unfoldable pub record_shown : Princ → PrincShown
record_shown p = record {
  name = p.name;
  expire = p.expire;
  pw_expire = p.pw_expire;
  pw_changed = p.pw_changed;
  max_life = p.max_life;
  max_renew = p.max_renew;
  modified = p.modified;
  modifier = p.modifier;
  mkvno = p.mkvno;
  attributes = p.attributes;
  policy = p.policy;
  keys = map key_shown p.keys;
}
