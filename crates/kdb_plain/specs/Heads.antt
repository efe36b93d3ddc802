-- The fields of a principal without its keys. What a command does to them is said once, of records as they are kept and
-- of plain ones.
use Rattle.std.specs.Prelude.{List, [], None}
use Rattle.princ_record.specs.declared.princs.Princ.{Princ}
use Rattle.plain_keys.specs.declared.items.PlainItem.{PlainItem}
use Rattle.plain_keys.specs.declared.items.PlainSet.{PlainSet}
use Rattle.kdb_plain.specs.declared.princs.PlainPrinc.{PlainPrinc}

-- of a record as it is kept
abbrev pub head : Princ → Princ
head p = record p { keys = []; old = []; chain = None }

-- of a plain one
abbrev pub plain_head : PlainPrinc → Princ
plain_head q = record {
  name = q.name;
  attributes = q.attributes;
  max_life = q.max_life;
  max_renew = q.max_renew;
  expire = q.expire;
  pw_expire = q.pw_expire;
  pw_changed = q.pw_changed;
  modified = q.modified;
  modifier = q.modifier;
  mkvno = q.mkvno;
  keys = [];
  policy = q.policy;
  old = [];
  chain = None;
  strings = q.strings;
}

-- the plain principal of these fields, keys and remembered keys
abbrev pub plain_of : Princ → List PlainItem → List PlainSet → PlainPrinc
plain_of h keys old = record {
  name = h.name;
  attributes = h.attributes;
  max_life = h.max_life;
  max_renew = h.max_renew;
  expire = h.expire;
  pw_expire = h.pw_expire;
  pw_changed = h.pw_changed;
  modified = h.modified;
  modifier = h.modifier;
  mkvno = h.mkvno;
  keys = keys;
  policy = h.policy;
  old = old;
  strings = h.strings;
}
