-- Plain principals whose records have a spelling: the plain side of princ_record's `IsPrinc`, for other principals than
-- K/M.
use Rattle.std.specs.Prelude.{◌≡◌, ◌^◌, ◌<◌, ◌≤◌, Bool, true, false, not, ◌&&◌}
use Rattle.std.specs.Prelude.{◌||◌, nat_eq, nat_lt, List, [], ◌∷◌, length, IsTrue}
use Rattle.std.specs.List.{All, list_all}
use Rattle.kdb_base.specs.Etypes.{number_of}
use Rattle.kdb_base.specs.Limits.{most_keys, most_old_sets}
use Rattle.princ_keys.specs.Keys.{IsSalt}
use Rattle.princ_name.specs.Printed.{IsPrinted, is_master}
use Rattle.princ_record.specs.Facts.{IsPw}
use Rattle.princ_record.specs.Princs.{AreLives, IsPolicyOr, are_attributes, lives_of}
use Rattle.princ_record.specs.declared.princs.Princ.{Princ}
use Rattle.tagged_data.specs.Numbers.{IsVersion}
use Rattle.tagged_data.specs.Strings.{AreStrings}
use Rattle.kdb_plain.specs.Heads.{plain_head}
use Rattle.plain_keys.specs.declared.items.PlainItem.{PlainItem}
use Rattle.plain_keys.specs.declared.items.PlainSet.{PlainSet}
use Rattle.kdb_plain.specs.declared.princs.PlainPrinc.{PlainPrinc}

-- versions are from 1
pub record IsItem (k : PlainItem) : Type 0 where
  pub from_one : 0 < k.kvno
  pub kvno : k.kvno < 2 ^ 16
  pub salt : IsSalt k.salt

-- a later key has no higher version, and of the same version another type
abbrev pub may_follow : PlainItem → PlainItem → Bool
may_follow k later = nat_lt later.kvno k.kvno
    || (nat_eq later.kvno k.kvno && not (nat_eq (number_of later.key.etype) (number_of k.key.etype)))

unfoldable pub are_ordered : List PlainItem → Bool
are_ordered [] = true
are_ordered (k ∷ keys) = list_all (may_follow k) keys && are_ordered keys

-- keys that a principal may have
pub record AreItems (keys : List PlainItem) : Type 0 where
  pub few : length keys ≤ most_keys
  pub each : All IsItem keys
  pub ordered : IsTrue (are_ordered keys)

pub record IsSet (s : PlainSet) : Type 0 where
  pub kvno : s.kvno < 2 ^ 16
  pub count : length s.keys < 2 ^ 16

-- sets that a principal may remember
pub record AreSets (sets : List PlainSet) : Type 0 where
  pub few : length sets ≤ most_old_sets
  pub each : All IsSet sets

-- the fields of a principal other than K/M
pub record AreFields (h : Princ) : Type 0 where
  pub name : IsPrinted h.name
  pub other : is_master h.name ≡ false
  pub attributes : IsTrue (are_attributes h.attributes)
  pub attributes_short : h.attributes < 2 ^ 32
  pub lives : AreLives (lives_of h)
  pub pw_changed : IsPw h.pw_changed
  pub modified : h.modified < 2 ^ 32
  pub modifier : IsPrinted h.modifier
  pub mkvno : IsVersion h.mkvno
  pub strings : AreStrings h.strings
  pub policy : IsPolicyOr h.policy

-- the fields, the keys and the remembered sets of a principal other than K/M
pub record IsFormed (q : PlainPrinc) : Type 0 where
  pub fields : AreFields (plain_head q)
  pub keys : AreItems q.keys
  pub old : AreSets q.old
