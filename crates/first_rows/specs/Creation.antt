-- What a new database has, as MIT's kdb5_util create makes it: one master key, and the principals K/M, kadmin/history
-- and krbtgt of the realm. That kadmin/history has one key of type 18 and krbtgt keys of types 18 and 17, and where
-- their bytes stand in the block of random bytes, is this project's own rule.
use Rattle.std.specs.Prelude.{ℕ, ◌+◌, true, List, [], ◌∷◌, ◌++◌, codes, drop, take, Option, Some, None}
use Rattle.std.specs.List.{sum_by}
use Rattle.kdb_base.specs.Etypes.{key_len}
use Rattle.kdb_base.specs.Key.{Key}
use Rattle.kdb_base.specs.Moment.{Moment}
use Rattle.kdb_base.specs.declared.keys.Etype.{Etype}
use Rattle.kdb_base.specs.declared.keys.Etype.TheVariants.{Aes128, Aes256}
use Rattle.kdb_base.specs.declared.moments.Point.{Point}
use Rattle.kdb_plain.specs.Heads.{plain_of}
use Rattle.kdb_plain.specs.States.{history_name}
use Rattle.kdb_plain.specs.declared.princs.PlainPrinc.{PlainPrinc}
use Rattle.kdb_plain.specs.declared.states.State.{State}
use Rattle.master_keys.specs.First.{admin_name, first_record, master_name}
use Rattle.plain_keys.specs.Keys.{drawn_len, item_of, items_of, password_key, random_keys}
use Rattle.plain_keys.specs.declared.items.PlainItem.{PlainItem}
use Rattle.princ_keys.specs.declared.keys.KeyItem.{KeyItem}
use Rattle.princ_record.specs.declared.princs.Princ.{Princ}
use Rattle.princ_rows.specs.Rows.{RowLists}
use Rattle.row_keys.specs.Wraps.{wrapped_items}
use Rattle.first_rows.specs.Parts.{SpecParts}

-- serial 1 at the clock
abbrev pub first_point : Moment → Point
first_point now = record { sno = 1; time = now }

-- the printed name of the principal whose keys protect tickets: the components krbtgt and the realm, an `@` and the
-- realm
unfoldable pub ticket_name : List ℕ → List ℕ
ticket_name realm = codes "krbtgt/" ++ (realm ++ 64 ∷ realm)

-- the salt of K/M: the realm and the components
unfoldable pub master_salt : List ℕ → List ℕ
master_salt realm = realm ++ codes "KM"

-- ---- the block of random bytes

-- what the master key takes of it for itself: nothing where it is that of a password
abbrev pub own_len : Option (List ℕ) → Etype → ℕ
own_len None etype = key_len etype
own_len (Some password) etype = 0

-- behind its own bytes stand the 16 with which it is wrapped
abbrev pub master_confounder : SpecParts → List ℕ → List ℕ
master_confounder spec random = take 16 (drop (own_len spec.password spec.etype) random)

-- what stands behind those
unfoldable pub behind_master : SpecParts → List ℕ → List ℕ
behind_master spec random = drop (own_len spec.password spec.etype + 16) random

-- the types of the keys of kadmin/history and of krbtgt
abbrev pub history_types : List Etype
history_types = Aes256 ∷ []

abbrev pub ticket_types : List Etype
ticket_types = Aes256 ∷ Aes128 ∷ []

-- what stands behind the key of kadmin/history
unfoldable pub behind_history : SpecParts → List ℕ → List ℕ
behind_history spec random = drop (sum_by drawn_len history_types) (behind_master spec random)

-- ---- keys

abbrev pub master_key_from : Option (List ℕ) → List ℕ → Etype → List ℕ → Key
master_key_from None realm etype random = record { etype = etype; bytes = take (key_len etype) random }
master_key_from (Some password) realm etype random = password_key password (master_salt realm) etype

-- the key of the password with K/M's normal salt, or the first bytes of the block
unfoldable pub master_key_of : SpecParts → List ℕ → Key
master_key_of spec random = master_key_from spec.password spec.realm spec.etype random

-- new random keys of the first version, each behind the last one's confounder
abbrev pub first_items : List Etype → List ℕ → List PlainItem
first_items etypes random = items_of 1 (random_keys random etypes)

-- ---- principals

-- no attributes, lives, expirations and no policy; made at these seconds by the administrator of the machine
unfoldable pub first_head : List ℕ → List ℕ → ℕ → Princ
first_head realm name secs = record {
  name = name;
  attributes = 0;
  max_life = 0;
  max_renew = 0;
  expire = 0;
  pw_expire = 0;
  pw_changed = Some secs;
  modified = secs;
  modifier = admin_name realm;
  mkvno = 1;
  keys = [];
  policy = None;
  old = [];
  chain = None;
  strings = [];
}

-- with these keys in the plain
abbrev pub first_plain : List ℕ → List ℕ → ℕ → List PlainItem → PlainPrinc
first_plain realm name secs keys = plain_of (first_head realm name secs) keys []

-- with these keys as they are wrapped
abbrev pub first_kept : List ℕ → List ℕ → ℕ → List KeyItem → Princ
first_kept realm name secs items = record (first_head realm name secs) { keys = items }

-- with random keys of these types, wrapped under a master key
abbrev pub first_wrapped : Key → List ℕ → List ℕ → ℕ → List Etype → List ℕ → Princ
first_wrapped master realm name secs etypes random =
    first_kept realm name secs (wrapped_items master true random (first_items etypes random))

-- ---- the state and its rows

unfoldable pub first_princs : SpecParts → ℕ → List ℕ → List PlainPrinc
first_princs spec secs random =
    first_plain spec.realm (master_name spec.realm) secs (item_of 1 (master_key_of spec random) ∷ [])
    ∷ first_plain spec.realm (history_name spec.realm) secs (first_items history_types (behind_master spec random))
    ∷ first_plain spec.realm (ticket_name spec.realm) secs (first_items ticket_types (behind_history spec random))
    ∷ []

-- one version of the master key, active from the clock's seconds on
unfoldable pub first_state : SpecParts → Moment → List ℕ → State
first_state spec now random = record {
  realm = spec.realm;
  masters = record { version = 1; key = master_key_of spec random } ∷ [];
  activations = record { version = 1; secs = now.secs } ∷ [];
  princs = first_princs spec now.secs random;
  policies = [];
  point = first_point now;
}

unfoldable pub first_records : SpecParts → ℕ → List ℕ → List Princ
first_records spec secs random =
    first_record spec.realm (master_key_of spec random) secs (master_confounder spec random)
    ∷ first_wrapped (master_key_of spec random) spec.realm (history_name spec.realm) secs history_types
    (behind_master spec random)
    ∷ first_wrapped (master_key_of spec random) spec.realm (ticket_name spec.realm) secs ticket_types
    (behind_history spec random)
    ∷ []

-- the rows, to the byte
unfoldable pub first_rows : SpecParts → Moment → List ℕ → RowLists
first_rows spec now random = record { princs = first_records spec now.secs random; policies = [] }
