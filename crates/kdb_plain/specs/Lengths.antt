-- How long a plain principal's row is once its keys are wrapped.
use Rattle.std.specs.Prelude.{ℕ, ◌+◌, ◌-◌, ◌*◌, List, length, take, min, Option, Some, None}
use Rattle.std.specs.List.{last_or, sum_by}
use Rattle.kdb_base.specs.Key.{Key}
use Rattle.kdb_base.specs.declared.keys.Etype.{Etype}
use Rattle.kdb_base.specs.declared.versions.Activation.{Activation}
use Rattle.kdb_base.specs.declared.versions.Master.{Master}
use Rattle.master_keys.specs.Wrapping.{wrapped_len}
use Rattle.princ_keys.specs.Keys.{salt_bytes}
use Rattle.princ_record.specs.Princs.{princ}
use Rattle.kdb_plain.specs.Heads.{plain_head}
use Rattle.plain_keys.specs.declared.items.PlainItem.{PlainItem}
use Rattle.plain_keys.specs.declared.items.PlainSet.{PlainSet}
use Rattle.kdb_plain.specs.declared.princs.PlainPrinc.{PlainPrinc}

-- a number as it is told in 64 bits: what is greater is told as the greatest
abbrev pub in_64_bits : ℕ → ℕ
in_64_bits n = min n 18446744073709551615

-- a key in a row, under a master key of this type: version, type, kind of salt, counted salt, and the counted wrapped
-- key
abbrev pub item_len : Etype → PlainItem → ℕ
item_len master k = 10 + length (salt_bytes k.salt) + wrapped_len master k.key.etype

-- a remembered key, under a history key of this type: its type, and the counted wrapped key
abbrev pub old_key_len : Etype → Key → ℕ
old_key_len history k = 4 + wrapped_len history k.etype

-- a remembered set: its version, and its counted keys
abbrev pub set_len : Etype → PlainSet → ℕ
set_len history s = 4 + sum_by (old_key_len history) s.keys

-- the row, its keys under a master key of the first type and its remembered keys under a history key of the second
unfoldable pub row_len : Etype → Etype → PlainPrinc → ℕ
row_len master history q =
    length (princ (plain_head q)) + sum_by (item_len master) q.keys + sum_by (set_len history) q.old

-- ---- what K/M's row has beside: its activations, and the newest master key wrapped under each older one

-- the newest key under one older key: version, type, and the counted wrapped key
abbrev pub aux_len : Etype → Master → ℕ
aux_len newest older = 6 + wrapped_len older.key.etype newest

abbrev pub aux_lens : Option Master → List Master → ℕ
aux_lens None older = 0
aux_lens (Some newest) older = sum_by (aux_len newest.key.etype) older

abbrev pub older_masters : List Master → List Master
older_masters masters = take (length masters - 1) masters

unfoldable pub chain_len : List Master → List Activation → ℕ
chain_len masters activations =
    (4 + 6 * length activations) + (4 + aux_lens (last_or None masters) (older_masters masters))
