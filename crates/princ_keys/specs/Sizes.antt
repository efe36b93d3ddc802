-- How long the spellings of keys are.
use Rattle.std.proofs.Common.{ℕ, ◌+◌, length}
use Rattle.std.specs.List.{sum_by}
use Rattle.princ_keys.specs.Keys.{salt_bytes}
use Rattle.princ_keys.specs.declared.keys.KeyItem.{KeyItem}
use Rattle.princ_keys.specs.declared.remembered.OldKey.{OldKey}
use Rattle.princ_keys.specs.declared.remembered.OldSet.{OldSet}

-- ---- keys

abbrev pub key_len : KeyItem → ℕ
key_len k = 10 + length (salt_bytes k.salt) + length k.wrapped

-- ---- remembered keys

abbrev pub old_key_len : OldKey → ℕ
old_key_len k = 4 + length k.wrapped

abbrev pub old_set_len : OldSet → ℕ
old_set_len s = 4 + sum_by old_key_len s.keys
