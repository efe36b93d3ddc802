-- The attribute bits of a principal, and the words of kadmin for them.
use Rattle.std.specs.Prelude.{ℕ, Bool, true, false, not, nat_eq, List, [], ◌∷◌, codes, filter}
use Rattle.std.specs.Prelude.{find, fold, Option, Some, None, if◌then◌else◌, bit_and, bit_or}
use Rattle.std.specs.Int.{bit_not}
use Rattle.std.specs.Int.Width.{w32}
use Rattle.std.specs.Str.{bytes_eq}
use Rattle.kadm_values.specs.declared.flags.Flag.{Flag}
use Rattle.kadm_values.specs.declared.flags.FlagChange.{FlagChange}

-- a flag: its word, its bit, and whether it is + that sets the bit and - that clears it, or the other way round
pub record FlagRow : Type 0 where
  pub word : List ℕ
  pub bit : ℕ
  pub plus_sets : Bool

abbrev pub row_of : Flag → FlagRow
row_of flag = record { word = flag.word.now; bit = flag.bit; plus_sets = flag.plus_sets }

-- the flags that a principal may have, in the order in which they are shown
unfoldable pub flag_rows : List FlagRow
flag_rows =
    record { word = codes "allow_postdated"; bit = 0x1; plus_sets = false }
    ∷ record { word = codes "allow_forwardable"; bit = 0x2; plus_sets = false }
    ∷ record { word = codes "allow_tgs_req"; bit = 0x4; plus_sets = false }
    ∷ record { word = codes "allow_renewable"; bit = 0x8; plus_sets = false }
    ∷ record { word = codes "allow_proxiable"; bit = 0x10; plus_sets = false }
    ∷ record { word = codes "allow_dup_skey"; bit = 0x20; plus_sets = false }
    ∷ record { word = codes "allow_tix"; bit = 0x40; plus_sets = false }
    ∷ record { word = codes "requires_preauth"; bit = 0x80; plus_sets = true }
    ∷ record { word = codes "requires_hwauth"; bit = 0x100; plus_sets = true }
    ∷ record { word = codes "needchange"; bit = 0x200; plus_sets = true }
    ∷ record { word = codes "allow_svr"; bit = 0x1000; plus_sets = false }
    ∷ record { word = codes "password_changing_service"; bit = 0x2000; plus_sets = true }
    ∷ record { word = codes "ok_as_delegate"; bit = 0x100000; plus_sets = true }
    ∷ record { word = codes "ok_to_auth_as_delegate"; bit = 0x200000; plus_sets = true }
    ∷ record { word = codes "no_auth_data_required"; bit = 0x400000; plus_sets = true }
    ∷ record { word = codes "lockdown_keys"; bit = 0x800000; plus_sets = true }
    ∷ []

-- the flag of this word
unfoldable pub flag_named : List ℕ → Option FlagRow
flag_named word = find (λ row. bytes_eq row.word word) flag_rows

-- whether the flag is set by the sign, and its bit
abbrev pub signed_bit : Bool → Option FlagRow → Option FlagChange
signed_bit plus None = None
signed_bit plus (Some row) = Some (record { set = if plus then row.plus_sets else not row.plus_sets; bit = row.bit })

-- + or - and the word of a flag: what they do
unfoldable pub flag_change : List ℕ → Option FlagChange
flag_change [] = None
flag_change (sign ∷ word) =
    if nat_eq sign 43 then signed_bit true (flag_named word)
    else if nat_eq sign 45 then signed_bit false (flag_named word)
    else None

-- a flag's bit is set or cleared; all other bits stay
abbrev pub with_flag : ℕ → FlagChange → ℕ
with_flag attributes change =
    if change.set then bit_or attributes change.bit else bit_and attributes (bit_not w32 change.bit)

-- from left to right, so that the last flag on a bit counts
unfoldable pub with_flags : ℕ → List FlagChange → ℕ
with_flags attributes changes = fold with_flag attributes changes

-- the flags whose bits stand, in their order
unfoldable pub set_flags : ℕ → List FlagRow
set_flags attributes = filter (λ row. not (nat_eq (bit_and attributes row.bit) 0)) flag_rows
