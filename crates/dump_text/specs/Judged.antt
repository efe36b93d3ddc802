-- What a text is: the dump that it spells, or the first line that breaks it.
use Rattle.std.specs.Prelude.{ℕ, ◌+◌, ◌≡◌, ◌&&◌, Bool, true, false, List, [], ◌∷◌, ◌++◌, codes, length, Option, Some}
use Rattle.std.specs.Prelude.{None, option_map, option_and_then, Result, Ok, Err, nat_eq, nat_le, min, if◌then◌else◌}
use Rattle.std.specs.List.{All}
use Rattle.std.specs.Str.{bytes_eq}
use Rattle.hex.specs.Hex.{IsBytes}
use Rattle.kdb_base.specs.Limits.{most_rows}
use Rattle.kdb_base.specs.declared.moments.Point.{Point}
use Rattle.kdb_format.specs.Moments.{IsPoint}
use Rattle.policy_rules.specs.Rules.{Rules}
use Rattle.princ_name.specs.Realms.{IsRealm}
use Rattle.princ_record.specs.Policies.{policy}
use Rattle.princ_record.specs.Princs.{princ}
use Rattle.princ_rows.specs.Rows.{RowLists, AreRows, princ_keys, policy_keys}
use Rattle.tagged_data.specs.KeyOrder.{rises_from}
use Rattle.princ_record.specs.declared.princs.Princ.{Princ}
use Rattle.dump_text.specs.Dumps.{end_line, row_count, dump_text}
use Rattle.dump_text.specs.Lines.{lines_of}
use Rattle.dump_text.specs.Readings.{behind, realm_in, point_in, princ_of, policy_of}
use Rattle.dump_text.specs.Versions.{stands_in, version_of}
use Rattle.dump_text.specs.declared.versions.Version.{Version}
use Rattle.dump_text.specs.declared.dumps.Dump.{Dump}

-- what the lines so far said
pub record Said : Type 0 where
  pub titled : Option Version
  pub realm : Option (List ℕ)
  pub point : Option Point
  pub princs : List Princ
  pub policies : List Rules
  pub ended : Bool

abbrev pub nothing : Said
nothing = record { titled = None; realm = None; point = None; princs = []; policies = []; ended = false }

abbrev pub rows_of : Said → RowLists
rows_of s = record { princs = s.princs; policies = s.policies }

-- as many rows as there may be, each behind the one before it
abbrev pub is_in_order : RowLists → Bool
is_in_order rows = nat_le (row_count rows) most_rows
    && (rises_from None (princ_keys rows.princs) && rises_from None (policy_keys rows.policies))

abbrev pub when_in_order : Said → Option Said
when_in_order s = if is_in_order (rows_of s) then Some s else None

-- ---- what a line leads to, None where no dump goes on with it

unfoldable pub after_title : Said → List ℕ → Option Said
after_title s line = option_map (λ version. record s { titled = Some version }) (version_of line)

unfoldable pub after_realm : Said → List ℕ → Option Said
after_realm s line = option_map (λ r. record s { realm = Some r }) (realm_in line)

unfoldable pub after_point : Said → List ℕ → Option Said
after_point s line = option_map (λ p. record s { point = Some p }) (point_in line)

-- no principal stands behind a policy
unfoldable pub with_princ : Said → Princ → Option Said
with_princ s p =
    if nat_eq (length s.policies) 0 then when_in_order (record s { princs = s.princs ++ (p ∷ []) }) else None

unfoldable pub with_policy : Said → Rules → Option Said
with_policy s p = when_in_order (record s { policies = s.policies ++ (p ∷ []) })

unfoldable pub after_end : Said → List ℕ → Option Said
after_end s line = if bytes_eq line (end_line (row_count (rows_of s))) then Some (record s { ended = true }) else None

abbrev pub policy_or_end : Said → List ℕ → Option (List ℕ) → Option Said
policy_or_end s line None = after_end s line
policy_or_end s line (Some text) = option_and_then (with_policy s) (policy_of text)

abbrev pub princ_or_other : Version → Said → List ℕ → Option (List ℕ) → Option Said
princ_or_other version s line None = policy_or_end s line (behind (codes "policy ") line)
princ_or_other version s line (Some text) = option_and_then (with_princ s) (princ_of version text)

unfoldable pub after_row : Version → Said → List ℕ → Option Said
after_row version s line = princ_or_other version s line (behind (codes "princ ") line)

abbrev pub point_or_row : Version → Said → List ℕ → Option Point → Option Said
point_or_row version s line None = after_point s line
point_or_row version s line (Some point) = if s.ended then None else after_row version s line

abbrev pub realm_or_later : Version → Said → List ℕ → Option (List ℕ) → Option Said
realm_or_later version s line None = after_realm s line
realm_or_later version s line (Some realm) = point_or_row version s line s.point

abbrev pub title_or_later : Said → List ℕ → Option Version → Option Said
title_or_later s line None = after_title s line
title_or_later s line (Some version) = realm_or_later version s line s.realm

-- first the title, then the realm, the point, the rows and the end, and nothing behind it
unfoldable pub after : Said → List ℕ → Option Said
after s line = title_or_later s line s.titled

-- ---- whole texts

abbrev pub with_parts : Option (List ℕ) → Option Point → RowLists → Option Dump
with_parts None point rows = None
with_parts (Some realm) None rows = None
with_parts (Some realm) (Some point) rows = Some (record { realm = realm; point = point; rows = rows })

-- the dump whose last line came
unfoldable pub dump_of : Said → Option Dump
dump_of s = if s.ended then with_parts s.realm s.point (rows_of s) else None

-- the number of the line behind so many, up to the last number of a u32
abbrev pub line_behind : ℕ → ℕ
line_behind count = min (count + 1) 4294967295

abbrev pub dump_or_bad : ℕ → Option Dump → List ℕ → Result Dump ℕ
dump_or_bad line (Some dump) [] = Ok dump
dump_or_bad line (Some dump) (b ∷ rest) = Err line
dump_or_bad line None rest = Err line

abbrev pub said_or : {A : Type 0} → A → Option Said → (Said → A) → A
said_or bad None next = bad
said_or bad (Some s) next = next s

-- what lines and the bytes behind them are, where so many lines said this
unfoldable pub judged_lines : Said → ℕ → List (List ℕ) → List ℕ → Result Dump ℕ
judged_lines s count [] rest = dump_or_bad (line_behind count) (dump_of s) rest
judged_lines s count (line ∷ lines) rest =
    said_or (Err (line_behind count)) (after s line) (λ t. judged_lines t (line_behind count) lines rest)

-- the same of a text
unfoldable pub judged_from : Said → ℕ → List ℕ → Result Dump ℕ
judged_from s count text = judged_lines s count (lines_of text).whole (lines_of text).rest

unfoldable pub judged : List ℕ → Result Dump ℕ
judged text = judged_from nothing 0 text

-- each record is spelled in bytes, and may stand in a dump of this version
pub record AreSpelled (version : Version) (rows : RowLists) : Type 0 where
  pub stand : All (λ p. stands_in version p ≡ true) rows.princs
  pub princs : All (λ p. IsBytes (princ p)) rows.princs
  pub policies : All (λ p. IsBytes (policy p)) rows.policies

-- what a dump of this version may hold
pub record IsDump (version : Version) (dump : Dump) : Type 0 where
  pub realm : IsRealm dump.realm
  pub point : IsPoint dump.point
  pub rows : AreRows dump.rows
  pub bytes : AreSpelled version dump.rows

-- the text of this dump, in the one version or the other
pub record IsDumpText (text : List ℕ) (dump : Dump) : Type 0 where
  pub version : Version
  pub is_dump : IsDump version dump
  pub whole : text ≡ dump_text version dump.realm dump.point dump.rows

-- a dump goes on with this text
pub record BeginsDump (text : List ℕ) : Type 0 where
  pub dump : Dump
  pub rest : List ℕ
  pub is_text : IsDumpText (text ++ rest) dump

-- ---- what was read so far

-- what these lines lead to, None where one of them breaks
unfoldable pub said_by : Said → List (List ℕ) → Option Said
said_by s [] = Some s
said_by s (line ∷ lines) = option_and_then (λ t. said_by t lines) (after s line)
