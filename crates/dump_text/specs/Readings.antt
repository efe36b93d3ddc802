-- What the lines of a dump say.
use Rattle.std.specs.Prelude.{ℕ, ◌-◌, ◌==◌, ◌&&◌, Bool, List, [], ◌∷◌, codes, length, take, drop, Option}
use Rattle.std.specs.Prelude.{Some, None, option_and_then, Result, Ok, Err, nat_lt, if◌then◌else◌}
use Rattle.std.specs.Str.{bytes_eq}
use Rattle.hex.specs.Hex.{decode_of, encode_lower}
use Rattle.hex.specs.declared.error.FromHexError.{FromHexError}
use Rattle.kdb_base.specs.Limits.{longest_row}
use Rattle.kdb_base.specs.Moment.{Moment}
use Rattle.kdb_base.specs.declared.moments.Point.{Point}
use Rattle.kadm_values.specs.Numbers.{decimal_value}
use Rattle.kdb_format.specs.Readings.{whole}
use Rattle.policy_rules.specs.Rules.{Rules}
use Rattle.princ_name.specs.Realms.{is_realm}
use Rattle.princ_record.specs.Policies.{policy_at}
use Rattle.princ_record.specs.Princs.{princ_at}
use Rattle.princ_record.specs.declared.princs.Princ.{Princ}
use Rattle.dump_text.specs.Dumps.{point_line}
use Rattle.dump_text.specs.Versions.{stands_in}
use Rattle.dump_text.specs.declared.versions.Version.{Version}

-- what stands behind this word
unfoldable pub behind : List ℕ → List ℕ → Option (List ℕ)
behind word line = if bytes_eq (take (length word) line) word then Some (drop (length word) line) else None

-- ---- the realm

unfoldable pub realm_of : List ℕ → Option (List ℕ)
realm_of text = if is_realm text then Some text else None

unfoldable pub realm_in : List ℕ → Option (List ℕ)
realm_in line = option_and_then realm_of (behind (codes "realm ") line)

-- ---- the point: its numbers are read loosely, and a line that is not written so is refused

-- the bytes before the first blank, and those behind it
unfoldable pub before_blank : List ℕ → List ℕ
before_blank [] = []
before_blank (b ∷ text) = if b == 32 then [] else b ∷ before_blank text

unfoldable pub behind_blank : List ℕ → List ℕ
behind_blank [] = []
behind_blank (b ∷ text) = if b == 32 then text else behind_blank text

-- the last six digits are microseconds, and a dot stands before them
unfoldable pub near_time : List ℕ → Moment
near_time text =
    record { secs = decimal_value (take (length text - 7) text); usecs = decimal_value (drop (length text - 6) text) }

unfoldable pub near_point : List ℕ → Point
near_point text = record { sno = decimal_value (before_blank text); time = near_time (behind_blank text) }

abbrev pub is_point : Point → Bool
is_point point = nat_lt point.sno 4294967296 && (nat_lt point.time.secs 4294967296 && nat_lt point.time.usecs 1000000)

-- the point that is written so
unfoldable pub written_so : List ℕ → Point → Option Point
written_so line point = if is_point point && bytes_eq (point_line point) line then Some point else None

unfoldable pub point_in : List ℕ → Option Point
point_in line = option_and_then (λ text. written_so line (near_point text)) (behind (codes "point ") line)

-- ---- rows

abbrev pub bytes_or_none : Result (List ℕ) FromHexError → Option (List ℕ)
bytes_or_none (Ok bytes) = Some bytes
bytes_or_none (Err e) = None

-- the bytes that are written so in lower case
unfoldable pub hex_of : List ℕ → Option (List ℕ)
hex_of text = option_and_then (λ bytes. if bytes_eq (encode_lower bytes) text then Some bytes else None)
    (bytes_or_none (decode_of text))

-- the principal that may stand in a dump of this version
unfoldable pub princ_of : Version → List ℕ → Option Princ
princ_of version text = option_and_then (λ p. if stands_in version p then Some p else None)
    (option_and_then (λ bytes. whole princ_at bytes) (hex_of text))

unfoldable pub policy_of : List ℕ → Option Rules
policy_of text = option_and_then (λ bytes. whole policy_at bytes) (hex_of text)
