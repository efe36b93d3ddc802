-- The lines of replies.
use Rattle.std.specs.Prelude.{ℕ, ◌==◌, List, ◌++◌, codes, if◌then◌else◌}
use Rattle.kadm_values.specs.Calendar.{civil_text_at}
use Rattle.kadm_values.specs.Points.{point_text}
use Rattle.kdb_base.specs.declared.keys.Etype.{Etype}
use Rattle.kdb_base.specs.declared.keys.Etype.TheVariants.{Aes128, Aes256, Aes128Sha2, Aes256Sha2}
use Rattle.kdb_base.specs.declared.moments.Point.{Point}

abbrev pub line_feed : List ℕ
line_feed = codes "\n"

-- 0 is never
unfoldable pub time_text : ℕ → List ℕ
time_text secs = if secs == 0 then codes "never" else civil_text_at secs

-- a point
unfoldable pub done_text : Point → List ℕ
done_text point = codes "ok " ++ (point_text point ++ line_feed)

unfoldable pub data_line : List ℕ → List ℕ
data_line text = codes "- " ++ text ++ line_feed

unfoldable pub field_line : List ℕ → List ℕ → List ℕ
field_line word text = data_line (word ++ codes " " ++ text)

-- the long word of an encryption type
unfoldable pub etype_text : Etype → List ℕ
etype_text Aes128 = codes "aes128-cts-hmac-sha1-96"
etype_text Aes256 = codes "aes256-cts-hmac-sha1-96"
etype_text Aes128Sha2 = codes "aes128-cts-hmac-sha256-128"
etype_text Aes256Sha2 = codes "aes256-cts-hmac-sha384-192"
