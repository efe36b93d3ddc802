-- The lines that a replica's run writes.
use Rattle.std.specs.Prelude.{ℕ, List, ◌++◌, codes, Bool, true, false}
use Rattle.std.specs.Fmt.{decimal}
use Rattle.kadm_replies.specs.Texts.{data_line}
use Rattle.kadm_values.specs.Points.{point_text}
use Rattle.kdb_base.specs.declared.moments.Point.{Point}
use Rattle.kprop_rounds.specs.declared.words.RoundWord.{RoundWord}
use Rattle.kprop_rounds.specs.declared.words.RoundWord.TheVariants as word

-- what a round came to, in words
unfoldable pub word_text : RoundWord → List ℕ
word_text word.Nil = codes "nil"
word_text (word.Updated count) = codes "updated " ++ decimal count
word_text word.Loaded = codes "loaded"
word_text word.Busy = codes "busy"
word_text word.Denied = codes "denied"
word_text word.Cut = codes "cut"
word_text word.WrongPoint = codes "refused WrongPoint"
word_text word.Gap = codes "refused Gap"
word_text (word.DumpBad line) = codes "refused DumpBad " ++ decimal line
word_text word.BadFrame = codes "refused BadFrame"

-- the replica refused what came
abbrev pub is_refused : RoundWord → Bool
is_refused word.Nil = false
is_refused (word.Updated count) = false
is_refused word.Loaded = false
is_refused word.Busy = false
is_refused word.Denied = false
is_refused word.Cut = false
is_refused word.WrongPoint = true
is_refused word.Gap = true
is_refused (word.DumpBad line) = true
is_refused word.BadFrame = true

-- a round's number, its word, and the replica's point after it
unfoldable pub round_told : ℕ → RoundWord → Point → List ℕ
round_told number w point =
    codes "round " ++ (decimal number ++ (codes " " ++ (word_text w ++ (codes " " ++ point_text point))))

abbrev pub round_line : ℕ → RoundWord → Point → List ℕ
round_line number w point = data_line (round_told number w point)
