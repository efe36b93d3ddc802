-- Words are no longer than their line.
use Rattle.std.proofs.Common.{ℕ, zero, suc, ◌≤◌, Bool, true, false, ◌==◌, List, [], ◌∷◌, ◌++◌}
use Rattle.std.proofs.Common.{length, drop, ◌⊎◌, inl, inr, ap, arith, length-append, if◌then◌else◌}
use Rattle.std.specs.List.{flat_map}
use Rattle.kadm_words.specs.Words.{SpellsWords, SpellsPlain, SpellsQuoted, quoted, quoted_byte, AreWithin}

length-quoted_byte : (quote : Bool) (byte : ℕ) → 1 ≤ length (if quote then 34 ∷ 34 ∷ [] else byte ∷ [])
length-quoted_byte true byte = omega arith
length-quoted_byte false byte = omega arith

length-quoted : (word : List ℕ) → length word ≤ length (quoted word)
unfolding quoted
length-quoted [] = omega arith
length-quoted (byte ∷ word) =
    let rest = length-quoted word in
    omega (arith, length-append (quoted_byte byte) (flat_map quoted_byte word), length-quoted_byte (byte == 34) byte)

word_short : (word text : List ℕ) → SpellsPlain word text ⊎ SpellsQuoted word text → length word ≤ length text
word_short word text (inl plain) = let e = ap length plain.text_is in omega arith
word_short word text (inr quotes) =
    omega (arith, ap length quotes.text_is, length-append (quoted word) (34 ∷ []), length-quoted word)

pub words_short : (most : ℕ) (words : List (List ℕ)) (line : List ℕ) → SpellsWords words line → length line ≤ most
    → AreWithin most words
unfolding SpellsWords AreWithin
words_short most [] line s fits = tt
words_short most (word ∷ words) line led fits =
    let all = ap length led.line_is in
    let whole = length-append led.gap (led.text ++ led.rest) in
    let rest = length-append led.text led.rest in
    let mine = word_short word led.text led.spelled in
    (omega arith, words_short most words led.rest led.others (omega arith))

pub short_behind : (most : ℕ) (words more : List (List ℕ)) → AreWithin most (words ++ more) → AreWithin most more
unfolding AreWithin
short_behind most [] more short = short
short_behind most (word ∷ words) more short = short_behind most words more short.1

pub short_drop : (most k : ℕ) (words : List (List ℕ)) → AreWithin most words → AreWithin most (drop k words)
unfolding AreWithin
short_drop most zero words short = short
short_drop most (suc k) [] short = tt
short_drop most (suc k) (word ∷ words) short = short_drop most k words short.1
