-- What a reader of a dump was fed, and what was taken of the input for it.
use Rattle.std.proofs.Common.{◌≡◌, ◌<◌, ◌+◌, ◌∙◌, ℕ, List, [], ◌++◌, length, refl, sym, ap, arith, length-append}
use Rattle.std.specs.Prelude.{Option, Some, None, IfSome, Err, option_map}
use Rattle.std.proofs.lemmas.Option.{same_Some}
use Rattle.dump_text.specs.Judged.{judged}
use Rattle.dump_text.specs.Reader.{ReaderState, fresh, judged_or_bad, judged_with}
use Rattle.session_base.specs.Wholes.{IsReadWhole, WereTaken}
use Rattle.kdb_ports.specs.Told.{IsSpent, before_told}

-- ---- one piece

-- a line that is bad stays so
pub bad_stays : (old new : ReaderState) (piece : List ℕ) (line : ℕ)
    → ((rest : List ℕ) → judged_with old (piece ++ rest) ≡ Err line) → new.bad ≡ Some line
    → (rest : List ℕ) → judged_with new rest ≡ judged_with old (piece ++ rest)
unfolding judged_with
bad_stays old new piece line was is rest =
    ap (λ (b : Option ℕ). judged_or_bad b new.said new.count (new.held ++ rest)) is ∙ sym (was rest)

-- what is left is judged as before
pub fed_told : (old new : ReaderState) (piece : List ℕ) (before left : Option (List ℕ))
    → before ≡ before_told piece left
    → ((rest : List ℕ) → judged_with new rest ≡ judged_with old (piece ++ rest))
    → option_map (judged_with new) left ≡ option_map (judged_with old) before
fed_told old new piece before None is same = sym (ap (option_map (judged_with old)) is)
fed_told old new piece before (Some rest) is same = ap Some (same rest) ∙ sym (ap (option_map (judged_with old)) is)

pub taken_told : (n : ℕ) (piece : List ℕ) (before left : Option (List ℕ)) → length piece ≡ n
    → before ≡ before_told piece left → WereTaken n before left
taken_told n piece before None long is = ap (option_map length) is
taken_told n piece before (Some rest) long is =
    ap (option_map length) is ∙ ap Some (omega (arith, length-append piece rest, long))

-- ---- one piece after another

pub taken_none : (told : Option (List ℕ)) → WereTaken 0 told told
taken_none None = refl
taken_none (Some left) = ap Some (omega arith)

pub taken_more : (n m : ℕ) (first before left : Option (List ℕ)) → WereTaken n first before → WereTaken m before left
    → WereTaken (n + m) first left
taken_more n m first None None so_far next = so_far
taken_more n m first None (Some rest) so_far next = absurd cc
taken_more n m first (Some before) None so_far next = absurd cc
taken_more n m first (Some before) (Some rest) so_far next = so_far ∙ ap Some (omega (arith, same_Some _ _ next))

-- ---- the whole input

-- a reader at the front
pub fresh_judged : (r : ReaderState) (text : List ℕ) → r ≡ fresh → judged_with r text ≡ judged text
unfolding judged_with judged
fresh_judged r text is = ap (λ (s : ReaderState). judged_with s text) is

short_by : (n : ℕ) (first : Option (List ℕ)) → n < 4294967296 → option_map length first ≡ Some n
    → IfSome first (λ left. length left < 4294967296)
short_by n None few is = absurd cc
short_by n (Some left) few is = omega (arith, same_Some _ _ is)

short_untold : (first : Option (List ℕ)) → option_map length first ≡ None
    → IfSome first (λ left. length left < 4294967296)
short_untold None is = tt
short_untold (Some left) is = absurd cc

-- where no byte is left, the input was read whole
pub read_whole : (n : ℕ) (first left : Option (List ℕ)) → n < 4294967296 → WereTaken n first left → IsSpent left
    → IsReadWhole first left
read_whole n first None few taken spent = record { spent = tt; short = short_untold first taken }
read_whole n first (Some rest) few taken spent =
    record { spent = spent; short = short_by n first few (taken ∙ ap Some (omega (arith, ap length spent))) }

-- and it is judged whole
pub judged_whole : (old new : ReaderState) (first left : Option (List ℕ)) (text : List ℕ)
    → option_map (judged_with new) left ≡ option_map (judged_with old) first
    → IsSpent left → first ≡ Some text → judged_with new [] ≡ judged_with old text
judged_whole old new first None text same spent is = let missing =
    same ∙ ap (option_map (judged_with old)) is in absurd cc
judged_whole old new first (Some rest) text same spent is =
    ap (judged_with new) (sym spent) ∙ same_Some _ _ (same ∙ ap (option_map (judged_with old)) is)
