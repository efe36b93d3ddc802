-- What a step of a reader says of the lines that come.
use Rattle.std.proofs.Common.{◌≡◌, ℕ, ◌<◌, ◌≤◌, Bool, true, false, IsTrue, List, [], ◌∷◌, ◌++◌, length, Option}
use Rattle.std.proofs.Common.{Some, None, option_map, refl, sym, ap, ◌∙◌, append_assoc, ◌⊎◌, inl, inr}
use Rattle.kdb_base.specs.Limits.{longest_line}
use Rattle.kdb_ports.specs.Told.{before_told, IsSpent}
use Rattle.kadm_lines.specs.Lines.{Seen, lines_from, seen_lines}
use Rattle.kadm_lines.specs.Windows.{lacks_feed, Parts}
use Rattle.kadm_lines.specs.Reader.{ReaderState, NothingComes, to_come, unread, before_lines}
use Rattle.kadm_lines.specs.Steps.{Answers, Gives, Keeps, line_seen}
use Rattle.kadm_lines.specs.declared.readers.NextLine.{NextLine}
use Rattle.kadm_lines.specs.declared.readers.NextLine.TheVariants.{TooLong, End}
use Rattle.kadm_lines.specs.declared.readers.NextLine.TheVariants as answer
use Rattle.kadm_lines.proofs.Lines.{from-fed, from-skipped, from-long, from-last}
use Rattle.kadm_lines.proofs.Lines.{from-nothing, from-nothing-long, seen-long, seen-short}

-- a line at the front, whatever follows
line-first : (old new : ReaderState) (line : Seen)
    → ((rest : List ℕ)
    → lines_from old.skipping (old.pending ++ rest) ≡ line ∷ lines_from new.skipping (new.pending ++ rest))
    → new.over ≡ old.over → (told : Option (List ℕ)) → to_come old told ≡ before_lines line (to_come new told)
unfolding to_come
line-first old new line first over None = refl
line-first old new line first over (Some rest) =
    ap (λ t. Some t)
    (first (unread old.over rest) ∙ ap (λ o. line ∷ lines_from new.skipping (new.pending ++ unread o rest)) (sym over))

answered : (next : NextLine) (old new : ReaderState) (line : Seen) → Answers next new.text line
    → ((told : Option (List ℕ)) → to_come old told ≡ before_lines line (to_come new told)) → Gives next old new
unfolding Answers
answered (answer.Line ended) old new line is come =
    record { at = λ told. come told ∙ ap (λ l. before_lines l (to_come new told)) is }
answered (TooLong ended) old new line is come =
    record { at = λ told. come told ∙ ap (λ l. before_lines l (to_come new told)) is }
answered End old new line is come = absurd is

-- a line that a line feed ends
pub gives-fed : (next : NextLine) (old new : ReaderState) (text : List ℕ) → Parts old.pending text new.pending
    → Answers next new.text (line_seen old.skipping (record { bytes = text; ended = true })) → new.skipping ≡ false
    → new.over ≡ old.over → Gives next old new
gives-fed next old new text parts is within over =
    answered next old new _ is (line-first old new _ (λ rest.
    ap (λ t. lines_from old.skipping (t ++ rest)) parts.whole
    ∙ ap (λ t. lines_from old.skipping t) (append_assoc text (10 ∷ new.pending) rest)
    ∙ from-fed old.skipping text (new.pending ++ rest) parts.clear
    ∙ ap (λ s. line_seen old.skipping (record { bytes = text; ended = true }) ∷ lines_from s (new.pending ++ rest))
    (sym within)) over)

-- the same lines, whatever follows
same-lines : (old new : ReaderState)
    → ((rest : List ℕ) → lines_from new.skipping (new.pending ++ rest) ≡ lines_from old.skipping (old.pending ++ rest))
    → new.over ≡ old.over → (told : Option (List ℕ)) → to_come new told ≡ to_come old told
unfolding to_come
same-lines old new same over None = refl
same-lines old new same over (Some rest) =
    ap (λ t. Some t)
    (ap (λ o. lines_from new.skipping (new.pending ++ unread o rest)) over ∙ same (unread old.over rest))

skipped-front : (skipping : Bool) (xs rest : List ℕ) → lacks_feed xs ≡ true
    → (skipping ≡ true) ⊎ (longest_line < length xs)
    → lines_from true rest ≡ lines_from skipping (xs ++ rest)
skipped-front true xs rest clear why = sym (from-skipped xs rest clear)
skipped-front false xs rest clear (inl is) = cc
skipped-front false xs rest clear (inr long) = sym (from-long xs rest clear long)

-- bytes that belong to a line that is too long
pub keeps-given-up : (old new : ReaderState) → lacks_feed old.pending ≡ true
    → (old.skipping ≡ true) ⊎ (longest_line < length old.pending)
    → new.skipping ≡ true → new.pending ≡ [] → new.over ≡ old.over → Keeps old new
keeps-given-up old new clear why within none over = record {
  at = same-lines old new (λ rest.
      ap (λ s. lines_from s (new.pending ++ rest)) within
      ∙ ap (λ t. lines_from true (t ++ rest)) none
      ∙ skipped-front old.skipping old.pending rest clear why) over;
}

-- the same bytes in the same place
pub keeps-all : (old new : ReaderState) → new.skipping ≡ old.skipping → new.pending ≡ old.pending → new.over ≡ old.over
    → Keeps old new
keeps-all old new skipping pending over = record {
  at = same-lines old new (λ rest. ap (λ s. lines_from s (new.pending ++ rest)) skipping
      ∙ ap (λ t. lines_from old.skipping (t ++ rest)) pending) over;
}

-- one step after another
pub keeps-then : (old middle new : ReaderState) → Keeps old middle → Keeps middle new → Keeps old new
keeps-then old middle new front back = record { at = λ told. back.at told ∙ front.at told }

-- a line at the front, where the input is over
line-over : (old new : ReaderState) (line : Seen)
    → lines_from old.skipping (old.pending ++ []) ≡ line ∷ lines_from new.skipping (new.pending ++ [])
    → old.over ≡ true → new.over ≡ true → (told : Option (List ℕ))
    → to_come old told ≡ before_lines line (to_come new told)
unfolding to_come
line-over old new line first was is None = refl
line-over old new line first was is (Some rest) =
    ap (λ t. Some t) (ap (λ o. lines_from old.skipping (old.pending ++ unread o rest)) was ∙ first
    ∙ ap (λ o. line ∷ lines_from new.skipping (new.pending ++ unread o rest)) (sym is))

is-long : (text : List ℕ) (ended : Bool) → Answers (TooLong ended) text (record { text = None; ended = ended })
unfolding Answers
is-long text ended = refl

is-line : (text : List ℕ) (ended : Bool) → Answers (answer.Line ended) text (record { text = Some text; ended = ended })
unfolding Answers
is-line text ended = refl

-- the rest of a line that is too long, at the end
pub gives-long : (old new : ReaderState) → old.skipping ≡ true → old.pending ≡ [] → new.skipping ≡ false
    → new.pending ≡ []
    → old.over ≡ true → new.over ≡ true → Gives (TooLong false) old new
gives-long old new was none is none' over over' =
    answered (TooLong false) old new (record { text = None; ended = false }) (is-long new.text false)
    (line-over old new _
    (ap (λ s. lines_from s (old.pending ++ [])) was ∙ ap (λ t. lines_from true (t ++ [])) none ∙ from-nothing-long
    ∙ ap (λ t. record { text = None; ended = false } ∷ t) (sym from-nothing)
    ∙ ap (λ s. record { text = None; ended = false } ∷ lines_from s []) (sym is)
    ∙ ap (λ t. record { text = None; ended = false } ∷ lines_from new.skipping (t ++ [])) (sym none')) over over')

-- a last line that no line feed ended
pub gives-last : (old new : ReaderState) → old.skipping ≡ false → lacks_feed old.pending ≡ true → 0 < length old.pending
    → length old.pending ≤ longest_line
    → new.text ≡ old.pending → new.skipping ≡ false → new.pending ≡ [] → old.over ≡ true → new.over ≡ true
    → Gives (answer.Line false) old new
gives-last old new was clear least short text is none over over' =
    answered (answer.Line false) old new (record { text = Some new.text; ended = false }) (is-line new.text false)
    (line-over old new _
    (ap (λ s. lines_from s (old.pending ++ [])) was ∙ from-last old.pending clear least short
    ∙ ap (λ t. record { text = Some t; ended = false } ∷ lines_from false []) (sym text)
    ∙ ap (λ s. record { text = Some new.text; ended = false } ∷ lines_from s []) (sym is)
    ∙ ap (λ t. record { text = Some new.text; ended = false } ∷ lines_from new.skipping (t ++ [])) (sym none)) over
    over')

ends : (s : ReaderState) → s.skipping ≡ false → s.pending ≡ [] → s.over ≡ true → (told : Option (List ℕ))
    → NothingComes (to_come s told)
unfolding to_come
ends s within none over None = tt
ends s within none over (Some rest) =
    ap (λ o. lines_from s.skipping (s.pending ++ unread o rest)) over ∙ ap (λ t. lines_from s.skipping (t ++ [])) none
    ∙ ap (λ k. lines_from k []) within ∙ from-nothing

-- nothing is left
pub gives-end : (s : ReaderState) → s.skipping ≡ false → s.pending ≡ [] → s.over ≡ true → Gives End s s
gives-end s within none over = record { at = λ told. (ends s within none over told, refl) }

unread-spent : (over : Bool) (rest : List ℕ) → (IsTrue over → IsSpent (Some rest)) → unread over rest ≡ rest
unread-spent false rest spent = refl
unread-spent true rest spent = sym (spent refl)

-- bytes that were read come behind those that are pending
pub keeps-read : (old new : ReaderState) (piece : List ℕ) (before now : Option (List ℕ))
    → before ≡ before_told piece now
    → new.pending ≡ old.pending ++ piece → new.skipping ≡ old.skipping → old.over ≡ false
    → (IsTrue new.over → IsSpent now)
    → to_come new now ≡ to_come old before
unfolding to_come
keeps-read old new piece before None told pending skipping going spent = sym (ap (λ t. to_come old t) told)
keeps-read old new piece before (Some rest) told pending skipping going spent =
    ap (λ t. Some t)
    (ap (λ t. lines_from new.skipping (new.pending ++ t)) (unread-spent new.over rest spent)
    ∙ ap (λ s. lines_from s (new.pending ++ rest)) skipping
    ∙ ap (λ t. lines_from old.skipping (t ++ rest)) pending
    ∙ ap (λ t. lines_from old.skipping t) (append_assoc old.pending piece rest)
    ∙ ap (λ o. lines_from old.skipping (old.pending ++ unread o (piece ++ rest))) (sym going))
    ∙ sym (ap (λ t. to_come old t) told)

-- the answer to a line that is cut off
pub answers-line : (text : List ℕ) (skipping : Bool) → skipping ≡ false → length text ≤ longest_line
    → Answers (answer.Line true) text (line_seen skipping (record { bytes = text; ended = true }))
unfolding Answers
answers-line text skipping is short =
    ap (λ s. line_seen s (record { bytes = text; ended = true })) is ∙ seen-short text true short

pub answers-long : (text given : List ℕ) (skipping : Bool) → (skipping ≡ true) ⊎ (longest_line < length text)
    → Answers (TooLong true) given (line_seen skipping (record { bytes = text; ended = true }))
unfolding Answers
answers-long text given true why = refl
answers-long text given false (inl is) = cc
answers-long text given false (inr long) = seen-long text true long

-- all lines come to a reader that was just made
pub all-come : (told : Option (List ℕ))
    → to_come (record { text = []; skipping = false; pending = []; over = false; taken = 0 }) told
    ≡ option_map seen_lines told
unfolding to_come lines_from
all-come None = refl
all-come (Some bytes) = refl
