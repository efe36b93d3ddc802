-- What is read byte by byte is what the words spell.
use Rattle.std.proofs.Common.{◌≡◌, ℕ, Bool, true, false, ◌==◌, not, ◌&&◌, Option, Some, None, option_map}
use Rattle.std.proofs.Common.{Result, Ok, Err, IfOk, List, [], ◌∷◌, ◌++◌, ◌⊎◌, inl, inr, refl, sym, ap}
use Rattle.std.proofs.Common.{subst, ◌∙◌, append_assoc, append-nil, arith, if◌then◌else◌}
use Rattle.std.specs.List.{list_all, flat_map}
use Rattle.std.proofs.lemmas.Bool.{and_parts}
use Rattle.std.proofs.lemmas.Bool.Decides.{nat_tests}
use Rattle.kadm_words.specs.Words.{is_gap, is_plain, is_control, quoted_byte, quoted}
use Rattle.kadm_words.specs.Words.{SpellsPlain, SpellsQuoted, EndsWord, SpellsWords}
use Rattle.kadm_words.specs.Split.{IsSplit}
use Rattle.kadm_words.specs.Splitting.{kind_of, by_kind, led_by, before, ended, words_from}
use Rattle.kadm_words.specs.declared.words.ByteKind.{ByteKind}
use Rattle.kadm_words.specs.declared.words.ByteKind.TheVariants.{Gap, Quote, Control, Plain}
use Rattle.kadm_words.specs.declared.words.Place.{Place}
use Rattle.kadm_words.specs.declared.words.Place.TheVariants.{Between, InPlain, InQuoted, BehindQuote}
use Rattle.kadm_words.proofs.SplittingLemmas.{from_between, from_plain, from_behind}
use Rattle.kadm_words.proofs.SplittingLemmas.{from_quote, from_quoted, quote_only}

gap_kind : (byte : ℕ) → is_gap byte ≡ true → kind_of byte ≡ Gap
gap_kind byte gap = rw gap refl

plain_kind_of : (gap quote control : Bool) → (not gap && not quote && not control) ≡ true
    → (if gap then Gap else (if quote then Quote else (if control then Control else Plain))) ≡ Plain
plain_kind_of false false false e = refl
plain_kind_of false false true e = cc
plain_kind_of false true control e = cc
plain_kind_of true quote control e = cc

plain_kind : (byte : ℕ) → is_plain byte ≡ true → kind_of byte ≡ Plain
plain_kind byte plain = plain_kind_of (is_gap byte) (byte == 34) (is_control byte) plain

kind_gap_of : (gap quote control : Bool)
    → (if gap then Gap else (if quote then Quote else (if control then Control else Plain))) ≡ Gap → gap ≡ true
kind_gap_of true quote control e = refl
kind_gap_of false true control e = cc
kind_gap_of false false true e = cc
kind_gap_of false false false e = cc

kind_gap : (byte : ℕ) → kind_of byte ≡ Gap → is_gap byte ≡ true
kind_gap byte e = kind_gap_of (is_gap byte) (byte == 34) (is_control byte) e

kind_plain_of : (gap quote control : Bool)
    → (if gap then Gap else (if quote then Quote else (if control then Control else Plain))) ≡ Plain
    → (not gap && not quote && not control) ≡ true
kind_plain_of true quote control e = cc
kind_plain_of false true control e = cc
kind_plain_of false false true e = cc
kind_plain_of false false false e = refl

kind_plain : (byte : ℕ) → kind_of byte ≡ Plain → is_plain byte ≡ true
kind_plain byte e = kind_plain_of (is_gap byte) (byte == 34) (is_control byte) e

-- ---- what is spelled is read

gap_skipped : (gap rest : List ℕ) → list_all is_gap gap ≡ true
    → words_from Between (gap ++ rest) ≡ words_from Between rest
gap_skipped [] rest gaps = refl
gap_skipped (byte ∷ gap) rest gaps =
    let parts = and_parts (is_gap byte) (list_all is_gap gap) gaps in
    from_between byte (gap ++ rest) Gap (gap_kind byte parts.0) ∙ gap_skipped gap rest parts.1

gap_between : (byte : ℕ) (rest : List ℕ) → is_gap byte ≡ true
    → words_from Between (byte ∷ rest) ≡ words_from Between rest
gap_between byte rest gap = from_between byte rest Gap (gap_kind byte gap)

plain_ended : (rest : List ℕ) (words : List (List ℕ)) → EndsWord rest → words_from Between rest ≡ Some words
    → words_from InPlain rest ≡ Some ([] ∷ words)
unfolding EndsWord words_from
plain_ended [] words ends e = ap (λ (r : Option (List (List ℕ))). ended r) e
plain_ended (byte ∷ rest) words ends e =
    from_plain byte rest Gap (gap_kind byte ends)
    ∙ ap (λ (r : Option (List (List ℕ))). ended r) (sym (gap_between byte rest ends) ∙ e)

quote_ended : (rest : List ℕ) (words : List (List ℕ)) → EndsWord rest → words_from Between rest ≡ Some words
    → words_from BehindQuote rest ≡ Some ([] ∷ words)
unfolding EndsWord words_from
quote_ended [] words ends e = ap (λ (r : Option (List (List ℕ))). ended r) e
quote_ended (byte ∷ rest) words ends e =
    from_behind byte rest Gap (gap_kind byte ends)
    ∙ ap (λ (r : Option (List (List ℕ))). ended r) (sym (gap_between byte rest ends) ∙ e)

plain_read : (word rest : List ℕ) (words : List (List ℕ)) → list_all is_plain word ≡ true → EndsWord rest
    → words_from Between rest ≡ Some words
    → words_from InPlain (word ++ rest) ≡ Some (word ∷ words)
plain_read [] rest words plain ends e = plain_ended rest words ends e
plain_read (byte ∷ word) rest words plain ends e =
    let parts = and_parts (is_plain byte) (list_all is_plain word) plain in
    from_plain byte (word ++ rest) Plain (plain_kind byte parts.0)
    ∙ ap (λ (r : Option (List (List ℕ))). before (byte ∷ []) r) (plain_read word rest words parts.1 ends e)

quoted_read_byte : (byte : ℕ) (word text : List ℕ) (words : List (List ℕ)) (quote : Bool) → (byte == 34) ≡ quote
    → words_from InQuoted text ≡ Some (word ∷ words)
    → words_from InQuoted ((if quote then 34 ∷ 34 ∷ [] else byte ∷ []) ++ text) ≡ Some ((byte ∷ word) ∷ words)
quoted_read_byte byte word text words true is e =
    let same : byte ≡ 34 = grind (arith, nat_tests) in
    from_quote 34 (34 ∷ text) refl ∙ from_behind 34 text Quote refl
    ∙ rw same (ap (λ (r : Option (List (List ℕ))). before (34 ∷ []) r) e)
quoted_read_byte byte word text words false is e =
    let other : byte ≡ 34 → ⊥ = λ same. (let t : (byte == 34) ≡ true = rw same refl in cc) in
    from_quoted byte text other ∙ ap (λ (r : Option (List (List ℕ))). before (byte ∷ []) r) e

quoted_read : (word rest : List ℕ) (words : List (List ℕ)) → EndsWord rest → words_from Between rest ≡ Some words
    → words_from InQuoted (quoted word ++ 34 ∷ rest) ≡ Some (word ∷ words)
unfolding quoted
quoted_read [] rest words ends e = from_quote 34 rest refl ∙ quote_ended rest words ends e
quoted_read (byte ∷ word) rest words ends e =
    ap (λ (text : List ℕ). words_from InQuoted text)
    (append_assoc (quoted_byte byte) (flat_map quoted_byte word) (34 ∷ rest))
    ∙ quoted_read_byte byte word (flat_map quoted_byte word ++ 34 ∷ rest) words (byte == 34) refl
    (quoted_read word rest words ends e)

word_read : (word text rest : List ℕ) (words : List (List ℕ)) → SpellsPlain word text ⊎ SpellsQuoted word text
    → EndsWord rest → words_from Between rest ≡ Some words
    → words_from Between (text ++ rest) ≡ Some (word ∷ words)
word_read [] text rest words (inl plain) ends e = absurd (let some = plain.some in omega arith)
word_read (byte ∷ word) text rest words (inl plain) ends e =
    let parts = and_parts (is_plain byte) (list_all is_plain word) plain.plain in
    rw plain.text_is (from_between byte (word ++ rest) Plain (plain_kind byte parts.0)
    ∙ ap (λ (r : Option (List (List ℕ))). before (byte ∷ []) r) (plain_read word rest words parts.1 ends e))
word_read word text rest words (inr quotes) ends e =
    rw quotes.text_is (from_between 34 ((quoted word ++ 34 ∷ []) ++ rest) Quote refl
    ∙ ap (λ (t : List ℕ). words_from InQuoted t) (append_assoc (quoted word) (34 ∷ []) rest)
    ∙ quoted_read word rest words ends e)

end_skipped : (line : List ℕ) → list_all is_gap line ≡ true → words_from Between line ≡ Some []
unfolding words_from
end_skipped line gaps = ap (λ (l : List ℕ). words_from Between l) (sym (append-nil line)) ∙ gap_skipped line [] gaps

pub words_read : (words : List (List ℕ)) (line : List ℕ) → SpellsWords words line → words_from Between line ≡ Some words
unfolding SpellsWords
words_read [] line gaps = end_skipped line gaps
words_read (word ∷ words) line led =
    rw led.line_is (gap_skipped led.gap (led.text ++ led.rest) led.gaps
    ∙ word_read word led.text led.rest words led.spelled led.ends (words_read words led.rest led.others))

-- ---- what is read is spelled

record SomeBefore (bytes : List ℕ) (r : Option (List (List ℕ))) (words : List (List ℕ)) : Type 0 where
  others : List (List ℕ)
  r_is : r ≡ Some others
  words_are : words ≡ led_by bytes others

before_some : (bytes : List ℕ) (r : Option (List (List ℕ))) (words : List (List ℕ)) → before bytes r ≡ Some words
    → SomeBefore bytes r words
before_some bytes None words e = cc
before_some bytes (Some others) words e = record { others = others; r_is = refl; words_are = cc }

record SomeEnded (r : Option (List (List ℕ))) (words : List (List ℕ)) : Type 0 where
  others : List (List ℕ)
  r_is : r ≡ Some others
  words_are : words ≡ [] ∷ others

ended_some : (r : Option (List (List ℕ))) (words : List (List ℕ)) → ended r ≡ Some words → SomeEnded r words
ended_some None words e = cc
ended_some (Some others) words e = record { others = others; r_is = refl; words_are = cc }

-- what a line within a word begins with, and what stands behind the word
record WithinWord (Spelled : List ℕ → List ℕ → Type 0) (line : List ℕ) (words : List (List ℕ)) : Type 0 where
  word : List ℕ
  others : List (List ℕ)
  text : List ℕ
  rest : List ℕ
  words_are : words ≡ word ∷ others
  spelled : Spelled word text
  line_is : line ≡ text ++ rest
  ends : EndsWord rest
  others_spelled : SpellsWords others rest

record RestPlain (word text : List ℕ) : Type 0 where
  plain : list_all is_plain word ≡ true
  text_is : text ≡ word

record RestQuoted (word text : List ℕ) : Type 0 where
  text_is : text ≡ quoted word ++ 34 ∷ []

record SecondQuote (word text : List ℕ) : Type 0 where
  rest : List ℕ
  word_is : word ≡ 34 ∷ rest
  text_is : text ≡ 34 ∷ quoted rest ++ 34 ∷ []

abbrev RestBehind : List ℕ → List ℕ → Type 0
RestBehind word text = ((word ≡ []) × (text ≡ [])) ⊎ SecondQuote word text

abbrev Read : Place → List ℕ → List (List ℕ) → Type 0
Read Between line words = SpellsWords words line
Read InPlain line words = WithinWord RestPlain line words
Read InQuoted line words = WithinWord RestQuoted line words
Read BehindQuote line words = WithinWord RestBehind line words

-- one more byte between words
behind_gap : (byte : ℕ) (line : List ℕ) (words : List (List ℕ)) → is_gap byte ≡ true → SpellsWords words line
    → SpellsWords words (byte ∷ line)
unfolding SpellsWords
behind_gap byte line [] gap gaps = rw (gap, gaps) refl
behind_gap byte line (word ∷ words) gap led =
    let gaps = led.gaps in
    record {
      gap = byte ∷ led.gap;
      text = led.text;
      rest = led.rest;
      gaps = rw (gap, gaps) refl;
      spelled = led.spelled;
      ends = led.ends;
      line_is = ap (λ (l : List ℕ). byte ∷ l) led.line_is;
      others = led.others;
    }

open_word : (line : List ℕ) (words : List (List ℕ)) → WithinWord RestQuoted line words → SpellsWords words (34 ∷ line)
unfolding SpellsWords
open_word line words w =
    let P : List (List ℕ) → Type 0 = λ ws. SpellsWords ws (34 ∷ line) in
    let e : line ≡ (quoted w.word ++ 34 ∷ []) ++ w.rest =
    w.line_is ∙ ap (λ (t : List ℕ). t ++ w.rest) w.spelled.text_is in
    subst P (sym w.words_are) (record {
      gap = [];
      text = 34 ∷ quoted w.word ++ 34 ∷ [];
      rest = w.rest;
      gaps = refl;
      spelled = inr (record { text_is = refl });
      ends = w.ends;
      line_is = ap (λ (l : List ℕ). 34 ∷ l) e;
      others = w.others_spelled;
    })

first_byte : (byte : ℕ) (line : List ℕ) (words others : List (List ℕ)) → is_plain byte ≡ true
    → words ≡ led_by (byte ∷ []) others → WithinWord RestPlain line others
    → SpellsWords words (byte ∷ line)
unfolding SpellsWords
first_byte byte line words others plain are w =
    let P : List (List ℕ) → Type 0 = λ ws. SpellsWords ws (byte ∷ line) in
    let all = w.spelled.plain in
    let e : words ≡ (byte ∷ w.word) ∷ w.others = are ∙ ap (λ (ws : List (List ℕ)). led_by (byte ∷ []) ws) w.words_are in
    subst P (sym e) (record {
      gap = [];
      text = byte ∷ w.word;
      rest = w.rest;
      gaps = refl;
      spelled = inl (record { some = omega arith; plain = rw (plain, all) refl; text_is = refl });
      ends = w.ends;
      line_is = ap (λ (l : List ℕ). byte ∷ l) (w.line_is ∙ ap (λ (t : List ℕ). t ++ w.rest) w.spelled.text_is);
      others = w.others_spelled;
    })

plain_byte : (byte : ℕ) (line : List ℕ) (words others : List (List ℕ)) → is_plain byte ≡ true
    → words ≡ led_by (byte ∷ []) others → WithinWord RestPlain line others
    → WithinWord RestPlain (byte ∷ line) words
plain_byte byte line words others plain are w =
    let all = w.spelled.plain in
    record {
      word = byte ∷ w.word;
      others = w.others;
      text = byte ∷ w.word;
      rest = w.rest;
      words_are = are ∙ ap (λ (ws : List (List ℕ)). led_by (byte ∷ []) ws) w.words_are;
      spelled = record { plain = rw (plain, all) refl; text_is = refl };
      line_is = ap (λ (l : List ℕ). byte ∷ l) (w.line_is ∙ ap (λ (t : List ℕ). t ++ w.rest) w.spelled.text_is);
      ends = w.ends;
      others_spelled = w.others_spelled;
    }

plain_end : (byte : ℕ) (line : List ℕ) (words others : List (List ℕ)) → is_gap byte ≡ true → words ≡ [] ∷ others
    → SpellsWords others line
    → WithinWord RestPlain (byte ∷ line) words
unfolding EndsWord
plain_end byte line words others gap are s = record {
  word = [];
  others = others;
  text = [];
  rest = byte ∷ line;
  words_are = are;
  spelled = record { plain = refl; text_is = refl };
  line_is = refl;
  ends = gap;
  others_spelled = behind_gap byte line others gap s;
}

behind_end : (byte : ℕ) (line : List ℕ) (words others : List (List ℕ)) → is_gap byte ≡ true → words ≡ [] ∷ others
    → SpellsWords others line
    → WithinWord RestBehind (byte ∷ line) words
unfolding EndsWord
behind_end byte line words others gap are s = record {
  word = [];
  others = others;
  text = [];
  rest = byte ∷ line;
  words_are = are;
  spelled = inl (refl, refl);
  line_is = refl;
  ends = gap;
  others_spelled = behind_gap byte line others gap s;
}

second_quote : (line : List ℕ) (words others : List (List ℕ)) → words ≡ led_by (34 ∷ []) others
    → WithinWord RestQuoted line others
    → WithinWord RestBehind (34 ∷ line) words
second_quote line words others are w = record {
  word = 34 ∷ w.word;
  others = w.others;
  text = 34 ∷ w.text;
  rest = w.rest;
  words_are = are ∙ ap (λ (ws : List (List ℕ)). led_by (34 ∷ []) ws) w.words_are;
  spelled = inr (record { rest = w.word; word_is = refl; text_is = ap (λ (t : List ℕ). 34 ∷ t) w.spelled.text_is });
  line_is = ap (λ (l : List ℕ). 34 ∷ l) w.line_is;
  ends = w.ends;
  others_spelled = w.others_spelled;
}

quoted_byte_is : (byte : ℕ) (word : List ℕ) → (byte ≡ 34 → ⊥) → quoted (byte ∷ word) ≡ byte ∷ quoted word
unfolding quoted
quoted_byte_is byte word other = let e : (byte == 34) ≡ false = grind (arith, nat_tests) in rw e refl

quoted_other : (byte : ℕ) (line : List ℕ) (words others : List (List ℕ)) → (byte ≡ 34 → ⊥)
    → words ≡ led_by (byte ∷ []) others → WithinWord RestQuoted line others
    → WithinWord RestQuoted (byte ∷ line) words
quoted_other byte line words others other are w = record {
  word = byte ∷ w.word;
  others = w.others;
  text = byte ∷ w.text;
  rest = w.rest;
  words_are = are ∙ ap (λ (ws : List (List ℕ)). led_by (byte ∷ []) ws) w.words_are;
  spelled = record {
    text_is = ap (λ (t : List ℕ). byte ∷ t) w.spelled.text_is
        ∙ ap (λ (t : List ℕ). t ++ 34 ∷ []) (sym (quoted_byte_is byte w.word other));
  };
  line_is = ap (λ (l : List ℕ). byte ∷ l) w.line_is;
  ends = w.ends;
  others_spelled = w.others_spelled;
}

-- a quote within a quoted word: the last one, or the first of two
rest_quoted : (word text : List ℕ) → RestBehind word text → 34 ∷ text ≡ quoted word ++ 34 ∷ []
unfolding quoted
rest_quoted word text (inl end) = rw (end.0, end.1) refl
rest_quoted word text (inr second) =
    let is = second.word_is in
    let text_is = second.text_is in
    rw (is, text_is) refl

quoted_quote : (line : List ℕ) (words : List (List ℕ)) → WithinWord RestBehind line words
    → WithinWord RestQuoted (34 ∷ line) words
quoted_quote line words w = record {
  word = w.word;
  others = w.others;
  text = 34 ∷ w.text;
  rest = w.rest;
  words_are = w.words_are;
  spelled = record { text_is = rest_quoted w.word w.text w.spelled };
  line_is = ap (λ (l : List ℕ). 34 ∷ l) w.line_is;
  ends = w.ends;
  others_spelled = w.others_spelled;
}

AllRead : List ℕ → Type 0
AllRead line = (place : Place) (words : List (List ℕ)) → words_from place line ≡ Some words → Read place line words

step_between : (byte : ℕ) (line : List ℕ) (words : List (List ℕ)) (kind : ByteKind) → AllRead line → kind_of byte ≡ kind
    → by_kind kind (words_from Between line) (words_from InQuoted line) None
    (before (byte ∷ []) (words_from InPlain line)) ≡ Some words → SpellsWords words (byte ∷ line)
unfolding AllRead
step_between byte line words Gap all is e = behind_gap byte line words (kind_gap byte is) (all Between words e)
step_between byte line words Quote all is e =
    let P : ℕ → Type 0 = λ b. SpellsWords words (b ∷ line) in
    subst P (sym (quote_only byte is)) (open_word line words (all InQuoted words e))
step_between byte line words Control all is e = cc
step_between byte line words Plain all is e =
    let b = before_some (byte ∷ []) _ _ e in
    first_byte byte line words b.others (kind_plain byte is) b.words_are (all InPlain b.others b.r_is)

step_plain : (byte : ℕ) (line : List ℕ) (words : List (List ℕ)) (kind : ByteKind) → AllRead line → kind_of byte ≡ kind
    → by_kind kind (ended (words_from Between line)) None None (before (byte ∷ []) (words_from InPlain line))
    ≡ Some words → WithinWord RestPlain (byte ∷ line) words
unfolding AllRead
step_plain byte line words Gap all is e =
    let b = ended_some _ _ e in
    plain_end byte line words b.others (kind_gap byte is) b.words_are (all Between b.others b.r_is)
step_plain byte line words Quote all is e = cc
step_plain byte line words Control all is e = cc
step_plain byte line words Plain all is e =
    let b = before_some (byte ∷ []) _ _ e in
    plain_byte byte line words b.others (kind_plain byte is) b.words_are (all InPlain b.others b.r_is)

step_behind : (byte : ℕ) (line : List ℕ) (words : List (List ℕ)) (kind : ByteKind) → AllRead line → kind_of byte ≡ kind
    → by_kind kind (ended (words_from Between line)) (before (34 ∷ []) (words_from InQuoted line)) None None
    ≡ Some words → WithinWord RestBehind (byte ∷ line) words
unfolding AllRead
step_behind byte line words Gap all is e =
    let b = ended_some _ _ e in
    behind_end byte line words b.others (kind_gap byte is) b.words_are (all Between b.others b.r_is)
step_behind byte line words Quote all is e =
    let b = before_some (34 ∷ []) _ _ e in
    let P : ℕ → Type 0 = λ b. WithinWord RestBehind (b ∷ line) words in
    subst P (sym (quote_only byte is)) (second_quote line words b.others b.words_are (all InQuoted b.others b.r_is))
step_behind byte line words Control all is e = cc
step_behind byte line words Plain all is e = cc

step_quoted : (byte : ℕ) (line : List ℕ) (words : List (List ℕ)) (quote : Bool) → AllRead line → (byte == 34) ≡ quote
    → words_from InQuoted (byte ∷ line) ≡ Some words → WithinWord RestQuoted (byte ∷ line) words
unfolding AllRead
step_quoted byte line words true all is e =
    let same : byte ≡ 34 = grind (arith, nat_tests) in
    let P : ℕ → Type 0 = λ b. WithinWord RestQuoted (b ∷ line) words in
    subst P (sym same) (quoted_quote line words (all BehindQuote words (sym (from_quote byte line same) ∙ e)))
step_quoted byte line words false all is e =
    let other : byte ≡ 34 → ⊥ = λ same. (let t : (byte == 34) ≡ true = rw same refl in cc) in
    let b = before_some (byte ∷ []) _ _ (sym (from_quoted byte line other) ∙ e) in
    quoted_other byte line words b.others other b.words_are (all InQuoted b.others b.r_is)

all_read : (line : List ℕ) → AllRead line
unfolding AllRead words_from EndsWord SpellsWords
all_read [] Between words e = let P : List (List ℕ) → Type 0 = λ ws. SpellsWords ws [] in let none : [] ≡ words =
    cc in subst P none refl
all_read [] InPlain words e = record {
  word = [];
  others = [];
  text = [];
  rest = [];
  words_are = cc;
  spelled = record { plain = refl; text_is = refl };
  line_is = refl;
  ends = tt;
  others_spelled = refl;
}
all_read [] InQuoted words e = cc
all_read [] BehindQuote words e = record {
  word = [];
  others = [];
  text = [];
  rest = [];
  words_are = cc;
  spelled = inl (refl, refl);
  line_is = refl;
  ends = tt;
  others_spelled = refl;
}
all_read (byte ∷ line) Between words e = step_between byte line words (kind_of byte) (all_read line) refl e
all_read (byte ∷ line) InPlain words e = step_plain byte line words (kind_of byte) (all_read line) refl e
all_read (byte ∷ line) InQuoted words e = step_quoted byte line words (byte == 34) (all_read line) refl e
all_read (byte ∷ line) BehindQuote words e = step_behind byte line words (kind_of byte) (all_read line) refl e

pub words_spelled : (line : List ℕ) (words : List (List ℕ)) → words_from Between line ≡ Some words
    → SpellsWords words line
unfolding AllRead
words_spelled line words e = all_read line Between words e

-- a line has one list of words
pub one_split : (line : List ℕ) (a b : List (List ℕ)) → SpellsWords a line → SpellsWords b line → a ≡ b
one_split line a b sa sb = let ea = words_read a line sa in let eb = words_read b line sb in cc

pub split_is : (line : List ℕ) (r : Option (List (List ℕ))) → words_from Between line ≡ r → IsSplit line r
split_is line None e = λ words s. (let read = words_read words line s in cc)
split_is line (Some words) e = words_spelled line words e

pub split_found : {V E : Type 0} (items : V → List (List ℕ)) (line : List ℕ) (r : Result (Option V) E)
    (o : Option (List (List ℕ))) → words_from Between line ≡ o
    → IfOk r (λ words. option_map items words ≡ o) → IfOk r (λ words. IsSplit line (option_map items words))
split_found items line (Ok words) o e h = split_is line (option_map items words) (e ∙ sym h)
split_found items line (Err x) o e h = h

pub found_in : {V E : Type 0} (items : V → List (List ℕ)) (line : List ℕ) (r : Result (Option V) E)
    (o : Option (List (List ℕ))) → words_from Between line ≡ o
    → IfOk r (λ words. option_map items words ≡ o) → IfOk r (λ words. option_map items words ≡ words_from Between line)
found_in items line (Ok words) o e h = h ∙ sym e
found_in items line (Err x) o e h = h
