-- What taking a byte does, whatever follows.
use Rattle.std.proofs.Common.{◌≡◌, ℕ, Option, Some, None, List, [], ◌∷◌, ◌++◌, refl, sym, ap, ◌∙◌, append_assoc}
use Rattle.std.proofs.Common.{append-nil, arith, ◌+◌, ◌<◌, ◌≤◌, length, drop, get_or, ◌⊎◌, inl, inr}
use Rattle.std.proofs.lemmas.Bool.Decides.{nat_tests}
use Rattle.std.proofs.lemmas.List.{drop_more, at_drop_all}
use Rattle.kadm_words.specs.Splitting.{kind_of, by_kind, led_by, before, ended}
use Rattle.kadm_words.specs.Splitting.{words_from, gathered, words_of, IsTaken, IsBroken}
use Rattle.kadm_words.specs.declared.words.ByteKind.{ByteKind}
use Rattle.kadm_words.specs.declared.words.ByteKind.TheVariants.{Gap, Quote, Control, Plain}
use Rattle.kadm_words.specs.declared.words.Place.{Place}
use Rattle.kadm_words.specs.declared.words.Place.TheVariants.{Between, InPlain, InQuoted, BehindQuote}
use Rattle.kadm_words.specs.declared.words.Splitter.{Splitter}

pub from_between : (byte : ℕ) (rest : List ℕ) (kind : ByteKind) → kind_of byte ≡ kind
    → words_from Between (byte ∷ rest) ≡ by_kind kind (words_from Between rest) (words_from InQuoted rest) None
    (before (byte ∷ []) (words_from InPlain rest))
unfolding words_from
from_between byte rest kind e =
    ap (λ (k : ByteKind). by_kind k (words_from Between rest) (words_from InQuoted rest) None
    (before (byte ∷ []) (words_from InPlain rest))) e

pub from_plain : (byte : ℕ) (rest : List ℕ) (kind : ByteKind) → kind_of byte ≡ kind
    → words_from InPlain (byte ∷ rest)
    ≡ by_kind kind (ended (words_from Between rest)) None None (before (byte ∷ []) (words_from InPlain rest))
unfolding words_from
from_plain byte rest kind e =
    ap (λ (k : ByteKind).
    by_kind k (ended (words_from Between rest)) None None (before (byte ∷ []) (words_from InPlain rest))) e

pub from_behind : (byte : ℕ) (rest : List ℕ) (kind : ByteKind) → kind_of byte ≡ kind
    → words_from BehindQuote (byte ∷ rest)
    ≡ by_kind kind (ended (words_from Between rest)) (before (34 ∷ []) (words_from InQuoted rest)) None None
unfolding words_from
from_behind byte rest kind e =
    ap (λ (k : ByteKind).
    by_kind k (ended (words_from Between rest)) (before (34 ∷ []) (words_from InQuoted rest)) None None) e

pub from_quote : (byte : ℕ) (rest : List ℕ) → byte ≡ 34
    → words_from InQuoted (byte ∷ rest) ≡ words_from BehindQuote rest
unfolding words_from
from_quote byte rest e = rw e refl

pub quote_only : (byte : ℕ) → kind_of byte ≡ Quote → byte ≡ 34
quote_only byte e = grind (arith, nat_tests)

other_kind : (byte : ℕ) (kind : ByteKind) (a b : Option (List (List ℕ))) → kind_of byte ≡ kind → (byte ≡ 34 → ⊥)
    → by_kind kind a b a a ≡ a
other_kind byte Gap a b e other = refl
other_kind byte Quote a b e other = absurd (other (quote_only byte e))
other_kind byte Control a b e other = refl
other_kind byte Plain a b e other = refl

pub from_quoted : (byte : ℕ) (rest : List ℕ) → (byte ≡ 34 → ⊥)
    → words_from InQuoted (byte ∷ rest) ≡ before (byte ∷ []) (words_from InQuoted rest)
unfolding words_from
from_quoted byte rest other = other_kind byte (kind_of byte) _ _ refl other

-- the first byte of a plain word
gathered_first : (words : List (List ℕ)) (word : List ℕ) (byte : ℕ) (r : Option (List (List ℕ)))
    → gathered words (byte ∷ []) InPlain r ≡ gathered words word Between (before (byte ∷ []) r)
unfolding gathered
gathered_first words word byte None = refl
gathered_first words word byte (Some others) = refl

-- the quote before a quoted word
gathered_open : (words : List (List ℕ)) (word : List ℕ) (r : Option (List (List ℕ)))
    → gathered words [] InQuoted r ≡ gathered words word Between r
unfolding gathered
gathered_open words word None = refl
gathered_open words word (Some []) = refl
gathered_open words word (Some (w ∷ others)) = refl

led_by-push : (word : List ℕ) (byte : ℕ) (others : List (List ℕ))
    → led_by (word ++ byte ∷ []) others ≡ led_by word (led_by (byte ∷ []) others)
led_by-push word byte [] = refl
led_by-push word byte (w ∷ others) = ap (λ (x : List ℕ). x ∷ others) (append_assoc word (byte ∷ []) w)

-- one more byte of a word
gathered_plain : (words : List (List ℕ)) (word : List ℕ) (byte : ℕ) (r : Option (List (List ℕ)))
    → gathered words (word ++ byte ∷ []) InPlain r ≡ gathered words word InPlain (before (byte ∷ []) r)
unfolding gathered
gathered_plain words word byte None = refl
gathered_plain words word byte (Some others) =
    ap (λ (x : List (List ℕ)). Some (words ++ x)) (led_by-push word byte others)

gathered_quoted : (words : List (List ℕ)) (word : List ℕ) (byte : ℕ) (r : Option (List (List ℕ)))
    → gathered words (word ++ byte ∷ []) InQuoted r ≡ gathered words word InQuoted (before (byte ∷ []) r)
unfolding gathered
gathered_quoted words word byte None = refl
gathered_quoted words word byte (Some others) =
    ap (λ (x : List (List ℕ)). Some (words ++ x)) (led_by-push word byte others)

gathered_behind : (words : List (List ℕ)) (word : List ℕ) (byte : ℕ) (r : Option (List (List ℕ)))
    → gathered words (word ++ byte ∷ []) InQuoted r ≡ gathered words word BehindQuote (before (byte ∷ []) r)
unfolding gathered
gathered_behind words word byte None = refl
gathered_behind words word byte (Some others) =
    ap (λ (x : List (List ℕ)). Some (words ++ x)) (led_by-push word byte others)

ended_joined : (words others : List (List ℕ)) (word : List ℕ)
    → (words ++ word ∷ []) ++ others ≡ words ++ led_by word ([] ∷ others)
ended_joined words others word =
    append_assoc words (word ∷ []) others ∙ ap (λ (x : List ℕ). words ++ x ∷ others) (sym (append-nil word))

-- the end of a word
pub gathered_end : (words : List (List ℕ)) (word word' : List ℕ) (r : Option (List (List ℕ)))
    → gathered (words ++ word ∷ []) word' Between r ≡ gathered words word InPlain (ended r)
unfolding gathered
gathered_end words word word' None = refl
gathered_end words word word' (Some others) = ap (λ (x : List (List ℕ)). Some x) (ended_joined words others word)

pub gathered_end_quoted : (words : List (List ℕ)) (word word' : List ℕ) (r : Option (List (List ℕ)))
    → gathered (words ++ word ∷ []) word' Between r ≡ gathered words word BehindQuote (ended r)
unfolding gathered
gathered_end_quoted words word word' None = refl
gathered_end_quoted words word word' (Some others) = ap (λ (x : List (List ℕ)). Some x) (ended_joined words others word)

gathered_quote : (words : List (List ℕ)) (word : List ℕ) (r : Option (List (List ℕ)))
    → gathered words word BehindQuote r ≡ gathered words word InQuoted r
unfolding gathered
gathered_quote words word None = refl
gathered_quote words word (Some others) = refl

-- ---- the steps

pub refuses : (byte : ℕ) (old : Splitter) (place : Place) → old.place ≡ place
    → ((rest : List ℕ) → words_from place (byte ∷ rest) ≡ None) → IsBroken byte old
unfolding gathered
refuses byte old place was none = record { none = λ rest. rw (was, none rest) refl }

pub takes_gap : (byte : ℕ) (old : Splitter) → old.place ≡ Between → kind_of byte ≡ Gap → IsTaken byte old old
takes_gap byte old was kind = record {
  same = λ rest.
      rw was (ap (λ r. gathered old.words.items old.word.items Between r) (sym (from_between byte rest Gap kind)));
}

pub takes_first : (byte : ℕ) (old new : Splitter) → old.place ≡ Between → kind_of byte ≡ Plain
    → new.words.items ≡ old.words.items → new.word.items ≡ byte ∷ []
    → new.place ≡ InPlain → IsTaken byte old new
takes_first byte old new was kind words word is = record {
  same = λ rest.
      rw (was, is, words, word) (gathered_first old.words.items old.word.items byte (words_from InPlain rest)
      ∙ ap (λ r. gathered old.words.items old.word.items Between r) (sym (from_between byte rest Plain kind)));
}

pub takes_open : (byte : ℕ) (old new : Splitter) → old.place ≡ Between → kind_of byte ≡ Quote
    → new.words.items ≡ old.words.items → new.word.items ≡ []
    → new.place ≡ InQuoted → IsTaken byte old new
takes_open byte old new was kind words word is = record {
  same = λ rest.
      rw (was, is, words, word) (gathered_open old.words.items old.word.items (words_from InQuoted rest)
      ∙ ap (λ r. gathered old.words.items old.word.items Between r) (sym (from_between byte rest Quote kind)));
}

pub takes_plain : (byte : ℕ) (old new : Splitter) → old.place ≡ InPlain → kind_of byte ≡ Plain
    → new.words.items ≡ old.words.items
    → new.word.items ≡ old.word.items ++ byte ∷ [] → new.place ≡ InPlain → IsTaken byte old new
takes_plain byte old new was kind words word is = record {
  same = λ rest.
      rw (was, is, words, word) (gathered_plain old.words.items old.word.items byte (words_from InPlain rest)
      ∙ ap (λ r. gathered old.words.items old.word.items InPlain r) (sym (from_plain byte rest Plain kind)));
}

pub takes_end : (byte : ℕ) (old new : Splitter) → old.place ≡ InPlain → kind_of byte ≡ Gap
    → new.words.items ≡ old.words.items ++ old.word.items ∷ []
    → new.place ≡ Between → IsTaken byte old new
takes_end byte old new was kind words is = record {
  same = λ rest.
      rw (was, is, words) (gathered_end old.words.items old.word.items new.word.items (words_from Between rest)
      ∙ ap (λ r. gathered old.words.items old.word.items InPlain r) (sym (from_plain byte rest Gap kind)));
}

pub takes_quote : (byte : ℕ) (old new : Splitter) → old.place ≡ InQuoted → byte ≡ 34 → new.words.items ≡ old.words.items
    → new.word.items ≡ old.word.items
    → new.place ≡ BehindQuote → IsTaken byte old new
takes_quote byte old new was kind words word is = record {
  same = λ rest.
      rw (was, is, words, word) (gathered_quote old.words.items old.word.items (words_from BehindQuote rest)
      ∙ ap (λ r. gathered old.words.items old.word.items InQuoted r) (sym (from_quote byte rest kind)));
}

pub takes_quoted : (byte : ℕ) (old new : Splitter) → old.place ≡ InQuoted → (byte ≡ 34 → ⊥)
    → new.words.items ≡ old.words.items
    → new.word.items ≡ old.word.items ++ byte ∷ [] → new.place ≡ InQuoted → IsTaken byte old new
takes_quoted byte old new was kind words word is = record {
  same = λ rest.
      rw (was, is, words, word) (gathered_quoted old.words.items old.word.items byte (words_from InQuoted rest)
      ∙ ap (λ r. gathered old.words.items old.word.items InQuoted r) (sym (from_quoted byte rest kind)));
}

pub takes_second : (byte : ℕ) (old new : Splitter) → old.place ≡ BehindQuote → kind_of byte ≡ Quote
    → new.words.items ≡ old.words.items
    → new.word.items ≡ old.word.items ++ 34 ∷ [] → new.place ≡ InQuoted → IsTaken byte old new
takes_second byte old new was kind words word is = record {
  same = λ rest.
      rw (was, is, words, word) (gathered_behind old.words.items old.word.items 34 (words_from InQuoted rest)
      ∙ ap (λ r. gathered old.words.items old.word.items BehindQuote r) (sym (from_behind byte rest Quote kind)));
}

pub takes_close : (byte : ℕ) (old new : Splitter) → old.place ≡ BehindQuote → kind_of byte ≡ Gap
    → new.words.items ≡ old.words.items ++ old.word.items ∷ []
    → new.place ≡ Between → IsTaken byte old new
takes_close byte old new was kind words is = record {
  same = λ rest.
      rw (was, is, words) (gathered_end_quoted old.words.items old.word.items new.word.items (words_from Between rest)
      ∙ ap (λ r. gathered old.words.items old.word.items BehindQuote r) (sym (from_behind byte rest Gap kind)));
}

gathered_none : (word : List ℕ) (r : Option (List (List ℕ))) → gathered [] word Between r ≡ r
unfolding gathered
gathered_none word None = refl
gathered_none word (Some others) = refl

pub begins : (s : Splitter) (line : List ℕ) → s.words.items ≡ [] → s.place ≡ Between
    → words_of s line ≡ words_from Between line
begins s line words is = rw (words, is) (gathered_none s.word.items (words_from Between line))

-- a byte that breaks the line
pub broken : (s : Splitter) (line : List ℕ) (i : ℕ) → i < length line
    → words_of s (drop i line) ≡ words_from Between line → IsBroken (get_or line i 0) s
    → words_from Between line ≡ None
broken s line i lt same breaks =
    sym same ∙ ap (λ (bytes : List ℕ). words_of s bytes) (drop_more line i 0 lt) ∙ breaks.none (drop (i + 1) line)

-- all bytes are taken
pub taken_all : (s : Splitter) (line : List ℕ) (i : ℕ) → length line ≤ i
    → words_of s (drop i line) ≡ words_from Between line → words_from Between line ≡ words_of s []
taken_all s line i all same = sym same ∙ at_drop_all (λ bytes. words_of s bytes) line i all

-- ---- the end of the line

pub end_between : (s : Splitter) → s.place ≡ Between → words_of s [] ≡ Some s.words.items
unfolding words_from gathered
end_between s is = rw is (ap (λ (x : List (List ℕ)). Some x) (append-nil s.words.items))

pub end_quoted : (s : Splitter) → s.place ≡ InQuoted → words_of s [] ≡ None
unfolding words_from gathered
end_quoted s is = rw is refl

end_joined : (words : List (List ℕ)) (word : List ℕ) → Some (words ++ (word ++ []) ∷ []) ≡ Some (words ++ word ∷ [])
end_joined words word = ap (λ (x : List ℕ). Some (words ++ x ∷ [])) (append-nil word)

end_plain : (s : Splitter) (words : List (List ℕ)) → s.place ≡ InPlain → words ≡ s.words.items ++ s.word.items ∷ []
    → Some words ≡ words_of s []
unfolding words_from gathered
end_plain s words is e = rw (is, e) (sym (end_joined s.words.items s.word.items))

end_behind : (s : Splitter) (words : List (List ℕ)) → s.place ≡ BehindQuote → words ≡ s.words.items ++ s.word.items ∷ []
    → Some words ≡ words_of s []
unfolding words_from gathered
end_behind s words is e = rw (is, e) (sym (end_joined s.words.items s.word.items))

pub end_in_word : (s : Splitter) (words : List (List ℕ)) → (s.place ≡ InPlain) ⊎ (s.place ≡ BehindQuote)
    → words ≡ s.words.items ++ s.word.items ∷ [] → Some words ≡ words_of s []
end_in_word s words (inl is) e = end_plain s words is e
end_in_word s words (inr is) e = end_behind s words is e
