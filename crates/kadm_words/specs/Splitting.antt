-- How the bytes of a line come to words, one by one.
use Rattle.std.specs.Prelude.{ℕ, ◌≡◌, Bool, true, false, ◌==◌, List, [], ◌∷◌, ◌++◌, Option, Some, None, if◌then◌else◌}
use Rattle.kadm_words.specs.Words.{is_gap, is_control}
use Rattle.kadm_words.specs.declared.words.ByteKind.{ByteKind}
use Rattle.kadm_words.specs.declared.words.ByteKind.TheVariants.{Gap, Quote, Control, Plain}
use Rattle.kadm_words.specs.declared.words.Place.{Place}
use Rattle.kadm_words.specs.declared.words.Place.TheVariants.{Between, InPlain, InQuoted, BehindQuote}
use Rattle.kadm_words.specs.declared.words.Splitter.{Splitter}

abbrev pub kind_of : ℕ → ByteKind
kind_of byte = if is_gap byte then Gap else (if byte == 34 then Quote else (if is_control byte then Control else Plain))

abbrev pub by_kind : {A : Type 0} → ByteKind → A → A → A → A → A
by_kind Gap gap quote control plain = gap
by_kind Quote gap quote control plain = quote
by_kind Control gap quote control plain = control
by_kind Plain gap quote control plain = plain

-- bytes before those of the first word
abbrev pub led_by : List ℕ → List (List ℕ) → List (List ℕ)
led_by bytes [] = []
led_by bytes (word ∷ words) = (bytes ++ word) ∷ words

abbrev pub before : List ℕ → Option (List (List ℕ)) → Option (List (List ℕ))
before bytes None = None
before bytes (Some words) = Some (led_by bytes words)

-- a word that ends here, before the others
abbrev pub ended : Option (List (List ℕ)) → Option (List (List ℕ))
ended None = None
ended (Some words) = Some ([] ∷ words)

-- the words of what is left; within a word, the first is the rest of that word
unfoldable pub words_from : Place → List ℕ → Option (List (List ℕ))
words_from Between [] = Some []
words_from InPlain [] = Some ([] ∷ [])
words_from InQuoted [] = None
words_from BehindQuote [] = Some ([] ∷ [])
words_from Between (byte ∷ rest) =
    by_kind (kind_of byte) (words_from Between rest) (words_from InQuoted rest) None
    (before (byte ∷ []) (words_from InPlain rest))
words_from InPlain (byte ∷ rest) =
    by_kind (kind_of byte) (ended (words_from Between rest)) None None (before (byte ∷ []) (words_from InPlain rest))
words_from InQuoted (byte ∷ rest) =
    by_kind (kind_of byte) (before (byte ∷ []) (words_from InQuoted rest)) (words_from BehindQuote rest)
    (before (byte ∷ []) (words_from InQuoted rest)) (before (byte ∷ []) (words_from InQuoted rest))
words_from BehindQuote (byte ∷ rest) =
    by_kind (kind_of byte) (ended (words_from Between rest)) (before (34 ∷ []) (words_from InQuoted rest)) None None

-- the words of a line, or none where no words spell it
abbrev pub words_in : List ℕ → Option (List (List ℕ))
words_in line = words_from Between line

-- words that were read, the front of one more, and what is left
abbrev pub joined : List (List ℕ) → List ℕ → Place → List (List ℕ) → List (List ℕ)
joined words word Between others = words ++ others
joined words word InPlain others = words ++ led_by word others
joined words word InQuoted others = words ++ led_by word others
joined words word BehindQuote others = words ++ led_by word others

unfoldable pub gathered : List (List ℕ) → List ℕ → Place → Option (List (List ℕ)) → Option (List (List ℕ))
gathered words word place None = None
gathered words word place (Some others) = Some (joined words word place others)

-- all words, where these bytes are left
abbrev pub words_of : Splitter → List ℕ → Option (List (List ℕ))
words_of s rest = gathered s.words.items s.word.items s.place (words_from s.place rest)

-- whatever follows the byte, the words stay the same
pub record IsTaken (byte : ℕ) (old new : Splitter) : Type 0 where
  pub same : (rest : List ℕ) → words_of new rest ≡ words_of old (byte ∷ rest)

-- whatever follows the byte, there are no words
pub record IsBroken (byte : ℕ) (old : Splitter) : Type 0 where
  pub none : (rest : List ℕ) → words_of old (byte ∷ rest) ≡ None

abbrev pub Takes : Bool → ℕ → Splitter → Splitter → Type 0
Takes true byte old new = IsTaken byte old new
Takes false byte old new = IsBroken byte old
