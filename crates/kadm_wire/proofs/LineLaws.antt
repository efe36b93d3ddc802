-- What a line says is what is read from it, and nothing else is.
use Rattle.std.proofs.Common.{◌≡◌, ℕ, ◌≤◌, ◌<◌, Bool, true, false, ◌==◌, nat_lt, Option, Some, None, Result, Ok, Err}
use Rattle.std.proofs.Common.{List, [], ◌∷◌, length, ◌⊎◌, inl, inr, refl, sym, ap, subst, ◌∙◌, arith, if◌then◌else◌}
use Rattle.std.proofs.lemmas.Bool.{cases_Bool}
use Rattle.std.proofs.lemmas.Bool.Decides.{nat_tests}
use Rattle.kadm_commands.specs.declared.commands.Command.{Command}
use Rattle.kadm_words.specs.Splitting.{words_in}
use Rattle.kadm_words.specs.Words.{SpellsWords}
use Rattle.kadm_words.proofs.WordLemmas.{one_split, words_read, words_spelled}
use Rattle.kdb_base.specs.declared.outcomes.Refusal.{Refusal}
use Rattle.kdb_base.specs.declared.outcomes.Refusal.TheVariants.{BadLine, LineTooLong}
use Rattle.kadm_wire.specs.LineReadings.{answer, is_comment, line_reading, reading}
use Rattle.kadm_wire.specs.LineReadings.{shape_reading, split_reading, words_reading}
use Rattle.kadm_wire.specs.Lines.{IsComment, IsLine, IsLong, IsOfCommand, IsOfNone}
use Rattle.kadm_wire.specs.Lines.{IsPassedOver, IsReading, SpellsLine, longest_line}
use Rattle.kadm_wire.specs.Shapes.{Shape, SpellsShape, shape_in}
use Rattle.kadm_wire.specs.declared.readings.Reading.{Reading}
use Rattle.kadm_wire.specs.declared.readings.Reading.TheVariants.{Skipped, Says, Refuses}
use Rattle.kadm_wire.proofs.Exact.{whole_exact}
use Rattle.kadm_wire.proofs.ShapeLemmas.{shape_spelled, spelled_shape}

-- ---- comments

tested_comment : (line : List ℕ) → is_comment line ≡ true → IsComment line
unfolding is_comment
tested_comment [] is = cc
tested_comment (byte ∷ rest) is = record { rest = rest; line_is = ap (λ (b : ℕ). b ∷ rest) (grind (arith, nat_tests)) }

comment_tested : (line : List ℕ) → IsComment line → is_comment line ≡ true
unfolding is_comment
comment_tested line c = rw c.line_is refl

no_comment : (line : List ℕ) (comment : Bool) → is_comment line ≡ comment → IsLine line → comment ≡ false
no_comment line true e is = absurd (is.said (inl (tested_comment line e)))
no_comment line false e is = refl

-- ---- what is read is said

-- a line of a command's length that is no comment, by its words
is_line : (line : List ℕ) → length line ≤ longest_line → is_comment line ≡ false
    → (SpellsWords [] line → ⊥) → IsLine line
is_line line short other some = record {
  short = short;
  said =
      λ skipped. elim skipped [ inl comment ↦ (let is = comment_tested line comment in cc) | inr empty ↦ some empty ];
}

shape_said : (realm line : List ℕ) (words : List (List ℕ)) (r : Option Shape) → IsLine line → SpellsWords words line
    → shape_in words ≡ r
    → IsReading line realm (shape_reading realm r)
shape_said realm line words None is s e = inr (inr (record {
  is_line = is;
  none = λ shape l.
      (let same = one_split line l.words words l.words_spelled s in
      let read = spelled_shape shape l.words l.shape_spelled in
      let none = ap (λ (ws : List (List ℕ)). shape_in ws) same ∙ e in cc);
  reading_is = refl;
}))
shape_said realm line words (Some shape) is s e = inr (inl (record {
  is_line = is;
  shape = shape;
  spelled = record { words = words; words_spelled = s; shape_spelled = shape_spelled shape words e };
  gives = (whole_exact realm shape).is;
}))

split_said : (realm line : List ℕ) (r : Option (List (List ℕ))) → length line ≤ longest_line → is_comment line ≡ false
    → words_in line ≡ r
    → IsReading line realm (split_reading realm r)
unfolding words_reading
split_said realm line None short other e = inr (inr (record {
  is_line = is_line line short other (λ empty. (let read = words_read [] line empty in cc));
  none = λ shape l. (let read = words_read l.words line l.words_spelled in cc);
  reading_is = refl;
}))
split_said realm line (Some []) short other e =
    inl (inr (record { short = short; skipped = inr (words_spelled line [] e); reading_is = refl }))
split_said realm line (Some (word ∷ words)) short other e =
    shape_said realm line (word ∷ words) (shape_in (word ∷ words))
    (is_line line short other (λ empty. (let read = words_read [] line empty in cc)))
    (words_spelled line (word ∷ words) e) refl

comment_said : (realm line : List ℕ) (comment : Bool) → length line ≤ longest_line → is_comment line ≡ comment
    → IsReading line realm (if comment then Skipped else split_reading realm (words_in line))
comment_said realm line true short is =
    inl (inr (record { short = short; skipped = inl (tested_comment line is); reading_is = refl }))
comment_said realm line false short is = split_said realm line (words_in line) short is refl

length_said : (realm line : List ℕ) (long : Bool) → nat_lt longest_line (length line) ≡ long
    → IsReading line realm (if long then Refuses LineTooLong
    else (if is_comment line then Skipped else split_reading realm (words_in line)))
length_said realm line true is = inl (inl (record { long = grind (arith, nat_tests); reading_is = refl }))
length_said realm line false is = comment_said realm line (is_comment line) (grind (arith, nat_tests)) refl

pub line_said : (realm line : List ℕ) → IsReading line realm (line_reading realm line)
unfolding line_reading
line_said realm line = length_said realm line (nat_lt longest_line (length line)) refl

-- ---- what is said is read

long_read : (realm line : List ℕ) → longest_line < length line → line_reading realm line ≡ Refuses LineTooLong
unfolding line_reading
long_read realm line long = let is : nat_lt longest_line (length line) ≡ true = grind (arith, nat_tests) in rw is refl

comment_read : (realm line : List ℕ) → length line ≤ longest_line → is_comment line ≡ true
    → line_reading realm line ≡ Skipped
unfolding line_reading
comment_read realm line short comment = let is : nat_lt longest_line (length line) ≡ false =
    grind (arith, nat_tests) in rw (is, comment) refl

split_read : (realm line : List ℕ) (r : Option (List (List ℕ))) → length line ≤ longest_line → is_comment line ≡ false
    → words_in line ≡ r
    → line_reading realm line ≡ split_reading realm r
unfolding line_reading
split_read realm line r short other e = let is : nat_lt longest_line (length line) ≡ false =
    grind (arith, nat_tests) in rw (is, other, e) refl

empty_read : (realm line : List ℕ) → length line ≤ longest_line → SpellsWords [] line
    → line_reading realm line ≡ Skipped
unfolding words_reading
empty_read realm line short s = elim (cases_Bool (is_comment line)) [
  | inl comment ↦ comment_read realm line short comment
  | inr other ↦ split_read realm line (Some []) short other (words_read [] line s)
]

passed_read : (realm line : List ℕ) (r : Reading) → IsPassedOver line r → r ≡ line_reading realm line
passed_read realm line r p = p.reading_is ∙ sym (elim p.skipped [
  | inl comment ↦ comment_read realm line p.short (comment_tested line comment)
  | inr empty ↦ empty_read realm line p.short empty
])

-- a line of a command, by its words
line_words : (realm line : List ℕ) (r : Option (List (List ℕ))) → IsLine line → words_in line ≡ r
    → line_reading realm line ≡ split_reading realm r
line_words realm line r is e = split_read realm line r is.short (no_comment line (is_comment line) refl is) e

shape_read : (realm : List ℕ) (words : List (List ℕ)) (shape : Shape) → SpellsShape shape words
    → words_reading realm words ≡ shape_reading realm (Some shape)
unfolding words_reading
shape_read realm [] shape s = absurd (let are = s.words_are in cc)
shape_read realm (word ∷ words) shape s = ap (shape_reading realm) (spelled_shape shape (word ∷ words) s)

command_read : (realm line : List ℕ) (r : Reading) → IsOfCommand realm line r → r ≡ line_reading realm line
command_read realm line r c =
    let l = c.spelled in
    (whole_exact realm c.shape).only r c.gives
    ∙ sym (line_words realm line (Some l.words) c.is_line (words_read l.words line l.words_spelled)
    ∙ shape_read realm l.words c.shape l.shape_spelled)

no_shape : (realm line : List ℕ) (words : List (List ℕ)) (r : Option Shape) → SpellsWords words line
    → shape_in words ≡ r
    → ((shape : Shape) → SpellsLine shape line → ⊥) → shape_reading realm r ≡ Refuses BadLine
no_shape realm line words None s e none = refl
no_shape realm line words (Some shape) s e none =
    absurd (none shape (record { words = words; words_spelled = s; shape_spelled = shape_spelled shape words e }))

none_split : (realm line : List ℕ) (r : Option (List (List ℕ))) (said : Reading) → IsOfNone line said
    → words_in line ≡ r → split_reading realm r ≡ Refuses BadLine
unfolding words_reading
none_split realm line None said n e = refl
none_split realm line (Some []) said n e = absurd (n.is_line.said (inr (words_spelled line [] e)))
none_split realm line (Some (word ∷ words)) said n e =
    no_shape realm line (word ∷ words) (shape_in (word ∷ words)) (words_spelled line (word ∷ words) e) refl n.none

none_read : (realm line : List ℕ) (r : Reading) → IsOfNone line r → r ≡ line_reading realm line
none_read realm line r n =
    n.reading_is
    ∙ sym (line_words realm line (words_in line) n.is_line refl ∙ none_split realm line (words_in line) r n refl)

long_only : (realm line : List ℕ) (r : Reading) → IsLong line r → r ≡ line_reading realm line
long_only realm line r l = l.reading_is ∙ sym (long_read realm line l.long)

pub said_read : (realm line : List ℕ) (r : Reading) → IsReading line realm r → r ≡ line_reading realm line
said_read realm line r (inl (inl long)) = long_only realm line r long
said_read realm line r (inl (inr passed)) = passed_read realm line r passed
said_read realm line r (inr (inl of)) = command_read realm line r of
said_read realm line r (inr (inr none)) = none_read realm line r none

-- a line says one thing
pub one_reading : (realm line : List ℕ) (a b : Reading) → IsReading line realm a → IsReading line realm b → a ≡ b
one_reading realm line a b is is' = said_read realm line a is ∙ sym (said_read realm line b is')

-- ---- answers

pub said_of : (realm line : List ℕ) (said : Reading) → said ≡ line_reading realm line → IsReading line realm said
said_of realm line said e = subst (λ (r : Reading). IsReading line realm r) (sym e) (line_said realm line)

pub answered : (realm line : List ℕ) (said other : Reading) → IsReading line realm said → said ≡ other
    → reading realm line ≡ answer other
unfolding reading
answered realm line said other is same = ap (λ (r : Reading). answer r) (sym (said_read realm line said is) ∙ same)

pub said_answer : (realm line : List ℕ) (said : Reading) → IsReading line realm said → reading realm line ≡ answer said
said_answer realm line said is = answered realm line said said is refl

one_answer : (a b : Reading) → answer a ≡ answer b → a ≡ b
one_answer Skipped Skipped e = refl
one_answer (Says a) (Says b) e = let same : a ≡ b = cc in ap (λ (c : Command). Says c) same
one_answer (Refuses a) (Refuses b) e = let same : a ≡ b = cc in ap (λ (r : Refusal). Refuses r) same
one_answer a b e = cc

-- the line says what is answered
pub answer_said : (realm line : List ℕ) (said : Reading) → reading realm line ≡ answer said → IsReading line realm said
unfolding reading
answer_said realm line said e = said_of realm line said (sym (one_answer (line_reading realm line) said e))
