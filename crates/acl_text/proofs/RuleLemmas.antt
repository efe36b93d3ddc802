-- The rules of lines, one by one.
use Rattle.std.proofs.Common.{◌≡◌, ℕ, ◌+◌, ◌<◌, ◌≤◌, not, Bool, true, false, Option, Some, None, Ok, Err, List, []}
use Rattle.std.proofs.Common.{◌∷◌, ◌++◌, length, drop, find, get_or, refl, sym, ap, ◌∙◌, append_assoc, append-nil}
use Rattle.std.specs.List.{filter_map}
use Rattle.std.specs.Option.{is_none}
use Rattle.std.proofs.lemmas.List.{drop_more, drop_all}
use Rattle.std.proofs.lemmas.List.Elements.{filter-append, filter_map-append}
use Rattle.acl_text.specs.Reading.{IsBadLine, TakesLine}
use Rattle.acl_text.specs.Rules.{is_bad, rule_in, rule_of, rules_of, unless_bad}
use Rattle.acl_text.specs.Texts.{is_said, is_skipped, said_lines, words_of}
use Rattle.acl_text.specs.declared.rules.AclLine.{AclLine}
use Rattle.acl_text.specs.declared.texts.Line.{Line}

said-nil : said_lines [] ≡ []
unfolding said_lines
said-nil = refl

said-skip : (line : Line) (lines : List Line) → is_said line ≡ false → said_lines (line ∷ lines) ≡ said_lines lines
unfolding said_lines
said-skip line lines is = rw is refl

said-keep : (line : Line) (lines : List Line) → is_said line ≡ true
    → said_lines (line ∷ lines) ≡ line ∷ said_lines lines
unfolding said_lines
said-keep line lines is = rw is refl

find-skip : (p : Line → Bool) (line : Line) (lines : List Line) → p line ≡ false → find p (line ∷ lines) ≡ find p lines
find-skip p line lines is = rw is refl

find-here : (p : Line → Bool) (line : Line) (lines : List Line) → p line ≡ true → find p (line ∷ lines) ≡ Some line
find-here p line lines is = rw is refl

-- a line is skipped
pub takes_skipped : (realm : List ℕ) (line : Line) (old : List AclLine) → is_said line ≡ false
    → TakesLine realm line old old
takes_skipped realm line old is =
    let none : said_lines (line ∷ []) ≡ [] = said-skip line [] is ∙ said-nil in
    record {
      good = ap (find (is_bad realm)) none;
      added = sym (append-nil old) ∙ ap (λ (ls : List Line). old ++ filter_map (rule_in realm) ls) (sym none);
    }

rule_alone : (realm : List ℕ) (line : Line) (rule : AclLine) → rule_in realm line ≡ Some rule
    → filter_map (rule_in realm) (line ∷ []) ≡ rule ∷ []
rule_alone realm line rule is = rw is refl

good_line : (realm : List ℕ) (line : Line) (rule : AclLine) → rule_in realm line ≡ Some rule → is_bad realm line ≡ false
good_line realm line rule is = ap is_none is

-- a line adds its rule
pub takes_rule : (realm : List ℕ) (line : Line) (rule : AclLine) (old new : List AclLine) → is_said line ≡ true
    → rule_in realm line ≡ Some rule
    → new ≡ old ++ rule ∷ [] → TakesLine realm line old new
takes_rule realm line rule old new said is added =
    let one : said_lines (line ∷ []) ≡ line ∷ [] =
    said-keep line [] said ∙ ap (λ (ls : List Line). line ∷ ls) said-nil in
    record {
      good = ap (find (is_bad realm)) one ∙ find-skip (is_bad realm) line [] (good_line realm line rule is);
      added = added ∙ ap (λ (rs : List AclLine). old ++ rs)
          (sym (ap (filter_map (rule_in realm)) one ∙ rule_alone realm line rule is));
    }

pub bad_line : (realm : List ℕ) (line : Line) (number : ℕ) → is_said line ≡ true → rule_in realm line ≡ None
    → number ≡ line.number → IsBadLine realm line number
bad_line realm line number said is same = record { said = said; bad = ap is_none is; number_is = same }

-- the rule of a line is that of its words
pub rule_is : (realm text : List ℕ) (line : Line) (number : ℕ) (rule : Option AclLine) → text ≡ line.text
    → number ≡ line.number
    → rule ≡ rule_of realm number (words_of text) → rule_in realm line ≡ rule
unfolding rule_in
rule_is realm text line number rule text_is number_is is =
    sym (is ∙ ap (λ (n : ℕ). rule_of realm n (words_of text)) number_is
    ∙ ap (λ (t : List ℕ). rule_of realm line.number (words_of t)) text_is)

find_cases : (p : Line → Bool) (line : Line) (lines more : List Line) (b : Bool) → p line ≡ b
    → ((find p lines ≡ None) → find p (lines ++ more) ≡ find p more) → find p (line ∷ lines) ≡ None
    → find p (line ∷ lines ++ more) ≡ find p more
find_cases p line lines more true is rest none = let some : Some line ≡ None =
    sym (find-here p line lines is) ∙ none in absurd (cc)
find_cases p line lines more false is rest none =
    find-skip p line (lines ++ more) is ∙ rest (sym (find-skip p line lines is) ∙ none)

-- where none of the first is found, the others are looked at
find_behind : (p : Line → Bool) (lines more : List Line) → find p lines ≡ None → find p (lines ++ more) ≡ find p more
find_behind p [] more none = refl
find_behind p (line ∷ lines) more none = find_cases p line lines more (p line) refl (find_behind p lines more) none

said-append : (line : Line) (lines : List Line) → said_lines (line ∷ lines) ≡ said_lines (line ∷ []) ++ said_lines lines
unfolding said_lines
said-append line lines = filter-append is_said (line ∷ []) lines

said_at : (lines : List Line) (i : ℕ) (line : Line) → i < length lines → line ≡ get_or lines i line
    → said_lines (drop i lines) ≡ said_lines (line ∷ []) ++ said_lines (drop (i + 1) lines)
said_at lines i line lt is =
    ap said_lines (drop_more lines i line lt ∙ ap (λ (l : Line). l ∷ drop (i + 1) lines) (sym is))
    ∙ said-append line (drop (i + 1) lines)

pub next_bad : (realm : List ℕ) (lines : List Line) (i : ℕ) (line : Line) (old new : List AclLine) → i < length lines
    → line ≡ get_or lines i line
    → TakesLine realm line old new
    → find (is_bad realm) (said_lines (drop (i + 1) lines)) ≡ find (is_bad realm) (said_lines (drop i lines))
next_bad realm lines i line old new lt is takes =
    sym (ap (find (is_bad realm)) (said_at lines i line lt is)
    ∙ find_behind (is_bad realm) (said_lines (line ∷ [])) (said_lines (drop (i + 1) lines)) takes.good)

pub next_added : (realm : List ℕ) (lines : List Line) (i : ℕ) (line : Line) (old new : List AclLine) → i < length lines
    → line ≡ get_or lines i line
    → TakesLine realm line old new
    → new ++ filter_map (rule_in realm) (said_lines (drop (i + 1) lines))
    ≡ old ++ filter_map (rule_in realm) (said_lines (drop i lines))
next_added realm lines i line old new lt is takes =
    let rest : List AclLine = filter_map (rule_in realm) (said_lines (drop (i + 1) lines)) in
    ap (λ (rs : List AclLine). rs ++ rest) takes.added
    ∙ append_assoc old (filter_map (rule_in realm) (said_lines (line ∷ []))) rest
    ∙ ap (λ (rs : List AclLine). old ++ rs)
    (sym (ap (filter_map (rule_in realm)) (said_at lines i line lt is)
    ∙ filter_map-append (rule_in realm) (said_lines (line ∷ [])) (said_lines (drop (i + 1) lines))))

rules_bad : (realm : List ℕ) (lines : List Line) (line : Line) → find (is_bad realm) lines ≡ Some line
    → rules_of realm lines ≡ Err line.number
unfolding rules_of
rules_bad realm lines line is = ap (λ (o : Option Line). unless_bad o (filter_map (rule_in realm) lines)) is

rules_good : (realm : List ℕ) (lines : List Line) (rules : List AclLine) → find (is_bad realm) lines ≡ None
    → filter_map (rule_in realm) lines ≡ rules
    → rules_of realm lines ≡ Ok rules
unfolding rules_of
rules_good realm lines rules none is =
    ap (λ (o : Option Line). unless_bad o (filter_map (rule_in realm) lines)) none ∙ ap Ok is

-- the first bad line refuses
pub refused_at : (realm : List ℕ) (lines : List Line) (i : ℕ) (line : Line) (number : ℕ) → i < length lines
    → line ≡ get_or lines i line
    → find (is_bad realm) (said_lines (drop i lines)) ≡ find (is_bad realm) (said_lines lines)
    → IsBadLine realm line number
    → rules_of realm (said_lines lines) ≡ Err number
refused_at realm lines i line number lt is first bad =
    let here : said_lines (drop i lines) ≡ line ∷ said_lines (drop (i + 1) lines) =
    ap said_lines (drop_more lines i line lt ∙ ap (λ (l : Line). l ∷ drop (i + 1) lines) (sym is))
    ∙ said-keep line (drop (i + 1) lines) bad.said in
    let found : find (is_bad realm) (said_lines lines) ≡ Some line =
    sym first ∙ ap (find (is_bad realm)) here
    ∙ find-here (is_bad realm) line (said_lines (drop (i + 1) lines)) bad.bad in
    rules_bad realm (said_lines lines) line found ∙ ap Err (sym bad.number_is)

-- and where none is left, the rules are there
pub all_taken : (realm : List ℕ) (lines : List Line) (i : ℕ) (rules : List AclLine) → length lines ≤ i
    → find (is_bad realm) (said_lines (drop i lines)) ≡ find (is_bad realm) (said_lines lines)
    → rules ++ filter_map (rule_in realm) (said_lines (drop i lines)) ≡ filter_map (rule_in realm) (said_lines lines)
    → rules_of realm (said_lines lines) ≡ Ok rules
all_taken realm lines i rules le first added =
    let nothing : said_lines (drop i lines) ≡ [] = ap said_lines (drop_all i lines le) ∙ said-nil in
    rules_good realm (said_lines lines) rules (sym first ∙ ap (find (is_bad realm)) nothing)
    (sym added ∙ ap (λ (ls : List Line). rules ++ filter_map (rule_in realm) ls) nothing ∙ append-nil rules)

pub said_is : (text : List ℕ) (line : Line) (b : Bool) → text ≡ line.text → b ≡ is_skipped text → is_said line ≡ not b
said_is text line b same is = ap not (sym (is ∙ ap is_skipped same))
