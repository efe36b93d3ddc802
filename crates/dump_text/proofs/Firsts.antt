-- The line that is named is the first at which no dump goes on.
use Rattle.std.proofs.Common.{◌≡◌, ℕ, zero, suc, ◌+◌, ◌<◌, ◌≤◌, ◌==◌, true, false, if◌then◌else◌}
use Rattle.std.proofs.Common.{List, [], ◌∷◌, ◌++◌, length, take, get_or, Option, Some, None, refl}
use Rattle.std.proofs.Common.{sym, ap, subst, ◌∙◌, append_assoc, append-nil, arith, inl, inr}
use Rattle.std.specs.Prelude.{Ok, Err, option_and_then, min}
use Rattle.std.specs.List.{AllByRecursion, flat_map}
use Rattle.std.proofs.Math.Nat.{min-eq_left, min-eq_right}
use Rattle.std.proofs.lemmas.Bool.{cases_lt}
use Rattle.std.proofs.lemmas.Option.{same_Some}
use Rattle.kdb_format.specs.Laws.{bind_some}
use Rattle.dump_text.specs.Dumps.{ended}
use Rattle.dump_text.specs.Firsts.{IsFirstBad}
use Rattle.dump_text.specs.Judged.{BeginsDump, Said, nothing, after, dump_of, dump_or_bad, judged}
use Rattle.dump_text.specs.Judged.{judged_from, judged_lines, line_behind, said_by, said_or}
use Rattle.dump_text.specs.Lines.{Lines, in_front, lines_of, lacks}
use Rattle.dump_text.specs.declared.dumps.Dump.{Dump}
use Rattle.dump_text.proofs.Again.{text_again}
use Rattle.dump_text.proofs.Going.{good_lines}
use Rattle.dump_text.proofs.Judging.{lines-fed}
use Rattle.dump_text.proofs.Spelled.{said_ok}

-- ---- numbers of lines

one_line_on : (n k : ℕ) → line_behind (line_behind n + k) ≡ line_behind (n + suc k)
one_line_on n k =
    elim (cases_lt 4294967295 (n + 1)) [
      | inl big ↦
          let cut : line_behind n ≡ 4294967295 = min-eq_right (omega arith) in
          let a : line_behind (line_behind n + k) ≡ 4294967295 = min-eq_right (omega (arith, cut)) in
          let b : line_behind (n + suc k) ≡ 4294967295 = min-eq_right (omega arith) in
          a ∙ sym b
      | inr small ↦
          let same : line_behind n ≡ n + 1 = min-eq_left small in
          ap line_behind (omega (arith, same))
    ]

-- ---- where lines stop

record Stops (s : Said) (lines : List (List ℕ)) (n line : ℕ) : Type 0 where
  before : ℕ
  number : line ≡ line_behind (n + before)
  within : before ≤ length lines
  at : Said
  said : said_by s (take before lines) ≡ Some at
  breaks : before < length lines → after at (get_or lines before []) ≡ None

stopped_at : (bad : ℕ) (o : Option Dump) (rest : List ℕ) (line : ℕ) → dump_or_bad bad o rest ≡ Err line → line ≡ bad
stopped_at bad None rest line e = cc
stopped_at bad (Some dump) [] line e = absurd cc
stopped_at bad (Some dump) (b ∷ rest) line e = cc

stops_here : (s : Said) (l : List ℕ) (lines : List (List ℕ)) (n line : ℕ) → after s l ≡ None → line ≡ line_behind n
    → Stops s (l ∷ lines) n line
unfolding said_by
stops_here s l lines n line bad e = record {
  before = 0;
  number = e ∙ ap line_behind (omega arith);
  within = omega arith;
  at = s;
  said = refl;
  breaks = λ _. bad;
}

stops_later : (s t : Said) (l : List ℕ) (lines : List (List ℕ)) (n line : ℕ) → after s l ≡ Some t
    → Stops t lines (line_behind n) line → Stops s (l ∷ lines) n line
unfolding said_by
stops_later s t l lines n line good f =
    let within = f.within in
    record {
      before = suc f.before;
      number = f.number ∙ one_line_on n f.before;
      within = omega arith;
      at = f.at;
      said = ap (option_and_then (λ u. said_by u (take f.before lines))) good ∙ f.said;
      breaks = λ lt. f.breaks (omega arith);
    }

stops : (s : Said) (lines : List (List ℕ)) (rest : List ℕ) (n line : ℕ) → judged_lines s n lines rest ≡ Err line
    → Stops s lines n line
unfolding judged_lines said_by
stops s [] rest n line e = record {
  before = 0;
  number = stopped_at (line_behind n) (dump_of s) rest line e ∙ ap line_behind (omega arith);
  within = omega arith;
  at = s;
  said = refl;
  breaks = λ lt. absurd (omega arith);
}
stops s (l ∷ lines) rest n line e = by (after s l) refl e (λ t f. stops t lines rest (line_behind n) line f)
  where
    by : (o : Option Said) → after s l ≡ o
        → said_or (Err (line_behind n)) o (λ t. judged_lines t (line_behind n) lines rest) ≡ Err line
        → ((t : Said) → judged_lines t (line_behind n) lines rest ≡ Err line → Stops t lines (line_behind n) line)
        → Stops s (l ∷ lines) n line
    by None is f further = stops_here s l lines n line is cc
    by (Some t) is f further = stops_later s t l lines n line is (further t f)

-- ---- lines and their text

abbrev IsClear : List ℕ → Type 0
IsClear line = lacks 10 line ≡ true

front_clear : (b : ℕ) (lines : List (List ℕ)) (rest : List ℕ) → (b == 10) ≡ false → AllByRecursion IsClear lines
    → AllByRecursion IsClear (in_front (b ∷ []) lines rest).whole
unfolding in_front lacks
front_clear b [] rest other all = tt
front_clear b (line ∷ lines) rest other all = (rw other all.0, all.1)

whole_clear : (text : List ℕ) → AllByRecursion IsClear (lines_of text).whole
unfolding lines_of lacks
whole_clear [] = tt
whole_clear (b ∷ text) =
    elim (b == 10) as (λ v. ((b == 10) ≡ v) → AllByRecursion IsClear (if v then record {
      whole = [] ∷ (lines_of text).whole;
      rest = (lines_of text).rest;
    } else in_front (b ∷ []) (lines_of text).whole (lines_of text).rest).whole) [
      | true ↦ λ is. (refl, whole_clear text)
      | false ↦ λ other. front_clear b (lines_of text).whole (lines_of text).rest other (whole_clear text)
    ] refl

take_clear : (n : ℕ) (lines : List (List ℕ)) → AllByRecursion IsClear lines → AllByRecursion IsClear (take n lines)
take_clear zero lines all = tt
take_clear (suc n) [] all = tt
take_clear (suc n) (l ∷ lines) all = (all.0, take_clear n lines all.1)

lines_back : (lines : List (List ℕ)) (more : List ℕ) → AllByRecursion IsClear lines
    → lines_of (flat_map ended lines ++ more) ≡ record {
      whole = lines ++ (lines_of more).whole;
      rest = (lines_of more).rest;
    }
lines_back [] more all = refl
lines_back (l ∷ lines) more all =
    ap lines_of
    (append_assoc (ended l) (flat_map ended lines) more ∙ append_assoc l (10 ∷ []) (flat_map ended lines ++ more))
    ∙ lines-fed l (flat_map ended lines ++ more) all.0
    ∙ ap (λ (r : Lines). record { whole = l ∷ r.whole; rest = r.rest }) (lines_back lines more all.1)

take_one_more : (k : ℕ) (lines : List (List ℕ)) → k < length lines
    → take (suc k) lines ≡ take k lines ++ (get_or lines k [] ∷ [])
take_one_more k [] lt = absurd (omega arith)
take_one_more zero (l ∷ lines) lt = refl
take_one_more (suc k) (l ∷ lines) lt = ap (λ (ls : List (List ℕ)). l ∷ ls) (take_one_more k lines (omega arith))

-- ---- what lines said

ok_said : (s : Said) (front back : List (List ℕ)) (rest : List ℕ) (n : ℕ) (dump : Dump)
    → judged_lines s n (front ++ back) rest ≡ Ok dump → (u : Said) × (said_by s front ≡ Some u)
unfolding judged_lines said_by
ok_said s [] back rest n dump e = (s, refl)
ok_said s (l ∷ front) back rest n dump e =
    let f = said_ok (line_behind n) (after s l) (λ t. judged_lines t (line_behind n) (front ++ back) rest) dump e in
    let g = ok_said f.0 front back rest (line_behind n) dump f.2 in
    (g.0, ap (option_and_then (λ u. said_by u front)) f.1 ∙ g.1)

last_line : (s : Said) (lines : List (List ℕ)) (l : List ℕ) (t u : Said) → said_by s lines ≡ Some t
    → said_by s (lines ++ (l ∷ [])) ≡ Some u → after t l ≡ Some u
unfolding said_by
last_line s [] l t u e f =
    let g = bind_some (λ v. Some v) (after s l) u f in
    subst (λ (v : Said). after v l ≡ Some u) (same_Some s t e) (g.1 ∙ g.2)
last_line s (x ∷ lines) l t u e f =
    let p = bind_some (λ v. said_by v lines) (after s x) t e in
    let q = bind_some (λ v. said_by v (lines ++ (l ∷ []))) (after s x) u f in
    let same : p.0 ≡ q.0 = same_Some p.0 q.0 (sym p.1 ∙ q.1) in
    last_line p.0 lines l t u p.2 (subst (λ (v : Said). said_by v (lines ++ (l ∷ [])) ≡ Some u) (sym same) q.2)

begins_by : (lines : List (List ℕ)) (t : Said) → AllByRecursion IsClear lines → said_by nothing lines ≡ Some t
    → BeginsDump (flat_map ended lines)
unfolding lines_of
begins_by lines t clear said =
    let back : lines_of (flat_map ended lines) ≡ record { whole = lines; rest = [] } =
    ap lines_of (sym (append-nil (flat_map ended lines))) ∙ lines_back lines [] clear
    ∙ ap (λ (ls : List (List ℕ)). record { whole = ls; rest = [] }) (append-nil lines) in
    good_lines (flat_map ended lines) t (ap (λ (l : Lines). l.rest) back)
    (ap (λ (l : Lines). said_by nothing l.whole) back ∙ said)

never : (lines : List (List ℕ)) (l : List ℕ) (t : Said) → AllByRecursion IsClear (lines ++ (l ∷ []))
    → said_by nothing lines ≡ Some t → after t l ≡ None → BeginsDump (flat_map ended (lines ++ (l ∷ []))) → ⊥
unfolding judged judged_from
never lines l t clear said bad begins =
    let is = text_again (flat_map ended (lines ++ (l ∷ [])) ++ begins.rest) begins.dump begins.is_text in
    let back = lines_back (lines ++ (l ∷ [])) begins.rest clear in
    let led = ok_said nothing (lines ++ (l ∷ [])) (lines_of begins.rest).whole (lines_of begins.rest).rest 0 begins.dump
    (ap (λ (r : Lines). judged_lines nothing 0 r.whole r.rest) (sym back) ∙ is) in
    let on = last_line nothing lines l t led.0 said led.1 in
    cc

pub first_bad : (text : List ℕ) (line : ℕ) → judged text ≡ Err line → IsFirstBad text line
unfolding judged judged_from
first_bad text line e =
    let whole : List (List ℕ) = (lines_of text).whole in
    let f = stops nothing whole (lines_of text).rest 0 line e in
    let clear = whole_clear text in
    let same : 0 + f.before ≡ f.before = omega arith in
    record {
      before = f.before;
      number = f.number ∙ ap line_behind same;
      within = f.within;
      begins = begins_by (take f.before whole) f.at (take_clear f.before whole clear) f.said;
      breaks = λ lt begins.
          let more = take_one_more f.before whole lt in
          never (take f.before whole) (get_or whole f.before []) f.at
          (subst (AllByRecursion IsClear) more (take_clear (suc f.before) whole clear)) f.said (f.breaks lt)
          (subst (λ (ls : List (List ℕ)). BeginsDump (flat_map ended ls)) more begins);
      misses = λ _ dump is. let read = text_again text dump is in absurd (cc (sym e ∙ read));
    }
