-- Lines that were said lead on to a dump.
use Rattle.std.proofs.Common.{◌≡◌, ℕ, ◌≤◌, ◌==◌, Bool, true, false, ◌&&◌, if◌then◌else◌, List, []}
use Rattle.std.proofs.Common.{◌∷◌, ◌++◌, codes, Option, Some, None, refl, sym, ap, subst, ◌∙◌, arith}
use Rattle.std.specs.Prelude.{Ok, Err, nat_le, is_some, option_map}
use Rattle.std.proofs.lemmas.Bool.{and_parts, false≢true, leb-true}
use Rattle.std.proofs.lemmas.Option.{same_Some}
use Rattle.kdb_base.specs.Limits.{most_rows}
use Rattle.kdb_base.specs.declared.moments.Point.{Point}
use Rattle.kdb_format.specs.Laws.{bind_some}
use Rattle.kdb_format.specs.Moments.{IsPoint}
use Rattle.princ_name.specs.Realms.{is_realm}
use Rattle.princ_rows.specs.EntryLaws.{bytes_same}
use Rattle.princ_rows.specs.Rows.{RowLists, princ_keys, policy_keys}
use Rattle.tagged_data.specs.KeyOrder.{rises_from}
use Rattle.dump_text.specs.Dumps.{ended, realm_line, point_line, end_line, row_count}
use Rattle.dump_text.specs.Lines.{Lines, in_front, lines_of, lacks}
use Rattle.dump_text.specs.Judged.{BeginsDump, Said, nothing, after, after_title, after_realm}
use Rattle.dump_text.specs.Judged.{after_point, dump_of, is_in_order, judged, judged_from}
use Rattle.dump_text.specs.Judged.{judged_lines, line_behind, rows_of, said_by, said_or}
use Rattle.dump_text.specs.Versions.{title}
use Rattle.dump_text.specs.declared.versions.Version.{Version}
use Rattle.dump_text.specs.declared.versions.Version.TheVariants.{Two}
use Rattle.dump_text.specs.declared.dumps.Dump.{Dump}
use Rattle.dump_text.proofs.Stands.{version_again}
use Rattle.dump_text.proofs.Spelled.{judged_spelled}
use Rattle.dump_text.proofs.Again.{text_again, after_last, end_lacks, goes, point_again}
use Rattle.dump_text.proofs.Again.{point_lacks, realm_again, realm_lacks, title_lacks}
use Rattle.dump_text.proofs.Judging.{judged-end}
use Rattle.dump_text.proofs.Led.{Led, led_title, led_realm, led_point, led_row}
use Rattle.dump_text.proofs.Led.{RowLed, led_princ, led_policy, led_end, led}

-- ---- from any place on

-- these bytes lead from here to a dump
record Leads (s : Said) : Type 0 where
  rest : List ℕ
  dump : Dump
  ends : (n : ℕ) → judged_from s n rest ≡ Ok dump

leads_step : (s t : Said) (line : List ℕ) → lacks 10 line ≡ true → after s line ≡ Some t → Leads t → Leads s
leads_step s t line clear e next = record {
  rest = ended line ++ next.rest;
  dump = next.dump;
  ends = λ n. goes s t n line next.rest clear e ∙ next.ends (line_behind n);
}

abbrev said : Option Version → Option (List ℕ) → Option Point → RowLists → Bool → Said
said titled realm point rows over = record {
  titled = titled;
  realm = realm;
  point = point;
  princs = rows.princs;
  policies = rows.policies;
  ended = over;
}

leads_end : (v : Version) (realm : List ℕ) (point : Point) (rows : RowLists)
    → Leads (said (Some v) (Some realm) (Some point) rows true)
unfolding dump_of lacks
leads_end v realm point rows = record {
  rest = [];
  dump = record { realm = realm; point = point; rows = rows };
  ends = λ n. judged-end (said (Some v) (Some realm) (Some point) rows true) n [] refl;
}

leads_rows : (v : Version) (realm : List ℕ) (point : Point) (rows : RowLists) → row_count rows ≤ most_rows
    → Leads (said (Some v) (Some realm) (Some point) rows false)
leads_rows v realm point rows few =
    leads_step (said (Some v) (Some realm) (Some point) rows false) (said (Some v) (Some realm) (Some point) rows true)
    (end_line (row_count rows)) (end_lacks (row_count rows) few)
    (after_last v realm point rows) (leads_end v realm point rows)

no_point : Point
no_point = record { sno = 0; time = record { secs = 0; usecs = 0 } }

no_point_good : IsPoint no_point
unfolding no_point
no_point_good = record { sno = omega arith; time = record { secs = omega arith; usecs = omega arith } }

point_step : (v : Version) (realm : List ℕ) (rows : RowLists) (over : Bool) (point : Point)
    → IsPoint point → after (said (Some v) (Some realm) None rows over) (point_line point)
    ≡ Some (said (Some v) (Some realm) (Some point) rows over)
unfolding after after_point
point_step v realm rows over point good = rw (point_again point good) refl

-- behind an end stand a realm and a point
abbrev Closed : Option (List ℕ) → Option Point → Bool → Type 0
Closed realm point over = over ≡ true → (is_some realm ≡ true) × (is_some point ≡ true)

leads_point : (v : Version) (realm : List ℕ) (point : Option Point) (rows : RowLists) (over : Bool)
    → row_count rows ≤ most_rows → Closed (Some realm) point over → Leads (said (Some v) (Some realm) point rows over)
leads_point v realm (Some point) rows true few closed = leads_end v realm point rows
leads_point v realm (Some point) rows false few closed = leads_rows v realm point rows few
leads_point v realm None rows true few closed = absurd (false≢true (closed refl).1)
leads_point v realm None rows false few closed =
    leads_step (said (Some v) (Some realm) None rows false) (said (Some v) (Some realm) (Some no_point) rows false)
    (point_line no_point) (point_lacks no_point no_point_good)
    (point_step v realm rows false no_point no_point_good) (leads_rows v realm no_point rows few)

realm_step : (v : Version) (point : Option Point) (rows : RowLists) (over : Bool) (realm : List ℕ)
    → is_realm realm ≡ true
    → after (said (Some v) None point rows over) (realm_line realm) ≡ Some (said (Some v) (Some realm) point rows over)
unfolding after after_realm
realm_step v point rows over realm good = rw (realm_again realm good) refl

open_closed : (realm : List ℕ) (point : Option Point) (over : Bool) → Closed None point over
    → Closed (Some realm) point over
open_closed realm point over closed e = (refl, (closed e).1)

leads_realm : (v : Version) (realm : Option (List ℕ)) (point : Option Point) (rows : RowLists) (over : Bool)
    → row_count rows ≤ most_rows → Closed realm point over → Leads (said (Some v) realm point rows over)
leads_realm v (Some realm) point rows over few closed = leads_point v realm point rows over few closed
leads_realm v None point rows over few closed =
    leads_step (said (Some v) None point rows over) (said (Some v) (Some (codes "R")) point rows over)
    (realm_line (codes "R")) (realm_lacks (codes "R") refl) (realm_step v point rows over (codes "R") refl)
    (leads_point v (codes "R") point rows over few (open_closed (codes "R") point over closed))

title_step : (realm : Option (List ℕ)) (point : Option Point) (rows : RowLists) (over : Bool)
    → after (said None realm point rows over) (title Two) ≡ Some (said (Some Two) realm point rows over)
unfolding after after_title
title_step realm point rows over =
    ap (option_map (λ (u : Version). said (Some u) realm point rows over)) (version_again Two)

leads_title : (titled : Option Version) (realm : Option (List ℕ)) (point : Option Point) (rows : RowLists) (over : Bool)
    → row_count rows ≤ most_rows → Closed realm point over → Leads (said titled realm point rows over)
leads_title (Some v) realm point rows over few closed = leads_realm v realm point rows over few closed
leads_title None realm point rows over few closed =
    leads_step (said None realm point rows over) (said (Some Two) realm point rows over) (title Two) (title_lacks Two)
    (title_step realm point rows over) (leads_realm Two realm point rows over few closed)

-- ---- where lines lead

record Reached (s : Said) : Type 0 where
  few : row_count (rows_of s) ≤ most_rows
  closed : Closed s.realm s.point s.ended

few_from_test : (rows : RowLists) → is_in_order rows ≡ true → row_count rows ≤ most_rows
few_from_test rows e = leb-true _ _ (and_parts (nat_le (row_count rows) most_rows)
    (rises_from None (princ_keys rows.princs) && rises_from None (policy_keys rows.policies)) e).0

row_reaches : (v : Version) (s : Said) (line : List ℕ) (t : Said) → Reached s → is_some s.realm ≡ true
    → is_some s.point ≡ true → RowLed v s line t → Reached t
row_reaches v s line t at realm point (led_princ p is row bytes stand none order e) =
    subst Reached (sym e) (record {
      few = few_from_test (record { princs = s.princs ++ (p ∷ []); policies = s.policies }) order;
      closed = at.closed;
    })
row_reaches v s line t at realm point (led_policy p is row bytes order e) =
    subst Reached (sym e) (record {
      few = few_from_test (record { princs = s.princs; policies = s.policies ++ (p ∷ []) }) order;
      closed = at.closed;
    })
row_reaches v s line t at realm point (led_end is e) =
    subst Reached (sym e) (record { few = at.few; closed = λ _. (realm, point) })

step_reaches : (s : Said) (line : List ℕ) (t : Said) → Reached s → Led s line t → Reached t
step_reaches s line t at (led_title v is e) = subst Reached (sym e) (record { few = at.few; closed = at.closed })
step_reaches s line t at (led_realm realm none is good e) =
    subst Reached (sym e) (record { few = at.few; closed = λ o. (refl, (at.closed o).1) })
step_reaches s line t at (led_point point is good e) =
    subst Reached (sym e) (record { few = at.few; closed = λ o. ((at.closed o).0, refl) })
step_reaches s line t at (led_row v realm point row) = row_reaches v s line t at realm point row

lines_reach : (s : Said) (lines : List (List ℕ)) (t : Said) → Reached s → said_by s lines ≡ Some t → Reached t
unfolding said_by
lines_reach s [] t at e = subst Reached (same_Some s t e) at
lines_reach s (line ∷ lines) t at e =
    let a = bind_some (λ u. said_by u lines) (after s line) t e in
    lines_reach a.0 lines t (step_reaches s line a.0 at (led s line a.0 a.1)) a.2

-- ---- whole lines, and what comes behind them

front_rest : (b : ℕ) (lines : List (List ℕ)) (rest : List ℕ) → (in_front (b ∷ []) lines rest).rest ≡ [] → rest ≡ []
unfolding in_front
front_rest b [] rest e = absurd cc
front_rest b (line ∷ lines) rest e = e

front_append : (b : ℕ) (lines : List (List ℕ)) (rest : List ℕ) (others : List (List ℕ)) (last : List ℕ)
    → (in_front (b ∷ []) lines rest).rest ≡ []
    → in_front (b ∷ []) (lines ++ others) last ≡ record {
      whole = (in_front (b ∷ []) lines rest).whole ++ others;
      rest = last;
    }
unfolding in_front
front_append b [] rest others last e = absurd cc
front_append b (line ∷ lines) rest others last e = refl

lines-append : (text more : List ℕ) → (lines_of text).rest ≡ [] → lines_of (text ++ more) ≡ record {
  whole = (lines_of text).whole ++ (lines_of more).whole;
  rest = (lines_of more).rest;
}
unfolding lines_of
lines-append [] more e = refl
lines-append (b ∷ text) more e =
    elim (b == 10) as (λ v. (if v then record {
      whole = [] ∷ (lines_of text).whole;
      rest = (lines_of text).rest;
    } else in_front (b ∷ []) (lines_of text).whole (lines_of text).rest).rest ≡ []
    → (if v then record { whole = [] ∷ (lines_of (text ++ more)).whole; rest = (lines_of (text ++ more)).rest }
    else in_front (b ∷ []) (lines_of (text ++ more)).whole (lines_of (text ++ more)).rest)
    ≡ record {
      whole =
          (if v then record { whole = [] ∷ (lines_of text).whole; rest = (lines_of text).rest }
          else in_front (b ∷ []) (lines_of text).whole (lines_of text).rest).whole ++ (lines_of more).whole;
      rest = (lines_of more).rest;
    }) [
      | true ↦ λ h. ap (λ (l : Lines). record { whole = [] ∷ l.whole; rest = l.rest }) (lines-append text more h)
      | false ↦ λ h.
          ap (λ (l : Lines). in_front (b ∷ []) l.whole l.rest)
          (lines-append text more (front_rest b (lines_of text).whole (lines_of text).rest h))
          ∙ front_append b (lines_of text).whole (lines_of text).rest (lines_of more).whole (lines_of more).rest h
    ] e

judged_behind : (s t : Said) (n : ℕ) (lines others : List (List ℕ)) (rest : List ℕ) (dump : Dump)
    → said_by s lines ≡ Some t
    → ((m : ℕ) → judged_lines t m others rest ≡ Ok dump) → judged_lines s n (lines ++ others) rest ≡ Ok dump
unfolding said_by judged_lines
judged_behind s t n [] others rest dump e next = ap (λ u. judged_lines u n others rest) (same_Some s t e) ∙ next n
judged_behind s t n (line ∷ lines) others rest dump e next =
    let a = bind_some (λ u. said_by u lines) (after s line) t e in
    ap (λ o. said_or (Err (line_behind n)) o (λ u. judged_lines u (line_behind n) (lines ++ others) rest)) a.1
    ∙ judged_behind a.0 t (line_behind n) lines others rest dump a.2 next

pub good_lines : (text : List ℕ) (s : Said) → (lines_of text).rest ≡ [] → said_by nothing (lines_of text).whole ≡ Some s
    → BeginsDump text
unfolding judged judged_from
good_lines text s whole e =
    let at =
    lines_reach nothing (lines_of text).whole s (record { few = omega arith; closed = λ o. absurd (false≢true o) }) e in
    let leads = leads_title s.titled s.realm s.point (record { princs = s.princs; policies = s.policies }) s.ended
    at.few at.closed in
    let is : judged (text ++ leads.rest) ≡ Ok leads.dump =
    ap (λ (l : Lines). judged_lines nothing 0 l.whole l.rest) (lines-append text leads.rest whole)
    ∙ judged_behind nothing s 0 (lines_of text).whole (lines_of leads.rest).whole
    (lines_of leads.rest).rest leads.dump e leads.ends in
    record { dump = leads.dump; rest = leads.rest; is_text = judged_spelled (text ++ leads.rest) leads.dump is }

pub bad_text : (text : List ℕ) (line : ℕ) → ((rest : List ℕ) → judged (text ++ rest) ≡ Err line) → BeginsDump text → ⊥
bad_text text line bad begins = cc (sym (bad begins.rest) ∙ text_again (text ++ begins.rest) begins.dump begins.is_text)
