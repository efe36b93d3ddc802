-- How a text is judged, line by line.
use Rattle.std.proofs.Common.{◌≡◌, ℕ, suc, ◌+◌, ◌-◌, ◌<◌, ◌≤◌, ◌==◌, true, false, if◌then◌else◌}
use Rattle.std.proofs.Common.{List, [], ◌∷◌, ◌++◌, length, take, drop, Option, Some, None, refl}
use Rattle.std.proofs.Common.{sym, ap, subst, ◌∙◌, append_assoc, append-nil, slice_index, arith}
use Rattle.std.specs.Prelude.{Ok, Err, IfSome, option_and_then}
use Rattle.std.proofs.lemmas.Bool.{eqb-true}
use Rattle.std.proofs.lemmas.List.{length-append, take-append-drop, drop_more, get_or-take}
use Rattle.std.proofs.lemmas.List.{length-take, length-take-le, take-take, take_rest}
use Rattle.kdb_base.specs.Limits.{most_rows}
use Rattle.memchr.specs.Find.{IsFirstByte, is_byte}
use Rattle.dump_text.specs.Lines.{Lines, Cut, in_front, lines_of, lacks}
use Rattle.dump_text.specs.Judged.{Said, rows_of, after, dump_of, dump_or_bad, judged_from}
use Rattle.dump_text.specs.Judged.{judged_lines, line_behind, said_by, said_or}
use Rattle.dump_text.specs.Dumps.{row_count}
use Rattle.dump_text.specs.Reader.{Grows, ReaderState, answer_of, judged_or_bad, judged_with}
use Rattle.dump_text.specs.declared.stops.DumpStop.TheVariants as stop
use Rattle.dump_text.specs.declared.dumps.Dump.{Dump}
use Rattle.dump_text.specs.Versions.{longest}
use Rattle.dump_text.proofs.Led.{after_long}

-- ---- bytes without a line feed

pub lacks-none : lacks 10 [] ≡ true
unfolding lacks
lacks-none = refl

pub lacks-nowhere : (byte : ℕ) (xs : List ℕ) → ((k : ℕ) → k < length xs → is_byte byte (slice_index xs k) ≡ true → ⊥)
    → lacks byte xs ≡ true
unfolding lacks
lacks-nowhere byte [] none = refl
lacks-nowhere byte (b ∷ xs) none =
    elim (b == byte) as (λ v. ((b == byte) ≡ v) → (if v then false else lacks byte xs) ≡ true) [
      | true ↦ λ is. absurd (none 0 (omega arith) is)
      | false ↦ λ is. lacks-nowhere byte xs (λ k lt at. none (suc k) (omega arith) at)
    ] refl

pub lacks-append : (byte : ℕ) (xs ys : List ℕ) → lacks byte xs ≡ true → lacks byte ys ≡ true
    → lacks byte (xs ++ ys) ≡ true
unfolding lacks
lacks-append byte [] ys front back = back
lacks-append byte (b ∷ xs) ys front back =
    elim (b == byte) as (λ v. (if v then false else lacks byte xs) ≡ true
    → (if v then false else lacks byte (xs ++ ys)) ≡ true) [
      | true ↦ λ h. h
      | false ↦ λ h. lacks-append byte xs ys h back
    ] front

-- what a search that finds a place says
cut_at : (xs : List ℕ) (k : ℕ) → k < length xs → is_byte 10 (slice_index xs k) ≡ true
    → ((j : ℕ) → j < k → is_byte 10 (slice_index xs j) ≡ true → ⊥) → Cut 10 xs (take k xs) (drop (k + 1) xs)
cut_at xs k lt is none = record {
  whole = sym (take-append-drop k xs) ∙ ap (λ t. take k xs ++ t)
      (drop_more xs k 0 lt ∙ ap (λ b. b ∷ drop (k + 1) xs) (eqb-true (slice_index xs k) 10 is));
  clear =
      let len : length (take k xs) ≡ k = length-take-le k xs (omega arith) in
      lacks-nowhere 10 (take k xs)
      (λ j below at. none j (omega arith) (ap (λ b. is_byte 10 b) (sym (get_or-take k xs j 0 (omega arith))) ∙ at));
}

pub found_feed : (text : List ℕ) (r : Option ℕ) (k : ℕ) → IsFirstByte (is_byte 10) text r → r ≡ Some k
    → Cut 10 text (take k text) (take (length text - (k + 1)) (drop (k + 1) text))
found_feed text None k first is = cc
found_feed text (Some j) k first is =
    let same : j ≡ k = cc in
    subst (Cut 10 text (take k text)) (sym (take_rest text (k + 1)))
    (subst (λ (n : ℕ). Cut 10 text (take n text) (drop (n + 1) text)) same
    (cut_at text j first.0.high first.1 (λ i lt e. first.0.before i (omega arith) lt e)))

pub missed_feed : (text : List ℕ) (r : Option ℕ) → IsFirstByte (is_byte 10) text r → r ≡ None → lacks 10 text ≡ true
missed_feed text None first is = lacks-nowhere 10 text (λ k lt at. first k (omega arith) lt at)
missed_feed text (Some k) first is = cc

-- ---- lines

in_front-nil : (whole : List (List ℕ)) (rest : List ℕ) → in_front [] whole rest ≡ record { whole = whole; rest = rest }
unfolding in_front
in_front-nil [] rest = refl
in_front-nil (line ∷ lines) rest = refl

in_front-cons : (b : ℕ) (xs : List ℕ) (whole : List (List ℕ)) (rest : List ℕ)
    → in_front (b ∷ []) (in_front xs whole rest).whole (in_front xs whole rest).rest ≡ in_front (b ∷ xs) whole rest
unfolding in_front
in_front-cons b xs [] rest = refl
in_front-cons b xs (line ∷ lines) rest = refl

pub lines-front : (xs rest : List ℕ) → lacks 10 xs ≡ true
    → lines_of (xs ++ rest) ≡ in_front xs (lines_of rest).whole (lines_of rest).rest
unfolding lines_of lacks
lines-front [] rest clear = sym (in_front-nil (lines_of rest).whole (lines_of rest).rest)
lines-front (b ∷ xs) rest clear =
    elim (b == 10) as (λ v. (if v then false else lacks 10 xs) ≡ true
    → (if v then record { whole = [] ∷ (lines_of (xs ++ rest)).whole; rest = (lines_of (xs ++ rest)).rest }
    else in_front (b ∷ []) (lines_of (xs ++ rest)).whole (lines_of (xs ++ rest)).rest)
    ≡ in_front (b ∷ xs) (lines_of rest).whole (lines_of rest).rest) [
      | true ↦ λ h. (cc)
      | false ↦ λ h. ap (λ (l : Lines). in_front (b ∷ []) l.whole l.rest) (lines-front xs rest h)
          ∙ in_front-cons b xs (lines_of rest).whole (lines_of rest).rest
    ] clear

lines-feed : (rest : List ℕ)
    → lines_of (10 ∷ rest) ≡ record { whole = [] ∷ (lines_of rest).whole; rest = (lines_of rest).rest }
unfolding lines_of
lines-feed rest = refl

-- a line and its line feed
pub lines-fed : (xs rest : List ℕ) → lacks 10 xs ≡ true
    → lines_of (xs ++ (10 ∷ rest)) ≡ record { whole = xs ∷ (lines_of rest).whole; rest = (lines_of rest).rest }
unfolding in_front
lines-fed xs rest clear =
    lines-front xs (10 ∷ rest) clear ∙ ap (λ (l : Lines). in_front xs l.whole l.rest) (lines-feed rest)
    ∙ ap (λ (line : List ℕ). record { whole = line ∷ (lines_of rest).whole; rest = (lines_of rest).rest })
    (append-nil xs)

-- no line feed came
pub lines-rest : (xs : List ℕ) → lacks 10 xs ≡ true → lines_of xs ≡ record { whole = []; rest = xs }
unfolding lines_of in_front
lines-rest xs clear = ap lines_of (sym (append-nil xs)) ∙ lines-front xs [] clear
    ∙ ap (λ (t : List ℕ). record { whole = []; rest = t }) (append-nil xs)

-- ---- verdicts

-- a line that is whole
pub judged-fed : (s : Said) (count : ℕ) (xs rest : List ℕ) → lacks 10 xs ≡ true
    → judged_from s count (xs ++ (10 ∷ rest))
    ≡ said_or (Err (line_behind count)) (after s xs) (λ t. judged_from t (line_behind count) rest)
unfolding judged_from judged_lines
judged-fed s count xs rest clear = ap (λ (l : Lines). judged_lines s count l.whole l.rest) (lines-fed xs rest clear)

pub judged-goes : (s t : Said) (count next : ℕ) (xs rest : List ℕ) → lacks 10 xs ≡ true → after s xs ≡ Some t
    → next ≡ line_behind count
    → judged_from s count (xs ++ (10 ∷ rest)) ≡ judged_from t next rest
judged-goes s t count next xs rest clear e counted =
    judged-fed s count xs rest clear
    ∙ ap (λ o. said_or (Err (line_behind count)) o (λ u. judged_from u (line_behind count) rest)) e
    ∙ ap (λ n. judged_from t n rest) (sym counted)

pub judged-stops : (s : Said) (count : ℕ) (xs rest : List ℕ) → lacks 10 xs ≡ true → after s xs ≡ None
    → judged_from s count (xs ++ (10 ∷ rest)) ≡ Err (line_behind count)
judged-stops s count xs rest clear e =
    judged-fed s count xs rest clear
    ∙ ap (λ o. said_or (Err (line_behind count)) o (λ u. judged_from u (line_behind count) rest)) e

bad_rest : (line : ℕ) (o : Option Dump) (xs ys : List ℕ) → longest < length xs
    → dump_or_bad line o (xs ++ ys) ≡ Err line
bad_rest line None xs ys long = refl
bad_rest line (Some dump) [] ys long = absurd (omega arith)
bad_rest line (Some dump) (b ∷ xs) ys long = refl

long_lines : (s : Said) (count : ℕ) (xs : List ℕ) (whole : List (List ℕ)) (rest : List ℕ)
    → row_count (rows_of s) ≤ most_rows → longest < length xs
    → judged_lines s count (in_front xs whole rest).whole (in_front xs whole rest).rest ≡ Err (line_behind count)
unfolding in_front judged_lines
long_lines s count xs [] rest few long = bad_rest (line_behind count) (dump_of s) xs rest long
long_lines s count xs (line ∷ lines) rest few long =
    ap (λ o. said_or (Err (line_behind count)) o (λ t. judged_lines t (line_behind count) lines rest))
    (after_long s (xs ++ line) few (omega (arith, length-append xs line)))

-- a line that is too long, whatever comes
pub judged-long : (s : Said) (count : ℕ) (xs rest : List ℕ) → row_count (rows_of s) ≤ most_rows → lacks 10 xs ≡ true
    → longest < length xs → judged_from s count (xs ++ rest) ≡ Err (line_behind count)
unfolding judged_from
judged-long s count xs rest few clear long =
    ap (λ (l : Lines). judged_lines s count l.whole l.rest) (lines-front xs rest clear)
    ∙ long_lines s count xs (lines_of rest).whole (lines_of rest).rest few long

-- the end of the text
pub judged-end : (s : Said) (count : ℕ) (xs : List ℕ) → lacks 10 xs ≡ true
    → judged_from s count (xs ++ []) ≡ dump_or_bad (line_behind count) (dump_of s) xs
unfolding judged_from judged_lines
judged-end s count xs clear =
    ap (λ (l : Lines). judged_lines s count l.whole l.rest) (ap lines_of (append-nil xs) ∙ lines-rest xs clear)

-- ---- what was said by lines

pub said-goes : (s t : Said) (xs rest : List ℕ) → lacks 10 xs ≡ true → after s xs ≡ Some t
    → said_by s (lines_of (xs ++ (10 ∷ rest))).whole ≡ said_by t (lines_of rest).whole
unfolding said_by
said-goes s t xs rest clear e =
    ap (λ (l : Lines). said_by s l.whole) (lines-fed xs rest clear)
    ∙ ap (λ o. option_and_then (λ u. said_by u (lines_of rest).whole) o) e

pub said-rest : (s : Said) (xs : List ℕ) → lacks 10 xs ≡ true → said_by s (lines_of xs).whole ≡ Some s
unfolding said_by
said-rest s xs clear = ap (λ (l : Lines). said_by s l.whole) (lines-rest xs clear)

-- ---- what was said stays said

pub grows_on : (a b c : Said) → Grows a b → Grows b c → Grows a c
grows_on a b c first second = record {
  realm = realm_on a.realm b.realm c.realm first.realm second.realm;
  princs = front_on a.princs b.princs c.princs first.princs second.princs;
  policies = front_on a.policies b.policies c.policies first.policies second.policies;
}
  where
    realm_on : (x y z : Option (List ℕ)) → IfSome x (λ r. y ≡ Some r) → IfSome y (λ r. z ≡ Some r)
        → IfSome x (λ r. z ≡ Some r)
    realm_on None y z e f = tt
    realm_on (Some r) None z e f = absurd cc
    realm_on (Some r) (Some q) z e f = f ∙ e

    front_on : {A : Type 0} (xs ys zs : List A) → take (length xs) ys ≡ xs → take (length ys) zs ≡ ys
        → take (length xs) zs ≡ xs
    front_on xs ys zs e f =
        let len : length (take (length xs) ys) ≡ length xs = ap length e in
        let le : length xs ≤ length ys = omega (arith, len, length-take (length xs) ys) in
        sym (take-take (length xs) (length ys) zs le) ∙ ap (take (length xs)) f ∙ e

-- ---- steps of a reader

-- the line that a line feed of the text ends, and what comes behind it
regrouped : (line text front behind : List ℕ) → Cut 10 text front behind
    → line ++ text ≡ (line ++ front) ++ (10 ∷ behind)
regrouped line text front behind cut =
    ap (λ (t : List ℕ). line ++ t) cut.whole ∙ sym (append_assoc line front (10 ∷ behind))

cut_more : (text front behind rest : List ℕ) → Cut 10 text front behind → Cut 10 (text ++ rest) front (behind ++ rest)
cut_more text front behind rest cut = record {
  whole = ap (λ (t : List ℕ). t ++ rest) cut.whole ∙ append_assoc front (10 ∷ behind) rest;
  clear = cut.clear;
}

pub bad_line : (s : Said) (count : ℕ) (line text front behind rest : List ℕ) → Cut 10 text front behind
    → lacks 10 line ≡ true → after s (line ++ front) ≡ None
    → judged_from s count (line ++ (text ++ rest)) ≡ Err (line_behind count)
bad_line s count line text front behind rest cut clear bad =
    ap (judged_from s count)
    (regrouped line (text ++ rest) front (behind ++ rest) (cut_more text front behind rest cut))
    ∙ judged-stops s count (line ++ front) (behind ++ rest) (lacks-append 10 line front clear cut.clear) bad

pub good_line : (s t : Said) (count next : ℕ) (line text front behind new rest : List ℕ) → Cut 10 text front behind
    → lacks 10 line ≡ true → after s (line ++ front) ≡ Some t → next ≡ line_behind count → new ≡ []
    → judged_from t next (new ++ (behind ++ rest)) ≡ judged_from s count (line ++ (text ++ rest))
good_line s t count next line text front behind new rest cut clear good counted none =
    ap (λ (l : List ℕ). judged_from t next (l ++ (behind ++ rest))) none
    ∙ sym (ap (judged_from s count)
    (regrouped line (text ++ rest) front (behind ++ rest) (cut_more text front behind rest cut))
    ∙ judged-goes s t count next (line ++ front) (behind ++ rest)
    (lacks-append 10 line front clear cut.clear) good counted)

pub line_said : (s t : Said) (line text front behind new : List ℕ) → Cut 10 text front behind → lacks 10 line ≡ true
    → after s (line ++ front) ≡ Some t → new ≡ []
    → said_by t (lines_of (new ++ behind)).whole ≡ said_by s (lines_of (line ++ text)).whole
line_said s t line text front behind new cut clear good none =
    ap (λ (l : List ℕ). said_by t (lines_of (l ++ behind)).whole) none
    ∙ sym (ap (λ (l : List ℕ). said_by s (lines_of l).whole) (regrouped line text front behind cut)
    ∙ said-goes s t (line ++ front) behind (lacks-append 10 line front clear cut.clear) good)

pub line_rest : (line text front behind new : List ℕ) → Cut 10 text front behind → lacks 10 line ≡ true → new ≡ []
    → (lines_of (new ++ behind)).rest ≡ (lines_of (line ++ text)).rest
line_rest line text front behind new cut clear none =
    ap (λ (l : List ℕ). (lines_of (l ++ behind)).rest) none
    ∙ sym (ap (λ (l : List ℕ). (lines_of l).rest) (regrouped line text front behind cut)
    ∙ ap (λ (l : Lines). l.rest) (lines-fed (line ++ front) behind (lacks-append 10 line front clear cut.clear)))

pub last_rest : (line text new : List ℕ) → lacks 10 line ≡ true → lacks 10 text ≡ true → new ≡ line ++ text
    → new ≡ (lines_of (line ++ text)).rest
last_rest line text new front back is =
    is ∙ sym (ap (λ (l : Lines). l.rest) (lines-rest (line ++ text) (lacks-append 10 line text front back)))

pub last_said : (s : Said) (line text : List ℕ) → lacks 10 line ≡ true → lacks 10 text ≡ true
    → said_by s (lines_of (line ++ text)).whole ≡ Some s
last_said s line text front back = said-rest s (line ++ text) (lacks-append 10 line text front back)

pub last_clear : (line text new : List ℕ) → lacks 10 line ≡ true → lacks 10 text ≡ true → new ≡ line ++ text
    → lacks 10 new ≡ true
last_clear line text new front back is = ap (lacks 10) is ∙ lacks-append 10 line text front back

pub last_long : (s : Said) (count : ℕ) (line text rest : List ℕ) → row_count (rows_of s) ≤ most_rows
    → lacks 10 line ≡ true → lacks 10 text ≡ true → longest < length (line ++ text)
    → judged_from s count (line ++ (text ++ rest)) ≡ Err (line_behind count)
last_long s count line text rest few front back long =
    ap (judged_from s count) (sym (append_assoc line text rest))
    ∙ judged-long s count (line ++ text) rest few (lacks-append 10 line text front back) long

pub last_goes : (s : Said) (count : ℕ) (line text new rest : List ℕ) → new ≡ line ++ text
    → judged_from s count (new ++ rest) ≡ judged_from s count (line ++ (text ++ rest))
last_goes s count line text new rest is =
    ap (λ (l : List ℕ). judged_from s count (l ++ rest)) is ∙ ap (judged_from s count) (append_assoc line text rest)

-- ---- what a reader answers

pub judged_bad : (s r : ReaderState) (line : ℕ) (rest : List ℕ) → s ≡ r → s.bad ≡ Some line
    → judged_with r rest ≡ Err line
unfolding judged_with
judged_bad s r line rest view e = ap (λ t. judged_or_bad t.bad t.said t.count (t.held ++ rest)) (sym view)
    ∙ ap (λ o. judged_or_bad o s.said s.count (s.held ++ rest)) e

pub judged_open : (s r : ReaderState) (rest : List ℕ) → s ≡ r → s.bad ≡ None
    → judged_with r rest ≡ judged_from s.said s.count (s.held ++ rest)
unfolding judged_with
judged_open s r rest view e = ap (λ t. judged_or_bad t.bad t.said t.count (t.held ++ rest)) (sym view)
    ∙ ap (λ o. judged_or_bad o s.said s.count (s.held ++ rest)) e

at_end : (s r : ReaderState) → s ≡ r → s.bad ≡ None → lacks 10 s.held ≡ true
    → judged_with r [] ≡ dump_or_bad (line_behind s.count) (dump_of s.said) s.held
at_end s r view going clear = judged_open s r [] view going ∙ judged-end s.said s.count s.held clear

bad_held : (line : ℕ) (o : Option Dump) (held : List ℕ) → 0 < length held → dump_or_bad line o held ≡ Err line
bad_held line None held some = refl
bad_held line (Some dump) [] some = absurd (omega arith)
bad_held line (Some dump) (b ∷ held) some = refl

ok_held : (line : ℕ) (dump : Dump) (held : List ℕ) → length held ≡ 0 → dump_or_bad line (Some dump) held ≡ Ok dump
ok_held line dump [] none = refl
ok_held line dump (b ∷ held) none = absurd (omega arith)

pub ends_held : (s r : ReaderState) (line : ℕ) → s ≡ r → s.bad ≡ None → lacks 10 s.held ≡ true
    → line ≡ line_behind s.count → 0 < length s.held → Err (stop.DumpBad line) ≡ answer_of (judged_with r [])
ends_held s r line view going clear counted some =
    ap (λ n. Err (stop.DumpBad n)) counted
    ∙ sym (ap answer_of (at_end s r view going clear ∙ bad_held (line_behind s.count) (dump_of s.said) s.held some))

pub ends_ok : (s r : ReaderState) (dump : Dump) → s ≡ r → s.bad ≡ None → lacks 10 s.held ≡ true → length s.held ≡ 0
    → dump_of s.said ≡ Some dump → Ok dump ≡ answer_of (judged_with r [])
ends_ok s r dump view going clear none found =
    sym (ap answer_of (at_end s r view going clear ∙ ap (λ o. dump_or_bad (line_behind s.count) o s.held) found
    ∙ ok_held (line_behind s.count) dump s.held none))

pub ends_early : (s r : ReaderState) (line : ℕ) → s ≡ r → s.bad ≡ None → lacks 10 s.held ≡ true
    → line ≡ line_behind s.count → dump_of s.said ≡ None → Err (stop.DumpBad line) ≡ answer_of (judged_with r [])
ends_early s r line view going clear counted none =
    ap (λ n. Err (stop.DumpBad n)) counted
    ∙ sym (ap answer_of (at_end s r view going clear ∙ ap (λ o. dump_or_bad (line_behind s.count) o s.held) none))

pub ends_bad : (s r : ReaderState) (line : ℕ) → s ≡ r → s.bad ≡ Some line
    → Err (stop.DumpBad line) ≡ answer_of (judged_with r [])
ends_bad s r line view e = sym (ap answer_of (judged_bad s r line [] view e))
