-- The text of a dump is judged that dump.
use Rattle.std.proofs.Common.{◌≡◌, ℕ, zero, suc, ◌+◌, ◌-◌, ◌/◌, ◌%◌, ◌<◌, ◌≤◌, ◌==◌, Bool, true, false, ◌&&◌}
use Rattle.std.proofs.Common.{if◌then◌else◌, List, [], ◌∷◌, ◌++◌, codes, length, take, drop, replicate}
use Rattle.std.proofs.Common.{slice_index, Some, None, refl, sym, ap, ◌∙◌, append_assoc, append-nil, arith}
use Rattle.std.specs.Prelude.{Result, Ok, Err, Option, nat_le, nat_lt, option_and_then, option_map}
use Rattle.std.specs.Char.{is_ascii_digit}
use Rattle.std.specs.Fmt.{decimal}
use Rattle.std.specs.List.{AllByRecursion, flat_map, fold, list_all}
use Rattle.std.specs.Str.{all_ascii_digits, bytes_eq}
use Rattle.std.proofs.lemmas.Bool.{and_parts, and_from, eqb-true, le-leb, lt-ltb}
use Rattle.std.proofs.lemmas.Fmt.{digits_decimal, digits_value-decimal, length-decimal-le}
use Rattle.std.proofs.lemmas.List.{drop_at, length-append, length-replicate, take_at, take_all}
use Rattle.std.proofs.lemmas.List.Elements.{recursion_from_All}
use Rattle.std.proofs.lemmas.Str.Parse.{IsNumeralModel, numerals_by_fold, tells_all_ascii_digits}
use Rattle.hex.specs.Hex.{IsBytes, encode_lower, encode_with, hex_digit_value, lower_digits}
use Rattle.hex.proofs.HexLemmas.{IsDigits-lower_digits, decode_of-encode_lower}
use Rattle.kdb_base.specs.Limits.{most_rows, longest_row}
use Rattle.kdb_base.specs.declared.moments.Point.{Point}
use Rattle.kdb_format.specs.Moments.{IsPoint}
use Rattle.kdb_format.specs.Readings.{whole}
use Rattle.kdb_format.specs.Laws.{whole_again}
use Rattle.policy_rules.specs.Rules.{Rules}
use Rattle.princ_name.specs.Realms.{is_realm, is_realm_byte}
use Rattle.princ_record.specs.RowLimits.{IsRow}
use Rattle.princ_rows.specs.EntryLaws.{bytes_same}
use Rattle.princ_record.specs.Policies.{policy, policy_at, IsPolicy}
use Rattle.princ_record.specs.PolicyLaws.{policy_field}
use Rattle.princ_record.specs.Princs.{princ}
use Rattle.princ_record.specs.PrincLaws.{princ_field}
use Rattle.princ_rows.specs.Rows.{RowLists, AreRows}
use Rattle.princ_record.specs.declared.princs.Princ.{Princ}
use Rattle.kadm_values.specs.Points.{point_text, six_digits}
use Rattle.dump_text.specs.Dumps.{ended, realm_line, point_line, princ_line, policy_line}
use Rattle.dump_text.specs.Dumps.{end_line, head_text, rows_text, row_count, dump_text}
use Rattle.dump_text.specs.Lines.{lacks}
use Rattle.kadm_values.specs.Numbers.{with_digit, decimal_value}
use Rattle.dump_text.specs.Readings.{behind, realm_of, realm_in, before_blank, behind_blank, near_time, near_point}
use Rattle.dump_text.specs.Readings.{is_point, written_so, point_in, bytes_or_none, hex_of, princ_of, policy_of}
use Rattle.dump_text.specs.Judged.{Said, nothing, after, after_title, after_realm, after_point, after_row}
use Rattle.dump_text.specs.Judged.{after_end, with_princ, with_policy, policy_or_end, princ_or_other}
use Rattle.dump_text.specs.Judged.{dump_of, judged, judged_from, line_behind, IsDump, IsDumpText}
use Rattle.dump_text.specs.Versions.{stands_in, title}
use Rattle.dump_text.specs.declared.versions.Version.{Version}
use Rattle.dump_text.specs.declared.versions.Version.TheVariants.{One, Two}
use Rattle.dump_text.specs.declared.dumps.Dump.{Dump}
use Rattle.dump_text.proofs.Judging.{lacks-append, judged-goes, judged-end}
use Rattle.dump_text.proofs.Stands.{version_again}
use Rattle.dump_text.proofs.Orders.{fewer_rows, princ_goes, policy_goes}

-- ---- words

behind_again : (word text : List ℕ) → behind word (word ++ text) ≡ Some text
unfolding behind
behind_again word text = rw (bytes_same (take (length word) (word ++ text)) word (take_at word text (length word) refl))
    (ap Some (drop_at word text (length word) refl))

-- ---- digits

own : IsNumeralModel (λ ds. all_ascii_digits ds ≡ true) decimal_value
unfolding decimal_value
own = numerals_by_fold _ tells_all_ascii_digits (λ n ds. fold with_digit n ds) (record {
  empty = λ n. refl;
  more = λ n c cs within. ap (λ (m : ℕ). fold with_digit (m + (c - 48)) cs) (omega arith);
})

digits_lack : (byte : ℕ) (ds : List ℕ) → all_ascii_digits ds ≡ true → is_ascii_digit byte ≡ false → lacks byte ds ≡ true
unfolding lacks
digits_lack byte [] digits no_digit = refl
digits_lack byte (c ∷ cs) digits no_digit =
    let parts = and_parts (is_ascii_digit c) (all_ascii_digits cs) digits in
    elim (c == byte) as (λ v. ((c == byte) ≡ v) → (if v then false else lacks byte cs) ≡ true) [
      | true ↦ λ is. cc (sym parts.0 ∙ ap is_ascii_digit (eqb-true c byte is) ∙ no_digit)
      | false ↦ λ is. digits_lack byte cs parts.1 no_digit
    ] refl

number_lacks : (byte n : ℕ) → n < 4294967296 → is_ascii_digit byte ≡ false → lacks byte (decimal n) ≡ true
number_lacks byte n lt no_digit = digits_lack byte (decimal n) (digits_decimal own n (omega arith)) no_digit

number_again : (n : ℕ) → n < 4294967296 → decimal_value (decimal n) ≡ n
number_again n lt = digits_value-decimal own n (omega arith)

zeros_lack : (byte n : ℕ) → is_ascii_digit byte ≡ false → lacks byte (replicate n 48) ≡ true
unfolding lacks
zeros_lack byte zero no_digit = refl
zeros_lack byte (suc n) no_digit =
    elim (48 == byte) as (λ v. ((48 == byte) ≡ v) → (if v then false else lacks byte (replicate n 48)) ≡ true) [
      | true ↦ λ is. cc (sym no_digit ∙ ap is_ascii_digit (sym (eqb-true 48 byte is)))
      | false ↦ λ is. zeros_lack byte n no_digit
    ] refl

zeros_number : (n : ℕ) (ds : List ℕ) → decimal_value (replicate n 48 ++ ds) ≡ decimal_value ds
unfolding decimal_value
zeros_number zero ds = refl
zeros_number (suc n) ds = zeros_number n ds

length-six : (n : ℕ) → n < 1000000 → length (six_digits n) ≡ 6
length-six n lt =
    let digits : length (decimal n) ≤ 6 = length-decimal-le 6 n (omega arith) (omega arith) (omega arith) in
    omega (
      arith,
      digits,
      length-append (replicate (6 - length (decimal n)) 48) (decimal n),
      length-replicate {A = ℕ} (6 - length (decimal n)) 48,
    )

six_again : (n : ℕ) → n < 1000000 → decimal_value (six_digits n) ≡ n
six_again n lt = zeros_number (6 - length (decimal n)) (decimal n) ∙ number_again n (omega arith)

-- ---- the point

blank_again : (front back : List ℕ) → lacks 32 front ≡ true
    → (before_blank (front ++ (32 ∷ back)) ≡ front) × (behind_blank (front ++ (32 ∷ back)) ≡ back)
unfolding lacks before_blank behind_blank
blank_again [] back clear = (refl, refl)
blank_again (b ∷ front) back clear =
    elim (b == 32) as (λ v. (if v then false else lacks 32 front) ≡ true
    → ((if v then [] else b ∷ before_blank (front ++ (32 ∷ back))) ≡ b ∷ front)
    × ((if v then front ++ (32 ∷ back) else behind_blank (front ++ (32 ∷ back))) ≡ back)) [
      | true ↦ λ h. (cc)
      | false ↦ λ h. let next = blank_again front back h in (ap (λ (t : List ℕ). b ∷ t) next.0, next.1)
    ] clear

time_again : (secs usecs : ℕ) → secs < 4294967296 → usecs < 1000000
    → near_time (decimal secs ++ (46 ∷ six_digits usecs)) ≡ record { secs = secs; usecs = usecs }
unfolding near_time
time_again secs usecs first second =
    let six = length-six usecs second in
    let whole : List ℕ = decimal secs ++ (46 ∷ six_digits usecs) in
    let len : length whole ≡ length (decimal secs) + 7 =
    length-append (decimal secs) (46 ∷ six_digits usecs) ∙ omega (arith, six) in
    let front : take (length whole - 7) whole ≡ decimal secs =
    take_at (decimal secs) (46 ∷ six_digits usecs) (length whole - 7) (omega (arith, len)) in
    let other : whole ≡ (decimal secs ++ (46 ∷ [])) ++ six_digits usecs =
    sym (append_assoc (decimal secs) (46 ∷ []) (six_digits usecs)) in
    let back : drop (length whole - 6) whole ≡ six_digits usecs =
    ap (drop (length whole - 6)) other ∙ drop_at (decimal secs ++ (46 ∷ [])) (six_digits usecs) (length whole - 6)
    (omega (arith, len, length-append (decimal secs) (46 ∷ []))) in
    λ i. record {
      secs = (ap decimal_value front ∙ number_again secs first) i;
      usecs = (ap decimal_value back ∙ six_again usecs second) i;
    }

abbrev point_words : Point → List ℕ
point_words p = decimal p.sno ++ (32 ∷ (decimal p.time.secs ++ (46 ∷ six_digits p.time.usecs)))

near_again : (p : Point) → IsPoint p → near_point (point_words p) ≡ p
unfolding near_point
near_again p good =
    let a = good.sno in let b = good.time.secs in let c = good.time.usecs in
    let blank = blank_again (decimal p.sno) (decimal p.time.secs ++ (46 ∷ six_digits p.time.usecs))
    (number_lacks 32 p.sno (omega arith) refl) in
    λ i. record {
      sno = (ap decimal_value blank.0 ∙ number_again p.sno (omega arith)) i;
      time = (ap near_time blank.1 ∙ time_again p.time.secs p.time.usecs (omega arith) (omega arith)) i;
    }

point_test : (p : Point) → IsPoint p → is_point p ≡ true
point_test p good =
    let a = good.sno in let b = good.time.secs in let c = good.time.usecs in
    and_from (nat_lt p.sno 4294967296) (nat_lt p.time.secs 4294967296 && nat_lt p.time.usecs 1000000)
    (lt-ltb _ _ (omega arith))
    (and_from (nat_lt p.time.secs 4294967296) (nat_lt p.time.usecs 1000000) (lt-ltb _ _ (omega arith))
    (lt-ltb _ _ (omega arith)))

written_again : (p : Point) → IsPoint p → written_so (point_line p) p ≡ Some p
unfolding written_so
written_again p good = rw (point_test p good, bytes_same (point_line p) (point_line p) refl) refl

pub point_again : (p : Point) → IsPoint p → point_in (point_line p) ≡ Some p
unfolding point_in point_line point_text
point_again p good =
    ap (option_and_then (λ text. written_so (codes "point " ++ point_words p) (near_point text)))
    (behind_again (codes "point ") (point_words p))
    ∙ ap (written_so (codes "point " ++ point_words p)) (near_again p good) ∙ written_again p good

pub point_lacks : (p : Point) → IsPoint p → lacks 10 (point_line p) ≡ true
unfolding point_line point_text lacks
point_lacks p good =
    let a = good.sno in let b = good.time.secs in let c = good.time.usecs in
    lacks-append 10 (decimal p.sno) (32 ∷ (decimal p.time.secs ++ (46 ∷ six_digits p.time.usecs)))
    (number_lacks 10 p.sno (omega arith) refl)
    (lacks-append 10 (decimal p.time.secs) (46 ∷ six_digits p.time.usecs)
    (number_lacks 10 p.time.secs (omega arith) refl)
    (lacks-append 10 (replicate (6 - length (decimal p.time.usecs)) 48) (decimal p.time.usecs)
    (zeros_lack 10 (6 - length (decimal p.time.usecs)) refl) (number_lacks 10 p.time.usecs (omega arith) refl)))

-- ---- the realm

realm_bytes_lack : (r : List ℕ) → list_all is_realm_byte r ≡ true → lacks 10 r ≡ true
unfolding lacks
realm_bytes_lack [] good = refl
realm_bytes_lack (b ∷ r) good =
    let parts = and_parts (is_realm_byte b) (list_all is_realm_byte r) good in
    elim (b == 10) as (λ v. ((b == 10) ≡ v) → (if v then false else lacks 10 r) ≡ true) [
      | true ↦ λ is. cc (sym parts.0 ∙ ap is_realm_byte (eqb-true b 10 is))
      | false ↦ λ is. realm_bytes_lack r parts.1
    ] refl

pub realm_lacks : (r : List ℕ) → is_realm r ≡ true → lacks 10 (realm_line r) ≡ true
unfolding realm_line lacks
realm_lacks r good =
    realm_bytes_lack r (and_parts (nat_le 1 (length r) && nat_le (length r) 64) (list_all is_realm_byte r) good).1

pub realm_again : (r : List ℕ) → is_realm r ≡ true → realm_in (realm_line r) ≡ Some r
unfolding realm_in realm_of realm_line
realm_again r good = rw (behind_again (codes "realm ") r, good) refl

-- ---- rows

hex_again : (bytes : List ℕ) → IsBytes bytes → hex_of (encode_lower bytes) ≡ Some bytes
unfolding hex_of
hex_again bytes are =
    ap (λ r. option_and_then (λ (bs : List ℕ). if bytes_eq (encode_lower bs) (encode_lower bytes) then Some bs
    else None) (bytes_or_none r)) (decode_of-encode_lower bytes are)
    ∙ ap (λ (b : Bool). if b then Some bytes else None) (bytes_same (encode_lower bytes) (encode_lower bytes) refl)

digit_lacks : (d : ℕ) → d < 16 → (slice_index lower_digits d == 10) ≡ false
digit_lacks d lt =
    elim (slice_index lower_digits d == 10) as (λ v. ((slice_index lower_digits d == 10) ≡ v) → v ≡ false) [
      | true ↦
          λ is. cc (sym (IsDigits-lower_digits d lt) ∙ ap hex_digit_value (eqb-true (slice_index lower_digits d) 10 is))
      | false ↦ λ is. refl
    ] refl

hex_lacks : (bytes : List ℕ) → IsBytes bytes → lacks 10 (encode_lower bytes) ≡ true
unfolding encode_with lacks
hex_lacks [] are = refl
hex_lacks (b ∷ bytes) are =
    let fits : b < 256 = are 0 in
    rw (digit_lacks (b / 16) (omega arith), digit_lacks (b % 16) (omega arith)) (hex_lacks bytes (λ i. are (suc i)))

princ_again : (v : Version) (p : Princ) → IsRow p → IsBytes (princ p) → stands_in v p ≡ true
    → princ_of v (encode_lower (princ p)) ≡ Some p
unfolding princ_of
princ_again v p row are stand =
    rw (hex_again (princ p) are)
    (ap (option_and_then (λ (q : Princ). if stands_in v q then Some q else None)) (whole_again princ_field p row.fits)
    ∙ ap (λ (b : Bool). if b then Some p else None) stand)

policy_again : (p : Rules) → IsPolicy p → IsBytes (policy p) → policy_of (encode_lower (policy p)) ≡ Some p
unfolding policy_of
policy_again p row are =
    ap (option_and_then (λ bytes. whole policy_at bytes)) (hex_again (policy p) are) ∙ whole_again policy_field p row

-- ---- lines

-- a line and its line feed
pub goes : (s t : Said) (n : ℕ) (line rest : List ℕ) → lacks 10 line ≡ true → after s line ≡ Some t
    → judged_from s n (ended line ++ rest) ≡ judged_from t (line_behind n) rest
goes s t n line rest clear e = ap (judged_from s n) (append_assoc line (codes "\n") rest)
    ∙ judged-goes s t n (line_behind n) line rest clear e refl

abbrev at_rows : Version → List ℕ → Point → RowLists → Bool → Said
at_rows v realm point rows over = record {
  titled = Some v;
  realm = Some realm;
  point = Some point;
  princs = rows.princs;
  policies = rows.policies;
  ended = over;
}

after_princ : (v : Version) (realm : List ℕ) (point : Point) (princs : List Princ) (p : Princ)
    → AreRows (record { princs = princs ++ (p ∷ []); policies = [] }) → IsRow p → IsBytes (princ p)
    → stands_in v p ≡ true
    → after (at_rows v realm point (record { princs = princs; policies = [] }) false) (princ_line p)
    ≡ Some (at_rows v realm point (record { princs = princs ++ (p ∷ []); policies = [] }) false)
unfolding after after_row princ_line
after_princ v realm point princs p good row are stand =
    let s : Said = at_rows v realm point (record { princs = princs; policies = [] }) false in
    ap (princ_or_other v s (codes "princ " ++ encode_lower (princ p)))
    (behind_again (codes "princ ") (encode_lower (princ p)))
    ∙ ap (option_and_then (with_princ s)) (princ_again v p row are stand) ∙ princ_goes s p refl good

no_princ : (text : List ℕ) → behind (codes "princ ") (codes "policy " ++ text) ≡ None
unfolding behind
no_princ text = refl

after_policy : (v : Version) (realm : List ℕ) (point : Point) (princs : List Princ) (policies : List Rules) (p : Rules)
    → AreRows (record { princs = princs; policies = policies ++ (p ∷ []) }) → IsPolicy p → IsBytes (policy p)
    → after (at_rows v realm point (record { princs = princs; policies = policies }) false) (policy_line p)
    ≡ Some (at_rows v realm point (record { princs = princs; policies = policies ++ (p ∷ []) }) false)
unfolding after after_row policy_line
after_policy v realm point princs policies p good row are =
    let s : Said = at_rows v realm point (record { princs = princs; policies = policies }) false in
    let line : List ℕ = codes "policy " ++ encode_lower (policy p) in
    ap (princ_or_other v s line) (no_princ (encode_lower (policy p)))
    ∙ ap (policy_or_end s line) (behind_again (codes "policy ") (encode_lower (policy p)))
    ∙ ap (option_and_then (with_policy s)) (policy_again p row are) ∙ policy_goes s p good

no_row : (text : List ℕ)
    → (behind (codes "princ ") (codes "end " ++ text) ≡ None) × (behind (codes "policy ") (codes "end " ++ text) ≡ None)
unfolding behind
no_row text = (refl, refl)

end_again : (s : Said) → after_end s (end_line (row_count (record { princs = s.princs; policies = s.policies })))
    ≡ Some (record s { ended = true })
unfolding after_end
end_again s = rw (bytes_same (end_line (row_count (record { princs = s.princs; policies = s.policies })))
    (end_line (row_count (record { princs = s.princs; policies = s.policies }))) refl) refl

pub after_last : (v : Version) (realm : List ℕ) (point : Point) (rows : RowLists)
    → after (at_rows v realm point rows false) (end_line (row_count rows)) ≡ Some (at_rows v realm point rows true)
unfolding after after_row end_line
after_last v realm point rows =
    let s : Said = at_rows v realm point rows false in
    let text : List ℕ = decimal (row_count rows) in
    ap (princ_or_other v s (codes "end " ++ text)) (no_row text).0
    ∙ ap (policy_or_end s (codes "end " ++ text)) (no_row text).1 ∙ end_again s

princ_line_lacks : (p : Princ) → IsBytes (princ p) → lacks 10 (princ_line p) ≡ true
unfolding princ_line lacks
princ_line_lacks p are = hex_lacks (princ p) are

policy_line_lacks : (p : Rules) → IsBytes (policy p) → lacks 10 (policy_line p) ≡ true
unfolding policy_line lacks
policy_line_lacks p are = hex_lacks (policy p) are

pub end_lacks : (n : ℕ) → n ≤ most_rows → lacks 10 (end_line n) ≡ true
unfolding end_line lacks
end_lacks n few = number_lacks 10 n (omega arith) refl

pub title_lacks : (v : Version) → lacks 10 (title v) ≡ true
unfolding title lacks
title_lacks One = refl
title_lacks Two = refl

-- ---- texts

princs_again : (v : Version) (realm : List ℕ) (point : Point) (rows : RowLists) (before todo : List Princ) (n : ℕ)
    (text : List ℕ) (dump : Dump) → AreRows rows → rows.princs ≡ before ++ todo
    → AllByRecursion IsRow todo → AllByRecursion (λ p. IsBytes (princ p)) todo
    → AllByRecursion (λ p. stands_in v p ≡ true) todo
    → ((m : ℕ)
    → judged_from (at_rows v realm point (record { princs = before ++ todo; policies = [] }) false) m text ≡ Ok dump)
    → judged_from (at_rows v realm point (record { princs = before; policies = [] }) false) n
    (flat_map (λ p. ended (princ_line p)) todo ++ text) ≡ Ok dump
princs_again v realm point rows before [] n text dump good is row are stand then' =
    ap (λ (ps : List Princ). judged_from (at_rows v realm point (record { princs = ps; policies = [] }) false) n text)
    (sym (append-nil before)) ∙ then' n
princs_again v realm point rows before (p ∷ todo) n text dump good is row are stand then' =
    let more : (before ++ (p ∷ [])) ++ todo ≡ before ++ (p ∷ todo) = append_assoc before (p ∷ []) todo in
    let front : AreRows (record { princs = before ++ (p ∷ []); policies = [] }) =
    fewer_rows rows (length (before ++ (p ∷ []))) 0 (before ++ (p ∷ [])) [] good
    (sym (ap (take (length (before ++ (p ∷ [])))) (is ∙ sym more)
    ∙ take_at (before ++ (p ∷ [])) todo (length (before ++ (p ∷ []))) refl)) refl in
    ap (judged_from (at_rows v realm point (record { princs = before; policies = [] }) false) n)
    (append_assoc (ended (princ_line p)) (flat_map (λ q. ended (princ_line q)) todo) text)
    ∙ goes (at_rows v realm point (record { princs = before; policies = [] }) false)
    (at_rows v realm point (record { princs = before ++ (p ∷ []); policies = [] }) false) n (princ_line p)
    (flat_map (λ q. ended (princ_line q)) todo ++ text) (princ_line_lacks p are.0)
    (after_princ v realm point before p front row.0 are.0 stand.0)
    ∙ princs_again v realm point rows (before ++ (p ∷ [])) todo (line_behind n) text dump good
    (is ∙ sym more) row.1 are.1 stand.1
    (λ m. ap (λ (ps : List Princ).
    judged_from (at_rows v realm point (record { princs = ps; policies = [] }) false) m text) more ∙ then' m)

policies_again : (v : Version) (realm : List ℕ) (point : Point) (rows : RowLists) (before todo : List Rules) (n : ℕ)
    (text : List ℕ) (dump : Dump) → AreRows rows → rows.policies ≡ before ++ todo
    → AllByRecursion IsPolicy todo → AllByRecursion (λ p. IsBytes (policy p)) todo
    → ((m : ℕ) → judged_from (at_rows v realm point (record { princs = rows.princs; policies = before ++ todo }) false)
    m text ≡ Ok dump)
    → judged_from (at_rows v realm point (record { princs = rows.princs; policies = before }) false) n
    (flat_map (λ p. ended (policy_line p)) todo ++ text) ≡ Ok dump
policies_again v realm point rows before [] n text dump good is row are then' =
    ap (λ (ps : List Rules). judged_from (at_rows v realm point (record { princs = rows.princs; policies = ps }) false)
    n text) (sym (append-nil before)) ∙ then' n
policies_again v realm point rows before (p ∷ todo) n text dump good is row are then' =
    let more : (before ++ (p ∷ [])) ++ todo ≡ before ++ (p ∷ todo) = append_assoc before (p ∷ []) todo in
    let front : AreRows (record { princs = rows.princs; policies = before ++ (p ∷ []) }) =
    fewer_rows rows (length rows.princs) (length (before ++ (p ∷ []))) rows.princs (before ++ (p ∷ [])) good
    (sym (take_all (length rows.princs) rows.princs (omega arith)))
    (sym (ap (take (length (before ++ (p ∷ [])))) (is ∙ sym more)
    ∙ take_at (before ++ (p ∷ [])) todo (length (before ++ (p ∷ []))) refl)) in
    ap (judged_from (at_rows v realm point (record { princs = rows.princs; policies = before }) false) n)
    (append_assoc (ended (policy_line p)) (flat_map (λ q. ended (policy_line q)) todo) text)
    ∙ goes (at_rows v realm point (record { princs = rows.princs; policies = before }) false)
    (at_rows v realm point (record { princs = rows.princs; policies = before ++ (p ∷ []) }) false) n (policy_line p)
    (flat_map (λ q. ended (policy_line q)) todo ++ text) (policy_line_lacks p are.0)
    (after_policy v realm point rows.princs before p front row.0 are.0)
    ∙ policies_again v realm point rows (before ++ (p ∷ [])) todo (line_behind n) text dump good
    (is ∙ sym more) row.1 are.1
    (λ m. ap (λ (ps : List Rules).
    judged_from (at_rows v realm point (record { princs = rows.princs; policies = ps }) false) m text) more ∙ then' m)

end_judged : (v : Version) (realm : List ℕ) (point : Point) (rows : RowLists) (n : ℕ)
    → judged_from (at_rows v realm point rows true) n [] ≡ Ok (record { realm = realm; point = point; rows = rows })
unfolding lacks dump_of
end_judged v realm point rows n = judged-end (at_rows v realm point rows true) n [] refl

rows_again : (v : Version) (dump : Dump) (n : ℕ) → IsDump v dump
    → judged_from (at_rows v dump.realm dump.point (record { princs = []; policies = [] }) false) n
    (rows_text dump.rows ++ ended (end_line (row_count dump.rows))) ≡ Ok dump
unfolding rows_text
rows_again v dump n good =
    let rows : RowLists = dump.rows in
    let a : List ℕ = flat_map (λ p. ended (princ_line p)) rows.princs in
    let b : List ℕ = flat_map (λ p. ended (policy_line p)) rows.policies in
    let last : List ℕ = ended (end_line (row_count rows)) in
    let few = good.rows.few in
    ap (judged_from (at_rows v dump.realm dump.point (record { princs = []; policies = [] }) false) n)
    (append_assoc a b last)
    ∙ princs_again v dump.realm dump.point rows [] rows.princs n (b ++ last) dump good.rows refl
    (recursion_from_All IsRow rows.princs good.rows.princs) (recursion_from_All (λ p. IsBytes (princ p)) rows.princs
    good.bytes.princs) (recursion_from_All (λ p. stands_in v p ≡ true) rows.princs good.bytes.stand)
    (λ m. policies_again v dump.realm dump.point rows [] rows.policies m last dump good.rows refl
    (recursion_from_All IsPolicy rows.policies good.rows.policies)
    (recursion_from_All (λ p. IsBytes (policy p)) rows.policies good.bytes.policies)
    (λ k. ap (judged_from (at_rows v dump.realm dump.point rows false) k) (sym (append-nil last))
    ∙ goes (at_rows v dump.realm dump.point rows false) (at_rows v dump.realm dump.point rows true) k
    (end_line (row_count rows)) [] (end_lacks (row_count rows) (omega arith)) (after_last v dump.realm dump.point rows)
    ∙ end_judged v dump.realm dump.point rows (line_behind k)))

title_after : (v : Version) → after nothing (title v)
    ≡ Some (record { titled = Some v; realm = None; point = None; princs = []; policies = []; ended = false })
unfolding after after_title
title_after v = ap (option_map (λ (u : Version). record {
  titled = Some u;
  realm = None;
  point = None;
  princs = [];
  policies = [];
  ended = false;
})) (version_again v)

realm_after : (v : Version) (realm : List ℕ) → is_realm realm ≡ true
    → after (record { titled = Some v; realm = None; point = None; princs = []; policies = []; ended = false })
    (realm_line realm)
    ≡ Some (record { titled = Some v; realm = Some realm; point = None; princs = []; policies = []; ended = false })
unfolding after after_realm
realm_after v realm good = rw (realm_again realm good) refl

point_after : (v : Version) (realm : List ℕ) (point : Point) → IsPoint point
    → after (record { titled = Some v; realm = Some realm; point = None; princs = []; policies = []; ended = false })
    (point_line point)
    ≡ Some (at_rows v realm point (record { princs = []; policies = [] }) false)
unfolding after after_point
point_after v realm point good = rw (point_again point good) refl

dump_again : (v : Version) (dump : Dump) → IsDump v dump
    → judged (dump_text v dump.realm dump.point dump.rows) ≡ Ok dump
unfolding judged dump_text head_text
dump_again v dump good =
    let body : List ℕ = rows_text dump.rows ++ ended (end_line (row_count dump.rows)) in
    let r : List ℕ = ended (realm_line dump.realm) in
    let p : List ℕ = ended (point_line dump.point) in
    ap (judged_from nothing 0)
    (append_assoc (ended (title v)) (r ++ p) body ∙ ap (λ (t : List ℕ). ended (title v) ++ t) (append_assoc r p body))
    ∙ goes nothing (record { titled = Some v; realm = None; point = None; princs = []; policies = []; ended = false }) 0
    (title v) (r ++ (p ++ body)) (title_lacks v) (title_after v)
    ∙ goes (record { titled = Some v; realm = None; point = None; princs = []; policies = []; ended = false })
    (record { titled = Some v; realm = Some dump.realm; point = None; princs = []; policies = []; ended = false })
    (line_behind 0) (realm_line dump.realm) (p ++ body) (realm_lacks dump.realm good.realm)
    (realm_after v dump.realm good.realm)
    ∙ goes (record {
      titled = Some v;
      realm = Some dump.realm;
      point = None;
      princs = [];
      policies = [];
      ended = false;
    }) (at_rows v dump.realm dump.point (record { princs = []; policies = [] }) false)
    (line_behind (line_behind 0)) (point_line dump.point) body (point_lacks dump.point good.point)
    (point_after v dump.realm dump.point good.point)
    ∙ rows_again v dump (line_behind (line_behind (line_behind 0))) good

pub text_again : (text : List ℕ) (dump : Dump) → IsDumpText text dump → judged text ≡ Ok dump
text_again text dump f = ap judged f.whole ∙ dump_again f.version dump f.is_dump

pub same_ok : (a b : Dump) → ◌≡◌ {A = Result Dump ℕ} (Ok a) (Ok b) → a ≡ b
same_ok a b e = ap (ok_or a) e
  where
    ok_or : Dump → Result Dump ℕ → Dump
    ok_or d (Ok x) = x
    ok_or d (Err n) = d
