-- What a line that leads on says: it is the line that is written for it.
use Rattle.std.proofs.Common.{◌≡◌, ℕ, ◌-◌, ◌<◌, ◌≤◌, Bool, true, false, cond, ◌&&◌, if◌then◌else◌, List, [], ◌∷◌}
use Rattle.std.proofs.Common.{◌++◌, codes, length, take, drop, Option, Some, None, refl, sym, ap, subst, ◌∙◌, arith}
use Rattle.std.specs.Prelude.{option_map, option_and_then, Result, Ok, Err}
use Rattle.std.specs.Prelude.{nat_eq, nat_le, nat_lt, replicate, is_some, IfSome}
use Rattle.std.specs.Fmt.{decimal}
use Rattle.std.specs.Str.{bytes_eq}
use Rattle.std.proofs.lemmas.Bool.{and_parts, leb-true, ltb-true, eqb-true}
use Rattle.std.proofs.lemmas.Fmt.{length-decimal-le}
use Rattle.std.proofs.lemmas.List.{take-append-drop, take_all, take_at, length-append, length-replicate}
use Rattle.std.proofs.lemmas.Option.{cond_some, same_Some}
use Rattle.hex.specs.Hex.{decode_of, encode_lower, lower_digits, IsBytes}
use Rattle.hex.specs.declared.error.FromHexError.{FromHexError}
use Rattle.hex.proofs.HexLemmas.{decode_of-ok, length-encode_with}
use Rattle.kdb_base.specs.Limits.{most_rows, longest_row}
use Rattle.kdb_base.specs.declared.moments.Point.{Point}
use Rattle.kdb_format.specs.Readings.{whole}
use Rattle.kdb_format.specs.Laws.{bind_some, whole_spelled}
use Rattle.policy_rules.specs.Rules.{Rules}
use Rattle.princ_name.specs.Realms.{is_realm, realm_length}
use Rattle.princ_record.specs.RowLimits.{IsRow}
use Rattle.princ_record.specs.PolicyLaws.{policy_short, policy_field}
use Rattle.princ_rows.specs.EntryLaws.{same_bytes}
use Rattle.princ_record.specs.Policies.{policy, policy_at, IsPolicy}
use Rattle.princ_record.specs.Princs.{princ, princ_at}
use Rattle.princ_record.specs.PrincLaws.{princ_field}
use Rattle.princ_record.specs.declared.princs.Princ.{Princ}
use Rattle.kadm_values.specs.Points.{point_text, six_digits}
use Rattle.dump_text.specs.Dumps.{realm_line, point_line, princ_line, policy_line, end_line, row_count}
use Rattle.dump_text.specs.Readings.{behind, realm_of, realm_in, near_point, is_point, written_so}
use Rattle.dump_text.specs.Readings.{point_in, bytes_or_none, hex_of, princ_of, policy_of}
use Rattle.dump_text.specs.Judged.{Said, rows_of, is_in_order, after_title, after_realm, after_point}
use Rattle.dump_text.specs.Judged.{with_princ, with_policy, after_end, policy_or_end, princ_or_other}
use Rattle.dump_text.specs.Judged.{after_row, point_or_row, realm_or_later, title_or_later, after}
use Rattle.dump_text.specs.Reader.{Grows}
use Rattle.dump_text.specs.Versions.{longest, stands_in, title, version_of}
use Rattle.dump_text.specs.declared.versions.Version.{Version}
use Rattle.dump_text.specs.declared.versions.Version.TheVariants.{One, Two}
use Rattle.dump_text.proofs.Stands.{stands_row, title_from}

-- ---- choices

cond_then : {A : Type 0} (b : Bool) (o : Option A) (y : A) → cond b o None ≡ Some y → (b ≡ true) × (o ≡ Some y)
cond_then true o y e = (refl, e)
cond_then false o y e = absurd cc

cond_else : {A : Type 0} (b : Bool) (o : Option A) (y : A) → cond b None o ≡ Some y → (b ≡ false) × (o ≡ Some y)
cond_else true o y e = absurd cc
cond_else false o y e = (refl, e)

pub map_some : {A B : Type 0} (f : A → B) (o : Option A) (y : B) → option_map f o ≡ Some y
    → (x : A) × (o ≡ Some x) × (f x ≡ y)
map_some f None y e = absurd cc
map_some f (Some x) y e = (x, refl, same_Some (f x) y e)

-- ---- readings

behind_is : (word line text : List ℕ) → behind word line ≡ Some text → line ≡ word ++ text
unfolding behind
behind_is word line text e =
    let found = cond_some (bytes_eq (take (length word) line) word) (drop (length word) line) text e in
    sym (take-append-drop (length word) line)
    ∙ ap (λ (t : List ℕ). t ++ drop (length word) line) (same_bytes (take (length word) line) word found.0)
    ∙ ap (λ (t : List ℕ). word ++ t) found.1

pub realm_is : (line realm : List ℕ) → realm_in line ≡ Some realm → (line ≡ realm_line realm) × (is_realm realm ≡ true)
unfolding realm_in realm_of realm_line
realm_is line realm e =
    let a = bind_some realm_of (behind (codes "realm ") line) realm e in
    let b = cond_some (is_realm a.0) a.0 realm a.2 in (
      behind_is (codes "realm ") line a.0 a.1 ∙ ap (λ (t : List ℕ). codes "realm " ++ t) b.1,
      ap is_realm (sym b.1) ∙ b.0,
    )

pub point_is : (line : List ℕ) (point : Point) → point_in line ≡ Some point
    → (line ≡ point_line point) × (is_point point ≡ true)
unfolding point_in written_so
point_is line point e =
    let a = bind_some (λ text. written_so line (near_point text)) (behind (codes "point ") line) point e in
    let q : Point = near_point a.0 in
    let b = cond_some (is_point q && bytes_eq (point_line q) line) q point a.2 in
    let parts = and_parts (is_point q) (bytes_eq (point_line q) line) b.0 in
    (sym (same_bytes (point_line q) line parts.1) ∙ ap point_line b.1, ap is_point (sym b.1) ∙ parts.0)

decoded : (r : Result (List ℕ) FromHexError) (bytes : List ℕ) → bytes_or_none r ≡ Some bytes → r ≡ Ok bytes
decoded (Ok found) bytes e = ap Ok (same_Some found bytes e)
decoded (Err fault) bytes e = absurd cc

hex_is : (text bytes : List ℕ) → hex_of text ≡ Some bytes → (text ≡ encode_lower bytes) × IsBytes bytes
unfolding hex_of
hex_is text bytes e =
    let a = bind_some (λ bs. if bytes_eq (encode_lower bs) text then Some bs else None)
    (bytes_or_none (decode_of text)) bytes e in
    let b = cond_some (bytes_eq (encode_lower a.0) text) a.0 bytes a.2 in
    let ok = decode_of-ok text a.0 (decoded (decode_of text) a.0 a.1) in
    (sym (same_bytes (encode_lower a.0) text b.0) ∙ ap encode_lower b.1, subst IsBytes b.1 ok.3)

-- the record of a line
pub record PrincText (v : Version) (text : List ℕ) (p : Princ) : Type 0 where
  pub written : text ≡ encode_lower (princ p)
  pub row : IsRow p
  pub stand : stands_in v p ≡ true
  pub bytes : IsBytes (princ p)

pub princ_is : (v : Version) (text : List ℕ) (p : Princ) → princ_of v text ≡ Some p → PrincText v text p
unfolding princ_of
princ_is v text p e =
    let a = bind_some (λ q. if stands_in v q then Some q else None)
    (option_and_then (λ bytes. whole princ_at bytes) (hex_of text)) p e in
    let c = cond_some (stands_in v a.0) a.0 p a.2 in
    let b = bind_some (λ bytes. whole princ_at bytes) (hex_of text) a.0 a.1 in
    let h = hex_is text b.0 b.1 in
    let w = whole_spelled princ_field b.0 a.0 h.1 b.2 in
    subst (PrincText v text) c.1 (record {
      written = h.0 ∙ ap encode_lower w.0;
      row = stands_row v a.0 w.1 c.0;
      stand = c.0;
      bytes = subst IsBytes w.0 h.1;
    })

pub record PolicyText (text : List ℕ) (p : Rules) : Type 0 where
  pub written : text ≡ encode_lower (policy p)
  pub row : IsPolicy p
  pub bytes : IsBytes (policy p)

pub policy_is : (text : List ℕ) (p : Rules) → policy_of text ≡ Some p → PolicyText text p
unfolding policy_of
policy_is text p e =
    let a = bind_some (λ bytes. whole policy_at bytes) (hex_of text) p e in
    let h = hex_is text a.0 a.1 in
    let w = whole_spelled policy_field a.0 p h.1 a.2 in
    record { written = h.0 ∙ ap encode_lower w.0; row = w.1; bytes = subst IsBytes w.0 h.1 }

-- ---- steps

-- a line of a row, or the last one
pub data RowLed (v : Version) (s : Said) (line : List ℕ) (t : Said) : Type 0 where
  led_princ : (p : Princ) → line ≡ princ_line p → IsRow p → IsBytes (princ p) → stands_in v p ≡ true
      → length s.policies ≡ 0
      → is_in_order (record { princs = s.princs ++ (p ∷ []); policies = s.policies }) ≡ true
      → t ≡ record s { princs = s.princs ++ (p ∷ []) } → RowLed v s line t
  led_policy : (p : Rules) → line ≡ policy_line p → IsPolicy p → IsBytes (policy p)
      → is_in_order (record { princs = s.princs; policies = s.policies ++ (p ∷ []) }) ≡ true
      → t ≡ record s { policies = s.policies ++ (p ∷ []) } → RowLed v s line t
  led_end : line ≡ end_line (row_count (rows_of s)) → t ≡ record s { ended = true } → RowLed v s line t

princ_led : (v : Version) (s : Said) (line text : List ℕ) (t : Said) → behind (codes "princ ") line ≡ Some text
    → option_and_then (with_princ s) (princ_of v text) ≡ Some t → RowLed v s line t
unfolding with_princ princ_line
princ_led v s line text t at e =
    let a = bind_some (with_princ s) (princ_of v text) t e in
    let p : Princ = a.0 in
    let f = princ_is v text p a.1 in
    let b = cond_then (nat_eq (length s.policies) 0) (cond (is_in_order (record {
      princs = s.princs ++ (p ∷ []);
      policies = s.policies;
    })) (Some (record s { princs = s.princs ++ (p ∷ []) })) None) t a.2 in
    let c = cond_some (is_in_order (record { princs = s.princs ++ (p ∷ []); policies = s.policies }))
    (record s { princs = s.princs ++ (p ∷ []) }) t b.1 in
    led_princ p (behind_is (codes "princ ") line text at ∙ ap (λ (x : List ℕ). codes "princ " ++ x) f.written) f.row
    f.bytes f.stand (eqb-true _ _ b.0) c.0 (sym c.1)

policy_led : (v : Version) (s : Said) (line text : List ℕ) (t : Said) → behind (codes "policy ") line ≡ Some text
    → option_and_then (with_policy s) (policy_of text) ≡ Some t → RowLed v s line t
unfolding with_policy policy_line
policy_led v s line text t at e =
    let a = bind_some (with_policy s) (policy_of text) t e in
    let p : Rules = a.0 in
    let f = policy_is text p a.1 in
    let c = cond_some (is_in_order (record { princs = s.princs; policies = s.policies ++ (p ∷ []) }))
    (record s { policies = s.policies ++ (p ∷ []) }) t a.2 in
    led_policy p (behind_is (codes "policy ") line text at ∙ ap (λ (x : List ℕ). codes "policy " ++ x) f.written) f.row
    f.bytes c.0 (sym c.1)

end_led : (v : Version) (s : Said) (line : List ℕ) (t : Said) → after_end s line ≡ Some t → RowLed v s line t
unfolding after_end
end_led v s line t e =
    let a = cond_some (bytes_eq line (end_line (row_count (rows_of s)))) (record s { ended = true }) t e in
    led_end (same_bytes line (end_line (row_count (rows_of s))) a.0) (sym a.1)

policy_or_end_led : (v : Version) (s : Said) (line : List ℕ) (t : Said) (o : Option (List ℕ))
    → behind (codes "policy ") line ≡ o → policy_or_end s line o ≡ Some t → RowLed v s line t
policy_or_end_led v s line t None at e = end_led v s line t e
policy_or_end_led v s line t (Some text) at e = policy_led v s line text t at e

princ_or_other_led : (v : Version) (s : Said) (line : List ℕ) (t : Said) (o : Option (List ℕ))
    → behind (codes "princ ") line ≡ o → princ_or_other v s line o ≡ Some t → RowLed v s line t
princ_or_other_led v s line t None at e = policy_or_end_led v s line t (behind (codes "policy ") line) refl e
princ_or_other_led v s line t (Some text) at e = princ_led v s line text t at e

pub row_led : (v : Version) (s : Said) (line : List ℕ) (t : Said) → after_row v s line ≡ Some t → RowLed v s line t
unfolding after_row
row_led v s line t e = princ_or_other_led v s line t (behind (codes "princ ") line) refl e

pub data Led (s : Said) (line : List ℕ) (t : Said) : Type 0 where
  led_title : (v : Version) → line ≡ title v → t ≡ record s { titled = Some v } → Led s line t
  led_realm : (realm : List ℕ) → s.realm ≡ None → line ≡ realm_line realm → is_realm realm ≡ true
      → t ≡ record s { realm = Some realm } → Led s line t
  led_point : (point : Point) → line ≡ point_line point → is_point point ≡ true → t ≡ record s { point = Some point }
      → Led s line t
  led_row : (v : Version) → is_some s.realm ≡ true → is_some s.point ≡ true → RowLed v s line t → Led s line t

pub title_is : (s : Said) (line : List ℕ) (t : Said) → after_title s line ≡ Some t
    → (v : Version) × (line ≡ title v) × (t ≡ record s { titled = Some v })
unfolding after_title
title_is s line t e =
    let m = map_some (λ v. record s { titled = Some v }) (version_of line) t e in
    (m.0, title_from line m.0 m.1, sym m.2)

led_by_point : (v : Version) (s : Said) (line : List ℕ) (t : Said) (o : Option Point) → is_some s.realm ≡ true
    → s.point ≡ o → point_or_row v s line o ≡ Some t → Led s line t
unfolding after_point
led_by_point v s line t None realm at e =
    let a = map_some (λ p. record s { point = Some p }) (point_in line) t e in
    let f = point_is line a.0 a.1 in
    led_point a.0 f.0 f.1 (sym a.2)
led_by_point v s line t (Some point) realm at e =
    let a = cond_else s.ended (after_row v s line) t e in
    led_row v realm (ap is_some at) (row_led v s line t a.1)

led_by_realm : (v : Version) (s : Said) (line : List ℕ) (t : Said) (o : Option (List ℕ)) → s.realm ≡ o
    → realm_or_later v s line o ≡ Some t → Led s line t
unfolding after_realm
led_by_realm v s line t None at e =
    let a = map_some (λ r. record s { realm = Some r }) (realm_in line) t e in
    let f = realm_is line a.0 a.1 in
    led_realm a.0 at f.0 f.1 (sym a.2)
led_by_realm v s line t (Some realm) at e = led_by_point v s line t s.point (ap is_some at) refl e

led_by : (s : Said) (line : List ℕ) (t : Said) (o : Option Version) → title_or_later s line o ≡ Some t → Led s line t
led_by s line t None e = let f = title_is s line t e in led_title f.0 f.1 f.2
led_by s line t (Some v) e = led_by_realm v s line t s.realm refl e

pub led : (s : Said) (line : List ℕ) (t : Said) → after s line ≡ Some t → Led s line t
unfolding after
led s line t e = led_by s line t s.titled e

-- ---- what was said stays said

same_some : (o : Option (List ℕ)) → IfSome o (λ r. o ≡ Some r)
same_some None = tt
same_some (Some r) = refl

pub grows_same : (s : Said) → Grows s s
grows_same s = record {
  realm = same_some s.realm;
  princs = take_all (length s.princs) s.princs (omega arith);
  policies = take_all (length s.policies) s.policies (omega arith);
}

no_realm : (o n : Option (List ℕ)) → o ≡ None → IfSome o (λ r. n ≡ Some r)
no_realm None n e = tt
no_realm (Some r) n e = absurd cc

row_grows : (v : Version) (s : Said) (line : List ℕ) (t : Said) → RowLed v s line t → Grows s t
row_grows v s line t (led_princ p is row bytes stand none order e) =
    subst (Grows s) (sym e) (record {
      realm = same_some s.realm;
      princs = take_at s.princs (p ∷ []) (length s.princs) refl;
      policies = take_all (length s.policies) s.policies (omega arith);
    })
row_grows v s line t (led_policy p is row bytes order e) =
    subst (Grows s) (sym e) (record {
      realm = same_some s.realm;
      princs = take_all (length s.princs) s.princs (omega arith);
      policies = take_at s.policies (p ∷ []) (length s.policies) refl;
    })
row_grows v s line t (led_end is e) = let same = grows_same s in
    subst (Grows s) (sym e) (record { realm = same.realm; princs = same.princs; policies = same.policies })

step_grows : (s : Said) (line : List ℕ) (t : Said) → Led s line t → Grows s t
step_grows s line t (led_title v is e) = let same = grows_same s in
    subst (Grows s) (sym e) (record { realm = same.realm; princs = same.princs; policies = same.policies })
step_grows s line t (led_realm realm none is good e) =
    let same = grows_same s in subst (Grows s) (sym e)
    (record { realm = no_realm s.realm (Some realm) none; princs = same.princs; policies = same.policies })
step_grows s line t (led_point point is good e) = let same = grows_same s in
    subst (Grows s) (sym e) (record { realm = same.realm; princs = same.princs; policies = same.policies })
step_grows s line t (led_row v realm point row) = row_grows v s line t row

pub after_grows : (s : Said) (line : List ℕ) (t : Said) → after s line ≡ Some t → Grows s t
after_grows s line t e = step_grows s line t (led s line t e)

-- ---- how long a line may be

length-six : (n : ℕ) → n < 1000000 → length (six_digits n) ≤ 6
length-six n lt =
    let digits : length (decimal n) ≤ 6 = length-decimal-le 6 n (omega arith) (omega arith) (omega arith) in
    omega (
      arith,
      digits,
      length-append (replicate (6 - length (decimal n)) 48) (decimal n),
      length-replicate {A = ℕ} (6 - length (decimal n)) 48,
    )

length-point : (p : Point) → is_point p ≡ true → length (point_line p) ≤ 34
unfolding point_line point_text
length-point p good =
    let parts =
    and_parts (nat_lt p.sno 4294967296) (nat_lt p.time.secs 4294967296 && nat_lt p.time.usecs 1000000) good in
    let times = and_parts (nat_lt p.time.secs 4294967296) (nat_lt p.time.usecs 1000000) parts.1 in
    let sno : p.sno < 4294967296 = ltb-true _ _ parts.0 in
    let secs : p.time.secs < 4294967296 = ltb-true _ _ times.0 in
    let usecs : p.time.usecs < 1000000 = ltb-true _ _ times.1 in
    let a : length (decimal p.sno) ≤ 10 = length-decimal-le 10 p.sno (omega arith) (omega arith) (omega arith) in
    let b : length (decimal p.time.secs) ≤ 10 =
    length-decimal-le 10 p.time.secs (omega arith) (omega arith) (omega arith) in
    omega (
      arith,
      a,
      b,
      length-six p.time.usecs usecs,
      length-append (codes "point ")
          (decimal p.sno ++ (codes " " ++ (decimal p.time.secs ++ (codes "." ++ six_digits p.time.usecs)))),
      length-append (decimal p.sno) (codes " " ++ (decimal p.time.secs ++ (codes "." ++ six_digits p.time.usecs))),
      length-append (codes " ") (decimal p.time.secs ++ (codes "." ++ six_digits p.time.usecs)),
      length-append (decimal p.time.secs) (codes "." ++ six_digits p.time.usecs),
      length-append (codes ".") (six_digits p.time.usecs),
    )

length-title : (v : Version) → length (title v) ≤ longest
unfolding title
length-title One = omega arith
length-title Two = omega arith

length-realm : (realm : List ℕ) → is_realm realm ≡ true → length (realm_line realm) ≤ longest
unfolding realm_line
length-realm realm good = let le = realm_length realm good in omega (arith, le, length-append (codes "realm ") realm)

length-princ : (p : Princ) → IsRow p → length (princ_line p) ≤ longest
unfolding princ_line
length-princ p row = omega (
  arith,
  row.short,
  length-append (codes "princ ") (encode_lower (princ p)),
  length-encode_with lower_digits (princ p),
)

length-policy : (p : Rules) → IsPolicy p → length (policy_line p) ≤ longest
unfolding policy_line
length-policy p row = let le = policy_short p row in omega
    (arith, le, length-append (codes "policy ") (encode_lower (policy p)), length-encode_with lower_digits (policy p))

length-end : (n : ℕ) → n ≤ most_rows → length (end_line n) ≤ longest
unfolding end_line
length-end n few =
    let digits : length (decimal n) ≤ 6 = length-decimal-le 6 n (omega arith) (omega arith) (omega arith) in
    omega (arith, digits, length-append (codes "end ") (decimal n))

at_most : (line text : List ℕ) → line ≡ text → length text ≤ longest → length line ≤ longest
at_most line text e le = subst (λ (t : List ℕ). length t ≤ longest) (sym e) le

row_short : (v : Version) (s : Said) (line : List ℕ) (t : Said) → row_count (rows_of s) ≤ most_rows → RowLed v s line t
    → length line ≤ longest
row_short v s line t few (led_princ p is row bytes stand none order e) =
    at_most line (princ_line p) is (length-princ p row)
row_short v s line t few (led_policy p is row bytes order e) = at_most line (policy_line p) is (length-policy p row)
row_short v s line t few (led_end is e) =
    at_most line (end_line (row_count (rows_of s))) is (length-end (row_count (rows_of s)) few)

step_short : (s : Said) (line : List ℕ) (t : Said) → row_count (rows_of s) ≤ most_rows → Led s line t
    → length line ≤ longest
step_short s line t few (led_title v is e) = at_most line (title v) is (length-title v)
step_short s line t few (led_realm realm none is good e) = at_most line (realm_line realm) is (length-realm realm good)
step_short s line t few (led_point point is good e) = let le =
    length-point point good in at_most line (point_line point) is (omega arith)
step_short s line t few (led_row v realm point row) = row_short v s line t few row

-- no dump goes on with a line that is longer
pub after_long : (s : Said) (line : List ℕ) → row_count (rows_of s) ≤ most_rows → longest < length line
    → after s line ≡ None
after_long s line few long = by (after s line) refl
  where
    by : (o : Option Said) → after s line ≡ o → o ≡ None
    by None e = refl
    by (Some t) e = let short = step_short s line t few (led s line t e) in absurd (omega arith)
