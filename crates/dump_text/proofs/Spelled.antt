-- What is judged a dump is the text of that dump.
use Rattle.std.proofs.Common.{◌≡◌, ℕ, ◌==◌, Bool, true, false, ◌&&◌, if◌then◌else◌, List, [], ◌∷◌, ◌++◌}
use Rattle.std.proofs.Common.{Option, Some, None, refl, sym, ap, subst, ◌∙◌, append_assoc, append-nil}
use Rattle.std.specs.Prelude.{Result, Ok, Err, nat_le, nat_lt}
use Rattle.std.specs.List.{All, flat_map}
use Rattle.std.proofs.lemmas.Bool.{and_parts, eqb-true, leb-true, ltb-true}
use Rattle.std.proofs.lemmas.Grind.{flat_map-append}
use Rattle.std.proofs.lemmas.List.{nil_from_length}
use Rattle.std.proofs.lemmas.List.Elements.{All-append, All-cons, All-nil}
use Rattle.std.proofs.lemmas.Option.{same_Some}
use Rattle.kdb_base.specs.Limits.{most_rows}
use Rattle.hex.specs.Hex.{IsBytes}
use Rattle.kdb_base.specs.declared.moments.Point.{Point}
use Rattle.kdb_format.specs.Moments.{IsPoint}
use Rattle.policy_rules.specs.Rules.{Rules}
use Rattle.princ_name.specs.Realms.{IsRealm}
use Rattle.princ_record.specs.RowLimits.{IsRow}
use Rattle.princ_record.specs.Policies.{policy, IsPolicy}
use Rattle.princ_record.specs.Princs.{princ}
use Rattle.princ_rows.specs.Rows.{RowLists, AreRows, princ_keys, policy_keys}
use Rattle.tagged_data.specs.KeyOrder.{rises_from}
use Rattle.tagged_data.specs.KeyOrderLaws.{in_order}
use Rattle.princ_record.specs.declared.princs.Princ.{Princ}
use Rattle.dump_text.specs.Dumps.{ended, realm_line, point_line, princ_line, policy_line}
use Rattle.dump_text.specs.Dumps.{end_line, head_text, rows_text, row_count, dump_text}
use Rattle.dump_text.specs.Lines.{in_front, lines_of}
use Rattle.dump_text.specs.Readings.{is_point, point_in, realm_in}
use Rattle.dump_text.specs.Judged.{Said, nothing, after, after_title, after_realm, after_point}
use Rattle.dump_text.specs.Judged.{after_row, dump_of, dump_or_bad, is_in_order, judged, judged_from}
use Rattle.dump_text.specs.Judged.{judged_lines, line_behind, said_or, AreSpelled, IsDump, IsDumpText}
use Rattle.dump_text.specs.Versions.{stands_in, title}
use Rattle.dump_text.specs.declared.versions.Version.{Version}
use Rattle.dump_text.specs.declared.dumps.Dump.{Dump}
use Rattle.dump_text.proofs.Led.{RowLed, led_princ, led_policy, led_end, row_led}
use Rattle.dump_text.proofs.Led.{title_is, realm_is, point_is, map_some}
use Rattle.dump_text.proofs.Orders.{no_rows}

-- ---- a text and its lines

abbrev text_of : List (List ℕ) → List ℕ → List ℕ
text_of lines rest = flat_map ended lines ++ rest

front_text : (b : ℕ) (lines : List (List ℕ)) (rest : List ℕ)
    → text_of (in_front (b ∷ []) lines rest).whole (in_front (b ∷ []) lines rest).rest ≡ b ∷ text_of lines rest
unfolding in_front
front_text b [] rest = refl
front_text b (line ∷ lines) rest = refl

lines_text : (text : List ℕ) → text_of (lines_of text).whole (lines_of text).rest ≡ text
unfolding lines_of
lines_text [] = refl
lines_text (b ∷ text) =
    let behind = lines_text text in
    elim (b == 10) as (λ v. ((b == 10) ≡ v) → text_of (if v then record {
      whole = [] ∷ (lines_of text).whole;
      rest = (lines_of text).rest;
    } else in_front (b ∷ []) (lines_of text).whole (lines_of text).rest).whole
    (if v then record { whole = [] ∷ (lines_of text).whole; rest = (lines_of text).rest }
    else in_front (b ∷ []) (lines_of text).whole (lines_of text).rest).rest ≡ b ∷ text) [
      | true ↦ λ is. ap (λ (t : List ℕ). 10 ∷ t) behind ∙ ap (λ (c : ℕ). c ∷ text) (sym (eqb-true b 10 is))
      | false ↦ λ is. front_text b (lines_of text).whole (lines_of text).rest ∙ ap (λ (t : List ℕ). b ∷ t) behind
    ] refl

-- ---- steps

abbrev at_rows : Version → List ℕ → Point → RowLists → Bool → Said
at_rows v realm point rows over = record {
  titled = Some v;
  realm = Some realm;
  point = Some point;
  princs = rows.princs;
  policies = rows.policies;
  ended = over;
}

pub said_ok : (bad : ℕ) (o : Option Said) (next : Said → Result Dump ℕ) (dump : Dump)
    → said_or (Err bad) o next ≡ Ok dump → (t : Said) × (o ≡ Some t) × (next t ≡ Ok dump)
said_ok bad None next dump e = absurd cc
said_ok bad (Some t) next dump e = (t, refl, e)

dump_ok : (bad : ℕ) (o : Option Dump) (rest : List ℕ) (dump : Dump) → dump_or_bad bad o rest ≡ Ok dump
    → (o ≡ Some dump) × (rest ≡ [])
dump_ok bad None rest dump e = absurd cc
dump_ok bad (Some found) [] dump e = (cc, refl)
dump_ok bad (Some found) (b ∷ rest) dump e = absurd cc

-- what is judged from between two rows
record Spelled (v : Version) (realm : List ℕ) (point : Point) (rows : RowLists) (text : List ℕ)
    (dump : Dump) : Type 0 where
  realm_is : dump.realm ≡ realm
  point_is : dump.point ≡ point
  good : AreRows dump.rows
  bytes : AreSpelled v dump.rows
  whole : rows_text rows ++ text ≡ rows_text dump.rows ++ ended (end_line (row_count dump.rows))

rows_from_test : (rows : RowLists) → is_in_order rows ≡ true → All IsRow rows.princs → All IsPolicy rows.policies
    → AreRows rows
rows_from_test rows e princs policies =
    let few = and_parts (nat_le (row_count rows) most_rows)
    (rises_from None (princ_keys rows.princs) && rises_from None (policy_keys rows.policies)) e in
    let orders =
    and_parts (rises_from None (princ_keys rows.princs)) (rises_from None (policy_keys rows.policies)) few.1 in
    record {
      princ_order = in_order (princ_keys rows.princs) orders.0;
      policy_order = in_order (policy_keys rows.policies) orders.1;
      few = leb-true _ _ few.0;
      princs = princs;
      policies = policies;
    }

one_more : {A : Type 0} (P : A → Type 0) (xs : List A) (x : A) → All P xs → P x → All P (xs ++ (x ∷ []))
one_more P xs x all one = All-append P xs (x ∷ []) all (All-cons P x [] one (All-nil P))

princ_text : (princs : List Princ) (policies : List Rules) (p : Princ) (text : List ℕ) → policies ≡ []
    → rows_text (record { princs = princs ++ (p ∷ []); policies = policies }) ++ text
    ≡ rows_text (record { princs = princs; policies = policies }) ++ (ended (princ_line p) ++ text)
unfolding rows_text
princ_text princs policies p text none =
    let front : flat_map (λ q. ended (princ_line q)) (princs ++ (p ∷ []))
    ≡ flat_map (λ q. ended (princ_line q)) princs ++ ended (princ_line p) =
    flat_map-append (λ q. ended (princ_line q)) princs (p ∷ [])
    ∙ ap (λ (t : List ℕ). flat_map (λ q. ended (princ_line q)) princs ++ t) (append-nil (ended (princ_line p))) in
    rw (
      none,
      append-nil (flat_map (λ q. ended (princ_line q)) (princs ++ (p ∷ []))),
      append-nil (flat_map (λ q. ended (princ_line q)) princs),
    )
    (ap (λ (t : List ℕ). t ++ text) front
    ∙ append_assoc (flat_map (λ q. ended (princ_line q)) princs) (ended (princ_line p)) text)

policy_text : (princs : List Princ) (policies : List Rules) (p : Rules) (text : List ℕ)
    → rows_text (record { princs = princs; policies = policies ++ (p ∷ []) }) ++ text
    ≡ rows_text (record { princs = princs; policies = policies }) ++ (ended (policy_line p) ++ text)
unfolding rows_text
policy_text princs policies p text =
    let a : List ℕ = flat_map (λ q. ended (princ_line q)) princs in
    let b : List ℕ = flat_map (λ q. ended (policy_line q)) policies in
    let back : flat_map (λ q. ended (policy_line q)) (policies ++ (p ∷ [])) ≡ b ++ ended (policy_line p) =
    flat_map-append (λ q. ended (policy_line q)) policies (p ∷ [])
    ∙ ap (λ (t : List ℕ). b ++ t) (append-nil (ended (policy_line p))) in
    ap (λ (t : List ℕ). (a ++ t) ++ text) back ∙ ap (λ (t : List ℕ). t ++ text)
    (sym (append_assoc a b (ended (policy_line p)))) ∙ append_assoc (a ++ b) (ended (policy_line p)) text

line_text : (line spelled : List ℕ) (lines : List (List ℕ)) (rest : List ℕ) → line ≡ spelled
    → text_of (line ∷ lines) rest ≡ ended spelled ++ text_of lines rest
line_text line spelled lines rest is =
    append_assoc (ended line) (flat_map ended lines) rest ∙ ap (λ (l : List ℕ). ended l ++ text_of lines rest) is

-- behind the last line nothing comes
end_judged : (v : Version) (realm : List ℕ) (point : Point) (rows : RowLists) (n : ℕ) (lines : List (List ℕ))
    (rest : List ℕ) (dump : Dump)
    → judged_lines (at_rows v realm point rows true) n lines rest ≡ Ok dump
    → (Some (record { realm = realm; point = point; rows = rows }) ≡ Some dump) × (text_of lines rest ≡ [])
unfolding judged_lines after dump_of
end_judged v realm point rows n [] rest dump e = let a =
    dump_ok (line_behind n) (Some (record { realm = realm; point = point; rows = rows })) rest dump e in (a.0, a.1)
end_judged v realm point rows n (line ∷ lines) rest dump e = absurd cc

-- a row, or the last line, and the lines behind it
row_judged : (v : Version) (realm : List ℕ) (point : Point) (rows : RowLists) (n : ℕ) (line : List ℕ)
    (lines : List (List ℕ)) (rest : List ℕ) (dump : Dump) → AreRows rows → AreSpelled v rows
    → ((more : RowLists)
    → AreRows more → AreSpelled v more → judged_lines (at_rows v realm point more false) n lines rest ≡ Ok dump
    → Spelled v realm point more (text_of lines rest) dump)
    → (t : Said) → RowLed v (at_rows v realm point rows false) line t → judged_lines t n lines rest ≡ Ok dump
    → Spelled v realm point rows (text_of (line ∷ lines) rest) dump
row_judged v realm point rows n line lines rest dump good bytes again t
    (led_princ p is row spelled stand none order new) f =
    let more : RowLists = record { princs = rows.princs ++ (p ∷ []); policies = rows.policies } in
    let next = again more
    (rows_from_test more order (one_more IsRow rows.princs p good.princs row) good.policies)
    (record {
      stand = one_more (λ q. stands_in v q ≡ true) rows.princs p bytes.stand stand;
      princs = one_more (λ q. IsBytes (princ q)) rows.princs p bytes.princs spelled;
      policies = bytes.policies;
    })
    (ap (λ u. judged_lines u n lines rest) (sym new) ∙ f) in
    record {
      realm_is = next.realm_is;
      point_is = next.point_is;
      good = next.good;
      bytes = next.bytes;
      whole = ap (λ (l : List ℕ). rows_text rows ++ l) (line_text line (princ_line p) lines rest is)
          ∙ sym (princ_text rows.princs rows.policies p (text_of lines rest) (nil_from_length rows.policies none))
          ∙ next.whole;
    }
row_judged v realm point rows n line lines rest dump good bytes again t (led_policy p is row spelled order new) f =
    let more : RowLists = record { princs = rows.princs; policies = rows.policies ++ (p ∷ []) } in
    let next = again more
    (rows_from_test more order good.princs (one_more IsPolicy rows.policies p good.policies row))
    (record {
      stand = bytes.stand;
      princs = bytes.princs;
      policies = one_more (λ q. IsBytes (policy q)) rows.policies p bytes.policies spelled;
    })
    (ap (λ u. judged_lines u n lines rest) (sym new) ∙ f) in
    record {
      realm_is = next.realm_is;
      point_is = next.point_is;
      good = next.good;
      bytes = next.bytes;
      whole = ap (λ (l : List ℕ). rows_text rows ++ l) (line_text line (policy_line p) lines rest is)
          ∙ sym (policy_text rows.princs rows.policies p (text_of lines rest)) ∙ next.whole;
    }
row_judged v realm point rows n line lines rest dump good bytes again t (led_end is new) f =
    let last = end_judged v realm point rows n lines rest dump (ap (λ u. judged_lines u n lines rest) (sym new) ∙ f) in
    let same : record { realm = realm; point = point; rows = rows } ≡ dump = same_Some _ _ last.0 in
    subst (Spelled v realm point rows (text_of (line ∷ lines) rest)) same (record {
      realm_is = refl;
      point_is = refl;
      good = good;
      bytes = bytes;
      whole = ap (λ (l : List ℕ). rows_text rows ++ l) (line_text line (end_line (row_count rows)) lines rest is
          ∙ ap (λ (l : List ℕ). ended (end_line (row_count rows)) ++ l) last.1
          ∙ append-nil (ended (end_line (row_count rows))));
    })

rows_judged : (v : Version) (realm : List ℕ) (point : Point) (rows : RowLists) (n : ℕ) (lines : List (List ℕ))
    (rest : List ℕ) (dump : Dump) → AreRows rows → AreSpelled v rows
    → judged_lines (at_rows v realm point rows false) n lines rest ≡ Ok dump
    → Spelled v realm point rows (text_of lines rest) dump
unfolding judged_lines after dump_of
rows_judged v realm point rows n [] rest dump good bytes e = absurd cc
rows_judged v realm point rows n (line ∷ lines) rest dump good bytes e =
    let a = said_ok (line_behind n) (after_row v (at_rows v realm point rows false) line)
    (λ t. judged_lines t (line_behind n) lines rest) dump e in
    row_judged v realm point rows (line_behind n) line lines rest dump good bytes
    (λ more g b f. rows_judged v realm point more (line_behind n) lines rest dump g b f)
    a.0 (row_led v (at_rows v realm point rows false) line a.0 a.1) a.2

-- ---- what stands before the rows

good_point : (p : Point) → is_point p ≡ true → IsPoint p
good_point p e =
    let parts = and_parts (nat_lt p.sno 4294967296) (nat_lt p.time.secs 4294967296 && nat_lt p.time.usecs 1000000) e in
    let times = and_parts (nat_lt p.time.secs 4294967296) (nat_lt p.time.usecs 1000000) parts.1 in
    record { sno = ltb-true _ _ parts.0; time = record { secs = ltb-true _ _ times.0; usecs = ltb-true _ _ times.1 } }

none_text : rows_text (record { princs = []; policies = [] }) ≡ []
unfolding rows_text
none_text = refl

record BehindRealm (v : Version) (realm text : List ℕ) (dump : Dump) : Type 0 where
  realm_is : dump.realm ≡ realm
  text_is : text ≡ ended (point_line dump.point) ++ (rows_text dump.rows ++ ended (end_line (row_count dump.rows)))
  point : IsPoint dump.point
  good : AreRows dump.rows
  bytes : AreSpelled v dump.rows

point_judged : (v : Version) (realm : List ℕ) (n : ℕ) (lines : List (List ℕ)) (rest : List ℕ) (dump : Dump)
    → judged_lines (record {
      titled = Some v;
      realm = Some realm;
      point = None;
      princs = [];
      policies = [];
      ended = false;
    }) n lines rest ≡ Ok dump → BehindRealm v realm (text_of lines rest) dump
unfolding judged_lines after dump_of after_point
point_judged v realm n [] rest dump e = absurd cc
point_judged v realm n (line ∷ lines) rest dump e =
    let s : Said =
    record { titled = Some v; realm = Some realm; point = None; princs = []; policies = []; ended = false } in
    let a = said_ok (line_behind n) (after_point s line) (λ t. judged_lines t (line_behind n) lines rest) dump e in
    let m = map_some (λ p. record s { point = Some p }) (point_in line) a.0 a.1 in
    let p : Point = m.0 in
    let f = point_is line p m.1 in
    let none : RowLists = record { princs = []; policies = [] } in
    let next = rows_judged v realm p none (line_behind n) lines rest dump no_rows (record {
      stand = All-nil (λ q. stands_in v q ≡ true);
      princs = All-nil (λ q. IsBytes (princ q));
      policies = All-nil (λ q. IsBytes (policy q));
    })
    (ap (λ u. judged_lines u (line_behind n) lines rest) m.2 ∙ a.2) in
    record {
      realm_is = next.realm_is;
      text_is = line_text line (point_line p) lines rest f.0
          ∙ ap (λ (q : Point). ended (point_line q) ++ text_of lines rest) (sym next.point_is)
          ∙ ap (λ (t : List ℕ). ended (point_line dump.point) ++ t)
          (ap (λ (t : List ℕ). t ++ text_of lines rest) (sym none_text) ∙ next.whole);
      point = subst IsPoint (sym next.point_is) (good_point p f.1);
      good = next.good;
      bytes = next.bytes;
    }

record BehindTitle (v : Version) (text : List ℕ) (dump : Dump) : Type 0 where
  text_is : text ≡ ended (realm_line dump.realm)
      ++ (ended (point_line dump.point) ++ (rows_text dump.rows ++ ended (end_line (row_count dump.rows))))
  is_dump : IsDump v dump

realm_judged : (v : Version) (n : ℕ) (lines : List (List ℕ)) (rest : List ℕ) (dump : Dump)
    → judged_lines (record { titled = Some v; realm = None; point = None; princs = []; policies = []; ended = false }) n
    lines rest ≡ Ok dump → BehindTitle v (text_of lines rest) dump
unfolding judged_lines after dump_of after_realm
realm_judged v n [] rest dump e = absurd cc
realm_judged v n (line ∷ lines) rest dump e =
    let s : Said = record { titled = Some v; realm = None; point = None; princs = []; policies = []; ended = false } in
    let a = said_ok (line_behind n) (after_realm s line) (λ t. judged_lines t (line_behind n) lines rest) dump e in
    let m = map_some (λ r. record s { realm = Some r }) (realm_in line) a.0 a.1 in
    let f = realm_is line m.0 m.1 in
    let next = point_judged v m.0 (line_behind n) lines rest dump
    (ap (λ u. judged_lines u (line_behind n) lines rest) m.2 ∙ a.2) in
    record {
      text_is = line_text line (realm_line m.0) lines rest f.0
          ∙ ap (λ (r : List ℕ). ended (realm_line r) ++ text_of lines rest) (sym next.realm_is)
          ∙ ap (λ (t : List ℕ). ended (realm_line dump.realm) ++ t) next.text_is;
      is_dump = record {
        realm = subst IsRealm (sym next.realm_is) f.1;
        point = next.point;
        rows = next.good;
        bytes = next.bytes;
      };
    }

title_judged : (n : ℕ) (lines : List (List ℕ)) (rest : List ℕ) (dump : Dump)
    → judged_lines nothing n lines rest ≡ Ok dump → IsDumpText (text_of lines rest) dump
unfolding judged_lines after dump_of dump_text head_text
title_judged n [] rest dump e = absurd cc
title_judged n (line ∷ lines) rest dump e =
    let a =
    said_ok (line_behind n) (after_title nothing line) (λ t. judged_lines t (line_behind n) lines rest) dump e in
    let f = title_is nothing line a.0 a.1 in
    let v : Version = f.0 in
    let next = realm_judged v (line_behind n) lines rest dump
    (ap (λ u. judged_lines u (line_behind n) lines rest) (sym f.2) ∙ a.2) in
    let body : List ℕ = rows_text dump.rows ++ ended (end_line (row_count dump.rows)) in
    let r : List ℕ = ended (realm_line dump.realm) in
    let p : List ℕ = ended (point_line dump.point) in
    record {
      version = v;
      is_dump = next.is_dump;
      whole = line_text line (title v) lines rest f.1 ∙ ap (λ (t : List ℕ). ended (title v) ++ t)
          (next.text_is ∙ sym (append_assoc r p body)) ∙ sym (append_assoc (ended (title v)) (r ++ p) body);
    }

pub judged_spelled : (text : List ℕ) (dump : Dump) → judged text ≡ Ok dump → IsDumpText text dump
unfolding judged judged_from
judged_spelled text dump e = subst (λ (t : List ℕ). IsDumpText t dump) (lines_text text)
    (title_judged 0 (lines_of text).whole (lines_of text).rest dump e)
