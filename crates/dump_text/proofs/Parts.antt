-- How a text that is written in parts goes on.
use Rattle.std.proofs.Common.{◌≡◌, ℕ, suc, ◌+◌, ◌<◌, length, List, [], ◌∷◌, ◌++◌, take, drop}
use Rattle.std.proofs.Common.{ap, sym, subst, ◌∙◌, append_assoc, append-nil, arith, inl, inr}
use Rattle.std.specs.Prelude.{Option}
use Rattle.std.proofs.lemmas.Bool.{cases_lt}
use Rattle.std.proofs.lemmas.List.{take-append-le, take_all, take-append-drop}
use Rattle.std.proofs.Math.Seq.{take-append-add}
use Rattle.std.proofs.Math.Seq.{take-suc}
use Rattle.std.proofs.lemmas.Grind.{flat_map-append}
use Rattle.std.specs.Prelude.{slice_index_or}
use Rattle.std.specs.List.{flat_map}
use Rattle.kdb_ports.specs.Told.{after_told}
use Rattle.kdb_ports.proofs.Told.{after_told-append}
use Rattle.policy_rules.specs.Rules.{Rules}
use Rattle.princ_rows.specs.Rows.{RowLists}
use Rattle.princ_record.specs.declared.princs.Princ.{Princ}
use Rattle.dump_text.specs.Dumps.{end_line, marked, marked_rows, policy_line, princ_line, row_count}
use Rattle.dump_text.specs.Parts.{Holds}
use Rattle.kdb_ports.specs.Parts.{SaidPart}

-- one text and then another
pub holds_next : (before x y b c : List ℕ) (t u v : Option (List ℕ)) → Holds (before ++ x) t u b → Holds (b ++ y) u v c
    → Holds (before ++ (x ++ y)) t v c
holds_next before x y b c t u v one two = record {
  front = one.front ++ two.front;
  parts = sym (append_assoc before x y) ∙ ap (λ (s : List ℕ). s ++ y) one.parts ∙ append_assoc one.front b y
      ∙ ap (λ (s : List ℕ). one.front ++ s) two.parts ∙ sym (append_assoc one.front two.front c);
  told = two.told ∙ ap (λ (s : Option (List ℕ)). after_told s two.front) one.told
      ∙ after_told-append t one.front two.front;
}

-- one text, and then a front of another
pub said_next : (before x y b : List ℕ) (t u v : Option (List ℕ)) → Holds (before ++ x) t u b → SaidPart (b ++ y) u v
    → SaidPart (before ++ (x ++ y)) t v
said_next before x y b t u v one two =
    let whole : before ++ (x ++ y) ≡ one.front ++ (b ++ y) =
    sym (append_assoc before x y) ∙ ap (λ (s : List ℕ). s ++ y) one.parts ∙ append_assoc one.front b y in
    record {
      count = length one.front + two.count;
      part = two.part ∙ ap (λ (s : Option (List ℕ)). after_told s (take two.count (b ++ y))) one.told
          ∙ after_told-append t one.front (take two.count (b ++ y))
          ∙ ap (after_told t)
          (sym (ap (take (length one.front + two.count)) whole ∙ take-append-add one.front (b ++ y) two.count));
    }

-- a front of a text is one of what begins with it
pub said_more : (x y : List ℕ) (t u : Option (List ℕ)) → SaidPart x t u → SaidPart (x ++ y) t u
said_more x y t u one =
    elim (cases_lt (length x) one.count) [
      | inl past ↦ record {
        count = length x;
        part = one.part ∙ ap (after_told t) (take_all one.count x (omega arith)
            ∙ sym (take-append-le (length x) x y (omega arith) ∙ take_all (length x) x (omega arith)));
      }
      | inr le ↦
          record { count = one.count; part = one.part ∙ ap (after_told t) (sym (take-append-le one.count x y le)) }
    ]

-- ---- lines of many values

-- the lines before one value, its own and those behind it
lines_at : {A : Type 0} (line : A → List ℕ) (xs : List A) (i : ℕ) (x : A) → i < length xs → x ≡ slice_index_or xs i x
    → flat_map line (take (i + 1) xs) ≡ flat_map line (take i xs) ++ line x
lines_at line xs i x lt is =
    let next : i + 1 ≡ suc i = omega arith in
    let last : take (i + 1) xs ≡ take i xs ++ (x ∷ []) =
    ap (λ (n : ℕ). take n xs) next ∙ take-suc xs i x lt ∙ ap (λ y. take i xs ++ (y ∷ [])) (sym is) in
    ap (flat_map line) last ∙ flat_map-append line (take i xs) (x ∷ [])
    ∙ ap (λ (t : List ℕ). flat_map line (take i xs) ++ t) (append-nil (line x))

-- one line more
pub holds_line : {A : Type 0} (line : A → List ℕ) (before : List ℕ) (xs : List A) (i : ℕ) (x : A) (b c : List ℕ)
    (t u v : Option (List ℕ)) → i < length xs → x ≡ slice_index_or xs i x
    → Holds (before ++ flat_map line (take i xs)) t u b → Holds (b ++ line x) u v c
    → Holds (before ++ flat_map line (take (i + 1) xs)) t v c
holds_line line before xs i x b c t u v lt is one two =
    rw (lines_at line xs i x lt is) (holds_next before (flat_map line (take i xs)) (line x) b c t u v one two)

-- the same of an item behind a box
pub holds_item : {A : Type 0} (line : A → List ℕ) (before : List ℕ) (xs : List A) (i : ℕ) (x y : A) (b c : List ℕ)
    (t u v : Option (List ℕ)) → y ≡ x → i < length xs → x ≡ slice_index_or xs i x
    → Holds (before ++ flat_map line (take i xs)) t u b → Holds (b ++ line y) u v c
    → Holds (before ++ flat_map line (take (i + 1) xs)) t v c
holds_item {A = A} line before xs i x y b c t u v same lt is one two =
    holds_line line before xs i x b c t u v lt is one (subst (λ (z : A). Holds (b ++ line z) u v c) same two)

-- a front of one line more
pub said_line : {A : Type 0} (line : A → List ℕ) (before : List ℕ) (xs : List A) (i : ℕ) (x : A) (b : List ℕ)
    (t u v : Option (List ℕ)) → i < length xs → x ≡ slice_index_or xs i x
    → Holds (before ++ flat_map line (take i xs)) t u b → SaidPart (b ++ line x) u v
    → SaidPart (before ++ flat_map line xs) t v
said_line line before xs i x b t u v lt is one two =
    let front : SaidPart (before ++ flat_map line (take (i + 1) xs)) t v =
    rw (lines_at line xs i x lt is) (said_next before (flat_map line (take i xs)) (line x) b t u v one two) in
    let whole : (before ++ flat_map line (take (i + 1) xs)) ++ flat_map line (drop (i + 1) xs)
    ≡ before ++ flat_map line xs =
    append_assoc before (flat_map line (take (i + 1) xs)) (flat_map line (drop (i + 1) xs))
    ∙ ap (λ (s : List ℕ). before ++ s) (sym (flat_map-append line (take (i + 1) xs) (drop (i + 1) xs))
    ∙ ap (flat_map line) (take-append-drop (i + 1) xs)) in
    subst (λ (s : List ℕ). SaidPart s t v) whole
    (said_more (before ++ flat_map line (take (i + 1) xs)) (flat_map line (drop (i + 1) xs)) t v front)

-- ---- the last steps

pub said_in_front : (before x y : List ℕ) (t u : Option (List ℕ)) → SaidPart (before ++ x) t u
    → SaidPart (before ++ (x ++ y)) t u
said_in_front before x y t u one =
    subst (λ (s : List ℕ). SaidPart s t u) (append_assoc before x y) (said_more (before ++ x) y t u one)

-- ---- the lines of rows, each behind a mark

pub rows_held : (mark : List ℕ) (rows : RowLists) (princs : List Princ) (policies : List Rules) (before b c : List ℕ)
    (t u v : Option (List ℕ)) → princs ≡ rows.princs → policies ≡ rows.policies
    → Holds (before ++ flat_map (λ p. marked mark (princ_line p)) princs) t u b
    → Holds (b ++ flat_map (λ p. marked mark (policy_line p)) policies) u v c
    → Holds (before ++ marked_rows mark rows) t v c
unfolding marked_rows
rows_held mark rows princs policies before b c t u v first second one two =
    rw (← first, ← second) (holds_next before (flat_map (λ p. marked mark (princ_line p)) princs)
    (flat_map (λ p. marked mark (policy_line p)) policies) b c t u v one two)

pub rows_said : (mark : List ℕ) (rows : RowLists) (princs : List Princ) (policies : List Rules) (before b : List ℕ)
    (t u v : Option (List ℕ)) → princs ≡ rows.princs → policies ≡ rows.policies
    → Holds (before ++ flat_map (λ p. marked mark (princ_line p)) princs) t u b
    → SaidPart (b ++ flat_map (λ p. marked mark (policy_line p)) policies) u v
    → SaidPart (before ++ marked_rows mark rows) t v
unfolding marked_rows
rows_said mark rows princs policies before b t u v first second one two =
    rw (← first, ← second) (said_next before (flat_map (λ p. marked mark (princ_line p)) princs)
    (flat_map (λ p. marked mark (policy_line p)) policies) b t u v one two)

pub princs_said : (mark : List ℕ) (rows : RowLists) (princs : List Princ) (before : List ℕ) (t u : Option (List ℕ))
    → princs ≡ rows.princs
    → SaidPart (before ++ flat_map (λ p. marked mark (princ_line p)) princs) t u
    → SaidPart (before ++ marked_rows mark rows) t u
unfolding marked_rows
princs_said mark rows princs before t u first one =
    rw (← first) (said_in_front before (flat_map (λ p. marked mark (princ_line p)) princs)
    (flat_map (λ p. marked mark (policy_line p)) rows.policies) t u one)

pub end_said : (mark : List ℕ) (rows : RowLists) (count : ℕ) (before b : List ℕ) (t u v : Option (List ℕ))
    → count ≡ row_count rows
    → Holds (before ++ marked_rows mark rows) t u b → SaidPart (b ++ marked mark (end_line count)) u v
    → SaidPart (before ++ (marked_rows mark rows ++ marked mark (end_line (row_count rows)))) t v
end_said mark rows count before b t u v is one two =
    subst (λ (n : ℕ). SaidPart (before ++ (marked_rows mark rows ++ marked mark (end_line n))) t v) is
    (said_next before (marked_rows mark rows) (marked mark (end_line count)) b t u v one two)

-- the same of an item behind a box
pub said_item : {A : Type 0} (line : A → List ℕ) (before : List ℕ) (xs : List A) (i : ℕ) (x y : A) (b : List ℕ)
    (t u v : Option (List ℕ)) → y ≡ x → i < length xs → x ≡ slice_index_or xs i x
    → Holds (before ++ flat_map line (take i xs)) t u b → SaidPart (b ++ line y) u v
    → SaidPart (before ++ flat_map line xs) t v
said_item {A = A} line before xs i x y b t u v same lt is one two =
    said_line line before xs i x b t u v lt is one (subst (λ (z : A). SaidPart (b ++ line z) u v) same two)
