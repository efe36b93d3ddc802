-- The formats of entries agree both ways.
use Rattle.std.proofs.Common.{◌≡◌, ℕ, ◌^◌, ◌<◌, ◌≤◌, true, false, List, [], ◌++◌, length}
use Rattle.std.proofs.Common.{Option, Some, None, refl, sym, ap, subst, ◌∙◌, arith}
use Rattle.std.specs.Prelude.{nat_eq, nat_lt}
use Rattle.std.specs.Str.{bytes_eq}
use Rattle.std.proofs.lemmas.Bool.{eqb-true, ltb-true, lt-ltb}
use Rattle.std.proofs.lemmas.Bool.Decides.{Decides-eqb}
use Rattle.std.proofs.lemmas.List.{append-nil}
use Rattle.std.proofs.lemmas.Slice.Eq.{slice_eq-Decides}
use Rattle.kdb_base.specs.Limits.{longest_row}
use Rattle.kdb_base.specs.declared.moments.Point.{Point}
use Rattle.kdb_format.specs.Readings.{Reading, ◌>>=◌, ◌>>◌, done, checked, zeros_at}
use Rattle.kdb_format.specs.Spellings.{big, counted, zeros}
use Rattle.kdb_format.specs.Fields.{IsField}
use Rattle.kdb_format.specs.Laws.{same_field, first_field, then_field, last_field, made_field}
use Rattle.kdb_format.specs.Laws.{after_field, choice_field, refuse_field, done_field}
use Rattle.kdb_format.specs.Laws.{zeros_field, big_field, checked_field, counted_field}
use Rattle.kdb_format.specs.Moments.{point, point_field}
use Rattle.policy_rules.specs.Names.{is_policy_name}
use Rattle.policy_rules.specs.Rules.{Rules}
use Rattle.princ_record.specs.Policies.{IsPolicy}
use Rattle.princ_record.specs.PolicyLaws.{short_name, policy_short}
use Rattle.princ_name.specs.Printed.{is_printed, IsPrinted}
use Rattle.princ_name.specs.PrintedLaws.{printed_test, test_printed, printed_short}
use Rattle.princ_record.specs.RowLimits.{IsRow, row_at, policy_row_at}
use Rattle.princ_record.specs.RowLaws.{row_field, policy_row_field}
use Rattle.princ_record.specs.declared.princs.Princ.{Princ}
use Rattle.princ_rows.specs.declared.entries.Op.{Op}
use Rattle.princ_rows.specs.declared.entries.Op.TheVariants.{PutPrinc, DropPrinc, Rename, PutPolicy, DropPolicy}
use Rattle.princ_rows.specs.declared.entries.Entry.{Entry}
use Rattle.princ_rows.specs.declared.entries.Logged.{Logged}
use Rattle.princ_rows.specs.Entries.{kind_of, key_of, row_of, IsOp, base_at, put_at, drop_at, rename_at, put_policy_at}
use Rattle.princ_rows.specs.Entries.{drop_policy_at, op_of, op_text, logged_at, logged, IsLogged, sent_at, sent, IsSent}

-- ---- what an entry does, None at the base marker

pub same_bytes : (xs ys : List ℕ) → bytes_eq xs ys ≡ true → xs ≡ ys
same_bytes xs ys e = (slice_eq-Decides Decides-eqb xs ys (bytes_eq xs ys) refl).0 e

pub bytes_same : (xs ys : List ℕ) → xs ≡ ys → bytes_eq xs ys ≡ true
bytes_same xs ys e = (slice_eq-Decides Decides-eqb xs ys (bytes_eq xs ys) refl).1 e

pub key_short : (op : Option Op) → IsOp op → length (key_of op) ≤ 255
unfolding key_of
key_short None f = omega arith
key_short (Some (PutPrinc p)) f = printed_short p.name f.fits.name
key_short (Some (DropPrinc name)) f = printed_short name f
key_short (Some (Rename old p)) f = printed_short old f.0
key_short (Some (PutPolicy p)) f = let le = short_name p.name f.named in omega arith
key_short (Some (DropPolicy name)) f = let le = short_name name f in omega arith

pub row_short : (op : Option Op) → IsOp op → length (row_of op) ≤ longest_row
unfolding row_of
row_short None f = omega arith
row_short (Some (PutPrinc p)) f = f.short
row_short (Some (DropPrinc name)) f = omega arith
row_short (Some (Rename old p)) f = f.1.short
row_short (Some (PutPolicy p)) f = let le = policy_short p f in omega arith
row_short (Some (DropPolicy name)) f = omega arith

-- an operation of a kind
abbrev Is : ℕ → Option Op → Type 0
Is kind op = (kind_of op ≡ kind) × IsOp op

-- a put: the key, and the row of that name
put_from : (key : List ℕ) (op : Option Op) → (key_of op ≡ key) × Is 1 op
    → (p : Princ) × ((IsRow p × (bytes_eq p.name key ≡ true)) × (Some (PutPrinc p) ≡ op))
unfolding key_of
put_from key None f = absurd (omega (arith, f.1.0))
put_from key (Some (PutPrinc p)) f = (p, ((f.1.1, bytes_same p.name key f.0), refl))
put_from key (Some (DropPrinc name)) f = absurd (omega (arith, f.1.0))
put_from key (Some (Rename old p)) f = absurd (omega (arith, f.1.0))
put_from key (Some (PutPolicy p)) f = absurd (omega (arith, f.1.0))
put_from key (Some (DropPolicy name)) f = absurd (omega (arith, f.1.0))

put_field : IsField put_at op_text (Is 1)
unfolding op_text key_of row_of
put_field =
    let behind : (key : List ℕ) → length key < 2 ^ 16 → IsField (checked (λ p. bytes_eq p.name key) row_at
    >>= λ p. done (Some (PutPrinc p))) (λ op. counted (row_of op)) (λ op. (key_of op ≡ key) × Is 1 op) =
    λ key _. made_field (checked_field (λ p. bytes_eq p.name key) row_field) (λ (p : Princ). Some (PutPrinc p))
    (λ p f. (refl, (same_bytes p.name key f.1, (refl, f.0))))
    (λ op f. put_from key op f) in
    same_field (first_field counted_field key_of behind)
    (λ op f. (refl, f.1))
    (λ op f. let le = key_short op f.1 in (omega arith, f))

put_policy_from : (key : List ℕ) (op : Option Op) → (key_of op ≡ key) × Is 4 op
    → (p : Rules) × ((IsPolicy p × (bytes_eq p.name key ≡ true)) × (Some (PutPolicy p) ≡ op))
unfolding key_of
put_policy_from key None f = absurd (omega (arith, f.1.0))
put_policy_from key (Some (PutPrinc p)) f = absurd (omega (arith, f.1.0))
put_policy_from key (Some (DropPrinc name)) f = absurd (omega (arith, f.1.0))
put_policy_from key (Some (Rename old p)) f = absurd (omega (arith, f.1.0))
put_policy_from key (Some (PutPolicy p)) f = (p, ((f.1.1, bytes_same p.name key f.0), refl))
put_policy_from key (Some (DropPolicy name)) f = absurd (omega (arith, f.1.0))

put_policy_field : IsField put_policy_at op_text (Is 4)
unfolding op_text key_of row_of
put_policy_field =
    let behind : (key : List ℕ) → length key < 2 ^ 16 → IsField (checked (λ p. bytes_eq p.name key) policy_row_at
    >>= λ p. done (Some (PutPolicy p))) (λ op. counted (row_of op)) (λ op. (key_of op ≡ key) × Is 4 op) =
    λ key _. made_field (checked_field (λ p. bytes_eq p.name key) policy_row_field) (λ (p : Rules). Some (PutPolicy p))
    (λ p f. (refl, (same_bytes p.name key f.1, (refl, f.0))))
    (λ op f. put_policy_from key op f) in
    same_field (first_field counted_field key_of behind)
    (λ op f. (refl, f.1))
    (λ op f. let le = key_short op f.1 in (omega arith, f))

-- a rename: the old name, and the row under its new one
rename_from : (old : List ℕ) (op : Option Op) → (key_of op ≡ old) × Is 3 op
    → (p : Princ) × (IsRow p × (Some (Rename old p) ≡ op))
unfolding key_of
rename_from old None f = absurd (omega (arith, f.1.0))
rename_from old (Some (PutPrinc p)) f = absurd (omega (arith, f.1.0))
rename_from old (Some (DropPrinc name)) f = absurd (omega (arith, f.1.0))
rename_from old (Some (Rename was p)) f = (p, (f.1.1.1, ap (λ (n : List ℕ). Some (Rename n p)) (sym f.0)))
rename_from old (Some (PutPolicy p)) f = absurd (omega (arith, f.1.0))
rename_from old (Some (DropPolicy name)) f = absurd (omega (arith, f.1.0))

old_printed : (op : Option Op) → Is 3 op → IsPrinted (key_of op)
unfolding key_of
old_printed None f = absurd (omega (arith, f.0))
old_printed (Some (PutPrinc p)) f = absurd (omega (arith, f.0))
old_printed (Some (DropPrinc name)) f = absurd (omega (arith, f.0))
old_printed (Some (Rename old p)) f = f.1.0
old_printed (Some (PutPolicy p)) f = absurd (omega (arith, f.0))
old_printed (Some (DropPolicy name)) f = absurd (omega (arith, f.0))

rename_field : IsField rename_at op_text (Is 3)
unfolding op_text key_of row_of
rename_field =
    let behind : (old : List ℕ) → (length old < 2 ^ 16) × (is_printed old ≡ true) → IsField (row_at
    >>= λ p. done (Some (Rename old p))) (λ op. counted (row_of op)) (λ op. (key_of op ≡ old) × Is 3 op) =
    λ old g. made_field row_field (λ (p : Princ). Some (Rename old p))
    (λ p f. (refl, (refl, (refl, (test_printed old g.1, f)))))
    (λ op f. rename_from old op f) in
    same_field (first_field (checked_field is_printed counted_field) key_of behind)
    (λ op f. (refl, f.1))
    (λ op f. let le = key_short op f.1 in ((omega arith, printed_test (key_of op) (old_printed op f)), f))

-- a drop: the name, and an empty row
drop_is : (name : List ℕ) (op : Option Op) → (key_of op ≡ name) × Is 2 op → op ≡ Some (DropPrinc name)
unfolding key_of
drop_is name None f = absurd (omega (arith, f.1.0))
drop_is name (Some (PutPrinc p)) f = absurd (omega (arith, f.1.0))
drop_is name (Some (DropPrinc was)) f = ap (λ (n : List ℕ). Some (DropPrinc n)) f.0
drop_is name (Some (Rename old p)) f = absurd (omega (arith, f.1.0))
drop_is name (Some (PutPolicy p)) f = absurd (omega (arith, f.1.0))
drop_is name (Some (DropPolicy was)) f = absurd (omega (arith, f.1.0))

dropped_printed : (op : Option Op) → Is 2 op → IsPrinted (key_of op)
unfolding key_of
dropped_printed None f = absurd (omega (arith, f.0))
dropped_printed (Some (PutPrinc p)) f = absurd (omega (arith, f.0))
dropped_printed (Some (DropPrinc name)) f = f.1
dropped_printed (Some (Rename old p)) f = absurd (omega (arith, f.0))
dropped_printed (Some (PutPolicy p)) f = absurd (omega (arith, f.0))
dropped_printed (Some (DropPolicy name)) f = absurd (omega (arith, f.0))

no_row : counted [] ≡ zeros 2
unfolding counted zeros big
no_row = refl

dropped_row_of : (name : List ℕ) → IsPrinted name → (zeros 2 ++ [] ≡ counted (row_of (Some (DropPrinc name))))
    × ((key_of (Some (DropPrinc name)) ≡ name) × Is 2 (Some (DropPrinc name)))
unfolding key_of row_of
dropped_row_of name f = (append-nil (zeros 2) ∙ sym no_row, (refl, (refl, f)))

dropped_row : (name : List ℕ) (op : Option Op) → IsPrinted name → op ≡ Some (DropPrinc name)
    → (zeros 2 ++ [] ≡ counted (row_of op)) × ((key_of op ≡ name) × Is 2 op)
dropped_row name op f is =
    subst (λ (o : Option Op). (zeros 2 ++ [] ≡ counted (row_of o)) × ((key_of o ≡ name) × Is 2 o)) (sym is)
    (dropped_row_of name f)

drop_field : IsField drop_at op_text (Is 2)
unfolding op_text
drop_field =
    let dropped : List ℕ → Option Op = λ name. Some (DropPrinc name) in
    let behind : (name : List ℕ) → (length name < 2 ^ 16) × (is_printed name ≡ true)
    → IsField (zeros_at 2 >> done (dropped name)) (λ op. counted (row_of op)) (λ op. (key_of op ≡ name) × Is 2 op) =
    λ name g. same_field (after_field (zeros_field 2) tt (done_field (dropped name)))
    (λ op is. dropped_row name op (test_printed name g.1) is)
    (λ op f. drop_is name op f) in
    same_field (first_field (checked_field is_printed counted_field) key_of behind)
    (λ op f. (refl, f.1))
    (λ op f. let le = key_short op f.1 in ((omega arith, printed_test (key_of op) (dropped_printed op f)), f))

drop_policy_is : (name : List ℕ) (op : Option Op) → (key_of op ≡ name) × Is 5 op → op ≡ Some (DropPolicy name)
unfolding key_of
drop_policy_is name None f = absurd (omega (arith, f.1.0))
drop_policy_is name (Some (PutPrinc p)) f = absurd (omega (arith, f.1.0))
drop_policy_is name (Some (DropPrinc was)) f = absurd (omega (arith, f.1.0))
drop_policy_is name (Some (Rename old p)) f = absurd (omega (arith, f.1.0))
drop_policy_is name (Some (PutPolicy p)) f = absurd (omega (arith, f.1.0))
drop_policy_is name (Some (DropPolicy was)) f = ap (λ (n : List ℕ). Some (DropPolicy n)) f.0

dropped_policy_named : (op : Option Op) → Is 5 op → is_policy_name (key_of op) ≡ true
unfolding key_of
dropped_policy_named None f = absurd (omega (arith, f.0))
dropped_policy_named (Some (PutPrinc p)) f = absurd (omega (arith, f.0))
dropped_policy_named (Some (DropPrinc name)) f = absurd (omega (arith, f.0))
dropped_policy_named (Some (Rename old p)) f = absurd (omega (arith, f.0))
dropped_policy_named (Some (PutPolicy p)) f = absurd (omega (arith, f.0))
dropped_policy_named (Some (DropPolicy name)) f = f.1

dropped_policy_row_of : (name : List ℕ)
    → is_policy_name name ≡ true → (zeros 2 ++ [] ≡ counted (row_of (Some (DropPolicy name))))
    × ((key_of (Some (DropPolicy name)) ≡ name) × Is 5 (Some (DropPolicy name)))
unfolding key_of row_of
dropped_policy_row_of name f = (append-nil (zeros 2) ∙ sym no_row, (refl, (refl, f)))

dropped_policy_row : (name : List ℕ) (op : Option Op) → is_policy_name name ≡ true → op ≡ Some (DropPolicy name)
    → (zeros 2 ++ [] ≡ counted (row_of op)) × ((key_of op ≡ name) × Is 5 op)
dropped_policy_row name op f is =
    subst (λ (o : Option Op). (zeros 2 ++ [] ≡ counted (row_of o)) × ((key_of o ≡ name) × Is 5 o)) (sym is)
    (dropped_policy_row_of name f)

drop_policy_field : IsField drop_policy_at op_text (Is 5)
unfolding op_text
drop_policy_field =
    let dropped : List ℕ → Option Op = λ name. Some (DropPolicy name) in
    let behind : (name : List ℕ) → (length name < 2 ^ 16) × (is_policy_name name ≡ true)
    → IsField (zeros_at 2 >> done (dropped name)) (λ op. counted (row_of op)) (λ op. (key_of op ≡ name) × Is 5 op) =
    λ name g. same_field (after_field (zeros_field 2) tt (done_field (dropped name)))
    (λ op is. dropped_policy_row name op g.1 is)
    (λ op f. drop_policy_is name op f) in
    same_field (first_field (checked_field is_policy_name counted_field) key_of behind)
    (λ op f. (refl, f.1))
    (λ op f. let le = key_short op f.1 in ((omega arith, dropped_policy_named op f), f))

-- the base marker: an empty key and an empty row
base_is : (op : Option Op) → Is 0 op → op ≡ None
base_is None f = refl
base_is (Some (PutPrinc p)) f = absurd (omega (arith, f.0))
base_is (Some (DropPrinc name)) f = absurd (omega (arith, f.0))
base_is (Some (Rename old p)) f = absurd (omega (arith, f.0))
base_is (Some (PutPolicy p)) f = absurd (omega (arith, f.0))
base_is (Some (DropPolicy name)) f = absurd (omega (arith, f.0))

no_text : zeros 4 ++ [] ≡ op_text None
unfolding op_text key_of row_of counted zeros big
no_text = refl

base_row : (op : Option Op) → op ≡ None → (zeros 4 ++ [] ≡ op_text op) × Is 0 op
base_row op is = subst (λ (o : Option Op). (zeros 4 ++ [] ≡ op_text o) × Is 0 o) (sym is) (no_text, (refl, tt))

base_field : IsField base_at op_text (Is 0)
base_field =
    let none : Option Op = None in
    same_field (after_field (zeros_field 4) tt (done_field none))
    (λ op is. base_row op is)
    (λ op f. base_is op f)

other_kind : (op : Option Op) (kind : ℕ) → kind_of op ≡ kind → nat_eq kind 0 ≡ false → nat_eq kind 1 ≡ false
    → nat_eq kind 2 ≡ false → nat_eq kind 3 ≡ false → nat_eq kind 4 ≡ false → nat_eq kind 5 ≡ false → ⊥
other_kind None kind e a b c d f g = absurd cc
other_kind (Some (PutPrinc p)) kind e a b c d f g = absurd cc
other_kind (Some (DropPrinc name)) kind e a b c d f g = absurd cc
other_kind (Some (Rename old p)) kind e a b c d f g = absurd cc
other_kind (Some (PutPolicy p)) kind e a b c d f g = absurd cc
other_kind (Some (DropPolicy name)) kind e a b c d f g = absurd cc

-- the same, at a number that is known
at_kind : {read : Reading (Option Op)} (kind n : ℕ) → nat_eq kind n ≡ true → IsField read op_text (Is n)
    → IsField read op_text (Is kind)
at_kind kind n e field =
    same_field field (λ op f. (refl, (f.0 ∙ sym (eqb-true _ _ e), f.1))) (λ op f. (f.0 ∙ eqb-true _ _ e, f.1))

pub op_field : (kind : ℕ) → IsField (op_of kind) op_text (λ op. (kind_of op ≡ kind) × IsOp op)
unfolding op_of
op_field kind =
    choice_field (nat_eq kind 0) (λ e. at_kind kind 0 e base_field) (λ a.
    choice_field (nat_eq kind 1) (λ e. at_kind kind 1 e put_field) (λ b.
    choice_field (nat_eq kind 2) (λ e. at_kind kind 2 e drop_field) (λ c.
    choice_field (nat_eq kind 3) (λ e. at_kind kind 3 e rename_field) (λ d.
    choice_field (nat_eq kind 4) (λ e. at_kind kind 4 e put_policy_field) (λ f.
    choice_field (nat_eq kind 5) (λ e. at_kind kind 5 e drop_policy_field) (λ g.
    refuse_field (λ op h. other_kind op kind h.0 a b c d f g)))))))

-- ---- entries

small_kind : (op : Option Op) → kind_of op < 256 ^ 1
small_kind None = omega arith
small_kind (Some (PutPrinc p)) = omega arith
small_kind (Some (DropPrinc name)) = omega arith
small_kind (Some (Rename old p)) = omega arith
small_kind (Some (PutPolicy p)) = omega arith
small_kind (Some (DropPolicy name)) = omega arith

same_entry : (e : Entry) (p : Point) → e.point ≡ p → ◌≡◌ {A = Entry} (record { point = p; op = e.op }) e
same_entry e p a = rw (← a) refl

-- what stands behind the point and the kind
made_entry : (point : Point) (kind : ℕ) → IsField (op_of kind >>= λ op. done (record { point = point; op = op }))
    (λ (e : Entry). op_text e.op) (λ e. ((kind_of e.op ≡ kind) × (e.point ≡ point)) × IsOp e.op)
made_entry point kind = same_field
    (last_field {K = λ (e : Entry). e.point ≡ point} (op_field kind) (λ (e : Entry). e.op)
    (λ op. record { point = point; op = op }) (λ _ _. (refl, refl)) (λ e k. same_entry e point k))
    (λ e f. (refl, ((f.1.0, f.0), f.1.1)))
    (λ e f. (f.0.1, (f.0.0, f.1)))

same_logged : (l : Logged) (p : Point) (cell : ℕ) → l.entry.point ≡ p → l.cell ≡ cell
    → ◌≡◌ {A = Logged} (record { entry = record { point = p; op = l.entry.op }; cell = cell }) l
same_logged l p cell a b = rw (← a, ← b) refl

-- what stands behind the point, the kind and the unit
made_logged : (point : Point) (kind cell : ℕ) → IsField (op_of kind >>= λ op.
    done (record { entry = record { point = point; op = op }; cell = cell })) (λ (l : Logged). op_text l.entry.op)
    (λ l. ((l.cell ≡ cell) × ((kind_of l.entry.op ≡ kind) × (l.entry.point ≡ point))) × IsOp l.entry.op)
made_logged point kind cell = same_field
    (last_field {K = λ (l : Logged). (l.entry.point ≡ point) × (l.cell ≡ cell)} (op_field kind)
    (λ (l : Logged). l.entry.op) (λ op. record { entry = record { point = point; op = op }; cell = cell })
    (λ _ _. (refl, (refl, refl))) (λ l k. same_logged l point cell k.0 k.1))
    (λ l f. (refl, ((f.0.1, (f.1.0, f.0.0)), f.1.1)))
    (λ l f. ((f.0.1.1, f.0.0), (f.0.1.0, f.1)))

pub logged_field : IsField logged_at logged IsLogged
unfolding logged_at logged
logged_field = same_field
    (first_field point_field (λ (l : Logged). l.entry.point) (λ point _.
    then_field {K = λ (l : Logged). l.entry.point ≡ point} (big_field 1) (λ (l : Logged). kind_of l.entry.op) (λ kind _.
    then_field {K = λ (l : Logged). (kind_of l.entry.op ≡ kind) × (l.entry.point ≡ point)} (big_field 4)
    (λ (l : Logged). l.cell) (λ cell _.
    made_logged point kind cell))))
    (λ l f. (refl, record { point = f.0; cell = f.1.1.0; op = f.1.1.1 }))
    (λ l f. (f.point, (small_kind l.entry.op, (f.cell, f.op))))

pub sent_field : IsField sent_at sent IsSent
unfolding sent_at sent
sent_field = same_field
    (first_field point_field (λ (e : Entry). e.point) (λ point _.
    then_field {K = λ (e : Entry). e.point ≡ point} (checked_field (nat_lt 0) (big_field 1))
    (λ (e : Entry). kind_of e.op) (λ kind _.
    made_entry point kind)))
    (λ e f. (refl, record { point = f.0; change = ltb-true _ _ f.1.0.1; op = f.1.1 }))
    (λ e f. (f.point, ((small_kind e.op, lt-ltb _ _ f.change), f.op)))
