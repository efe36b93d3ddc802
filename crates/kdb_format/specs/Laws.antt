-- The laws of each field, and of fields that are put together.
use Rattle.std.proofs.Common.{◌≡◌, ℕ, zero, suc, ◌+◌, ◌-◌, ◌^◌, ◌<◌, ◌≤◌, Bool, true, false, cond}
use Rattle.std.proofs.Common.{◌&&◌, ltb, eqb, List, [], ◌∷◌, ◌++◌, length, take, drop, Option}
use Rattle.std.proofs.Common.{Some, None, refl, sym, ap, subst, ◌∙◌, append_assoc, arith}
use Rattle.std.specs.Prelude.{option_and_then}
use Rattle.std.specs.List.{flat_map, list_all, All, AllByRecursion}
use Rattle.std.proofs.lemmas.List.Elements.{All-from_recursion, recursion_from_All}
use Rattle.std.specs.Str.{bytes_eq}
use Rattle.std.proofs.Math.Dec.{eqb-suc-zero}
use Rattle.std.proofs.lemmas.Bool.{eqb-true, false≢true, ltb-false, le-ltb}
use Rattle.std.proofs.lemmas.Bool.Decides.{Decides-eqb}
use Rattle.std.proofs.lemmas.List.{append-nil, length-append, length-take, length-replicate}
use Rattle.std.proofs.lemmas.List.{nil_from_length, take_all, take_at, drop_at, take-append-drop}
use Rattle.std.proofs.lemmas.Option.{same_Some, cond_some}
use Rattle.std.proofs.lemmas.Slice.Eq.{slice_eq-Decides}
use Rattle.byteorder.specs.Endian.{big_number, little_number}
use Rattle.byteorder.specs.Numbers.{big_from-lt, little_from-lt}
use Rattle.kdb_format.specs.Readings.{Reading, ◌>>=◌, ◌>>◌, done, guard, big_at, little_at}
use Rattle.kdb_format.specs.Readings.{bytes_at, counted_at, literal_at, zeros_at, checked, list_at}
use Rattle.kdb_format.specs.Readings.{counted_list_at, whole, inside, padded, known, refuse}
use Rattle.kdb_format.specs.Spellings.{big, little, counted, counted_list, zeros}
use Rattle.kdb_format.specs.Fields.{IsBytes, IsBytes-front, IsField, rest_fits}
use Rattle.kdb_format.specs.Numbers.{big-big_number, big_number-big, length-big, length-little}
use Rattle.kdb_format.specs.Numbers.{little-little_number, little_number-little}

-- ---- steps of a reading that did not fail

pub bind_some : {A B : Type 0} (f : A → Option B) (o : Option A) (y : B) → option_and_then f o ≡ Some y
    → (x : A) × (o ≡ Some x) × (f x ≡ Some y)
bind_some f None y e = absurd cc
bind_some f (Some x) y e = (x, refl, e)

pub guard_some : {A : Type 0} (b : Bool) (x y : A) → cond b None (Some x) ≡ Some y → (b ≡ false) × (x ≡ y)
guard_some true x y e = absurd cc
guard_some false x y e = (refl, cc)

-- what the parts of a pair spell
at_pair : {A : Type 0} (P : A → List ℕ → Type 0) (x y : A) (xs ys : List ℕ)
    → ◌≡◌ {A = Option (A × List ℕ)} (Some (x, xs)) (Some (y, ys)) → P x xs → P y ys
at_pair {A = A} P x y xs ys e p = subst (λ (z : A × List ℕ). P z.0 z.1) (same_Some (x, xs) (y, ys) e) p

-- ---- the fields

-- no bytes: the value is known
pub done_field : {A : Type 0} (x : A) → IsField (done x) (λ _. []) (λ y. y ≡ x)
done_field {A = A} x = record {
  spelled = λ bytes y rest fits e. at_pair (λ (_ : A) (r : List ℕ). bytes ≡ r) x y bytes rest e refl;
  fits = λ bytes y rest fits e. at_pair (λ (z : A) (_ : List ℕ). z ≡ x) x y bytes rest e refl;
  again = λ y rest fits. ap (λ (z : A). Some (z, rest)) (sym fits);
}

-- n bytes
pub bytes_field : (n : ℕ) → IsField (bytes_at n) (λ xs. xs) (λ xs. length xs ≡ n)
unfolding bytes_at
bytes_field n = record {
  spelled = λ bytes x rest fits e.
      let g = guard_some (ltb (length bytes) n) (take n bytes, drop n bytes) (x, rest) e in
      subst (λ (z : List ℕ × List ℕ). bytes ≡ z.0 ++ z.1) g.1 (sym (take-append-drop n bytes));
  fits = λ bytes x rest fits e.
      let g = guard_some (ltb (length bytes) n) (take n bytes, drop n bytes) (x, rest) e in
      let long : n ≤ length bytes = ltb-false _ _ g.0 in
      subst (λ (z : List ℕ × List ℕ). length z.0 ≡ n) g.1 (omega (arith, length-take n bytes));
  again = λ x rest len.
      let long : ltb (length (x ++ rest)) n ≡ false = le-ltb _ _ (omega (arith, length-append x rest)) in
      rw (long, take_at x rest n len, drop_at x rest n len) refl;
}

-- a way to spell numbers in n bytes
record Spells (n : ℕ) (read : List ℕ → ℕ) (spelling : ℕ → List ℕ) : Type 0 where
  back : (bytes : List ℕ) → IsBytes bytes → length bytes ≡ n → spelling (read bytes) ≡ bytes
  below : (bytes : List ℕ) → IsBytes bytes → read bytes < 256 ^ n
  len : (x : ℕ) → length (spelling x) ≡ n
  again : (x : ℕ) → x < 256 ^ n → read (spelling x) ≡ x

number_field : (n : ℕ) (read : List ℕ → ℕ) (spelling : ℕ → List ℕ) → Spells n read spelling
    → IsField (bytes_at n >>= λ bytes. done (read bytes)) spelling (λ x. x < 256 ^ n)
number_field n read spelling spells = record {
  spelled = λ bytes x rest fits e.
      let a = bind_some (λ (y : List ℕ × List ℕ). done (read y.0) y.1) (bytes_at n bytes) (x, rest) e in
      let parts = (bytes_field n).spelled bytes a.0.0 a.0.1 fits a.1 in
      let len = (bytes_field n).fits bytes a.0.0 a.0.1 fits a.1 in
      let back = spells.back a.0.0 (IsBytes-front a.0.0 a.0.1 (subst IsBytes parts fits)) len in
      at_pair (λ (z : ℕ) (r : List ℕ). bytes ≡ spelling z ++ r) (read a.0.0) x a.0.1 rest a.2
      (parts ∙ ap (λ (b : List ℕ). b ++ a.0.1) (sym back));
  fits = λ bytes x rest fits e.
      let a = bind_some (λ (y : List ℕ × List ℕ). done (read y.0) y.1) (bytes_at n bytes) (x, rest) e in
      let parts = (bytes_field n).spelled bytes a.0.0 a.0.1 fits a.1 in
      at_pair (λ (z : ℕ) (_ : List ℕ). z < 256 ^ n) (read a.0.0) x a.0.1 rest a.2
      (spells.below a.0.0 (IsBytes-front a.0.0 a.0.1 (subst IsBytes parts fits)));
  again = λ x rest lt.
      ap (λ (o : Option (List ℕ × List ℕ)). option_and_then (λ (y : List ℕ × List ℕ). done (read y.0) y.1) o)
      ((bytes_field n).again (spelling x) rest (spells.len x))
      ∙ ap (λ (z : ℕ). Some (z, rest)) (spells.again x lt);
}

-- a number in n bytes, the highest first
pub big_field : (n : ℕ) → IsField (big_at n) (big n) (λ x. x < 256 ^ n)
unfolding big_at
big_field n = number_field n (big_number n) (big n) (record {
  back = λ bytes fits len. big-big_number n bytes fits (omega arith) ∙ take_all n bytes (omega arith);
  below = λ bytes fits. big_from-lt 0 n bytes fits;
  len = λ x. length-big n x;
  again = λ x lt. big_number-big n x lt;
})

-- a number in n bytes, the lowest first
pub little_field : (n : ℕ) → IsField (little_at n) (little n) (λ x. x < 256 ^ n)
unfolding little_at
little_field n = number_field n (little_number n) (little n) (record {
  back = λ bytes fits len. little-little_number n bytes fits (omega arith) ∙ take_all n bytes (omega arith);
  below = λ bytes fits. little_from-lt 0 n bytes fits;
  len = λ x. length-little n x;
  again = λ x lt. little_number-little n x lt;
})

-- these bytes
pub literal_field : (text : List ℕ) → IsField (literal_at text) (λ _. text) (λ _. Unit {0})
unfolding literal_at
literal_field text = record {
  spelled = λ bytes x rest fits e.
      let g = cond_some (bytes_eq (take (length text) bytes) text) (tt, drop (length text) bytes) (x, rest) e in
      let front : take (length text) bytes ≡ text =
      (slice_eq-Decides Decides-eqb (take (length text) bytes) text
      (bytes_eq (take (length text) bytes) text) refl).0 g.0 in
      let parts : bytes ≡ text ++ drop (length text) bytes =
      sym (take-append-drop (length text) bytes) ∙ ap (λ (b : List ℕ). b ++ drop (length text) bytes) front in
      subst (λ (z : Unit {0} × List ℕ). bytes ≡ text ++ z.1) g.1 parts;
  fits = λ bytes x rest fits e. tt;
  again = λ x rest _.
      let same : bytes_eq (take (length text) (text ++ rest)) text ≡ true =
      (slice_eq-Decides Decides-eqb (take (length text) (text ++ rest)) text
      (bytes_eq (take (length text) (text ++ rest)) text) refl).1 (take_at text rest (length text) refl) in
      rw (same, drop_at text rest (length text) refl) refl;
}

-- ---- fields put together

-- the same reading, by another name of its spelling and of what fits
pub same_field : {A : Type 0} {read : Reading A} {s t : A → List ℕ} {F G : A → Type 0} → IsField read s F
    → ((x : A) → F x → (s x ≡ t x) × G x) → ((x : A) → G x → F x) → IsField read t G
same_field {read = read} {s = s} {t = t} field to from = record {
  spelled = λ bytes x rest fits e. field.spelled bytes x rest fits e
      ∙ ap (λ (b : List ℕ). b ++ rest) (to x (field.fits bytes x rest fits e)).0;
  fits = λ bytes x rest fits e. (to x (field.fits bytes x rest fits e)).1;
  again = λ x rest g. ap (λ (b : List ℕ). read (b ++ rest)) (sym (to x (from x g)).0) ∙ field.again x rest (from x g);
}

-- One field, and the next ones. The part of the value that the first field gave is found in the value by `part`, and K
-- says what is known of it before.
pub then_field : {X Y : Type 0} {first : Reading X} {next : X → Reading Y} {s1 : X → List ℕ} {s2 : Y → List ℕ}
    {F1 : X → Type 0} {K F2 : Y → Type 0}
    → IsField first s1 F1 → (part : Y → X)
    → ((x : X) → F1 x → IsField (next x) s2 (λ y. ((part y ≡ x) × K y) × F2 y))
    → IsField (first >>= next) (λ y. s1 (part y) ++ s2 y) (λ y. K y × (F1 (part y) × F2 y))
then_field {X = X} {Y = Y} {first = first} {next = next} {s1 = s1} {s2 = s2} {F1 = F1} {K = K} {F2 = F2} one part two =
    record {
      spelled = λ bytes y rest fits e.
          let a = bind_some (λ (x : X × List ℕ). next x.0 x.1) (first bytes) (y, rest) e in
          let f1 = one.fits bytes a.0.0 a.0.1 fits a.1 in
          let left = rest_fits one bytes a.0.0 a.0.1 fits a.1 in
          let known = (two a.0.0 f1).fits a.0.1 y rest left a.2 in
          one.spelled bytes a.0.0 a.0.1 fits a.1
          ∙ ap (λ (b : List ℕ). s1 a.0.0 ++ b) ((two a.0.0 f1).spelled a.0.1 y rest left a.2)
          ∙ sym (append_assoc (s1 a.0.0) (s2 y) rest) ∙ ap (λ (x : X). (s1 x ++ s2 y) ++ rest) (sym known.0.0);
      fits = λ bytes y rest fits e.
          let a = bind_some (λ (x : X × List ℕ). next x.0 x.1) (first bytes) (y, rest) e in
          let f1 = one.fits bytes a.0.0 a.0.1 fits a.1 in
          let left = rest_fits one bytes a.0.0 a.0.1 fits a.1 in
          let known = (two a.0.0 f1).fits a.0.1 y rest left a.2 in
          (known.0.1, (subst F1 (sym known.0.0) f1, known.1));
      again = λ y rest f.
          ap (λ (b : List ℕ). option_and_then (λ (x : X × List ℕ). next x.0 x.1) (first b))
          (append_assoc (s1 (part y)) (s2 y) rest)
          ∙ ap (λ (o : Option (X × List ℕ)). option_and_then (λ (x : X × List ℕ). next x.0 x.1) o)
          (one.again (part y) (s2 y ++ rest) f.1.0)
          ∙ (two (part y) f.1.0).again y rest ((refl, f.0), f.1.1);
    }

-- the last field of a value, which is made of what the fields gave
pub last_field : {X Y : Type 0} {first : Reading X} {s : X → List ℕ} {F : X → Type 0} {K : Y → Type 0}
    → IsField first s F → (part : Y → X) (make : X → Y) → ((x : X) → F x → (part (make x) ≡ x) × K (make x))
    → ((y : Y) → K y → make (part y) ≡ y)
    → IsField (first >>= λ x. done (make x)) (λ y. s (part y)) (λ y. K y × F (part y))
last_field {X = X} {Y = Y} {first = first} {s = s} {F = F} {K = K} field part make made unique = record {
  spelled = λ bytes y rest fits e.
      let a = bind_some (λ (x : X × List ℕ). done (make x.0) x.1) (first bytes) (y, rest) e in
      let known = made a.0.0 (field.fits bytes a.0.0 a.0.1 fits a.1) in
      at_pair (λ (z : Y) (r : List ℕ). bytes ≡ s (part z) ++ r) (make a.0.0) y a.0.1 rest a.2
      (field.spelled bytes a.0.0 a.0.1 fits a.1 ∙ ap (λ (x : X). s x ++ a.0.1) (sym known.0));
  fits = λ bytes y rest fits e.
      let a = bind_some (λ (x : X × List ℕ). done (make x.0) x.1) (first bytes) (y, rest) e in
      let known = made a.0.0 (field.fits bytes a.0.0 a.0.1 fits a.1) in
      at_pair (λ (z : Y) (r : List ℕ). K z × F (part z)) (make a.0.0) y a.0.1 rest a.2
      (known.1, subst F (sym known.0) (field.fits bytes a.0.0 a.0.1 fits a.1));
  again = λ y rest f.
      ap (λ (o : Option (X × List ℕ)). option_and_then (λ (x : X × List ℕ). done (make x.0) x.1) o)
      (field.again (part y) rest f.1)
      ∙ ap (λ (z : Y). Some (z, rest)) (unique y f.0);
}

-- A value that is made of what a field gave, as a variant is of its fields: `from` says of what.
pub made_field : {X Y : Type 0} {read : Reading X} {s : X → List ℕ} {t : Y → List ℕ} {F : X → Type 0} {G : Y → Type 0}
    → IsField read s F → (make : X → Y) → ((x : X) → F x → (s x ≡ t (make x)) × G (make x))
    → (from : (y : Y) → G y → (x : X) × (F x × (make x ≡ y)))
    → IsField (read >>= λ x. done (make x)) t G
made_field {X = X} {Y = Y} {read = read} {s = s} {t = t} {F = F} {G = G} field make made from = record {
  spelled = λ bytes y rest fits e.
      let a = bind_some (λ (x : X × List ℕ). done (make x.0) x.1) (read bytes) (y, rest) e in
      let m = made a.0.0 (field.fits bytes a.0.0 a.0.1 fits a.1) in
      at_pair (λ (z : Y) (r : List ℕ). bytes ≡ t z ++ r) (make a.0.0) y a.0.1 rest a.2
      (field.spelled bytes a.0.0 a.0.1 fits a.1 ∙ ap (λ (b : List ℕ). b ++ a.0.1) m.0);
  fits = λ bytes y rest fits e.
      let a = bind_some (λ (x : X × List ℕ). done (make x.0) x.1) (read bytes) (y, rest) e in
      let m = made a.0.0 (field.fits bytes a.0.0 a.0.1 fits a.1) in
      at_pair (λ (z : Y) (_ : List ℕ). G z) (make a.0.0) y a.0.1 rest a.2 m.1;
  again = λ y rest g.
      let x = from y g in
      let text : t y ≡ s x.0 = ap t (sym x.1.1) ∙ sym (made x.0 x.1.0).0 in
      ap (λ (b : List ℕ). option_and_then (λ (z : X × List ℕ). done (make z.0) z.1) (read (b ++ rest))) text
      ∙ ap (λ (o : Option (X × List ℕ)). option_and_then (λ (z : X × List ℕ). done (make z.0) z.1) o)
      (field.again x.0 rest x.1.0)
      ∙ ap (λ (z : Y). Some (z, rest)) x.1.1;
}

-- bytes that have no value, and then a field
pub after_field : {Y : Type 0} {first : Reading (Unit {0})} {next : Reading Y} {s1 : Unit {0} → List ℕ}
    {s2 : Y → List ℕ} {F1 : Unit {0} → Type 0} {F2 : Y → Type 0}
    → IsField first s1 F1 → F1 tt → IsField next s2 F2 → IsField (first >> next) (λ y. s1 tt ++ s2 y) F2
after_field {Y = Y} {first = first} {next = next} {s1 = s1} {s2 = s2} one here two = record {
  spelled = λ bytes y rest fits e.
      let a = bind_some (λ (x : Unit {0} × List ℕ). next x.1) (first bytes) (y, rest) e in
      let left = rest_fits one bytes tt a.0.1 fits a.1 in
      one.spelled bytes tt a.0.1 fits a.1 ∙ ap (λ (b : List ℕ). s1 tt ++ b) (two.spelled a.0.1 y rest left a.2)
      ∙ sym (append_assoc (s1 tt) (s2 y) rest);
  fits = λ bytes y rest fits e.
      let a = bind_some (λ (x : Unit {0} × List ℕ). next x.1) (first bytes) (y, rest) e in
      let left = rest_fits one bytes tt a.0.1 fits a.1 in
      two.fits a.0.1 y rest left a.2;
  again = λ y rest f.
      ap (λ (b : List ℕ). option_and_then (λ (x : Unit {0} × List ℕ). next x.1) (first b))
      (append_assoc (s1 tt) (s2 y) rest)
      ∙ ap (λ (o : Option (Unit {0} × List ℕ)). option_and_then (λ (x : Unit {0} × List ℕ). next x.1) o)
      (one.again tt (s2 y ++ rest) here)
      ∙ two.again y rest f;
}

-- a test, and then a field
pub guard_field : {Y : Type 0} {next : Reading Y} {s : Y → List ℕ} {F : Y → Type 0} (test : Bool)
    → (test ≡ true → IsField next s F) → IsField (guard test >> next) s (λ y. (test ≡ true) × F y)
guard_field true field = record {
  spelled = λ bytes y rest fits e. (field refl).spelled bytes y rest fits e;
  fits = λ bytes y rest fits e. (refl, (field refl).fits bytes y rest fits e);
  again = λ y rest f. (field refl).again y rest f.1;
}
guard_field false field = record {
  spelled = λ bytes y rest fits e. absurd cc;
  fits = λ bytes y rest fits e. absurd cc;
  again = λ y rest f. absurd cc;
}

-- a field whose value passes a test
pub checked_field : {X : Type 0} {read : Reading X} {s : X → List ℕ} {F : X → Type 0} (test : X → Bool)
    → IsField read s F → IsField (checked test read) s (λ x. F x × (test x ≡ true))
unfolding checked
checked_field {X = X} {read = read} {s = s} {F = F} test field = record {
  spelled = λ bytes x rest fits e.
      let a = bind_some (λ (y : X × List ℕ). cond (test y.0) (Some y) None) (read bytes) (x, rest) e in
      let g = cond_some (test a.0.0) a.0 (x, rest) a.2 in
      subst (λ (y : X × List ℕ). bytes ≡ s y.0 ++ y.1) g.1 (field.spelled bytes a.0.0 a.0.1 fits a.1);
  fits = λ bytes x rest fits e.
      let a = bind_some (λ (y : X × List ℕ). cond (test y.0) (Some y) None) (read bytes) (x, rest) e in
      let g = cond_some (test a.0.0) a.0 (x, rest) a.2 in
      subst (λ (y : X × List ℕ). F y.0 × (test y.0 ≡ true)) g.1 (field.fits bytes a.0.0 a.0.1 fits a.1, g.0);
  again = λ x rest f.
      ap (λ (o : Option (X × List ℕ)). option_and_then (λ (y : X × List ℕ). cond (test y.0) (Some y) None) o)
      (field.again x rest f.0)
      ∙ ap (λ (b : Bool). cond b (Some (x, rest)) None) f.1;
}

-- The first field of a value, which `part` finds again in it. The next ones may depend on it, as on a length, a count
-- or a kind.
pub first_field : {X Y : Type 0} {first : Reading X} {next : X → Reading Y} {s1 : X → List ℕ} {s2 : Y → List ℕ}
    {F1 : X → Type 0} {F2 : Y → Type 0}
    → IsField first s1 F1 → (part : Y → X) → ((x : X) → F1 x → IsField (next x) s2 (λ y. (part y ≡ x) × F2 y))
    → IsField (first >>= next) (λ y. s1 (part y) ++ s2 y) (λ y. F1 (part y) × F2 y)
first_field {X = X} {Y = Y} {next = next} {s2 = s2} {F1 = F1} {F2 = F2} one part two =
    let K : Y → Type 0 = λ _. Unit {0} in
    let inner : (x : X) → F1 x → IsField (next x) s2 (λ y. ((part y ≡ x) × K y) × F2 y) =
    λ x f. same_field (two x f) (λ y g. (refl, ((g.0, tt), g.1))) (λ y g. (g.0.0, g.1)) in
    same_field (then_field {K = K} one part inner) (λ y f. (refl, f.1)) (λ y f. (tt, f))

-- two bytes of length, and that many bytes
pub counted_field : IsField counted_at counted (λ xs. length xs < 2 ^ 16)
unfolding counted_at counted
counted_field =
    let text : (n : ℕ) → n < 2 ^ 16 → IsField (bytes_at n) (λ xs. xs) (λ xs. (length xs ≡ n) × Unit {0}) =
    λ n lt. same_field (bytes_field n) (λ xs e. (refl, (e, tt))) (λ xs f. f.0) in
    same_field (first_field (big_field 2) (length {A = ℕ}) text) (λ xs f. (refl, f.0)) (λ xs lt. (lt, tt))

-- n zero bytes
all_zero : (xs : List ℕ) → list_all (λ b. eqb b 0) xs ≡ true → xs ≡ zeros (length xs)
unfolding zeros
all_zero [] e = refl
all_zero (zero ∷ xs) e = ap (λ (ys : List ℕ). 0 ∷ ys) (all_zero xs e)
all_zero (suc x ∷ xs) e =
    absurd (false≢true (sym (ap (λ (b : Bool). b && list_all (λ c. eqb c 0) xs) (eqb-suc-zero x)) ∙ e))

zeros_pass : (n : ℕ) → list_all (λ b. eqb b 0) (zeros n) ≡ true
unfolding zeros
zeros_pass zero = refl
zeros_pass (suc n) = zeros_pass n

pub zeros_field : (n : ℕ) → IsField (zeros_at n) (λ _. zeros n) (λ _. Unit {0})
unfolding zeros_at zeros
zeros_field n = record {
  spelled = λ bytes x rest fits e.
      let a =
      bind_some (λ (y : List ℕ × List ℕ). guard (list_all (λ b. eqb b 0) y.0) y.1) (bytes_at n bytes) (x, rest) e in
      let g = cond_some (list_all (λ b. eqb b 0) a.0.0) (tt, a.0.1) (x, rest) a.2 in
      let len = (bytes_field n).fits bytes a.0.0 a.0.1 fits a.1 in
      let text : a.0.0 ≡ zeros n = all_zero a.0.0 g.0 ∙ ap zeros len in
      let parts : bytes ≡ zeros n ++ a.0.1 =
      (bytes_field n).spelled bytes a.0.0 a.0.1 fits a.1 ∙ ap (λ (b : List ℕ). b ++ a.0.1) text in
      subst (λ (z : Unit {0} × List ℕ). bytes ≡ zeros n ++ z.1) g.1 parts;
  fits = λ bytes x rest fits e. tt;
  again = λ x rest _.
      ap (λ (o : Option (List ℕ × List ℕ)).
      option_and_then (λ (y : List ℕ × List ℕ). guard (list_all (λ b. eqb b 0) y.0) y.1) o)
      ((bytes_field n).again (zeros n) rest (length-replicate n 0))
      ∙ ap (λ (b : Bool). cond b (Some (tt, rest)) None) (zeros_pass n);
}

items_taken : {A : Type 0} {item : Reading A} {s : A → List ℕ} {F : A → Type 0} → IsField item s F
    → (n : ℕ) (bytes : List ℕ) (x : List A × List ℕ) → IsBytes bytes
    → list_at item n bytes ≡ Some x → (bytes ≡ flat_map s x.0 ++ x.1) × ((length x.0 ≡ n) × AllByRecursion F x.0)
unfolding list_at
items_taken {A = A} {s = s} {F = F} field zero bytes x fits e =
    subst (λ (z : List A × List ℕ). (bytes ≡ flat_map s z.0 ++ z.1) × ((length z.0 ≡ 0) × AllByRecursion F z.0))
    (same_Some ([], bytes) x e) (refl, (refl, tt))
items_taken {A = A} {item = item} {s = s} {F = F} field (suc n) bytes x fits e =
    let a = bind_some (λ (y : A × List ℕ).
    option_and_then (λ (ys : List A × List ℕ). Some (y.0 ∷ ys.0, ys.1)) (list_at item n y.1)) (item bytes) x e in
    let b = bind_some (λ (ys : List A × List ℕ). Some (a.0.0 ∷ ys.0, ys.1)) (list_at item n a.0.1) x a.2 in
    let left = rest_fits field bytes a.0.0 a.0.1 fits a.1 in
    let others = items_taken field n a.0.1 b.0 left b.1 in
    let parts : bytes ≡ flat_map s (a.0.0 ∷ b.0.0) ++ b.0.1 =
    field.spelled bytes a.0.0 a.0.1 fits a.1 ∙ ap (λ (t : List ℕ). s a.0.0 ++ t) others.0
    ∙ sym (append_assoc (s a.0.0) (flat_map s b.0.0) b.0.1) in
    let made : List A × List ℕ = (a.0.0 ∷ b.0.0, b.0.1) in
    subst (λ (z : List A × List ℕ). (bytes ≡ flat_map s z.0 ++ z.1) × ((length z.0 ≡ suc n) × AllByRecursion F z.0))
    (same_Some made x b.2)
    (parts, (ap suc others.1.0, (field.fits bytes a.0.0 a.0.1 fits a.1, others.1.1)))

items_again : {A : Type 0} {item : Reading A} {s : A → List ℕ} {F : A → Type 0} → IsField item s F
    → (xs : List A) (rest : List ℕ) → AllByRecursion F xs
    → list_at item (length xs) (flat_map s xs ++ rest) ≡ Some (xs, rest)
unfolding list_at
items_again field [] rest f = refl
items_again {A = A} {item = item} {s = s} field (x ∷ xs) rest f =
    ap (λ (b : List ℕ). option_and_then (λ (y : A × List ℕ). option_and_then (λ (ys : List A × List ℕ). Some (
      y.0 ∷ ys.0,
      ys.1,
    )) (list_at item (length xs) y.1)) (item b)) (append_assoc (s x) (flat_map s xs) rest)
    ∙ ap (λ (o : Option (A × List ℕ)). option_and_then (λ (y : A × List ℕ). option_and_then (λ (ys : List A × List ℕ).
    Some (y.0 ∷ ys.0, ys.1)) (list_at item (length xs) y.1)) o) (field.again x (flat_map s xs ++ rest) f.0)
    ∙ ap (λ (o : Option (List A × List ℕ)). option_and_then (λ (ys : List A × List ℕ). Some (x ∷ ys.0, ys.1)) o)
    (items_again field xs rest f.1)

-- n items
pub list_field : {A : Type 0} {item : Reading A} {s : A → List ℕ} {F : A → Type 0} → IsField item s F → (n : ℕ)
    → IsField (list_at item n) (flat_map s) (λ xs. (length xs ≡ n) × All F xs)
list_field {item = item} {s = s} {F = F} field n = record {
  spelled = λ bytes xs rest fits e. (items_taken field n bytes (xs, rest) fits e).0;
  fits = λ bytes xs rest fits e. let f =
      (items_taken field n bytes (xs, rest) fits e).1 in (f.0, All-from_recursion F xs f.1);
  again = λ xs rest f. ap (λ (m : ℕ). list_at item m (flat_map s xs ++ rest)) (sym f.0)
      ∙ items_again field xs rest (recursion_from_All F xs f.1);
}

-- a count in width bytes, and that many items
pub counted_list_field : {A : Type 0} {item : Reading A} {s : A → List ℕ} {F : A → Type 0} (width : ℕ)
    → IsField item s F
    → IsField (counted_list_at width item) (counted_list width s) (λ xs. (length xs < 256 ^ width) × All F xs)
unfolding counted_list_at counted_list
counted_list_field {A = A} width field = first_field (big_field width) (length {A = A}) (λ n lt. list_field field n)

-- ---- all of the bytes

pub whole_spelled : {A : Type 0} {read : Reading A} {s : A → List ℕ} {F : A → Type 0} → IsField read s F
    → (bytes : List ℕ) (x : A) → IsBytes bytes → whole read bytes ≡ Some x → (bytes ≡ s x) × F x
unfolding whole
whole_spelled {A = A} {read = read} {s = s} {F = F} field bytes x fits e =
    let a = bind_some (λ (y : A × List ℕ). cond (eqb (length y.1) 0) (Some y.0) None) (read bytes) x e in
    let g = cond_some (eqb (length a.0.1) 0) a.0.0 x a.2 in
    let nothing : a.0.1 ≡ [] = nil_from_length a.0.1 (eqb-true _ _ g.0) in
    let parts : bytes ≡ s a.0.0 =
    field.spelled bytes a.0.0 a.0.1 fits a.1 ∙ ap (λ (r : List ℕ). s a.0.0 ++ r) nothing ∙ append-nil (s a.0.0) in
    subst (λ (y : A). (bytes ≡ s y) × F y) g.1 (parts, field.fits bytes a.0.0 a.0.1 fits a.1)

pub whole_again : {A : Type 0} {read : Reading A} {s : A → List ℕ} {F : A → Type 0} → IsField read s F → (x : A) → F x
    → whole read (s x) ≡ Some x
unfolding whole
whole_again {A = A} {read = read} {s = s} field x f =
    ap (λ (o : Option (A × List ℕ)). option_and_then (λ (y : A × List ℕ). cond (eqb (length y.1) 0) (Some y.0) None) o)
    (ap read (sym (append-nil (s x))) ∙ field.again x [] f)

-- ---- values in a fixed number of bytes

known_some : {A : Type 0} (o : Option A) (rest : List ℕ) (x : A) (left : List ℕ) → known o rest ≡ Some (x, left)
    → (o ≡ Some x) × (rest ≡ left)
known_some None rest x left e = absurd cc
known_some (Some y) rest x left e = at_pair (λ z r. (Some y ≡ Some z) × (rest ≡ r)) y x rest left e (refl, refl)

-- a value that n bytes spell
pub inside_field : {A : Type 0} {read : Reading A} {s : A → List ℕ} {F : A → Type 0} (n : ℕ) → IsField read s F
    → IsField (inside n read) s (λ x. F x × (length (s x) ≡ n))
unfolding inside
inside_field {A = A} {read = read} {s = s} {F = F} n field =
    let taken : (bytes : List ℕ) (x : A) (rest : List ℕ) → IsBytes bytes
    → option_and_then (λ (y : List ℕ × List ℕ). known (whole read y.0) y.1) (bytes_at n bytes) ≡ Some (x, rest)
    → (bytes ≡ s x ++ rest) × (F x × (length (s x) ≡ n)) = λ bytes x rest fits e.
    let a = bind_some (λ (y : List ℕ × List ℕ). known (whole read y.0) y.1) (bytes_at n bytes) (x, rest) e in
    let k = known_some (whole read a.0.0) a.0.1 x rest a.2 in
    let parts = (bytes_field n).spelled bytes a.0.0 a.0.1 fits a.1 in
    let len = (bytes_field n).fits bytes a.0.0 a.0.1 fits a.1 in
    let w = whole_spelled field a.0.0 x (IsBytes-front a.0.0 a.0.1 (subst IsBytes parts fits)) k.0 in
    let all : bytes ≡ s x ++ rest = parts ∙ rw (w.0, k.1) refl in
    (all, (w.1, sym (ap (λ (b : List ℕ). length b) w.0) ∙ len)) in
    record {
      spelled = λ bytes x rest fits e. (taken bytes x rest fits e).0;
      fits = λ bytes x rest fits e. (taken bytes x rest fits e).1;
      again = λ x rest f.
          ap (λ (o : Option (List ℕ × List ℕ)). option_and_then (λ (y : List ℕ × List ℕ). known (whole read y.0) y.1) o)
          ((bytes_field n).again (s x) rest f.1)
          ∙ ap (λ (o : Option A). known o rest) (whole_again field x f.0);
    }

-- a value in n bytes, with zeros behind it
pub padded_field : {A : Type 0} {read : Reading A} {s : A → List ℕ} {F : A → Type 0} (n : ℕ) → IsField read s F
    → IsField (padded n read) (λ x. s x ++ zeros (n - length (s x))) (λ x. F x × (length (s x) ≤ n))
unfolding padded zeros
padded_field {A = A} {read = read} {s = s} {F = F} n field =
    let test : A × List ℕ → Option A = λ y. cond (list_all (λ b. eqb b 0) y.1) (Some y.0) None in
    let taken : (bytes : List ℕ) (x : A) (rest : List ℕ) → IsBytes bytes → option_and_then (λ (y : List ℕ × List ℕ).
    known (option_and_then test (read y.0)) y.1) (bytes_at n bytes) ≡ Some (x, rest)
    → (bytes ≡ (s x ++ zeros (n - length (s x))) ++ rest) × (F x × (length (s x) ≤ n)) = λ bytes x rest fits e.
    let a =
    bind_some (λ (y : List ℕ × List ℕ). known (option_and_then test (read y.0)) y.1) (bytes_at n bytes) (x, rest) e in
    let k = known_some (option_and_then test (read a.0.0)) a.0.1 x rest a.2 in
    let parts = (bytes_field n).spelled bytes a.0.0 a.0.1 fits a.1 in
    let len : length a.0.0 ≡ n = (bytes_field n).fits bytes a.0.0 a.0.1 fits a.1 in
    let b = bind_some test (read a.0.0) x k.0 in
    let g = cond_some (list_all (λ b. eqb b 0) b.0.1) b.0.0 x b.2 in
    let here = IsBytes-front a.0.0 a.0.1 (subst IsBytes parts fits) in
    let found : read a.0.0 ≡ Some (x, b.0.1) = b.1 ∙ ap (λ (y : A). Some (y, b.0.1)) g.1 in
    let text : a.0.0 ≡ s x ++ b.0.1 = field.spelled a.0.0 x b.0.1 here found in
    let lens : n ≡ length (s x) + length b.0.1 =
    sym len ∙ ap (λ (t : List ℕ). length t) text ∙ length-append (s x) b.0.1 in
    let behind : b.0.1 ≡ zeros (n - length (s x)) = all_zero b.0.1 g.0 ∙ ap zeros (omega arith) in
    let all : bytes ≡ (s x ++ zeros (n - length (s x))) ++ rest = parts ∙ rw (text, behind, k.1) refl in
    (all, (field.fits a.0.0 x b.0.1 here found, omega arith)) in
    record {
      spelled = λ bytes x rest fits e. (taken bytes x rest fits e).0;
      fits = λ bytes x rest fits e. (taken bytes x rest fits e).1;
      again = λ x rest f.
          let z = zeros (n - length (s x)) in
          let len : length (s x ++ z) ≡ n =
          omega (arith, length-append (s x) z, length-replicate {A = ℕ} (n - length (s x)) 0, f.1) in
          ap (λ (o : Option (List ℕ × List ℕ)).
          option_and_then (λ (y : List ℕ × List ℕ). known (option_and_then test (read y.0)) y.1) o)
          ((bytes_field n).again (s x ++ z) rest len)
          ∙ ap (λ (o : Option (A × List ℕ)). known (option_and_then test o) rest) (field.again x z f.0)
          ∙ ap (λ (b : Bool). known (cond b (Some x) None) rest) (zeros_pass (n - length (s x)));
    }

-- ---- a choice

-- no value stands here
pub refuse_field : {A : Type 0} {s : A → List ℕ} {F : A → Type 0} → ((x : A) → F x → ⊥) → IsField refuse s F
refuse_field none = record {
  spelled = λ bytes x rest fits e. absurd cc;
  fits = λ bytes x rest fits e. absurd cc;
  again = λ x rest f. absurd (none x f);
}

-- one of two readings of a value, by a test
pub choice_field : {A : Type 0} {one other : Reading A} {s : A → List ℕ} {F : A → Type 0} (test : Bool)
    → (test ≡ true → IsField one s F) → (test ≡ false → IsField other s F) → IsField (cond test one other) s F
choice_field true one other = one refl
choice_field false one other = other refl
