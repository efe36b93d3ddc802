-- The readings of pieces and their spellings are inverse.
use Rattle.std.proofs.Common.{◌≡◌, ℕ, ◌-◌, ◌^◌, ◌<◌, ◌≤◌, ltb, List, ◌++◌, length}
use Rattle.std.proofs.Common.{Option, Some, None, refl, sym, ap, subst, ◌∙◌, arith}
use Rattle.std.specs.Prelude.{option_map, option_and_then}
use Rattle.std.specs.List.{All}
use Rattle.std.proofs.lemmas.Bool.{ltb-true, ltb-false}
use Rattle.std.proofs.lemmas.Option.{same_Some}
use Rattle.kdb_format.specs.Readings.{known, bytes_at}
use Rattle.kdb_format.specs.Spellings.{big}
use Rattle.kdb_format.specs.Fields.{IsBytes, IsBytes-front, IsField}
use Rattle.kdb_format.specs.Laws.{bind_some, same_field, first_field, then_field, last_field, made_field}
use Rattle.kdb_format.specs.Laws.{choice_field, bytes_field, big_field, counted_field, list_field}
use Rattle.stash_file.specs.Pieces.{Entry, Piece, entry_text, piece_text, IsEntry, IsHole, IsPiece}
use Rattle.stash_file.specs.Pieces.Piece.{Hole, Held}
use Rattle.stash_file.specs.Parsing.{entry_at, entry_in, held_at, hole_at, piece_at}

abbrev IsShort : List ℕ → Type 0
IsShort text = length text < 2 ^ 16

-- what the eight fields give is the entry
same_entry : (e : Entry) (realm : List ℕ) (components : List (List ℕ)) (name_type time version key_type : ℕ)
    → e.realm ≡ realm → e.components ≡ components → e.name_type ≡ name_type → e.time ≡ time → e.version ≡ version
    → e.key_type ≡ key_type
    → ◌≡◌ {A = Entry} (record {
      realm = realm;
      components = components;
      name_type = name_type;
      time = time;
      version = version;
      key_type = key_type;
      key = e.key;
    }) e
same_entry e realm components name_type time version key_type a b c d f g = rw (← a, ← b, ← c, ← d, ← f, ← g) refl

pub record AreFields (e : Entry) : Type 0 where
  realm : IsShort e.realm
  components : All IsShort e.components
  name_type : e.name_type < 2 ^ 32
  time : e.time < 2 ^ 32
  version : e.version < 2 ^ 8
  key_type : e.key_type < 2 ^ 16
  key : IsShort e.key

fields_field : IsField entry_at entry_text (λ e. (length e.components < 2 ^ 16) × AreFields e)
unfolding entry_at entry_text
fields_field = same_field
    (first_field (big_field 2) (λ (e : Entry). length e.components) (λ count _.
    same_field
    (then_field {K = λ (e : Entry). Unit {0}} counted_field (λ (e : Entry). e.realm) (λ realm _.
    then_field {K = λ (e : Entry). (e.realm ≡ realm) × Unit {0}} (list_field counted_field count)
    (λ (e : Entry). e.components) (λ components _.
    then_field {K = λ (e : Entry). (e.components ≡ components) × ((e.realm ≡ realm) × Unit {0})} (big_field 4)
    (λ (e : Entry). e.name_type) (λ name_type _.
    then_field {K = λ (e : Entry). (e.name_type ≡ name_type)
    × ((e.components ≡ components) × ((e.realm ≡ realm) × Unit {0}))} (big_field 4) (λ (e : Entry). e.time) (λ time _.
    then_field {K = λ (e : Entry). (e.time ≡ time)
    × ((e.name_type ≡ name_type) × ((e.components ≡ components) × ((e.realm ≡ realm) × Unit {0})))} (big_field 1)
    (λ (e : Entry). e.version) (λ version _.
    then_field {K = λ (e : Entry). (e.version ≡ version)
    × ((e.time ≡ time) × ((e.name_type ≡ name_type) × ((e.components ≡ components) × ((e.realm ≡ realm) × Unit {0}))))}
    (big_field 2) (λ (e : Entry). e.key_type) (λ key_type _.
    last_field {K = λ (e : Entry). (e.key_type ≡ key_type) × ((e.version ≡ version)
    × ((e.time ≡ time) × ((e.name_type ≡ name_type) × ((e.components ≡ components) × ((e.realm ≡ realm) × Unit {0})))))}
    counted_field (λ (e : Entry). e.key)
    (λ key. record {
      realm = realm;
      components = components;
      name_type = name_type;
      time = time;
      version = version;
      key_type = key_type;
      key = key;
    })
    (λ _ _. (refl, (refl, (refl, (refl, (refl, (refl, (refl, tt))))))))
    (λ e k. same_entry e realm components name_type time version key_type k.1.1.1.1.1.0 k.1.1.1.1.0 k.1.1.1.0 k.1.1.0
    k.1.0 k.0))))))))
    (λ e f. let g = f.1.1 in (
      refl,
      (
        g.0.0,
        record {
          realm = f.1.0;
          components = g.0.1;
          name_type = g.1.0;
          time = g.1.1.0;
          version = g.1.1.1.0;
          key_type = g.1.1.1.1.0;
          key = g.1.1.1.1.1;
        },
      ),
    ))
    (λ e g. let f =
    g.1 in (tt, (f.realm, ((g.0, f.components), (f.name_type, (f.time, (f.version, (f.key_type, f.key)))))))))
    )
    (λ e f. (refl, f))
    (λ e f. f)

pub entry_field : IsField entry_at entry_text IsEntry
entry_field = same_field fields_field
    (λ e f. let g = f.1 in (
      refl,
      record {
        realm = g.realm;
        count = f.0;
        components = g.components;
        name_type = g.name_type;
        time = g.time;
        version = g.version;
        key_type = g.key_type;
        key = g.key;
      },
    ))
    (λ e f. (
      f.count,
      record {
        realm = f.realm;
        components = f.components;
        name_type = f.name_type;
        time = f.time;
        version = f.version;
        key_type = f.key_type;
        key = f.key;
      },
    ))

-- ---- pieces

-- the size of a piece, and what stands behind it
abbrev size_of : Piece → ℕ
size_of (Hole bytes) = 2 ^ 32 - length bytes
size_of (Held e more) = length (entry_text e ++ more)

abbrev body : Piece → List ℕ
body (Hole bytes) = bytes
body (Held e more) = entry_text e ++ more

no_Hole : (bytes : List ℕ) → IsHole bytes → 2 ^ 32 - length bytes < 2 ^ 31 → ⊥
no_Hole bytes f lt = omega (arith, f.some, f.most)

-- an entry and what remains of its bytes
entry_taken : (bytes : List ℕ) (p : Piece) → IsBytes bytes → length bytes < 2 ^ 31 → entry_in bytes ≡ Some p
    → (bytes ≡ body p) × ((size_of p ≡ length bytes) × IsPiece p)
unfolding entry_in
entry_taken bytes p fits lt e =
    let a = bind_some (λ (x : Entry × List ℕ). Some (Held x.0 x.1)) (entry_at bytes) p (as_bind (entry_at bytes) ∙ e) in
    let text = entry_field.spelled bytes a.0.0 a.0.1 fits a.1 in
    let is = entry_field.fits bytes a.0.0 a.0.1 fits a.1 in
    let len = ap (length {A = ℕ}) text in
    subst (λ (q : Piece). (bytes ≡ body q) × ((size_of q ≡ length bytes) × IsPiece q))
    (same_Some (Held a.0.0 a.0.1) p a.2)
    (text, (sym len, record { entry = is; most = omega arith }))
  where
    as_bind : (o : Option (Entry × List ℕ)) → option_and_then (λ (x : Entry × List ℕ). Some (Held x.0 x.1)) o
        ≡ option_map (λ (x : Entry × List ℕ). Held x.0 x.1) o
    as_bind None = refl
    as_bind (Some x) = refl

known_some : {A : Type 0} (o : Option A) (rest : List ℕ) (x : A) (left : List ℕ) → known o rest ≡ Some (x, left)
    → (o ≡ Some x) × (rest ≡ left)
known_some None rest x left e = absurd cc
known_some (Some y) rest x left e =
    let same = same_Some (y, rest) (x, left) e in
    (ap (λ (z : _ × List ℕ). Some z.0) same, ap (λ (z : _ × List ℕ). z.1) same)

held_taken : (size : ℕ) → size < 2 ^ 31 → (bytes : List ℕ) (p : Piece) (rest : List ℕ) → IsBytes bytes
    → held_at size bytes ≡ Some (p, rest)
    → (bytes ≡ body p ++ rest) × ((size_of p ≡ size) × IsPiece p)
held_taken size lt bytes p rest fits e =
    let a = bind_some (λ (y : List ℕ × List ℕ). known (entry_in y.0) y.1) (bytes_at size bytes) (p, rest) e in
    let k = known_some (entry_in a.0.0) a.0.1 p rest a.2 in
    let parts = (bytes_field size).spelled bytes a.0.0 a.0.1 fits a.1 in
    let len : length a.0.0 ≡ size = (bytes_field size).fits bytes a.0.0 a.0.1 fits a.1 in
    let t = entry_taken a.0.0 p (IsBytes-front a.0.0 a.0.1 (subst IsBytes parts fits)) (omega arith) k.0 in
    (parts ∙ ap (λ (b : List ℕ). b ++ a.0.1) t.0 ∙ ap (λ (r : List ℕ). body p ++ r) k.1, (t.1.0 ∙ len, t.1.1))

entry_again : (e : Entry) (more : List ℕ) → IsEntry e → entry_in (entry_text e ++ more) ≡ Some (Held e more)
unfolding entry_in
entry_again e more f = ap (option_map (λ (x : Entry × List ℕ). Held x.0 x.1)) (entry_field.again e more f)

held_again : (size : ℕ) → size < 2 ^ 31 → (p : Piece) (rest : List ℕ) → (size_of p ≡ size) × IsPiece p
    → held_at size (body p ++ rest) ≡ Some (p, rest)
held_again size lt (Hole bytes) rest f = absurd (no_Hole bytes f.1 (omega (arith, f.0)))
held_again size lt (Held e more) rest f =
    ap (λ (o : Option (List ℕ × List ℕ)). option_and_then (λ (y : List ℕ × List ℕ). known (entry_in y.0) y.1) o)
    ((bytes_field size).again (entry_text e ++ more) rest f.0)
    ∙ ap (λ (o : Option Piece). known o rest) (entry_again e more f.1.entry)

held_field : (size : ℕ) → size < 2 ^ 31 → IsField (held_at size) body (λ p. (size_of p ≡ size) × IsPiece p)
held_field size lt = record {
  spelled = λ bytes p rest fits e. (held_taken size lt bytes p rest fits e).0;
  fits = λ bytes p rest fits e. (held_taken size lt bytes p rest fits e).1;
  again = λ p rest f. held_again size lt p rest f;
}

hole_from : (size : ℕ) → 2 ^ 31 ≤ size → size < 2 ^ 32 → (p : Piece) → (size_of p ≡ size) × IsPiece p
    → (bytes : List ℕ) × ((length bytes ≡ 4294967296 - size) × (Hole bytes ≡ p))
hole_from size least lt (Hole bytes) f = let h = f.1 in (bytes, (omega (arith, f.0, h.some, h.most), refl))
hole_from size least lt (Held e more) f = let most = f.1.most in absurd (omega (arith, f.0))

hole_field : (size : ℕ) → 2 ^ 31 ≤ size → size < 2 ^ 32
    → IsField (hole_at size) body (λ p. (size_of p ≡ size) × IsPiece p)
hole_field size least lt = made_field (bytes_field (4294967296 - size)) Hole
    (λ bytes len. (refl, (omega arith, record { some = omega arith; most = omega arith })))
    (λ p g. hole_from size least lt p g)

pieces_are : (p : Piece) → big 4 (size_of p) ++ body p ≡ piece_text p
unfolding piece_text
pieces_are (Hole bytes) = refl
pieces_are (Held e more) = refl

pub size_fits : (p : Piece) → IsPiece p → size_of p < 2 ^ 32
size_fits (Hole bytes) f = let some = f.some in omega arith
size_fits (Held e more) f = let most = f.most in omega arith

pub piece_field : IsField piece_at piece_text IsPiece
unfolding piece_at
piece_field = same_field
    (first_field (big_field 4) size_of (λ size lt.
    choice_field (ltb size 2147483648)
    (λ e. held_field size (ltb-true _ _ e))
    (λ e. hole_field size (ltb-false _ _ e) lt)))
    (λ p f. (pieces_are p, f.1))
    (λ p f. (size_fits p f, f))
