-- Reading and writing the bytes of a unit.
use Rattle.std.proofs.Common.{◌≡◌, ℕ, zero, suc, ◌+◌, ◌-◌, ◌<◌, ◌≤◌, Bool, true, false, cond, ltb, eqb}
use Rattle.std.proofs.Common.{List, [], ◌∷◌, ◌++◌, length, take, drop, Result, Option, Some, None, Ok}
use Rattle.std.proofs.Common.{Err, refl, sym, ap, subst, ◌∙◌, arith, append_assoc, length-append}
use Rattle.std.specs.Prelude.{IfOk, option_and_then}
use Rattle.std.specs.List.{list_all}
use Rattle.std.proofs.lemmas.Bool.{le-ltb}
use Rattle.std.proofs.lemmas.List.{append-nil, drop-replicate, take_all, drop_all, nil_from_length}
use Rattle.std.proofs.lemmas.Option.{same_Some}
use Rattle.kdb_format.specs.declared.faults.FormatFault.{FormatFault}
use Rattle.kdb_format.specs.declared.faults.FormatFault.TheVariants as faults
use Rattle.kdb_format.specs.Answers.{Finds, Refuses}
use Rattle.kdb_format.specs.Fields.{IsBytes}
use Rattle.kdb_format.specs.Readings.{padded, known, bytes_at}
use Rattle.kdb_format.specs.Spellings.{big, counted, zeros, put}
use Rattle.kdb_format.specs.Lengths.{put_behind, length-zeros, length-counted}
use Rattle.kdb_format.specs.Numbers.{length-big}
use Rattle.kdb_cells.specs.declared.units.StoredRow.{StoredRow}
use Rattle.kdb_cells.specs.Cells.{Cell, kind_of, row_text, unit_size, IsCell, cell_at, behind_state}
use Rattle.kdb_cells.specs.Cells.{cell_text, unit_at, unit_text, front_of, cell_of, unit_with, IsRowText}
use Rattle.kdb_cells.specs.CellFields.{unit_field, cell_short, length-cell, row_room}

-- ---- reading

-- what was read, where zeros alone stand behind it
abbrev with_zeros : Option (Cell × List ℕ) → Option Cell
with_zeros read = option_and_then (λ (x : Cell × List ℕ). cond (list_all (λ b. eqb b 0) x.1) (Some x.0) None) read

front_known : (o : Option Cell) (rest : List ℕ) → front_of (known o rest) ≡ o
front_known None rest = refl
front_known (Some c) rest = refl

pub unit_is : (format : ℕ) (bytes : List ℕ) → length bytes ≡ unit_size format
    → cell_of format bytes ≡ with_zeros (cell_at format bytes)
unfolding cell_of unit_at padded bytes_at
unit_is format bytes long =
    let enough : ltb (length bytes) (unit_size format) ≡ false =
    le-ltb (length bytes) (unit_size format) (omega (arith, long)) in
    let all : take (unit_size format) bytes ≡ bytes = take_all (unit_size format) bytes (omega (arith, long)) in
    rw (enough, all) (front_known (with_zeros (cell_at format bytes)) (drop (unit_size format) bytes))

pub no_cell : (e : FormatFault) (format : ℕ) (bytes : List ℕ) → length bytes ≡ unit_size format
    → Refuses e (cell_at format bytes) → Refuses e (cell_of format bytes)
no_cell faults.MemoryOut format bytes long none = tt
no_cell faults.Malformed format bytes long none = unit_is format bytes long ∙ ap with_zeros none

pub cell_found : (format : ℕ) (bytes rest left : List ℕ) (c : Cell) (b : Bool) → length bytes ≡ unit_size format
    → cell_at format bytes ≡ Some (c, rest) → left ≡ rest → list_all (λ b. eqb b 0) left ≡ b
    → cell_of format bytes ≡ cond b (Some c) None
cell_found format bytes rest left c b long e same test =
    unit_is format bytes long ∙ ap with_zeros e
    ∙ ap (λ (l : List ℕ). cond (list_all (λ b. eqb b 0) l) (Some c) None) (sym same)
    ∙ ap (λ (t : Bool). cond t (Some c) None) test

-- ---- what is read is spelled so

pub length-unit : (format : ℕ) (c : Cell) → IsCell format c → length (unit_text format c) ≡ unit_size format
unfolding unit_text
length-unit format c f =
    let n = unit_size format - length (cell_text c) in
    omega (arith, length-append (cell_text c) (zeros n), length-zeros n, cell_short format c f)

front_some : (o : Option (Cell × List ℕ)) (c : Cell) → front_of o ≡ Some c → (rest : List ℕ) × (o ≡ Some (c, rest))
front_some None c e = absurd cc
front_some (Some x) c e = (x.1, ap (λ (d : Cell). Some (d, x.1)) (same_Some x.0 c e))

pub unit_spelled : (format : ℕ) (bytes : List ℕ) (c : Cell) → IsBytes bytes → length bytes ≡ unit_size format
    → cell_of format bytes ≡ Some c → (bytes ≡ unit_text format c) × IsCell format c
unfolding cell_of
unit_spelled format bytes c are long e =
    let read = front_some (unit_at format bytes) c e in
    let f = (unit_field format).fits bytes c read.0 are read.1 in
    let parts = (unit_field format).spelled bytes c read.0 are read.1 in
    let none : read.0 ≡ [] = nil_from_length read.0 (omega (
      arith,
      long,
      ap (λ (b : List ℕ). length b) parts,
      length-append (unit_text format c) read.0,
      length-unit format c f,
    )) in
    (parts ∙ ap (λ (r : List ℕ). unit_text format c ++ r) none ∙ append-nil (unit_text format c), f)

pub unit_found : (format : ℕ) (bytes : List ℕ) (r : Result Cell FormatFault) → IsBytes bytes
    → length bytes ≡ unit_size format → Finds r (cell_of format bytes)
    → IfOk r (λ c. (bytes ≡ unit_text format c) × IsCell format c)
unit_found format bytes (Ok c) are long finds = unit_spelled format bytes c are long finds
unit_found format bytes (Err e) are long finds = tt

-- ---- and the other way round

pub unit_again : (format : ℕ) (c : Cell) → IsCell format c → cell_of format (unit_text format c) ≡ Some c
unfolding cell_of
unit_again format c f =
    ap front_of (ap (unit_at format) (sym (append-nil (unit_text format c))) ∙ (unit_field format).again c [] f)

pub unit_only : (format : ℕ) (bytes : List ℕ) (r : Result Cell FormatFault) → Finds r (cell_of format bytes)
    → (c : Cell) → IsCell format c → bytes ≡ unit_text format c → Finds r (Some c)
unit_only format bytes r finds c f e =
    subst (λ (o : Option Cell). Finds r o) (ap (cell_of format) e ∙ unit_again format c f) finds

-- ---- writing

-- a number of one byte, one of two bytes and a text, one behind the other
pub filled : (n kind : ℕ) (row unit first second third : List ℕ) → unit ≡ zeros n → first ≡ put 0 (big 1 kind) unit
    → second ≡ put 1 (big 2 (length row)) first → third ≡ put 3 row second
    → third ≡ unit_with n kind row
unfolding unit_with counted zeros
filled n kind row unit first second third is a b c =
    let k = big 1 kind in
    let l = big 2 (length row) in
    let lk : length k ≡ 1 = length-big 1 kind in
    let ll : length l ≡ 2 = length-big 2 (length row) in
    let z : ℕ → List ℕ = λ m. zeros m in
    let one : first ≡ k ++ drop (length k) unit = a ∙ put_behind 0 k [] unit refl in
    let two : second ≡ k ++ (l ++ drop (length l) (drop (length k) unit)) =
    b ∙ ap (put 1 l) one ∙ put_behind 1 l k (drop (length k) unit) lk in
    let front : length (k ++ l) ≡ 3 = omega (arith, length-append k l, lk, ll) in
    let rest = drop (length l) (drop (length k) unit) in
    let three : third ≡ (k ++ l) ++ (row ++ drop (length row) rest) =
    c ∙ ap (put 3 row) (two ∙ sym (append_assoc k l rest)) ∙ put_behind 3 row (k ++ l) rest front in
    let behind : drop (length row) rest ≡ zeros (n - (3 + length row)) =
    ap (λ (u : List ℕ). drop (length row) (drop (length l) (drop (length k) u))) is
    ∙ ap (λ (u : List ℕ). drop (length row) (drop (length l) u)) (drop-replicate (length k) n 0)
    ∙ ap (drop (length row)) (drop-replicate (length l) (n - length k) 0)
    ∙ drop-replicate (length row) (n - length k - length l) 0
    ∙ ap zeros (omega (arith, lk, ll)) in
    three ∙ sym (append_assoc (k ++ l) row (drop (length row) rest))
    ∙ ap (λ (t : List ℕ). t ++ drop (length row) rest) (append_assoc k l row)
    ∙ ap (λ (t : List ℕ). (k ++ (l ++ row)) ++ t) behind

-- the bytes of a row's unit, and of a free one
pub row_unit : {format kind : ℕ} {name text : List ℕ} {r : StoredRow} → IsRowText format kind name text r
    → unit_with (unit_size format) kind text ≡ unit_text format (Some r)
unfolding unit_with unit_text cell_text behind_state
row_unit {format} {kind} {text = text} {r = r} is =
    let cells : ℕ → List ℕ → List ℕ = λ k t. (big 1 k ++ counted t) ++ zeros (unit_size format - (3 + length t)) in
    ap (λ (k : ℕ). cells k text) is.of_kind ∙ ap (cells (kind_of r)) is.spelled
    ∙ ap (λ (n : ℕ). (big 1 (kind_of r) ++ counted (row_text r)) ++ zeros (unit_size format - n)) (sym (length-cell r))

pub free_unit : (format : ℕ) → zeros (unit_size format) ≡ unit_text format None
unfolding unit_text cell_text behind_state zeros big
free_unit format = by (unit_size format) (cell_short format None tt)
  where
    by : (n : ℕ) → length (big 1 0 ++ []) ≤ n → zeros n ≡ (big 1 0 ++ []) ++ zeros (n - length (big 1 0 ++ []))
    by zero le = absurd (omega (arith, le))
    by (suc n) le = let same : n ≡ suc n - 1 = omega arith in ap (λ (m : ℕ). 0 ∷ zeros m) same

unit_small : (format : ℕ) → unit_size format ≤ 16384
unfolding unit_size
unit_small format = by (eqb format 1)
  where
    by : (b : Bool) → cond b 8192 16384 ≤ 16384
    by true = omega arith
    by false = omega arith

-- a row has room in its unit
pub row_fits : {format kind : ℕ} {name text : List ℕ} {r : StoredRow} → IsRowText format kind name text r
    → (length text < 65536) × (3 + length text ≤ unit_size format)
row_fits {format} {text = text} {r = r} is =
    let room : 3 + length text ≤ unit_size format =
    omega (arith, ap (λ (t : List ℕ). length t) is.spelled, row_room format r is.stored) in
    (omega (arith, room, unit_small format), room)

-- ---- a page, as a vector that was lent as a slice of its own length

pub lent_whole : (len : ℕ) (new old : List ℕ) → len ≡ length old → length new ≡ length old
    → take len (new ++ drop (length new) old) ≡ new
lent_whole len new old all same =
    ap (λ (rest : List ℕ). take len (new ++ rest)) (drop_all (length new) old (omega (arith, same)))
    ∙ ap (take len) (append-nil new)
    ∙ take_all len new (omega (arith, all, same))

pub length-unit_with : (n kind : ℕ) (row : List ℕ) → 3 + length row ≤ n → length (unit_with n kind row) ≡ n
unfolding unit_with
length-unit_with n kind row room =
    let z = zeros (n - (3 + length row)) in
    let front = big 1 kind ++ counted row in
    omega (
      arith,
      length-append front z,
      length-append (big 1 kind) (counted row),
      length-big 1 kind,
      length-counted row,
      length-zeros (n - (3 + length row)),
      room,
    )

-- the page of a row is the text of its unit
pub row_page : {format kind : ℕ} {name text : List ℕ} {r : StoredRow} (page : List ℕ) (n : ℕ) → n ≡ unit_size format
    → page ≡ unit_with n kind text → IsRowText format kind name text r → page ≡ unit_text format (Some r)
row_page {kind = kind} {text = text} page n long filled is =
    filled ∙ ap (λ (m : ℕ). unit_with m kind text) long ∙ row_unit is

pub free_page : (format : ℕ) (page : List ℕ) (n : ℕ) → n ≡ unit_size format → page ≡ zeros n
    → page ≡ unit_text format None
free_page format page n long cleared = cleared ∙ ap zeros long ∙ free_unit format
