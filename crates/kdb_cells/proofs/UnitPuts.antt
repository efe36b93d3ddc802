-- The units of a file in which one was written.
use Rattle.std.proofs.Common.{◌≡◌, ◌≢◌, ℕ, ◌+◌, ◌*◌, ◌/◌, ◌%◌, ◌<◌, ◌≤◌, ⊎_elim, max, Bool, true, false}
use Rattle.std.proofs.Common.{cond, List, length, take, drop, Option, Some, None, sym, ◌∙◌, ap, arith}
use Rattle.std.specs.Prelude.{nat_eq}
use Rattle.std.proofs.Math.Nat.{div-add-mod, mod-lt, mul-le-mul_right}
use Rattle.std.proofs.lemmas.Bool.{cases_lt, cond-false, ne_eqb}
use Rattle.std.proofs.lemmas.List.{drop-take}
use Rattle.kdb_disk.specs.Files.{put}
use Rattle.kdb_disk.proofs.Puts.{length-put, take-put, drop-put_behind, between-put}
use Rattle.kdb_format.specs.Readings.{padded}
use Rattle.kdb_cells.specs.Cells.{Cell, IsCell, unit_size, unit_text, cell_of, front_of}
use Rattle.kdb_cells.specs.Sheets.{unit_bytes, heading_at, realm_in, cell_in, count_of, put_cell}
use Rattle.kdb_cells.proofs.UnitTexts.{unit_again, length-unit}

pub some_unit : (format : ℕ) → 0 < unit_size format
unfolding unit_size
some_unit format = by (nat_eq format 1)
  where
    by : (b : Bool) → 0 < cond b 8192 16384
    by true = omega arith
    by false = omega arith

place_below : (unit i k : ℕ) → i < k → i * unit + unit ≤ k * unit
place_below unit i k lt =
    let le : (i + 1) * unit ≤ k * unit = mul-le-mul_right unit (omega (arith, lt)) in
    omega (arith, le)

-- ---- the bytes of a unit

pub unit_here : (format i : ℕ) (text file : List ℕ) → length text ≡ unit_size format
    → i * unit_size format ≤ length file → unit_bytes format i (put (i * unit_size format) text file) ≡ text
unit_here format i text file long within =
    ap (λ (n : ℕ). take n (drop (i * unit_size format) (put (i * unit_size format) text file))) (sym long)
    ∙ between-put (i * unit_size format) text file within

pub unit_other : (format i j : ℕ) (text file : List ℕ) → length text ≡ unit_size format → i * unit_size format
    ≤ length file → j ≢ i → unit_bytes format j (put (i * unit_size format) text file) ≡ unit_bytes format j file
unit_other format i j text file long within other =
    let unit = unit_size format in
    ⊎_elim
    (λ lt.
    let below = place_below unit j i lt in
    sym (drop-take (j * unit) unit (put (i * unit) text file))
    ∙ ap (drop (j * unit)) (take-put (j * unit + unit) (i * unit) text file below within)
    ∙ drop-take (j * unit) unit file)
    (λ not_below.
    let above = place_below unit i j (omega (arith, other, not_below)) in
    ap (take unit) (drop-put_behind (j * unit) (i * unit) text file (omega (arith, above, long)) within))
    (cases_lt j i)

-- ---- the number of units

-- as many as a number of which the product is reached
pub div_most : (n unit k : ℕ) → 0 < unit → k * unit ≤ n → k ≤ n / unit
div_most n unit k some le = ⊎_elim
    (λ lt.
    let whole = div-add-mod n unit in
    let rest : n % unit < unit = mod-lt n some in
    let over = place_below unit (n / unit) k lt in
    absurd (omega (arith, whole, rest, over, le)))
    (λ ge. ge)
    (cases_lt (n / unit) k)

div_least : (n unit k : ℕ) → 0 < unit → n < k * unit → n / unit < k
div_least n unit k some lt = ⊎_elim
    (λ below. below)
    (λ ge.
    let whole = div-add-mod n unit in
    let le : k * unit ≤ (n / unit) * unit = mul-le-mul_right unit ge in
    absurd (omega (arith, whole, le, lt)))
    (cases_lt (n / unit) k)

-- the greater number of units
div_max : (n unit k : ℕ) → 0 < unit → max n (k * unit) / unit ≡ max (n / unit) k
div_max n unit k some = ⊎_elim
    (λ lt.
    let less = div_least n unit k some lt in
    let most = div_most (max n (k * unit)) unit k some (omega (arith, lt)) in
    let top = place_below unit k (k + 1) (omega arith) in
    let least = div_least (max n (k * unit)) unit (k + 1) some (omega (arith, lt, top, some)) in
    omega (arith, less, most, least))
    (λ ge.
    let most = div_most n unit k some ge in
    let same : max n (k * unit) ≡ n = omega (arith, ge) in
    ap (λ (m : ℕ). m / unit) same ∙ omega (arith, most))
    (cases_lt n (k * unit))

pub count_put : (format i : ℕ) (text file : List ℕ) → length text ≡ unit_size format → i * unit_size format
    ≤ length file → count_of format (put (i * unit_size format) text file) ≡ max (count_of format file) (i + 1)
unfolding count_of
count_put format i text file long within =
    let unit = unit_size format in
    let sum : max (length file) (i * unit + length text) ≡ max (length file) ((i + 1) * unit) =
    ap (λ (n : ℕ). max (length file) n) (omega (arith, long)) in
    ap (λ (n : ℕ). n / unit) (length-put (i * unit) text file within ∙ sum)
    ∙ div_max (length file) unit (i + 1) (some_unit format)

-- a unit that is in the file, or comes next, begins within it
pub place_within : (format i : ℕ) (file : List ℕ) → i ≤ count_of format file → i * unit_size format ≤ length file
unfolding count_of
place_within format i file le =
    let unit = unit_size format in
    let whole = div-add-mod (length file) unit in
    let most : i * unit ≤ (length file / unit) * unit = mul-le-mul_right unit le in
    omega (arith, whole, most)

-- ---- what the units hold

pub realm_put : (format i : ℕ) (text file : List ℕ) → length text ≡ unit_size format → i * unit_size format
    ≤ length file → 1 ≤ i → realm_in format (put (i * unit_size format) text file) ≡ realm_in format file
unfolding realm_in
realm_put format i text file long within from =
    ap (λ (b : List ℕ). front_of (padded (unit_size format) (heading_at format) b))
    (unit_other format i 0 text file long within (λ e. absurd (omega (arith, e, from))))

pub cell_other : (format i j : ℕ) (text file : List ℕ) → length text ≡ unit_size format → i * unit_size format
    ≤ length file → j ≢ i → cell_in format (put (i * unit_size format) text file) j ≡ cell_in format file j
unfolding cell_in
cell_other format i j text file long within other =
    ap (λ (b : List ℕ). cond (nat_eq j 0) (Some None) (cell_of format b))
    (unit_other format i j text file long within other)

pub cell_here : (format i : ℕ) (c : Cell) (file : List ℕ) → IsCell format c → i * unit_size format ≤ length file → 1 ≤ i
    → cell_in format (put_cell format i c file) i ≡ Some c
unfolding cell_in put_cell
cell_here format i c file fits within from =
    let here = unit_here format i (unit_text format c) file (length-unit format c fits) within in
    let free : Option Cell = Some None in
    cond-false (nat_eq i 0) free
    (cell_of format (unit_bytes format i (put (i * unit_size format) (unit_text format c) file)))
    (ne_eqb i 0 (λ e. absurd (omega (arith, e, from))))
    ∙ ap (cell_of format) here
    ∙ unit_again format c fits
