use Rattle.std.proofs.Common.{◌≤◌, ℕ, ◌-◌, List, length, ap, arith, length-append}
use Rattle.kdb_format.specs.Lengths.{length-zeros}
use Rattle.kdb_format.specs.Spellings.{zeros}
use Rattle.kdb_cells.specs.Sheets.{heading}
use Rattle.cell_files.proofs.NewSheets.{length-heading, unit_long}
use Rattle.cell_files.proofs.new_file.first_text.Goals as goal

pub pad-requires : goal.pad-requires
pad-requires c =
    let h = heading c.args.format c.args.realm.now c.args.made.now in
    omega (
      arith,
      ap (λ (l : List ℕ). length l) c.in_ok-push_heading.ensures,
      length-append c.in_ok-bytes.bytes.items h,
      ap (λ (l : List ℕ). length l) c.in_ok-bytes.ensures.items,
      length-heading c.args.format c.args.realm.now c.args.made.now c.holds_heading.ensures.realm,
      unit_long c.args.format,
      c.unit_size-unit.ensures.value,
    )

pub returns-clause-long : goal.returns-clause-long
returns-clause-long c =
    let h = heading c.args.format c.args.realm.now c.args.made.now in
    let old = c.push_heading.new.out.items in
    let short : length old ≤ c.unit_size-unit.result =
    omega (
      arith,
      ap (λ (l : List ℕ). length l) c.in_ok-push_heading.ensures,
      length-append c.in_ok-bytes.bytes.items h,
      ap (λ (l : List ℕ). length l) c.in_ok-bytes.ensures.items,
      length-heading c.args.format c.args.realm.now c.args.made.now c.holds_heading.ensures.realm,
      unit_long c.args.format,
      c.unit_size-unit.ensures.value,
    ) in
    let n = c.unit_size-unit.result - length old in
    omega (
      arith,
      ap (λ (l : List ℕ). length l) c.in_ok-pad.ensures,
      length-append old (zeros n),
      length-zeros n,
      short,
      c.unit_size-unit.ensures.value,
    )
