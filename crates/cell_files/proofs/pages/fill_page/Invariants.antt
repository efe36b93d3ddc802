use Rattle.std.proofs.Common.{◌≡◌, ◌*◌, length, take}
use Rattle.cell_files.specs.Building.{text_units}
use Rattle.cell_files.proofs.pages.fill_page.Given as goal

abbrev pub invariant-loop-text : goal.invariant-loop-text
invariant-loop-text l = record {
  place : l.at ≡ l.text-index * l.unit;
  units : take l.at l.page ≡ text_units l.unit (take l.text-index l.texts);
  long : length l.page ≡ length l.fn.page;
}
