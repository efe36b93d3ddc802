use Rattle.std.proofs.Common.{◌≡◌, ℕ, ◌+◌, ◌*◌, ◌<◌, ◌∙◌, [], ◌∷◌, Some, None, refl, ap, sym, subst, drop, arith}
use Rattle.kdb_base.specs.declared.outcomes.Stop.TheVariants.{Refused}
use Rattle.kdb_disk.specs.Files.{Files}
use Rattle.kdb_disk.proofs.Runs.{kept, keeps_then}
use Rattle.kdb_cells.specs.Cells.{unit_size}
use Rattle.kdb_cells.specs.Indexes.{count}
use Rattle.kdb_cells.specs.Leads.{Units}
use Rattle.kdb_cells.specs.Scanning.{skipping, AreCellsIn, IsDamaged, IsGathered}
use Rattle.kdb_cells.specs.Sheets.{realm_in, count_of}
use Rattle.kdb_cells.proofs.Gathered.{with_more, length-more, gathered_first, first_placed, first_in}
use Rattle.kdb_cells.proofs.scanning.gather.Goals as goal

pub loop-unit-init : goal.loop-unit-init
loop-unit-init g c =
    let a = c.args in
    let v = g.D.Disk.view a.disk.now in
    let e = c.gather_first-gathered.ensures in
    let first = c.gather_first-gathered.result in
    record {
      gathered = record {
        cells = None ∷ [];
        long = refl;
        gathered = subst (λ (u : Units). IsGathered a.format u (count first.index)
            first.princs.items first.policies.items (None ∷ [])) (sym e.units) (gathered_first a.format
            (count first.index) first.princs.items first.policies.items e.count e.princs e.policies);
        read = λ tells. first_in a.format a.torn (v.seen a.file);
      };
      next = ap (λ (u : Units). u.next) e.units;
      placed = ap (λ (u : Units). u.placed) e.units ∙ first_placed a.torn c.requires.low;
      left = λ tells. c.requires.left tells ∙ ap (λ (n : ℕ). drop n (v.seen a.file)) (omega arith);
      over = λ tells. c.requires.over tells;
      keeps = λ tells. kept v;
      same = refl;
      faults = omega arith;
    }

pub returns-in-Err-clause-refused : goal.returns-in-Err-clause-refused
returns-in-Err-clause-refused g c = λ tells realm named le r same.
    let a = c.args in
    let inv = c.loop-unit.invariant in
    let all = inv.gathered in
    let k = c.loop-unit.unit in
    let stop : c.in-Err.stop ≡ Refused r = cc in
    subst (λ (s : Files). AreCellsIn a.format a.torn (s a.file) all.cells
    → realm_in a.format (skipping a.format a.torn (s a.file)) ≡ Some realm
    → k < count_of a.format (skipping a.format a.torn (s a.file)) → IsDamaged a.file a.format a.torn (s a.file) r)
    (inv.keeps tells).seen
    (λ read realm_is lt. c.in-Err.ensures.refused tells all.cells all.long all.gathered read realm realm_is lt r cc)
    (all.read tells) named (omega (arith, le, c.loop-unit-test.true))

pub returns-in-Err-clause-keeps : goal.returns-in-Err-clause-keeps
returns-in-Err-clause-keeps g c tells =
    keeps_then (c.loop-unit.invariant.keeps tells) (c.gather_unit.ensures.keeps tells)

pub loop-unit-preserved : goal.loop-unit-preserved
loop-unit-preserved g c =
    let a = c.args in
    let inv = c.loop-unit.invariant in
    let all = inv.gathered in
    let k = c.loop-unit.unit in
    let more = c.in-Ok.ensures.gathered all.cells all.long all.gathered
    (λ tells. subst (λ (s : Files). AreCellsIn a.format a.torn (s a.file) all.cells) (sym (inv.keeps tells).seen)
    (all.read tells)) in
    record {
      gathered = record {
        cells = with_more more.cell all.cells;
        long = omega (arith, length-more more.cell all.cells, all.long);
        gathered = more.gathered;
        read = λ tells. subst (λ (s : Files). AreCellsIn a.format a.torn (s a.file) (with_more more.cell all.cells))
            (inv.keeps tells).seen (more.read tells);
      };
      next = c.in-Ok.ensures.next;
      placed = c.in-Ok.ensures.placed;
      left = λ tells. c.in-Ok.ensures.left tells
          ∙ ap (λ (s : Files). drop ((k + 1) * unit_size a.format) (s a.file)) (inv.keeps tells).seen;
      over = λ tells. c.gather_unit.ensures.over tells;
      keeps = λ tells. keeps_then (inv.keeps tells) (c.gather_unit.ensures.keeps tells);
      same = cc (inv.same, c.gather_unit.ensures.call.same);
      faults = omega (arith, inv.faults, c.gather_unit.ensures.call.later);
    }
