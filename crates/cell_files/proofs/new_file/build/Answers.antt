use Rattle.std.proofs.Common.{[], ◌∷◌, None, map}
use Rattle.cell_files.specs.NewFiles.{with_row}
use Rattle.cell_files.proofs.Following.{built_none, princ_row, princs_may, policies_may, after_princs, after_both}
use Rattle.cell_files.proofs.new_file.build.Goals as goal

pub add_rows-requires-clause-next : goal.add_rows-requires-clause-next
add_rows-requires-clause-next c = (
  None ∷ [],
  (
    built_none c.args.format c.new.result c.new.ensures.units c.new.ensures.count,
    princs_may c.args.format c.args.rows.now c.princs.ensures.rows c.requires c.princs.result.now
        c.princs.ensures.value,
  ),
)

pub add_rows-requires-2-clause-next : goal.add_rows-requires-2-clause-next
add_rows-requires-2-clause-next c =
    let format = c.args.format in
    let r = c.args.rows.now in
    let may = princs_may format r c.princs.ensures.rows c.requires c.princs.result.now c.princs.ensures.value in
    let built = c.in_ok-add_rows.ensures.built (None ∷ [])
    (built_none format c.new.result c.new.ensures.units c.new.ensures.count) may in (
      None ∷ map with_row (map princ_row r.princs),
      (
        after_princs format r c.add_rows.new.building.index c.princs.result.now c.princs.ensures.value built,
        policies_may format r c.princs.ensures.rows c.requires c.policies.result.now c.policies.ensures.value,
      ),
    )

pub returns-clause-built : goal.returns-clause-built
returns-clause-built c =
    let format = c.args.format in
    let r = c.args.rows.now in
    let may = princs_may format r c.princs.ensures.rows c.requires c.princs.result.now c.princs.ensures.value in
    let built = c.in_ok-add_rows.ensures.built (None ∷ [])
    (built_none format c.new.result c.new.ensures.units c.new.ensures.count) may in
    let more = c.in_ok-add_rows-2.ensures.built (None ∷ map with_row (map princ_row r.princs))
    (after_princs format r c.add_rows.new.building.index c.princs.result.now c.princs.ensures.value built)
    (policies_may format r c.princs.ensures.rows c.requires c.policies.result.now c.policies.ensures.value) in
    after_both format r c.add_rows-2.new.building.index c.policies.result.now c.policies.ensures.value more
