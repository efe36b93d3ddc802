use Rattle.std.proofs.Common.{◌≡◌, arith, ap, length, refl, rules, List, ℕ}
use Rattle.kadm_commands.specs.declared.versions.PurgeRow.{PurgeRow}
use Rattle.kdb_base.specs.declared.versions.Master.{Master}
use Rattle.mkey_admin.proofs.Counts.{counts_long}
use Rattle.mkey_admin.proofs.ToldRows.{rows_rise, told_more}
use Rattle.mkey_admin.specs.Plans.{grounds_of}
use Rattle.mkey_admin.specs.Told.{counts_of, version_told}
use Rattle.mkey_admin.proofs.purging.versions_told.Goals as goal

pub version_told-requires : goal.version_told-requires
version_told-requires c =
    let g = c.args.given.now in
    let are : c.as_slice-counts.result.now ≡ counts_of g.realm.now g.rows.now.princs g.masters.now = search rules in
    let masters : c.as_slice-masters.result.now ≡ g.masters.now = c.as_slice-masters.ensures.value in
    omega (
      arith,
      c.loop-at-test.true,
      ap (λ (ns : List ℕ). length ns) are,
      ap (λ (ms : List Master). length ms) masters,
      counts_long g.realm.now g.rows.now.princs g.masters.now,
    )

pub loop-at-preserved : goal.loop-at-preserved
loop-at-preserved c =
    let g = c.args.given.now in
    let are : c.as_slice-counts.result.now ≡ counts_of g.realm.now g.rows.now.princs g.masters.now = search rules in
    told_more (grounds_of g c.args.activations.now) c.as_slice-masters.result.now c.as_slice-counts.result.now
    c.loop-at.rows.items c.push.new.self.items c.loop-at.at c.index-masters-at.result c.version_told.result
    c.loop-at-test.true c.index-masters-at.is c.as_slice-masters.ensures.value are c.version_told.ensures
    c.loop-at.invariant c.in_ok-push.ensures.items

pub from_vec-requires : goal.from_vec-requires
from_vec-requires c =
    rows_rise (version_told (grounds_of c.args.given.now c.args.activations.now)) (λ (row : PurgeRow). row.version)
    (λ m. refl) c.as_slice-masters.result.now c.loop-at.rows.items c.loop-at.at c.loop-at.invariant
    (omega (arith, c.loop-at-test.false)) c.as_slice-masters.ensures.rising
