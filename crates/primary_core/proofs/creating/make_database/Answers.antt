use Rattle.std.proofs.Common.{◌≡◌, ◌≤◌, ℕ, List, Some, sym, subst}
use Rattle.std.specs.Prelude.{IfOk, OnOk}
use Rattle.cell_files.specs.NewFiles.{file_text}
use Rattle.first_rows.specs.Creation.{first_point as point_made}
use Rattle.kdb_disk.specs.Moments.{LeavesOnly}
use Rattle.kdb_places.specs.Places.{created}
use Rattle.primary_core.proofs.Created.{size_range}
use Rattle.primary_core.proofs.creating.make_database.Goals as goal
use Rattle.princ_name.specs.Realms.{IsRealm}
use Rattle.store_files.specs.Kept.{place_kept}
use Rattle.store_files.specs.Recovery.{Creates}
use Rattle.store_files.specs.Switches.{first_choice}
use Rattle.store_opening.specs.Moments.{HasFile}

pub create-requires-clause-realm : goal.create-requires-clause-realm
create-requires-clause-realm g c = subst IsRealm (sym c.realm.ensures.value) c.realm.ensures.spec.realm

pub create-requires-clause-size : goal.create-requires-clause-size
create-requires-clause-size g c =
    size_range c.size.result (subst (λ (n : ℕ). 2 ≤ n) (sym c.size.ensures.value) c.size.ensures.spec.least)
    (subst (λ (n : ℕ). n ≤ 10000) (sym c.size.ensures.value) c.size.ensures.spec.most)

pub returns-clause-place : goal.returns-clause-place
returns-clause-place g c = subst (λ (n : ℕ). IfOk c.create.result (λ d. place_kept d
    ≡ (created c.args.spec.now.realm c.args.rows (point_made c.args.now) n 2048 (Some c.args.stash.now) 2)))
    c.size.ensures.value
    (subst (λ (r : List ℕ). IfOk c.create.result
    (λ d. place_kept d ≡ (created r c.args.rows (point_made c.args.now) c.size.result 2048 (Some c.args.stash.now) 2)))
    c.realm.ensures.value c.create.ensures.place)

pub returns-clause-moments : goal.returns-clause-moments
returns-clause-moments g c = λ t.
    subst (λ (n : ℕ). LeavesOnly (g.D.Disk.view c.args.disk.now) (g.D.Disk.view c.create.new.disk)
    (Creates (g.D.Disk.view c.args.disk.now) (created c.args.spec.now.realm c.args.rows (point_made c.args.now) n 2048
    (Some c.args.stash.now) 2))) c.size.ensures.value
    (subst (λ (r : List ℕ). LeavesOnly (g.D.Disk.view c.args.disk.now) (g.D.Disk.view c.create.new.disk)
    (Creates (g.D.Disk.view c.args.disk.now)
    (created r c.args.rows (point_made c.args.now) c.size.result 2048 (Some c.args.stash.now) 2))) c.realm.ensures.value
    (c.create.ensures.moments t))

pub returns-clause-control : goal.returns-clause-control
returns-clause-control g c =
    subst (λ (n : ℕ). IfOk c.create.result (λ d. d.control ≡ first_choice 2 5 (point_made c.args.now) n 2048))
    c.size.ensures.value c.create.ensures.control

pub returns-clause-written : goal.returns-clause-written
returns-clause-written g c = λ t. subst (λ (r : List ℕ). OnOk c.create.result
    (HasFile 1 (file_text 2 r (point_made c.args.now) c.args.rows) (g.D.Disk.view c.create.new.disk)))
    c.realm.ensures.value (c.create.ensures.written t)
