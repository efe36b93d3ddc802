-- Rows by versions rise as the master keys do.
use Rattle.std.proofs.Common.{◌≡◌, ℕ, ◌≤◌, List, [], ◌∷◌, length, map, take, refl, sym, ap, subst, ◌∙◌}
use Rattle.std.proofs.lemmas.List.{take_all}
use Rattle.kadm_commands.specs.declared.versions.MasterRow.{MasterRow}
use Rattle.kadm_commands.specs.declared.versions.PurgeRow.{PurgeRow}
use Rattle.kdb_base.specs.Versions.{AreRising}
use Rattle.kdb_base.specs.declared.versions.Master.{Master}
use Rattle.kdb_model.specs.Masters.{master_row, purge_row}
use Rattle.kdb_plain.specs.declared.states.State.{State}

module _ {R : Type 0} (row : Master → R) (version : R → ℕ) (same : (m : Master) → version (row m) ≡ m.version) where
  versions_of : (masters : List Master) → map version (map row masters) ≡ map (λ (m : Master). m.version) masters
  versions_of [] = refl
  versions_of (m ∷ masters) = ap (λ (v : ℕ). v ∷ map version (map row masters)) (same m)
      ∙ ap (λ (vs : List ℕ). m.version ∷ vs) (versions_of masters)

  rows_rise : (masters : List Master) (rows : List R) (i : ℕ) → rows ≡ map row (take i masters) → length masters ≤ i
      → AreRising (map (λ (m : Master). m.version) masters) → AreRising (map version rows)
  rows_rise masters rows i is le h =
      subst AreRising (sym (ap (map version) (is ∙ ap (map row) (take_all i masters le)) ∙ versions_of masters)) h

pub master_rows_rise : (s : State) (secs : ℕ) (masters : List Master) (rows : List MasterRow) (i : ℕ)
    → rows ≡ map (master_row s secs) (take i masters) → length masters ≤ i
    → AreRising (map (λ (m : Master). m.version) masters) → AreRising (map (λ (row : MasterRow). row.version) rows)
master_rows_rise s secs = rows_rise (master_row s secs) (λ (row : MasterRow). row.version) (λ m. refl)

pub purge_rows_rise : (s : State) (secs : ℕ) (masters : List Master) (rows : List PurgeRow) (i : ℕ)
    → rows ≡ map (purge_row s secs) (take i masters) → length masters ≤ i
    → AreRising (map (λ (m : Master). m.version) masters) → AreRising (map (λ (row : PurgeRow). row.version) rows)
purge_rows_rise s secs = rows_rise (purge_row s secs) (λ (row : PurgeRow). row.version) (λ m. refl)
