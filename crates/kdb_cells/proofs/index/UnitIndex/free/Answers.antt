use Rattle.std.proofs.Common.{◌≡◌, ℕ, ◌+◌, List, max, ap, subst, ◌∙◌}
use Rattle.std.proofs.lemmas.Option.{same_Some}
use Rattle.kdb_cells.specs.Leads.{freed, unless}
use Rattle.kdb_cells.specs.Indexes.{Index, unit_given, unit_of, units}
use Rattle.kdb_cells.proofs.Indexing.{freed_units}
use Rattle.kdb_cells.proofs.index.UnitIndex.free.Goals as goal

pub returns-in-Some-clause-units : goal.returns-in-Some-clause-units
returns-in-Some-clause-units c =
    let i = c.self.inside in
    let unit = c.args.unit in
    let d = c.detach-self-inside.ensures in
    let mine : c.in-Some.placed.unit ≡ unit = same_Some c.in-Some.placed.unit unit
    (ap unit_given c.in-Some.ensures.value ∙ ap (λ (x : Index). x.placed) c.self.view_is ∙ c.requires.ready) in
    let old : Index = record { entries = i.entries.entries; next = i.next; placed = unit_given i.placed } in
    let new : Index = record {
      entries = c.detach-self-inside.new.entries.entries;
      next = c.detach-self-inside.result;
      placed = unit_given c.take.new.self;
    } in
    let out : (k : List ℕ) → unit_of new.entries k ≡ unless unit (unit_of old.entries k) =
    λ k. d.of k ∙ ap (λ (u : ℕ). unless u (unit_of old.entries k)) mine in
    let next : new.next ≡ max old.next (unit + 1) = d.next ∙ ap (λ (u : ℕ). max old.next (u + 1)) mine in
    subst (λ (x : Index). units new ≡ freed unit (units x)) c.self.view_is
    (freed_units old new unit out next (ap unit_given c.take.ensures.after))
