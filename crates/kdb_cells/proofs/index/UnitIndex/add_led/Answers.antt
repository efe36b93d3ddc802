use Rattle.std.proofs.Common.{◌≡◌, ℕ, List, Some, cond, ap, subst, refl, ◌∙◌}
use Rattle.std.specs.Str.{bytes_eq}
use Rattle.kdb_cells.specs.Leads.{more_led}
use Rattle.kdb_cells.specs.Indexes.{Entries, Index, unit_given, unit_of, units}
use Rattle.kdb_cells.proofs.Indexing.{more_led_units}
use Rattle.kdb_cells.proofs.index.UnitIndex.add_led.Goals as goal

pub returns-clause-units : goal.returns-clause-units
returns-clause-units c =
    let i = c.self.inside in
    let e = c.extend-self-inside.ensures in
    let old : Index = record { entries = i.entries.entries; next = i.next; placed = unit_given i.placed } in
    let new : Index = record {
      entries = c.extend-self-inside.new.entries.entries;
      next = c.extend-self-inside.result;
      placed = unit_given i.placed;
    } in
    let same = c.in_ok-reserve.ensures.entries in
    subst (λ (x : Index). units new ≡ more_led c.args.key (units x)) c.self.view_is
    (more_led_units old new c.args.key
    (λ k. e.of k
    ∙ ap (λ (b : List ℕ). cond (bytes_eq b k) (Some i.next) (unit_of c.reserve.new.self.entries k)) c.into_vec.ensures
    ∙ ap (λ (es : Entries). cond (bytes_eq c.args.key k) (Some i.next) (unit_of es k)) same)
    e.next refl)
