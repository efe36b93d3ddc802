use Rattle.std.proofs.Common.{ap, ◌∙◌}
use Rattle.std.specs.Prelude.{option_map}
use Rattle.kdb_base.specs.declared.moments.Point.{Point}
use Rattle.primary_core.proofs.Recovered.{opens_if, read_as_opened, read_as_refused}
use Rattle.primary_core.proofs.Recovered.{reading, refused_as_read, same_reading}
use Rattle.primary_core.proofs.opening.masters_of.Goals as goal

pub returns-clause-opens : goal.returns-clause-opens
returns-clause-opens c = opens_if (reading (option_map (λ s. s.now) c.stash.result) c.rows.result.now
    c.as_slice.result.now c.stash_file.result c.secs.result) c.args.database.now c.find_masters.result
    (same_reading c.args.database.now (option_map (λ s. s.now) c.stash.result) c.rows.result.now c.as_slice.result.now
    c.stash_file.result c.secs.result c.stash.ensures c.rows.ensures (c.as_slice.ensures.value ∙ c.realm.ensures)
    c.stash_file.ensures (c.secs.ensures ∙ ap (λ (q : Point). q.time.secs) c.point.ensures))
    c.find_masters.ensures.opened c.find_masters.ensures.sound

pub returns-clause-complete : goal.returns-clause-complete
returns-clause-complete c = λ masters h.
    let both = read_as_opened (reading (option_map (λ s. s.now) c.stash.result) c.rows.result.now c.as_slice.result.now
    c.stash_file.result c.secs.result) c.args.database.now masters
    (same_reading c.args.database.now (option_map (λ s. s.now) c.stash.result) c.rows.result.now c.as_slice.result.now
    c.stash_file.result c.secs.result c.stash.ensures c.rows.ensures (c.as_slice.ensures.value ∙ c.realm.ensures)
    c.stash_file.ensures (c.secs.ensures ∙ ap (λ (q : Point). q.time.secs) c.point.ensures)) h in
    c.find_masters.ensures.complete masters both.0 both.1

pub returns-clause-refused : goal.returns-clause-refused
returns-clause-refused c = λ why e.
    refused_as_read (reading (option_map (λ s. s.now) c.stash.result) c.rows.result.now c.as_slice.result.now
    c.stash_file.result c.secs.result) c.args.database.now why
    (same_reading c.args.database.now (option_map (λ s. s.now) c.stash.result) c.rows.result.now c.as_slice.result.now
    c.stash_file.result c.secs.result c.stash.ensures c.rows.ensures (c.as_slice.ensures.value ∙ c.realm.ensures)
    c.stash_file.ensures (c.secs.ensures ∙ ap (λ (q : Point). q.time.secs) c.point.ensures))
    (c.find_masters.ensures.refused why e)

pub returns-clause-only_refused : goal.returns-clause-only_refused
returns-clause-only_refused c = λ why h.
    c.find_masters.ensures.only_refused why
    (read_as_refused (reading (option_map (λ s. s.now) c.stash.result) c.rows.result.now c.as_slice.result.now
    c.stash_file.result c.secs.result) c.args.database.now why
    (same_reading c.args.database.now (option_map (λ s. s.now) c.stash.result) c.rows.result.now c.as_slice.result.now
    c.stash_file.result c.secs.result c.stash.ensures c.rows.ensures (c.as_slice.ensures.value ∙ c.realm.ensures)
    c.stash_file.ensures (c.secs.ensures ∙ ap (λ (q : Point). q.time.secs) c.point.ensures)) h)
