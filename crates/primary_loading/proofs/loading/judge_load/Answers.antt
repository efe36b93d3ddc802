use Rattle.std.proofs.Common.{List, ◌∙◌}
use Rattle.std.specs.Prelude.{option_map}
use Rattle.kdb_base.specs.declared.versions.Master.{Master}
use Rattle.primary_loading.proofs.Given.{given_by, gives_halt, late_given, refused_given, taken_given, takes_given}
use Rattle.primary_loading.proofs.loading.judge_load.Goals as goal

pub returns-in-Err-clause-complete : goal.returns-in-Err-clause-complete
returns-in-Err-clause-complete c masters may =
    gives_halt c.in-Err.stop masters (c.in-Err.ensures.complete masters
    (takes_given c.args.primary.now c.args.now c.args.dump.now
    (option_map (λ b. b.now) c.stash.result) c.stash_file.result c.as_slice.result.now c.load_secs.result
    (given_by c.args.primary.now c.args.now (option_map (λ b. b.now) c.stash.result) c.stash_file.result
    c.as_slice.result.now c.load_secs.result
    c.database-database.result.now c.database-database.ensures c.stash.ensures c.stash_file.ensures
    (c.as_slice.ensures.value ∙ c.realm.ensures) c.load_secs.ensures)
    masters may.takes))

pub returns-in-Err-clause-only_refused : goal.returns-in-Err-clause-only_refused
returns-in-Err-clause-only_refused c why cause =
    refused_given c.args.primary.now c.args.now c.args.dump.now
    (option_map (λ b. b.now) c.stash.result) c.stash_file.result c.as_slice.result.now c.load_secs.result
    (given_by c.args.primary.now c.args.now (option_map (λ b. b.now) c.stash.result) c.stash_file.result
    c.as_slice.result.now c.load_secs.result
    c.database-database.result.now c.database-database.ensures c.stash.ensures c.stash_file.ensures
    (c.as_slice.ensures.value ∙ c.realm.ensures) c.load_secs.ensures)
    c.requires.whole why (List Master) c.in-Err.stop (λ masters t. c.in-Err.ensures.complete masters t)
    (λ known. c.in-Err.ensures.only_refused why known) cause

pub returns-in-Some-clause-complete : goal.returns-in-Some-clause-complete
returns-in-Some-clause-complete c masters may =
    c.in-Ok.ensures.complete masters
    (takes_given c.args.primary.now c.args.now c.args.dump.now
    (option_map (λ b. b.now) c.stash.result) c.stash_file.result c.as_slice.result.now c.load_secs.result
    (given_by c.args.primary.now c.args.now (option_map (λ b. b.now) c.stash.result) c.stash_file.result
    c.as_slice.result.now c.load_secs.result
    c.database-database.result.now c.database-database.ensures c.stash.ensures c.stash_file.ensures
    (c.as_slice.ensures.value ∙ c.realm.ensures) c.load_secs.ensures)
    masters may.takes)

pub returns-in-Some-clause-only_refused : goal.returns-in-Some-clause-only_refused
returns-in-Some-clause-only_refused c why cause =
    taken_given c.args.primary.now c.args.now c.args.dump.now
    (option_map (λ b. b.now) c.stash.result) c.stash_file.result c.as_slice.result.now c.load_secs.result
    (given_by c.args.primary.now c.args.now (option_map (λ b. b.now) c.stash.result) c.stash_file.result
    c.as_slice.result.now c.load_secs.result
    c.database-database.result.now c.database-database.ensures c.stash.ensures c.stash_file.ensures
    (c.as_slice.ensures.value ∙ c.realm.ensures) c.load_secs.ensures)
    c.requires.whole why (λ known. c.in-Ok.ensures.only_refused why known) c.in-Some.ensures.left cause

pub returns-in-None-clause-only_refused : goal.returns-in-None-clause-only_refused
returns-in-None-clause-only_refused c why cause =
    late_given c.args.primary.now c.args.now c.args.dump.now
    (option_map (λ b. b.now) c.stash.result) c.stash_file.result c.as_slice.result.now c.load_secs.result
    (given_by c.args.primary.now c.args.now (option_map (λ b. b.now) c.stash.result) c.stash_file.result
    c.as_slice.result.now c.load_secs.result
    c.database-database.result.now c.database-database.ensures c.stash.ensures c.stash_file.ensures
    (c.as_slice.ensures.value ∙ c.realm.ensures) c.load_secs.ensures)
    c.requires.whole why (λ known. c.in-Ok.ensures.only_refused why known) cause
