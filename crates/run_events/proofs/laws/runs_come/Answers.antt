use Rattle.run_events.proofs.Ending.{end_comes}
use Rattle.run_events.proofs.Runs.{any_comes, asked_comes, created_comes, loaded_comes, renewed_comes}
use Rattle.run_events.proofs.laws.runs_come.Goals as goal

pub returns-clause-asked : goal.returns-clause-asked
returns-clause-asked g c = λ s words before begin made at asked files b. asked_comes (record {
  valid = record { later = c.valid_later.ensures.later; point = c.valid_later.ensures.point };
  one = record { one = c.sound_rows_show_one_state.ensures.one };
  some = record { some = c.sound_rows_show_one_state.ensures.shows };
  dumps = record { spelled = c.what_is_judged_a_dump_is_spelled_so.ensures };
}) s words (g.D.Disk.view c.args.«_before».now) before begin made at asked files b

pub returns-clause-loaded : goal.returns-clause-loaded
returns-clause-loaded g c = λ s words before begin made at what files b. loaded_comes (record {
  valid = record { later = c.valid_later.ensures.later; point = c.valid_later.ensures.point };
  one = record { one = c.sound_rows_show_one_state.ensures.one };
  some = record { some = c.sound_rows_show_one_state.ensures.shows };
  dumps = record { spelled = c.what_is_judged_a_dump_is_spelled_so.ensures };
}) s words (g.D.Disk.view c.args.«_before».now) before begin made at what files b

pub returns-clause-renewed : goal.returns-clause-renewed
returns-clause-renewed g c = λ s words before begin made at reads what files b. renewed_comes (record {
  valid = record { later = c.valid_later.ensures.later; point = c.valid_later.ensures.point };
  one = record { one = c.sound_rows_show_one_state.ensures.one };
  some = record { some = c.sound_rows_show_one_state.ensures.shows };
  dumps = record { spelled = c.what_is_judged_a_dump_is_spelled_so.ensures };
}) s words (g.D.Disk.view c.args.«_before».now) before begin made at reads what files b

pub returns-clause-created : goal.returns-clause-created
returns-clause-created g c = λ s words before spec files b. created_comes (record {
  valid = record { later = c.valid_later.ensures.later; point = c.valid_later.ensures.point };
  one = record { one = c.sound_rows_show_one_state.ensures.one };
  some = record { some = c.sound_rows_show_one_state.ensures.shows };
  dumps = record { spelled = c.what_is_judged_a_dump_is_spelled_so.ensures };
}) s words (g.D.Disk.view c.args.«_before».now) before spec files b

pub returns-clause-ended : goal.returns-clause-ended
returns-clause-ended g c =
    λ s words before files b. end_comes s (g.D.Disk.view c.args.«_before».now) files b.rests b.reads

pub returns-clause-any : goal.returns-clause-any
returns-clause-any g c = λ s words before o files b. any_comes (record {
  valid = record { later = c.valid_later.ensures.later; point = c.valid_later.ensures.point };
  one = record { one = c.sound_rows_show_one_state.ensures.one };
  some = record { some = c.sound_rows_show_one_state.ensures.shows };
  dumps = record { spelled = c.what_is_judged_a_dump_is_spelled_so.ensures };
}) s words (g.D.Disk.view c.args.«_before».now) before o files b
