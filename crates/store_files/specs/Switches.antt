-- The choices of files that come next, and what the files then hold.
use Rattle.std.specs.Prelude.{◌≢◌, ℕ, List, [], ◌∷◌, Option, Some}
use Rattle.kdb_base.specs.declared.moments.Point.{Point}
use Rattle.kdb_control.specs.Choice.{Choice}
use Rattle.kdb_control.specs.Force.{turn_after}
use Rattle.update_log.specs.Logs.{marker_of}
use Rattle.kdb_cells.specs.Sheets.{Sheet}
use Rattle.store_files.specs.Found.{Found}

-- The choice names other files than this one.
pub record IsSpareFor (choice : Choice) (file : ℕ) : Type 0 where
  pub control : file ≢ 0
  pub image : choice.image ≢ file
  pub log : choice.log ≢ file
  pub stash : choice.stash ≢ 0 → choice.stash ≢ file

-- the log begun anew at this base, in the other log file
abbrev pub reset_choice : ℕ → Point → ℕ → ℕ → Choice → Choice
reset_choice log base size block c = record {
  format = 2;
  turn = turn_after c.turn;
  image = c.image;
  log = log;
  stash = c.stash;
  size = size;
  block = block;
  base = base;
}

abbrev pub after_reset : ℕ → Point → ℕ → ℕ → Found → Found
after_reset log base size block o = record {
  control = reset_choice log base size block o.control;
  held = marker_of base ∷ [];
  sheet = o.sheet;
  stash = o.stash;
}

-- other rows in the other file of cells, with a log begun anew
abbrev pub replaced_choice : ℕ → ℕ → Point → Choice → Choice
replaced_choice image log base c = record {
  format = 2;
  turn = turn_after c.turn;
  image = image;
  log = log;
  stash = c.stash;
  size = c.size;
  block = c.block;
  base = base;
}

abbrev pub after_replace : ℕ → ℕ → Point → Sheet → Found → Found
after_replace image log base sheet o = record {
  control = replaced_choice image log base o.control;
  held = marker_of base ∷ [];
  sheet = sheet;
  stash = o.stash;
}

-- another stash, in the other stash file
abbrev pub stash_choice : ℕ → Choice → Choice
stash_choice stash c = record {
  format = c.format;
  turn = turn_after c.turn;
  image = c.image;
  log = c.log;
  stash = stash;
  size = c.size;
  block = c.block;
  base = c.base;
}

abbrev pub after_stash : ℕ → List ℕ → Found → Found
after_stash stash bytes o =
    record { control = stash_choice stash o.control; held = o.held; sheet = o.sheet; stash = Some bytes }

-- the first choice of a database that is made
abbrev pub first_choice : ℕ → ℕ → Point → ℕ → ℕ → Choice
first_choice format stash base size block = record {
  format = format;
  turn = 0;
  image = 1;
  log = 3;
  stash = stash;
  size = size;
  block = block;
  base = base;
}

abbrev pub first_found : Choice → Sheet → Option (List ℕ) → Found
first_found choice sheet stash =
    record { control = choice; held = marker_of choice.base ∷ []; sheet = sheet; stash = stash }
