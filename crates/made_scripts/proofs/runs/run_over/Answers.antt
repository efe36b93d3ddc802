use Rattle.first_rows.specs.Creation.{first_state}
use Rattle.session_base.specs.Draws.{behind_command, block_in, moment_in}
use Rattle.made_scripts.proofs.Running.{told_whole}
use Rattle.made_scripts.specs.Runs.{own_spec}
use Rattle.made_scripts.proofs.runs.run_over.Goals as goal

pub returns : goal.returns
returns g c = λ draws told.
    let is_made = c.in_ok-primary.ensures.made draws told in
    told_whole c.play_through.result c.args.script draws c.in_ok-primary.primary _ is_made
    (c.play_through.ensures (first_state own_spec (moment_in draws) (block_in draws))
    (behind_command draws) is_made.shows is_made.left_is)
