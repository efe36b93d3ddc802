use Rattle.made_scripts.proofs.Playing.{lines_counted}
use Rattle.made_scripts.proofs.laws.scripts_have_their_lines.Goals as goal

pub returns : goal.returns
returns c = λ seed number count. lines_counted seed number count
