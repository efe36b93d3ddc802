-- By the one reading of a line.
use Rattle.kadm_wire.specs.declared.readings.Reading.TheVariants.{Skipped, Says, Refuses}
use Rattle.kadm_wire.proofs.LineLaws.{said_answer, answer_said}
use Rattle.kadm_wire.proofs.laws.reading_answers_as_the_line_says.Goals as goal

pub returns-clause-command : goal.returns-clause-command
returns-clause-command c =
    λ realm line command. (answer_said realm line (Says command), said_answer realm line (Says command))

pub returns-clause-skipped : goal.returns-clause-skipped
returns-clause-skipped c = λ realm line. (answer_said realm line Skipped, said_answer realm line Skipped)

pub returns-clause-refused : goal.returns-clause-refused
returns-clause-refused c =
    λ realm line refusal. (answer_said realm line (Refuses refusal), said_answer realm line (Refuses refusal))
