use Rattle.kadm_wire.proofs.ReadCommands.{words_told}
use Rattle.kadm_wire.proofs.lines.parse_words.Goals as goal

pub returns-clause-valid : goal.returns-clause-valid
returns-clause-valid c =
    λ command e. words_told c.args.realm.now c.args.words.now c.words_answer.result command c.words_answer.ensures e
