use Rattle.std.proofs.Common.{List, ap, ◌∙◌, option_map}
use Rattle.std.specs.List.{find}
use Rattle.std.specs.Str.{bytes_eq}
use Rattle.kadm_values.specs.EtypeWords.{EtypeRow, row_of}
use Rattle.kadm_values.proofs.FlagLemmas.{find-map}
use Rattle.kadm_values.proofs.etypes.find_word.Goals as goal

pub returns : goal.returns
returns c =
    ap (option_map row_of) c.find_among.ensures
    ∙ find-map row_of (λ (row : EtypeRow). bytes_eq row.word c.args.word.now) c.known_words.result.now
    ∙ ap (λ (rows : List EtypeRow). find (λ row. bytes_eq row.word c.args.word.now) rows) c.known_words.ensures
