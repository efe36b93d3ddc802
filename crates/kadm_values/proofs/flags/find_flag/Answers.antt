use Rattle.std.proofs.Common.{List, ap, ◌∙◌, option_map}
use Rattle.std.specs.List.{find}
use Rattle.std.specs.Str.{bytes_eq}
use Rattle.kadm_values.specs.Flags.{FlagRow, row_of, flag_named}
use Rattle.kadm_values.proofs.FlagLemmas.{find-map}
use Rattle.kadm_values.proofs.flags.find_flag.Goals as goal

pub returns : goal.returns
unfolding flag_named
returns c =
    ap (option_map row_of) c.find_among.ensures
    ∙ find-map row_of (λ (row : FlagRow). bytes_eq row.word c.args.word.now) c.known_flags.result.now
    ∙ ap (λ (rows : List FlagRow). find (λ row. bytes_eq row.word c.args.word.now) rows) c.known_flags.ensures
