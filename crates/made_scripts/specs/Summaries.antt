-- What is told of a script behind its last line.
use Rattle.std.specs.Prelude.{List, ℕ, ◌++◌, codes}
use Rattle.std.specs.Fmt.{decimal}
use Rattle.kadm_replies.specs.Texts.{done_text, field_line}
use Rattle.made_scripts.specs.declared.summaries.Summary.{Summary}

unfoldable pub summary_text : Summary → List ℕ
summary_text s =
    field_line (codes "lines") (decimal s.lines)
    ++ (field_line (codes "accepted") (decimal s.accepted)
    ++ (field_line (codes "refused") (decimal s.refused)
    ++ (field_line (codes "principals") (decimal s.principals)
    ++ (field_line (codes "keys") (decimal s.keys) ++ done_text s.point))))
