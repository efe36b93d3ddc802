-- The versions of the format, their titles and their rows.
use Rattle.std.proofs.Common.{◌≡◌, Bool, true, false, cond, List, ℕ, Some, None, refl, ap, ◌∙◌}
use Rattle.std.specs.Str.{bytes_eq}
use Rattle.std.proofs.lemmas.Option.{same_Some}
use Rattle.princ_record.specs.Princs.{IsPrinc}
use Rattle.princ_record.specs.RowLimits.{IsRow}
use Rattle.princ_record.specs.RowLaws.{row_1_from, row_1_is_row, row_from, row_test}
use Rattle.princ_record.specs.declared.princs.Princ.{Princ}
use Rattle.dump_text.specs.Versions.{stands_in, title, version_of}
use Rattle.dump_text.specs.declared.versions.Version.{Version}
use Rattle.dump_text.specs.declared.versions.Version.TheVariants.{One, Two}
use Rattle.princ_rows.specs.EntryLaws.{same_bytes}

pub stands_row : (v : Version) (p : Princ) → IsPrinc p → stands_in v p ≡ true → IsRow p
unfolding stands_in
stands_row One p f e = row_1_is_row p (row_1_from p f e)
stands_row Two p f e = row_from p f e

pub row_stands : (p : Princ) → IsRow p → stands_in Two p ≡ true
unfolding stands_in
row_stands p f = row_test p f

pub version_again : (v : Version) → version_of (title v) ≡ Some v
unfolding version_of title
version_again One = refl
version_again Two = refl

pub title_from : (line : List ℕ) (v : Version) → version_of line ≡ Some v → line ≡ title v
unfolding version_of
title_from line v e = by (bytes_eq line (title One)) (bytes_eq line (title Two)) refl refl e
  where
    by : (b c : Bool) → bytes_eq line (title One) ≡ b → bytes_eq line (title Two) ≡ c
        → cond b (Some One) (cond c (Some Two) None) ≡ Some v → line ≡ title v
    by true c is other f = same_bytes line (title One) is ∙ ap title (same_Some One v f)
    by false true not is f = same_bytes line (title Two) is ∙ ap title (same_Some Two v f)
    by false false not nor f = absurd cc
