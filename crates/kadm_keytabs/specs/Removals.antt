-- What `ktremove` answers.
use Rattle.std.specs.Prelude.{◌≡◌, Bool, ◌&&◌, nat_eq, List, if◌then◌else◌}
use Rattle.std.specs.List.{list_any}
use Rattle.kadm_keytabs.specs.Answers.{keytab_answer, refusal_answer}
use Rattle.kadm_keytabs.specs.declared.answers.Answer.{Answer}
use Rattle.kdb_base.specs.declared.outcomes.Refusal.TheVariants.{UnknownEntry}
use Rattle.keytab_out.specs.Removed.{is_of, left}
use Rattle.keytab_out.specs.declared.removing.Which.{Which}
use Rattle.keytab_out.specs.declared.removing.Which.TheVariants.{One, All, Older}
use Rattle.princ_name.specs.Names.{NameParts}
use Rattle.stash_file.specs.Pieces.{Told}

-- an entry of the name, and of the version where one is named
abbrev pub is_asked : NameParts → Which → Told → Bool
is_asked name (One version) t = is_of name t && nat_eq t.version version
is_asked name All t = is_of name t
is_asked name Older t = is_of name t

-- The keytab without the named entries, or a refusal where there is no entry of the name, or none of the name and the
-- version. That there is nothing older to remove is no refusal.
abbrev pub removal_of : NameParts → Which → List Told → Answer
removal_of name which entries = if list_any (is_asked name which) entries then keytab_answer (left name which entries)
    else refusal_answer UnknownEntry

abbrev pub Removes : NameParts → Which → List Told → Answer → Type 0
Removes name which entries answer = answer ≡ removal_of name which entries
