-- The keys of rows: a principal's printed name has an @, and no policy's name has one.
use Rattle.std.proofs.Common.{◌≡◌, ℕ, true, List, [], ◌∷◌, ◌++◌, ap, sym, ◌∙◌}
use Rattle.std.specs.List.{list_all}
use Rattle.std.proofs.lemmas.Bool.{and_parts}
use Rattle.policy_rules.specs.Names.{is_name_byte, is_policy_name}
use Rattle.princ_name.specs.Names.{printed, printed_parts, printed_text}
use Rattle.princ_name.specs.Printed.{IsPrinted}
use Rattle.kdb_cells.specs.declared.units.StoredRow.{StoredRow}
use Rattle.kdb_cells.specs.declared.units.StoredRow.TheVariants.{Princ, Policy}
use Rattle.kdb_cells.specs.Cells.{name_of, IsStored}
use Rattle.kdb_cells.specs.Sheets.{same_key}
use Rattle.princ_rows.specs.EntryLaws.{bytes_same}

-- what holds of each byte holds of those behind a front
all_behind : (front rest : List ℕ) → list_all is_name_byte (front ++ rest) ≡ true → list_all is_name_byte rest ≡ true
all_behind [] rest all = all
all_behind (b ∷ front) rest all =
    all_behind front rest (and_parts (is_name_byte b) (list_all is_name_byte (front ++ rest)) all).1

pub printed_is_no_policy : (name : List ℕ) → IsPrinted name → is_policy_name name ≡ true → ⊥
unfolding printed is_policy_name
printed_is_no_policy name is named =
    let all = (and_parts _ _ named).1 in
    let parts = is.0.parts in
    let realm = printed_text is.0.realm in
    let at = all_behind (printed_parts parts) (64 ∷ realm) (sym (ap (list_all is_name_byte) is.1.1) ∙ all) in
    absurd cc

-- rows that may be stored have one key only where they are of one kind
pub one_kind : (format : ℕ) (r s : StoredRow) → IsStored format r → IsStored format s → name_of r ≡ name_of s
    → same_key r s ≡ true
one_kind format (Princ p) (Princ q) a b is = bytes_same p.name q.name is
one_kind format (Princ p) (Policy q) a b is =
    absurd (printed_is_no_policy p.name a.row.fits.name (ap is_policy_name is ∙ b.named))
one_kind format (Policy p) (Princ q) a b is =
    absurd (printed_is_no_policy q.name b.row.fits.name (ap is_policy_name (sym is) ∙ a.named))
one_kind format (Policy p) (Policy q) a b is = bytes_same p.name q.name is
