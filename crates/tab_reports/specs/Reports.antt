-- The reports: each is a header and one line for each item, with a tab between fields.
use Rattle.std.specs.Prelude.{ℕ, List}
use Rattle.princ_rows.specs.Rows.{RowLists}
use Rattle.tab_reports.specs.Keys.{keys_text}
use Rattle.tab_reports.specs.Masters.{masters_text}
use Rattle.tab_reports.specs.Policies.{policies_text}
use Rattle.tab_reports.specs.Principals.{princs_text}
use Rattle.tab_reports.specs.declared.reports.ReportKind.{ReportKind}
use Rattle.tab_reports.specs.declared.reports.ReportKind.TheVariants.{Principals, Keys, Policies, Masters}

-- the text of a report, at these seconds
abbrev pub report_text : ReportKind → RowLists → ℕ → List ℕ
report_text Principals rows secs = princs_text rows.princs
report_text Keys rows secs = keys_text rows.princs
report_text Policies rows secs = policies_text rows.princs rows.policies
report_text Masters rows secs = masters_text rows.princs secs
