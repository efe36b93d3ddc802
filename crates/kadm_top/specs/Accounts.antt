-- What is told of a database with no change.
use Rattle.std.specs.Prelude.{ℕ, List, [], ◌∷◌, Option, Some, option_map}
use Rattle.dump_text.specs.Dumps.{dump_text}
use Rattle.dump_text.specs.declared.versions.Version.TheVariants.{Two}
use Rattle.session_base.specs.Draws.{Draws, moment_in}
use Rattle.kadm_top.specs.declared.words.Account.{Account}
use Rattle.kadm_top.specs.declared.words.Account.TheVariants.{Dump, Log, Report}
use Rattle.kdb_base.specs.declared.moments.Point.{Point}
use Rattle.kdb_places.specs.Places.{Place, no_point, point_of}
use Rattle.princ_rows.specs.declared.entries.Entry.{Entry}
use Rattle.tab_reports.specs.Reports.{report_text}
use Rattle.tab_reports.specs.declared.reports.ReportKind.{ReportKind}
use Rattle.ulog_text.specs.Ulogs.{ulog_text}

abbrev pub whole_text : Place → List ℕ
whole_text p = dump_text Two p.realm (point_of p) p.rows

-- the point of the first of these entries
abbrev pub first_held : List Entry → Point
first_held [] = no_point
first_held (e ∷ entries) = e.point

-- the entries that the log holds, as lines
abbrev pub log_text : Place → List ℕ
log_text p = ulog_text (first_held p.held) (point_of p) p.size p.block p.held

-- a report at these seconds
abbrev pub report_at : ReportKind → ℕ → Place → List ℕ
report_at kind secs p = report_text kind p.rows secs

-- what is told at these seconds
abbrev pub account_text : Account → ℕ → Place → List ℕ
account_text Dump secs = whole_text
account_text Log secs = log_text
account_text (Report kind) secs = report_at kind secs

-- what is told at the clock's next moment: of a report, where that moment is told
abbrev pub texts_of : Account → Option Draws → Option (Place → List ℕ)
texts_of Dump draws = Some whole_text
texts_of Log draws = Some log_text
texts_of (Report kind) draws = option_map (λ told. report_at kind (moment_in told).secs) draws
