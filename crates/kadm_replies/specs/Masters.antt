-- The lines of master keys.
use Rattle.std.specs.Prelude.{ℕ, ◌+◌, Bool, List, [], ◌++◌, codes, count_by}
use Rattle.std.specs.Prelude.{Option, Some, None, is_some, not, if◌then◌else◌}
use Rattle.std.specs.Fmt.{decimal}
use Rattle.std.specs.List.{flat_map}
use Rattle.kadm_values.specs.Points.{point_text}
use Rattle.kdb_base.specs.declared.moments.Point.{Point}
use Rattle.serving_versions.specs.declared.serving.Cause.{Cause}
use Rattle.serving_versions.specs.declared.serving.Cause.TheVariants.{Protects, Active, Newest, Pending}
use Rattle.kadm_commands.specs.declared.replies.Totals.{Totals}
use Rattle.kadm_commands.specs.declared.versions.MasterRow.{MasterRow}
use Rattle.kadm_commands.specs.declared.versions.PurgeRow.{PurgeRow}
use Rattle.kadm_replies.specs.Texts.{data_line, etype_text, field_line, line_feed, time_text}

-- a new version, and a version with the time from which on it is active
unfoldable pub added_text : Point → ℕ → List ℕ
added_text point version = codes "ok " ++ (point_text point ++ (codes " mkvno " ++ (decimal version ++ line_feed)))

unfoldable pub used_text : Point → ℕ → ℕ → List ℕ
used_text point version secs =
    codes "ok "
    ++ (point_text point ++ (codes " mkvno " ++ (decimal version ++ (codes " from " ++ (time_text secs ++ line_feed)))))

-- ---- list_mkeys

-- a dash where there is no activation
abbrev pub activation_text : Option ℕ → List ℕ
activation_text None = codes "-"
activation_text (Some secs) = time_text secs

abbrev pub mark_text : Bool → List ℕ
mark_text active = if active then codes " *" else []

-- a version, its encryption type, its activation, and a mark behind the active one
unfoldable pub master_line : MasterRow → List ℕ
master_line row =
    data_line (decimal row.version
    ++ (codes " " ++ (etype_text row.etype ++ (codes " " ++ (activation_text row.secs ++ mark_text row.active)))))

unfoldable pub masters_text : List MasterRow → List ℕ
masters_text rows = flat_map master_line rows

-- ---- purge_mkeys

-- why a version serves
unfoldable pub serving_text : Cause → List ℕ
serving_text (Protects count) = codes "protects " ++ decimal count
serving_text Active = codes "active"
serving_text Newest = codes "newest"
serving_text Pending = codes "pending"

abbrev pub purge_row_text : ℕ → Option Cause → List ℕ
purge_row_text version None = field_line (codes "purged") (decimal version)
purge_row_text version (Some cause) = field_line (codes "kept") (decimal version ++ (codes " " ++ serving_text cause))

unfoldable pub purge_line : PurgeRow → List ℕ
purge_line row = purge_row_text row.version row.cause

abbrev pub is_purged : PurgeRow → Bool
is_purged row = not (is_some row.cause)

abbrev pub point_before : Option Point → List ℕ
point_before None = []
point_before (Some point) = point_text point ++ codes " "

unfoldable pub purges_text : List PurgeRow → List ℕ
purges_text rows = flat_map purge_line rows

-- how many versions were deleted, with the point of the deletion where there was one
unfoldable pub purged_text : Option Point → List PurgeRow → List ℕ
purged_text point rows = codes "ok " ++ (point_before point ++ (decimal (count_by is_purged rows) ++ codes " purged\n"))

-- ---- update_princ_encryption

-- those that are gone are not counted among the processed
unfoldable pub totals_text : Totals → List ℕ
totals_text t =
    codes "ok "
    ++ (decimal (t.updated + t.already) ++ (codes " principals processed: " ++ (decimal t.updated ++ (codes " updated, "
    ++ (decimal t.already ++ (codes " already current, " ++ (decimal t.gone ++ codes " gone\n")))))))
