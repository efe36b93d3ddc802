-- Whether a change may be made of rows.
use Rattle.std.specs.Prelude.{◌+◌, Bool, true, ◌&&◌, ◌||◌, not, nat_le, length, Some}
use Rattle.std.specs.List.{list_any}
use Rattle.std.specs.Str.{bytes_eq}
use Rattle.kdb_base.specs.Limits.{most_rows}
use Rattle.princ_rows.specs.Effects.{effect}
use Rattle.princ_rows.specs.Rows.{RowLists}
use Rattle.princ_rows.specs.declared.entries.Op.{Op}
use Rattle.princ_rows.specs.declared.entries.Op.TheVariants.{PutPrinc, DropPrinc, Rename, PutPolicy, DropPolicy}

-- no more rows than a database may have
abbrev pub is_room : RowLists → Bool
is_room r = nat_le (length r.princs + length r.policies) most_rows

-- a rename keeps the name, or takes one that no row has
abbrev pub is_new_name : Op → RowLists → Bool
is_new_name (PutPrinc p) r = true
is_new_name (DropPrinc name) r = true
is_new_name (Rename old p) r = bytes_eq p.name old || not (list_any (λ q. bytes_eq q.name p.name) r.princs)
is_new_name (PutPolicy p) r = true
is_new_name (DropPolicy name) r = true

-- the change leaves room, and renames to no other row's name
unfoldable pub may_apply : Op → RowLists → Bool
may_apply op r = is_room (effect (Some op) r) && is_new_name op r
