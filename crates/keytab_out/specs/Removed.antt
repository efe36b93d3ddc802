-- The entries of a keytab that are removed.
use Rattle.std.specs.Prelude.{ℕ, Bool, not, true, ◌&&◌, max, nat_eq, nat_lt, List, [], ◌∷◌, if◌then◌else◌}
use Rattle.std.specs.List.{filter}
use Rattle.princ_name.specs.Equal.{same_name}
use Rattle.princ_name.specs.Names.{NameParts}
use Rattle.stash_file.specs.Pieces.{Told}
use Rattle.keytab_out.specs.declared.removing.Which.{Which}
use Rattle.keytab_out.specs.declared.removing.Which.TheVariants.{One, All, Older}

-- an entry of this name: the same components and the same realm
abbrev pub is_of : NameParts → Told → Bool
is_of name t = same_name (record { parts = t.parts; realm = t.realm }) name

-- the greater of a version and that of an entry of the name
abbrev pub later : NameParts → Told → ℕ → ℕ
later name t greatest = if is_of name t then max t.version greatest else greatest

-- the greatest version among the entries of the name, 0 where there is none
unfoldable pub greatest_of : NameParts → List Told → ℕ
greatest_of name [] = 0
greatest_of name (t ∷ entries) = later name t (greatest_of name entries)

-- a version that is removed, where this is the greatest one
abbrev pub is_meant : Which → ℕ → ℕ → Bool
is_meant (One wanted) greatest version = nat_eq version wanted
is_meant All greatest version = true
is_meant Older greatest version = nat_lt version greatest

abbrev pub goes : NameParts → Which → ℕ → Told → Bool
goes name which greatest t = is_of name t && is_meant which greatest t.version

-- the entries that are removed of a keytab
abbrev pub removed : NameParts → Which → List Told → List Told
removed name which entries = filter (goes name which (greatest_of name entries)) entries

-- the entries that are left
abbrev pub left : NameParts → Which → List Told → List Told
left name which entries = filter (λ t. not (goes name which (greatest_of name entries) t)) entries
