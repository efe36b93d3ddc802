-- How records are counted by versions, one record after another.
use Rattle.std.specs.Prelude.{ℕ, ◌+◌, nat_eq, List, [], ◌∷◌, if◌then◌else◌}
use Rattle.std.specs.Str.{bytes_eq}
use Rattle.kdb_base.specs.declared.versions.Master.{Master}
use Rattle.master_keys.specs.First.{master_name}
use Rattle.princ_record.specs.declared.princs.Princ.{Princ}

-- one more of this version; each count stands beside its master key
unfoldable pub noted : ℕ → List Master → List ℕ → List ℕ
noted version [] counts = []
noted version (m ∷ masters) [] = []
noted version (m ∷ masters) (count ∷ counts) =
    (if nat_eq version m.version then count + 1 else count) ∷ noted version masters counts

-- one more of the version of this record, where it is none of K/M
abbrev pub recorded : List ℕ → Princ → List Master → List ℕ → List ℕ
recorded realm p masters counts = if bytes_eq p.name (master_name realm) then counts else noted p.mkvno masters counts
