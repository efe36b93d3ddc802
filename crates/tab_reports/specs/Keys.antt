-- The report of keys.
use Rattle.std.specs.Prelude.{ℕ, ◌+◌, List, [], ◌∷◌, ◌++◌, codes, length}
use Rattle.std.specs.Fmt.{decimal}
use Rattle.std.specs.List.{flat_map}
use Rattle.kadm_replies.specs.Texts.{etype_text}
use Rattle.kdb_base.specs.declared.keys.Salt.{Salt}
use Rattle.kdb_base.specs.declared.keys.Salt.TheVariants.{Normal, Special}
use Rattle.princ_keys.specs.declared.keys.KeyItem.{KeyItem}
use Rattle.princ_record.specs.declared.princs.Princ.{Princ}
use Rattle.tab_reports.specs.Principals.{line_feed, tab}

unfoldable pub salt_text : Salt → List ℕ
salt_text Normal = codes "normal"
salt_text (Special bytes) = codes "special"

-- a key of this name, at this place among those of the name, and the bytes that it takes wrapped
unfoldable pub key_line : List ℕ → ℕ → KeyItem → List ℕ
key_line name index k =
    name ++ (tab ++ (decimal index ++ (tab ++ (decimal k.kvno ++ (tab ++ (etype_text k.etype
    ++ (tab ++ (salt_text k.salt ++ (tab ++ (decimal (length k.wrapped) ++ line_feed))))))))))

-- keys in their order, of which the first has this place
unfoldable pub key_lines : List ℕ → ℕ → List KeyItem → List ℕ
key_lines name index [] = []
key_lines name index (k ∷ keys) = key_line name index k ++ key_lines name (index + 1) keys

-- places count from 0
abbrev pub princ_keys : Princ → List ℕ
princ_keys p = key_lines p.name 0 p.keys

unfoldable pub keys_header : List ℕ
keys_header = codes "name\tindex\tkvno\tenctype\tsalt\twrapped\n"

unfoldable pub keys_text : List Princ → List ℕ
keys_text princs = keys_header ++ flat_map princ_keys princs
