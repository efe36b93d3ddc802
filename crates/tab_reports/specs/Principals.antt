-- The report of principals.
use Rattle.std.specs.Prelude.{ℕ, List, ◌++◌, codes, length, Option, Some, None, []}
use Rattle.std.specs.Fmt.{decimal}
use Rattle.std.specs.List.{flat_map}
use Rattle.hex.specs.Hex.{encode_lower}
use Rattle.kdb_format.specs.Spellings.{big}
use Rattle.princ_record.specs.declared.princs.Princ.{Princ}

abbrev pub tab : List ℕ
tab = codes "\t"

abbrev pub line_feed : List ℕ
line_feed = codes "\n"

-- eight hexadecimal digits
abbrev pub attributes_text : ℕ → List ℕ
attributes_text attributes = encode_lower (big 4 attributes)

-- an empty field where there is none
abbrev pub policy_text : Option (List ℕ) → List ℕ
policy_text None = []
policy_text (Some name) = name

-- the name, the attributes, lives and expirations
unfoldable pub princ_front : Princ → List ℕ
princ_front p =
    p.name ++ (tab ++ (attributes_text p.attributes ++ (tab ++ (decimal p.max_life ++ (tab ++ (decimal p.max_renew
    ++ (tab ++ (decimal p.expire ++ (tab ++ (decimal p.pw_expire ++ tab))))))))))

-- the policy, when and by whom it was changed last, the version of the master key, and how many string attributes it
-- has
unfoldable pub princ_rest : Princ → List ℕ
princ_rest p =
    policy_text p.policy ++ (tab ++ (decimal p.modified ++ (tab ++ (p.modifier ++ (tab ++ (decimal p.mkvno
    ++ (tab ++ (decimal (length p.strings) ++ line_feed))))))))

abbrev pub princ_line : Princ → List ℕ
princ_line p = princ_front p ++ princ_rest p

unfoldable pub princs_header : List ℕ
princs_header =
    codes "name\tattributes\tmaxlife\tmaxrenewlife\texpire\tpwexpire\tpolicy\tmodified\tmodifier\tmkvno\tstrings\n"

unfoldable pub princs_text : List Princ → List ℕ
princs_text princs = princs_header ++ flat_map princ_line princs
