-- The lines of a principal.
use Rattle.std.specs.Prelude.{ℕ, Bool, List, [], ◌∷◌, ◌++◌, codes, Option, Some, None, unwrap_or, if◌then◌else◌}
use Rattle.std.specs.Fmt.{decimal}
use Rattle.std.specs.List.{flat_map}
use Rattle.kadm_values.specs.Flags.{FlagRow, set_flags}
use Rattle.kdb_base.specs.declared.keys.Etype.{Etype}
use Rattle.kadm_replies.specs.Texts.{etype_text, field_line, time_text}
use Rattle.kadm_commands.specs.declared.shown.KeyShown.{KeyShown}
use Rattle.kadm_commands.specs.declared.shown.PrincShown.{PrincShown}

-- the sign that sets the flag, and its word
unfoldable pub flag_text : FlagRow → List ℕ
flag_text row = (if row.plus_sets then 43 else 45) ∷ row.word

-- words with a space between them
unfoldable pub flag_texts : List FlagRow → List ℕ
flag_texts [] = codes "none"
flag_texts (row ∷ rows) = flag_text row ++ flat_map (λ other. 32 ∷ flag_text other) rows

abbrev pub policy_text : Option (List ℕ) → List ℕ
policy_text None = codes "-"
policy_text (Some name) = name

-- when the principal and its password expire, and when the password was changed
unfoldable pub times_text : ℕ → ℕ → Option ℕ → List ℕ
times_text expire pw_expire pw_changed =
    field_line (codes "expires") (time_text expire)
    ++ (field_line (codes "pwexpires") (time_text pw_expire)
    ++ field_line (codes "pwchanged") (time_text (unwrap_or pw_changed 0)))

-- the greatest life and the greatest renewable life
unfoldable pub lives_text : ℕ → ℕ → List ℕ
lives_text max_life max_renew =
    field_line (codes "maxlife") (decimal max_life) ++ field_line (codes "maxrenewlife") (decimal max_renew)

-- when and by whom it was changed last
unfoldable pub modified_text : ℕ → List ℕ → List ℕ
modified_text secs modifier = field_line (codes "modified") (time_text secs ++ codes " " ++ modifier)

-- the version of the master key, the flags and the policy
unfoldable pub rest_text : ℕ → ℕ → Option (List ℕ) → List ℕ
rest_text mkvno attributes policy =
    field_line (codes "mkvno") (decimal mkvno)
    ++ (field_line (codes "flags") (flag_texts (set_flags attributes))
    ++ field_line (codes "policy") (policy_text policy))

-- ---- keys

unfoldable pub salt_text : Bool → List ℕ
salt_text special = if special then codes "special" else codes "normal"

-- a key's version, encryption type and kind of salt
unfoldable pub key_line : ℕ → Etype → Bool → List ℕ
key_line kvno etype special =
    field_line (codes "key") (decimal kvno ++ (codes " " ++ (etype_text etype ++ (codes " " ++ salt_text special))))

abbrev pub shown_key_line : KeyShown → List ℕ
shown_key_line key = key_line key.kvno key.etype key.special

-- ---- the whole

unfoldable pub shown_text : PrincShown → List ℕ
shown_text p =
    field_line (codes "principal") p.name
    ++ (times_text p.expire p.pw_expire p.pw_changed
    ++ (lives_text p.max_life p.max_renew
    ++ (modified_text p.modified p.modifier
    ++ (rest_text p.mkvno p.attributes p.policy
    ++ flat_map shown_key_line p.keys))))
