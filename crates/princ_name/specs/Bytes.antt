-- The bytes of a principal's name, as they stand in a word and in the name (krb5_parse_name and krb5_unparse_name of
-- MIT Kerberos).
use Rattle.std.specs.Prelude.{ℕ, Bool, not, ◌==◌, ◌||◌, ◌&&◌, nat_lt, List, [], ◌∷◌, if◌then◌else◌}

-- control bytes, which never stand in a word
unfoldable pub is_refused : ℕ → Bool
is_refused b = nat_lt b 32 || b == 127

-- the signs of a word: / between components, @ before the realm, \ before a byte that is to be no sign
unfoldable pub is_sign : ℕ → Bool
is_sign b = b == 47 || b == 64 || b == 92

-- the byte that stands for itself
unfoldable pub is_plain : ℕ → Bool
is_plain b = not (is_refused b) && not (is_sign b)

-- the byte for which a backslash and this byte stand: \n, \t, \b and \0 are newline, tab, backspace and nul
unfoldable pub escaped : ℕ → ℕ
escaped c = if c == 110 then 10 else if c == 116 then 9 else if c == 98 then 8 else if c == 48 then 0 else c

-- the bytes of names: no control byte but those four
unfoldable pub can_stand : ℕ → Bool
can_stand b = not (is_refused b) || (b == 10 || b == 9 || b == 8 || b == 0)

-- the printed form of a byte of a name
unfoldable pub printed_byte : ℕ → List ℕ
printed_byte b =
    if b == 10 then 92 ∷ 110 ∷ []
    else if b == 9 then 92 ∷ 116 ∷ []
    else if b == 8 then 92 ∷ 98 ∷ []
    else if b == 0 then 92 ∷ 48 ∷ []
    else if is_sign b then 92 ∷ b ∷ []
    else b ∷ []
