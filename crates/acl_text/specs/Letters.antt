-- The letters of operations (kadm5.acl of MIT Kerberos): a add, d delete, m modify, c change password, i inquire, l
-- list, s set key, p propagate, e extract; x and * stand for all but e, and a capital letter takes away.
use Rattle.std.specs.Prelude.{ℕ, ◌+◌, ◌==◌, Bool, false, not, ◌||◌, ◌&&◌, nat_le, List, codes, fold, if◌then◌else◌}
use Rattle.std.specs.List.{list_all, list_any}

abbrev pub is_capital : ℕ → Bool
is_capital byte = nat_le 65 byte && nat_le byte 90

abbrev pub in_small : ℕ → ℕ
in_small byte = if is_capital byte then byte + 32 else byte

unfoldable pub is_operation : ℕ → Bool
is_operation letter = list_any (λ known. known == letter) (codes "admcilspe")

-- x and *
abbrev pub is_all : ℕ → Bool
is_all letter = letter == 120 || letter == 42

-- whether a byte of the letters counts for an operation
unfoldable pub counts_for : ℕ → ℕ → Bool
counts_for operation byte =
    is_operation operation && (in_small byte == operation || (is_all (in_small byte) && not (operation == 101)))

unfoldable pub is_letter : ℕ → Bool
is_letter byte = is_operation (in_small byte) || is_all (in_small byte)

unfoldable pub are_letters : List ℕ → Bool
are_letters word = list_all is_letter word

-- from left to right: the last byte that counts for the operation decides
unfoldable pub grants : List ℕ → ℕ → Bool
grants letters operation =
    fold (λ granted byte. if counts_for operation byte then not (is_capital byte) else granted) false letters
