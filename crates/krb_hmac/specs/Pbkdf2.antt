-- PBKDF2 (RFC 2898, section 5.2) with a function of a password and a text whose results have so many bytes, and with
-- HMAC-SHA1.
use Rattle.std.specs.Prelude.{ℕ, zero, suc, List, [], ◌∷◌, ◌++◌, map, take, bit_xor}
use Rattle.std.specs.Int.{w32, div_ceil, to_be_bytes}
use Rattle.std.specs.List.{concat, fold, range_with_len}
use Rattle.krb_hmac.specs.Hmac.{hmac}

-- U_1, .., U_c: U_1 is the function at the text, and each later one is the function at the one before it
unfoldable pub chain : (List ℕ → List ℕ) → List ℕ → ℕ → List (List ℕ)
chain keyed text zero = []
chain keyed text (suc count) = keyed text ∷ chain keyed (keyed text) count

-- the exclusive-or of two texts of one length, byte by byte
unfoldable pub xor_bytes : List ℕ → List ℕ → List ℕ
xor_bytes [] ys = []
xor_bytes (x ∷ xs) [] = []
xor_bytes (x ∷ xs) (y ∷ ys) = bit_xor x y ∷ xor_bytes xs ys

-- the exclusive-or of all
unfoldable pub xor_all : List (List ℕ) → List ℕ
xor_all [] = []
xor_all (text ∷ texts) = fold xor_bytes text texts

-- T_i, which is F (P, S, c, i): U_1 xor .. xor U_c, from the salt and the block's number, by the function at P
unfoldable pub block : (List ℕ → List ℕ) → List ℕ → ℕ → ℕ → List ℕ
block keyed salt count number = xor_all (chain keyed (salt ++ to_be_bytes w32 number) count)

-- T_1, .., T_l, one after another
unfoldable pub blocks : (List ℕ → List ℕ) → List ℕ → ℕ → ℕ → List ℕ
blocks keyed salt count many = concat (map (block keyed salt count) (range_with_len 1 many))

-- the derived key of so many bytes, by a function whose results have `size` bytes
unfoldable pub pbkdf2_by : (List ℕ → List ℕ → List ℕ) → ℕ → List ℕ → List ℕ → ℕ → ℕ → List ℕ
pbkdf2_by prf size password salt count len = take len (blocks (prf password) salt count (div_ceil len size))

-- PBKDF2 with HMAC-SHA1
abbrev pub pbkdf2 : List ℕ → List ℕ → ℕ → ℕ → List ℕ
pbkdf2 = pbkdf2_by hmac 20
