-- HMAC (RFC 2104) over a hash function whose blocks have so many bytes, and HMAC-SHA1.
use Rattle.std.specs.Prelude.{ℕ, ◌-◌, nat_lt, List, ◌++◌, length, map, replicate, bit_xor, if◌then◌else◌}
use Rattle.sha1.specs.Sha1.{sha1}

-- the key that is padded: a key longer than a block is hashed first
unfoldable pub short_key : (List ℕ → List ℕ) → ℕ → List ℕ → List ℕ
short_key hash block key = if nat_lt block (length key) then hash key else key

-- the key as one block: zeros follow it
unfoldable pub key_block : (List ℕ → List ℕ) → ℕ → List ℕ → List ℕ
key_block hash block key = short_key hash block key ++ replicate (block - length (short_key hash block key)) 0

-- each byte of a text exclusive-or one byte
unfoldable pub masked : ℕ → List ℕ → List ℕ
masked mask text = map (λ byte. bit_xor byte mask) text

-- H (K xor opad, H (K xor ipad, text)), of RFC 2104, section 2
unfoldable pub hmac_by : (List ℕ → List ℕ) → ℕ → List ℕ → List ℕ → List ℕ
hmac_by hash block key text =
    hash (masked 0x5c (key_block hash block key) ++ hash (masked 0x36 (key_block hash block key) ++ text))

-- HMAC-SHA1
abbrev pub hmac : List ℕ → List ℕ → List ℕ
hmac = hmac_by sha1 64
