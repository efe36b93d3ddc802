-- Encryption types.
use Rattle.std.specs.Prelude.{ℕ, nat_eq, Option, Some, None, if◌then◌else◌}
use Rattle.kdb_base.specs.declared.keys.Etype.{Etype}
use Rattle.kdb_base.specs.declared.keys.Etype.TheVariants.{Aes128, Aes256, Aes128Sha2, Aes256Sha2}

-- the bytes of a key
abbrev pub key_len : Etype → ℕ
key_len Aes128 = 16
key_len Aes256 = 32
key_len Aes128Sha2 = 16
key_len Aes256Sha2 = 32

-- the bytes of a tag (RFC 3962, 6; RFC 8009, 5)
abbrev pub tag_len : Etype → ℕ
tag_len Aes128 = 12
tag_len Aes256 = 12
tag_len Aes128Sha2 = 16
tag_len Aes256Sha2 = 24

-- the rounds in which the product makes a password's key (RFC 3962, 4; RFC 8009, 4)
abbrev pub product_rounds : Etype → ℕ
product_rounds Aes128 = 4096
product_rounds Aes256 = 4096
product_rounds Aes128Sha2 = 32768
product_rounds Aes256Sha2 = 32768

-- the number of a type
abbrev pub number_of : Etype → ℕ
number_of Aes128 = 17
number_of Aes256 = 18
number_of Aes128Sha2 = 19
number_of Aes256Sha2 = 20

-- the type of a number
abbrev pub etype_of : ℕ → Option Etype
etype_of n =
    if nat_eq n 17
    then Some Aes128
    else if nat_eq n 18
    then Some Aes256
    else if nat_eq n 19
    then Some Aes128Sha2
    else if nat_eq n 20
    then Some Aes256Sha2
    else None
