-- CBC with ciphertext stealing from a zero vector, as RFC 3962, section 5, has it.
use Rattle.std.specs.Prelude.{ℕ, zero, suc, ◌+◌, ◌-◌, ◌/◌, ◌%◌, List, [], ◌∷◌, ◌++◌, length, take, drop, replicate}
use Rattle.aes_cts.specs.Cipher.{add_bytes, cipher}

-- the text, followed by zeros up to whole blocks
unfoldable pub padded : List ℕ → List ℕ
padded text = text ++ replicate ((16 - length text % 16) % 16) 0

-- the first n blocks of a text
unfoldable pub blocks : ℕ → List ℕ → List (List ℕ)
blocks zero text = []
blocks (suc n) text = take 16 text ∷ blocks n (drop 16 text)

-- cipher block chaining of blocks from a vector, by a block cipher
unfoldable pub chained : (List ℕ → List ℕ) → List ℕ → List (List ℕ) → List (List ℕ)
chained encrypt vector [] = []
chained encrypt vector (block ∷ more) =
    encrypt (add_bytes block vector) ∷ chained encrypt (encrypt (add_bytes block vector)) more

-- the last two blocks change places; one block stays
unfoldable pub exchanged : List (List ℕ) → List (List ℕ)
exchanged (a ∷ b ∷ []) = b ∷ a ∷ []
exchanged (a ∷ b ∷ c ∷ more) = a ∷ exchanged (b ∷ c ∷ more)
exchanged few = few

-- the bytes of blocks
unfoldable pub joined : List (List ℕ) → List ℕ
joined [] = []
joined (block ∷ more) = block ++ joined more

-- the cipher text of a text of at least 16 bytes: its CBC blocks with the last two exchanged, cut to the text's length
unfoldable pub stolen : (List ℕ → List ℕ) → List ℕ → List ℕ → List ℕ
stolen encrypt vector text =
    take (length text) (joined (exchanged (chained encrypt vector (blocks ((length text + 15) / 16) (padded text)))))

-- ciphertext stealing under a key, from the zero vector (RFC 3962, 5)
unfoldable pub cts : List ℕ → List ℕ → List ℕ
cts key text = stolen (cipher key) (replicate 16 0) text
