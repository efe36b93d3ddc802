-- Ciphertext stealing a block at a time, as the code goes through a text, and the way back.
use Rattle.std.specs.Prelude.{ℕ, zero, suc, ◌-◌, ◌/◌, ◌==◌, if◌then◌else◌, List, ◌++◌, length, take, drop, replicate}
use Rattle.aes_cts.specs.Cipher.{add_bytes}

-- how many blocks of a text of n bytes stand before its last 16 to 32 bytes
unfoldable pub blocks_before_end : ℕ → ℕ
blocks_before_end n = (n - 17) / 16

-- the last 16 to 32 bytes of a text, encrypted
unfoldable pub steal_end : (List ℕ → List ℕ) → List ℕ → List ℕ → List ℕ
steal_end encrypt vector text =
    if length text == 16 then encrypt (add_bytes text vector)
    else
    let held = encrypt (add_bytes (take 16 text) vector) in
    encrypt (add_bytes (drop 16 text ++ replicate (16 - (length text - 16)) 0) held) ++ take (length text - 16) held

-- n whole blocks and the end
unfoldable pub steal : ℕ → (List ℕ → List ℕ) → List ℕ → List ℕ → List ℕ
steal zero encrypt vector text = steal_end encrypt vector text
steal (suc n) encrypt vector text =
    let block = encrypt (add_bytes (take 16 text) vector) in
    block ++ steal n encrypt block (drop 16 text)

-- the last 16 to 32 bytes of a cipher text, decrypted: what the short block lacks of the block before it is found
-- behind the text's end in the block that came in its place
unfoldable pub return_end : (List ℕ → List ℕ) → List ℕ → List ℕ → List ℕ
return_end decrypt vector text =
    if length text == 16 then add_bytes (decrypt text) vector
    else
    let opened = decrypt (take 16 text) in
    let held = drop 16 text ++ drop (length text - 16) opened in
    add_bytes (decrypt held) vector ++ take (length text - 16) (add_bytes opened held)

unfoldable pub return : ℕ → (List ℕ → List ℕ) → List ℕ → List ℕ → List ℕ
return zero decrypt vector text = return_end decrypt vector text
return (suc n) decrypt vector text =
    add_bytes (decrypt (take 16 text)) vector ++ return n decrypt (take 16 text) (drop 16 text)
