-- The keys of a creation have as many bytes as their types ask.
use Rattle.std.proofs.Common.{◌≡◌, ℕ, zero, suc, ◌<◌, ◌≤◌, ◌^◌, ◌∙◌, Bool, true, false, List}
use Rattle.std.proofs.Common.{[], ◌∷◌, ◌++◌, codes, length, take, Option, Some, None, refl, ap, length-append, arith}
use Rattle.std.specs.List.{fold}
use Rattle.std.proofs.lemmas.List.{length-take-le}
use Rattle.std.proofs.lemmas.List.Elements.{All-from_recursion, recursion_from_All}
use Rattle.std.proofs.lemmas.Nat.{xor_of_8}
use Rattle.aes_cts.specs.BlockKeys as blocks_of
use Rattle.aes_cts.specs.Cipher.{cipher}
use Rattle.aes_cts.proofs.Lengths.{length-cipher_at}
use Rattle.aes_cts.proofs.Sums.{AreBytes, AreBytes-append, AreBytes-take}
use Rattle.kdb_base.specs.EtypeLaws.{key_fits}
use Rattle.kdb_base.specs.Etypes.{key_len, product_rounds}
use Rattle.kdb_base.specs.declared.keys.Etype.{Etype}
use Rattle.kdb_base.specs.declared.keys.Etype.TheVariants.{Aes128, Aes256, Aes128Sha2, Aes256Sha2}
use Rattle.krb_hmac.specs.Hmac.{hmac, hmac_by}
use Rattle.krb_hmac.specs.Pbkdf2.{block, blocks, chain, pbkdf2, pbkdf2_by, xor_all, xor_bytes}
use Rattle.krb_hmac.proofs.Lengths.{length-hmac}
use Rattle.krb_profile.specs.NFold.{n_folded}
use Rattle.krb_profile.specs.Profile.{string_key}
use Rattle.krb_profile.specs.Sha1 as Sha1
use Rattle.krb_profile.proofs.KeyBytes.{derived_bytes, kdf_bytes}
use Rattle.krb_profile.proofs.Parts.{long_key}
use Rattle.sha1.specs.Sha1.{digest_bytes, sha1}
use Rattle.sha2_profile.specs.Hmacs.{hmac_len, pbkdf2_of}
use Rattle.sha2_profile.specs.Sha2.{is_sha2, kdf, salt_name}
use Rattle.sha2_profile.specs.Sha2 as Sha2
use Rattle.sha2_profile.proofs.Lengths.{length-hmac_of}
use Rattle.row_keys.proofs.Whole.{IsWhole}
use Rattle.first_rows.specs.Creation.{master_key_from, master_salt}

-- so many bytes
record IsText (n : ℕ) (text : List ℕ) : Type 0 where
  long : length text ≡ n
  bytes : AreBytes text

-- ---- HMAC-SHA1 and PBKDF2

digest_1 : (h : List ℕ) (n : ℕ) → AreBytes (digest_bytes h n)
unfolding digest_bytes
digest_1 h zero = tt
digest_1 h (suc n) = AreBytes-append _ _ (digest_1 h n) (omega arith, (omega arith, (omega arith, (omega arith, tt))))

hmac_text : (key text : List ℕ) → IsText 20 (hmac key text)
unfolding hmac_by sha1
hmac_text key text = record { long = length-hmac key text; bytes = digest_1 _ 5 }

xor_long : (xs ys : List ℕ) → length xs ≡ length ys → length (xor_bytes xs ys) ≡ length xs
unfolding xor_bytes
xor_long [] ys e = refl
xor_long (x ∷ xs) [] e = absurd (omega arith)
xor_long (x ∷ xs) (y ∷ ys) e = ap suc (xor_long xs ys (omega arith))

xor_are : (xs ys : List ℕ) → AreBytes xs → AreBytes ys → AreBytes (xor_bytes xs ys)
unfolding xor_bytes
xor_are [] ys h k = tt
xor_are (x ∷ xs) [] h k = tt
xor_are (x ∷ xs) (y ∷ ys) h k = (xor_of_8 x y h.0 k.0, xor_are xs ys h.1 k.1)

xor_text : (n : ℕ) (xs ys : List ℕ) → IsText n xs → IsText n ys → IsText n (xor_bytes xs ys)
xor_text n xs ys f g =
    let a = f.long in
    let b = g.long in
    record { long = xor_long xs ys (omega arith) ∙ f.long; bytes = xor_are xs ys f.bytes g.bytes }

module _ (keyed : List ℕ → List ℕ) (each : (text : List ℕ) → IsText 20 (keyed text)) where
  sum_text : (sum last : List ℕ) (count : ℕ) → IsText 20 sum → IsText 20 (fold xor_bytes sum (chain keyed last count))
  unfolding chain
  sum_text sum last zero f = f
  sum_text sum last (suc count) f =
      sum_text (xor_bytes sum (keyed last)) (keyed last) count (xor_text 20 sum (keyed last) f (each last))

  block_text : (salt : List ℕ) (count number : ℕ) → 1 ≤ count → IsText 20 (block keyed salt count number)
  unfolding block xor_all chain
  block_text salt zero number le = absurd (omega arith)
  block_text salt (suc count) number le = sum_text (keyed _) (keyed _) count (each _)

made_16 : (password salt : List ℕ) (count : ℕ) → 1 ≤ count → IsText 16 (pbkdf2 password salt count 16)
unfolding pbkdf2_by blocks
made_16 password salt count le =
    let b = block (hmac password) salt count 1 in
    let f = block_text (hmac password) (hmac_text password) salt count 1 le in
    record {
      long = length-take-le 16 (b ++ []) (omega (arith, length-append b [], f.long));
      bytes = AreBytes-take 16 (b ++ []) (AreBytes-append b [] f.bytes tt);
    }

made_32 : (password salt : List ℕ) (count : ℕ) → 1 ≤ count → IsText 32 (pbkdf2 password salt count 32)
unfolding pbkdf2_by blocks
made_32 password salt count le =
    let a = block (hmac password) salt count 1 in
    let b = block (hmac password) salt count 2 in
    let f = block_text (hmac password) (hmac_text password) salt count 1 le in
    let g = block_text (hmac password) (hmac_text password) salt count 2 le in
    record {
      long = length-take-le 32 (a ++ (b ++ []))
          (omega (arith, length-append a (b ++ []), length-append b [], f.long, g.long));
      bytes = AreBytes-take 32 (a ++ (b ++ [])) (AreBytes-append a (b ++ []) f.bytes (AreBytes-append b [] g.bytes tt));
    }

made_text : (etype : Etype) (password salt : List ℕ) (count : ℕ) → is_sha2 etype ≡ false → 1 ≤ count
    → IsText (key_len etype) (pbkdf2 password salt count (key_len etype))
made_text Aes128 password salt count other le = made_16 password salt count le
made_text Aes256 password salt count other le = made_32 password salt count le
made_text Aes128Sha2 password salt count other le = absurd cc
made_text Aes256Sha2 password salt count other le = absurd cc

-- ---- the keys of passwords

derived_len : (etype : Etype) (bytes constant : List ℕ) → length bytes ≡ key_len etype
    → length (Sha1.derived (record { etype = etype; bytes = bytes }) constant) ≡ key_len etype
unfolding Sha1.derived Sha1.stream
derived_len etype bytes constant long =
    let is_long = long_key etype bytes long in
    let first = cipher bytes (n_folded constant 16) in
    length-take-le (key_len etype) (first ++ cipher bytes first)
    (omega (
      arith,
      length-append first (cipher bytes first),
      length-cipher_at bytes (n_folded constant 16) is_long,
      length-cipher_at bytes first
          is_long,
      key_fits etype,
    ))

string_text_1 : (etype : Etype) (password salt : List ℕ) (count : ℕ) → is_sha2 etype ≡ false → 1 ≤ count
    → IsText (key_len etype) (Sha1.string_key etype password salt count)
unfolding Sha1.string_key
string_text_1 etype password salt count other le =
    let made = pbkdf2 password salt count (key_len etype) in
    let f = made_text etype password salt count other le in
    record {
      long = derived_len etype made (codes "kerberos") f.long;
      bytes = derived_bytes (record { etype = etype; bytes = made }) (codes "kerberos") f.long f.bytes;
    }

key_inside : (etype : Etype) → is_sha2 etype ≡ true → key_len etype ≤ hmac_len etype
key_inside Aes128 other = absurd cc
key_inside Aes256 other = absurd cc
key_inside Aes128Sha2 is = omega arith
key_inside Aes256Sha2 is = omega arith

kdf_len : (etype : Etype) (key label : List ℕ) → is_sha2 etype ≡ true
    → length (kdf etype key label (key_len etype)) ≡ key_len etype
unfolding kdf
kdf_len etype key label is =
    length-take-le (key_len etype) _ (omega (arith, length-hmac_of etype key, key_inside etype is))

string_text_2 : (etype : Etype) (password salt : List ℕ) (count : ℕ) → is_sha2 etype ≡ true
    → IsText (key_len etype) (Sha2.string_key etype password salt count)
unfolding Sha2.string_key
string_text_2 etype password salt count is =
    let made = pbkdf2_of etype password (salt_name etype ++ 0 ∷ salt) count (key_len etype) in
    record {
      long = kdf_len etype made (codes "kerberos") is;
      bytes = kdf_bytes etype made (codes "kerberos") (key_len etype) is;
    }

string_text : (etype : Etype) (password salt : List ℕ) (count : ℕ) → 1 ≤ count
    → IsText (key_len etype) (string_key etype password salt count)
unfolding string_key
string_text etype password salt count le = by_kind (is_sha2 etype) refl
  where
    by_kind : (kind : Bool) → is_sha2 etype ≡ kind → IsText (key_len etype) (string_key etype password salt count)
    by_kind false other = rw other (string_text_1 etype password salt count other le)
    by_kind true is = rw is (string_text_2 etype password salt count is)

some_rounds : (etype : Etype) → 1 ≤ product_rounds etype
some_rounds Aes128 = omega arith
some_rounds Aes256 = omega arith
some_rounds Aes128Sha2 = omega arith
some_rounds Aes256Sha2 = omega arith

-- ---- the keys of a creation

abbrev IsByte : ℕ → Type 0
IsByte b = b < 2 ^ 8

abbrev pub AreRandom : List ℕ → Type 0
AreRandom random = AreBytes random

pub random_from : (random : List ℕ) → blocks_of.AreBytes random → AreRandom random
random_from random h = recursion_from_All IsByte random h

pub bytes_from : (random : List ℕ) → AreRandom random → blocks_of.AreBytes random
bytes_from random h = All-from_recursion IsByte random h

-- a random key
pub drawn_whole : (etype : Etype) (random : List ℕ) → key_len etype ≤ length random → AreRandom random
    → IsWhole (record { etype = etype; bytes = take (key_len etype) random })
drawn_whole etype random le h = record {
  long = length-take-le (key_len etype) random le;
  bytes = bytes_from (take (key_len etype) random)
      (AreBytes-take (key_len etype) random h);
}

pub master_whole : (password : Option (List ℕ)) (realm : List ℕ) (etype : Etype) (random : List ℕ) → 32 ≤ length random
    → AreRandom random
    → IsWhole (master_key_from password realm etype random)
master_whole None realm etype random le h = drawn_whole etype random (omega (arith, key_fits etype, le)) h
master_whole (Some password) realm etype random le h =
    let f = string_text etype password (master_salt realm) (product_rounds etype) (some_rounds etype) in
    record { long = f.long; bytes = bytes_from _ f.bytes }
