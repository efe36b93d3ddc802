-- Readings of bytes: the words in which formats are defined.
use Rattle.std.specs.Prelude.{ℕ, zero, suc, List, [], ◌∷◌, length, take, drop, Bool, Option, Some}
use Rattle.std.specs.Prelude.{None, option_map, option_and_then, nat_lt, nat_eq, if◌then◌else◌}
use Rattle.std.specs.List.{list_all}
use Rattle.std.specs.Str.{bytes_eq}
use Rattle.byteorder.specs.Endian.{big_number, little_number}

-- the value at the front of the bytes, and the bytes after it; None where no value of the format stands there
abbrev pub Reading : Type 0 → Type 0
Reading A = List ℕ → Option (A × List ℕ)

-- one reading, and on the bytes after it the next one, which may depend on the value
infixl 10 ◌>>=◌
abbrev pub ◌>>=◌ : {A B : Type 0} → Reading A → (A → Reading B) → Reading B
read >>= next = λ bytes. option_and_then (λ x. next x.0 x.1) (read bytes)

-- the same after a reading that has no value
infixl 10 ◌>>◌
abbrev pub ◌>>◌ : {B : Type 0} → Reading (Unit {0}) → Reading B → Reading B
read >> next = λ bytes. option_and_then (λ x. next x.1) (read bytes)

-- no bytes, and this value
abbrev pub done : {A : Type 0} → A → Reading A
done x = λ bytes. Some (x, bytes)

-- no bytes, where the test holds
abbrev pub guard : Bool → Reading (Unit {0})
guard test = λ bytes. if test then Some (tt, bytes) else None

-- no bytes, and a value that may be missing
abbrev pub known : {A : Type 0} → Option A → Reading A
known o = λ bytes. option_map (λ x. (x, bytes)) o

-- no value of the format stands here
abbrev pub refuse : {A : Type 0} → Reading A
refuse = λ bytes. None

-- n bytes
unfoldable pub bytes_at : ℕ → Reading (List ℕ)
bytes_at n = λ bytes. if nat_lt (length bytes) n then None else Some (take n bytes, drop n bytes)

-- a number in n bytes, the highest first
unfoldable pub big_at : ℕ → Reading ℕ
big_at n = do
  bytes ← bytes_at n
  done (big_number n bytes)

-- a number in n bytes, the lowest first
unfoldable pub little_at : ℕ → Reading ℕ
little_at n = do
  bytes ← bytes_at n
  done (little_number n bytes)

-- two bytes of length, and that many bytes
unfoldable pub counted_at : Reading (List ℕ)
counted_at = do
  n ← big_at 2
  bytes_at n

-- these bytes and no others
unfoldable pub literal_at : List ℕ → Reading (Unit {0})
literal_at text =
    λ bytes. if bytes_eq (take (length text) bytes) text then Some (tt, drop (length text) bytes) else None

-- n zero bytes
unfoldable pub zeros_at : ℕ → Reading (Unit {0})
zeros_at n = do
  bytes ← bytes_at n
  guard (list_all (λ b. nat_eq b 0) bytes)

-- n items
unfoldable pub list_at : {A : Type 0} → Reading A → ℕ → Reading (List A)
list_at item zero = done []
list_at item (suc n) = do
  x ← item
  xs ← list_at item n
  done (x ∷ xs)

-- a count in width bytes, and that many items
unfoldable pub counted_list_at : {A : Type 0} → ℕ → Reading A → Reading (List A)
counted_list_at width item = do
  n ← big_at width
  list_at item n

-- a value that passes a test
unfoldable pub checked : {A : Type 0} → (A → Bool) → Reading A → Reading A
checked test read = λ bytes. option_and_then (λ x. if test x.0 then Some x else None) (read bytes)

-- a value after which nothing is left
unfoldable pub whole : {A : Type 0} → Reading A → List ℕ → Option A
whole read bytes = option_and_then (λ x. if nat_eq (length x.1) 0 then Some x.0 else None) (read bytes)

-- a value that n bytes spell, each byte of them
unfoldable pub inside : {A : Type 0} → ℕ → Reading A → Reading A
inside n read = do
  bytes ← bytes_at n
  known (whole read bytes)

-- a value in n bytes, with zeros behind it
unfoldable pub padded : {A : Type 0} → ℕ → Reading A → Reading A
padded n read = do
  bytes ← bytes_at n
  known (option_and_then (λ x. if list_all (λ b. nat_eq b 0) x.1 then Some x.0 else None) (read bytes))
