-- Lemmas on a text that is masked byte by byte: the bytes done, and the mask of what is left, are the whole.
use Rattle.std.proofs.Common.{◌≡◌, ℕ, ◌+◌, ◌<◌, ◌≤◌, List, ◌++◌, length, get_or, set, take, drop, append_assoc, arith}
use Rattle.std.proofs.lemmas.List.{take_more_set, drop-set-lt, drop_more, drop_all, take_all, append-nil}
use Rattle.std.specs.Prelude.{bit_xor}
use Rattle.krb_hmac.specs.Hmac.{masked}
use Rattle.krb_hmac.specs.Pbkdf2.{xor_bytes}

pub one_more_byte : (text whole : List ℕ) (mask i : ℕ) → i < length text →
    take i text ++ masked mask (drop i text) ≡ whole →
    take (i + 1) (set text i (bit_xor (get_or text i 0) mask))
    ++ masked mask (drop (i + 1) (set text i (bit_xor (get_or text i 0) mask))) ≡ whole
unfolding masked
one_more_byte text whole mask i inside so_far =
    let y = bit_xor (get_or text i 0) mask in
    let later : i < i + 1 = omega arith in
    let split = rw (drop_more text i 0 inside) at so_far in
    rw (take_more_set text i y inside, drop-set-lt (i + 1) text i y later, append_assoc) split

pub all_bytes : (text whole : List ℕ) (mask i : ℕ) → length text ≤ i →
    take i text ++ masked mask (drop i text) ≡ whole → text ≡ whole
unfolding masked
all_bytes text whole mask i done so_far =
    rw (take_all i text done, drop_all i text done, append-nil) at so_far

-- one more byte of the exclusive-or of two texts is written
pub one_more_xor : (sum addend whole : List ℕ) (i : ℕ) → i < length sum → i < length addend →
    take i sum ++ xor_bytes (drop i sum) (drop i addend) ≡ whole →
    take (i + 1) (set sum i (bit_xor (get_or sum i 0) (get_or addend i 0)))
    ++ xor_bytes (drop (i + 1) (set sum i (bit_xor (get_or sum i 0) (get_or addend i 0)))) (drop (i + 1) addend) ≡ whole
unfolding xor_bytes
one_more_xor sum addend whole i in_sum in_addend so_far =
    let y = bit_xor (get_or sum i 0) (get_or addend i 0) in
    let later : i < i + 1 = omega arith in
    let split = rw (drop_more sum i 0 in_sum, drop_more addend i 0 in_addend) at so_far in
    rw (take_more_set sum i y in_sum, drop-set-lt (i + 1) sum i y later, append_assoc) split

pub all_xored : (sum addend whole : List ℕ) (i : ℕ) → length sum ≤ i →
    take i sum ++ xor_bytes (drop i sum) (drop i addend) ≡ whole → sum ≡ whole
unfolding xor_bytes
all_xored sum addend whole i done so_far =
    rw (take_all i sum done, drop_all i sum done, append-nil) at so_far
