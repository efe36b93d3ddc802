-- A buffer that a piece of a file was read into.
use Rattle.std.proofs.Common.{◌≡◌, ℕ, ◌+◌, ◌≤◌, List, ◌++◌, length, take, drop}
use Rattle.std.proofs.Common.{sym, ◌∙◌, ap, arith, append_assoc, take-append-drop}
use Rattle.std.proofs.Math.Seq.{take-append-add}
use Rattle.std.proofs.lemmas.List.{take_at, take_all, take-take, take-append-le, drop-append-le, drop-drop}

-- the front of a list that begins with another
take_behind : (s n : ℕ) (old rest : List ℕ) → s ≡ length old → take (s + n) (old ++ rest) ≡ old ++ take n rest
take_behind s n old rest is = ap (λ (k : ℕ). take (k + n) (old ++ rest)) is ∙ take-append-add old rest n

-- the buffer, cut behind what was read
pub piece_read : (s n long room : ℕ) (old zeros grown into post rest after told : List ℕ) → s ≡ length old
    → grown ≡ take (s + room) old ++ zeros → n ≤ length into → s + n ≤ long
    → after ≡ take (s + n) (take long ((take s grown ++ (into ++ post)) ++ rest)) → take n into ≡ told
    → after ≡ old ++ told
piece_read s n long room old zeros grown into post rest after told is longer few fits cut bytes =
    let front : take s grown ≡ old = ap (take s)
    (longer ∙ ap (λ (l : List ℕ). l ++ zeros) (take_all (s + room) old (omega arith))) ∙ take_at old zeros s (sym is) in
    cut
    ∙ take-take (s + n) long ((take s grown ++ (into ++ post)) ++ rest) fits
    ∙ ap (λ (l : List ℕ). take (s + n) ((l ++ (into ++ post)) ++ rest)) front
    ∙ ap (take (s + n)) (append_assoc old (into ++ post) rest)
    ∙ take_behind s n old ((into ++ post) ++ rest) is
    ∙ ap (λ (l : List ℕ). old ++ take n l) (append_assoc into post rest)
    ∙ ap (λ (l : List ℕ). old ++ l) (take-append-le n into (post ++ rest) few ∙ bytes)

-- a piece more is held, and as much less stands in the file
pub same_left : (from at n : ℕ) (buffer s after : List ℕ) → from ≤ length buffer → after ≡ buffer ++ take n (drop at s)
    → drop from after ++ drop (at + n) s ≡ drop from buffer ++ drop at s
same_left from at n buffer s after within is =
    ap (λ (l : List ℕ). drop from l ++ drop (at + n) s) is
    ∙ ap (λ (l : List ℕ). l ++ drop (at + n) s) (drop-append-le from buffer (take n (drop at s)) within)
    ∙ append_assoc (drop from buffer) (take n (drop at s)) (drop (at + n) s)
    ∙ ap (λ (l : List ℕ). drop from buffer ++ (take n (drop at s) ++ l)) (sym (drop-drop n at s))
    ∙ ap (λ (l : List ℕ). drop from buffer ++ l) (take-append-drop n (drop at s))
