-- How what is told goes on over several calls.
use Rattle.std.proofs.Common.{◌≡◌, ℕ, ◌+◌, ◌-◌, length, List, [], ◌++◌, take}
use Rattle.std.proofs.Common.{drop, refl, ap, sym, ◌∙◌, append_assoc, append-nil}
use Rattle.std.specs.Prelude.{Option, Some, None}
use Rattle.std.proofs.Math.Seq.{take-add}
use Rattle.std.proofs.lemmas.List.{take_rest}
use Rattle.kdb_ports.specs.Told.{after_told, before_told}

-- nothing was taken
pub after_told-nil : (told : Option (List ℕ)) → after_told told [] ≡ told
after_told-nil None = refl
after_told-nil (Some front) = ap Some (append-nil front)

-- one text and then another
pub after_told-append : (told : Option (List ℕ)) (xs ys : List ℕ)
    → after_told (after_told told xs) ys ≡ after_told told (xs ++ ys)
after_told-append None xs ys = refl
after_told-append (Some front) xs ys = ap Some (append_assoc front xs ys)

-- a text in pieces
pub after_told-take : (told : Option (List ℕ)) (text : List ℕ) (at n : ℕ)
    → after_told (after_told told (take at text)) (take n (drop at text)) ≡ after_told told (take (at + n) text)
after_told-take told text at n =
    after_told-append told (take at text) (take n (drop at text)) ∙ ap (after_told told) (sym (take-add at n text))

pub before_told-append : (xs ys : List ℕ) (told : Option (List ℕ))
    → before_told (xs ++ ys) told ≡ before_told xs (before_told ys told)
before_told-append xs ys None = refl
before_told-append xs ys (Some rest) = ap Some (append_assoc xs ys rest)

-- a front of `&text[at..]` was taken
pub after_told-rest : (told mid new : Option (List ℕ)) (text : List ℕ) (at n : ℕ) → mid ≡ after_told told (take at text)
    → new ≡ after_told mid (take n (take (length text - at) (drop at text)))
    → new ≡ after_told told (take (at + n) text)
after_told-rest told mid new text at n e f =
    f ∙ ap (λ (t : Option (List ℕ)). after_told t (take n (take (length text - at) (drop at text)))) e
    ∙ ap (λ (piece : List ℕ). after_told (after_told told (take at text)) (take n piece)) (take_rest text at)
    ∙ after_told-take told text at n
