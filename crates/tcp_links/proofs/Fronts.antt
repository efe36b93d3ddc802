-- A text that is written in pieces.
use Rattle.std.proofs.Common.{◌≡◌, ℕ, ◌+◌, ◌-◌, length, List, [], ◌++◌, take}
use Rattle.std.proofs.Common.{drop, ap, sym, ◌∙◌, append-nil, append_assoc}
use Rattle.std.specs.Prelude.{Option, Some, None, Result, Ok, Err, OnErr}
use Rattle.std.specs.Io.KnownBytes.{Appends}
use Rattle.std.proofs.Math.Seq.{take-add}
use Rattle.std.proofs.lemmas.List.{take_rest}
use Rattle.kdb_ports.specs.Adapters.{AppendsFront}

-- nothing was written
pub appends_none : (known : Option (List ℕ)) → Appends known known []
appends_none None = tt
appends_none (Some xs) = sym (append-nil xs)

-- one text and then another
appends_both : (a b c : Option (List ℕ)) (xs ys zs : List ℕ) → Appends a b xs → Appends b c ys → zs ≡ xs ++ ys
    → Appends a c zs
appends_both None b c xs ys zs p q e = tt
appends_both (Some x) None c xs ys zs p q e = absurd p
appends_both (Some x) (Some y) None xs ys zs p q e = absurd q
appends_both (Some x) (Some y) (Some z) xs ys zs p q e =
    q ∙ ap (λ (l : List ℕ). l ++ ys) p ∙ append_assoc x xs ys ∙ ap (λ (l : List ℕ). x ++ l) (sym e)

piece_of : (text : List ℕ) (at n : ℕ)
    → take (at + n) text ≡ take at text ++ take n (take (length text - at) (drop at text))
piece_of text at n =
    take-add at n text ∙ ap (λ (piece : List ℕ). take at text ++ take n piece) (sym (take_rest text at))

-- behind a front, a front of `&text[at..]` was written
pub appends_rest : (old mid new : Option (List ℕ)) (text : List ℕ) (at n : ℕ) → Appends old mid (take at text)
    → Appends mid new (take n (take (length text - at) (drop at text))) → Appends old new (take (at + n) text)
appends_rest old mid new text at n p q = appends_both old mid new (take at text) _ _ p q (piece_of text at n)

pub front_rest : (old mid new : Option (List ℕ)) (text : List ℕ) (at : ℕ) → Appends old mid (take at text)
    → AppendsFront mid new (take (length text - at) (drop at text)) → AppendsFront old new text
front_rest old mid new text at p q =
    record { count = at + q.count; got = appends_rest old mid new text at q.count p q.got }

-- what is so whatever was answered
pub on_err : {T E : Type 0} (result : Result T E) (P : Type 0) → P → OnErr result P
on_err (Ok x) P p = tt
on_err (Err e) P p = p
