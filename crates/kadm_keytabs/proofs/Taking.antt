-- What is kept of an input that is taken piece by piece.
use Rattle.std.proofs.Common.{◌≡◌, ℕ, ◌+◌, ◌-◌, ◌<◌, ◌≤◌, ⊎_elim, List, [], ◌++◌, length}
use Rattle.std.proofs.Common.{take, drop, refl, sym, ap, subst, ◌∙◌, arith, append-nil}
use Rattle.std.specs.Prelude.{Option, Some, None, IfSome, min, option_map}
use Rattle.std.proofs.Math.Seq.{take-add}
use Rattle.std.proofs.lemmas.Bool.{cases_lt}
use Rattle.std.proofs.lemmas.List.{drop_at, length-append, length-drop, length-take, length-take-le}
use Rattle.std.proofs.lemmas.List.{take-append-le, take-take, take_all, take_at, take_min}
use Rattle.kdb_ports.proofs.Told.{before_told-append}
use Rattle.kdb_ports.specs.Told.{IsSpent, before_told}
use Rattle.kadm_keytabs.specs.Inputs.{IsKept, IsTaken, most_kept}
use Rattle.session_base.specs.Wholes.{IsReadWhole, WereTaken}

-- of bytes behind others, those that fit
pub fits : (n count : ℕ) (xs ys : List ℕ) → length xs ≤ n → count ≡ min (length ys) (n - length xs)
    → xs ++ take count ys ≡ take n (xs ++ ys)
fits n count xs ys short is =
    let k = n - length xs in
    let split : n ≡ length xs + k = omega (arith, short) in
    let least : count ≡ min k (length ys) = omega (arith, is) in
    ap (λ (zs : List ℕ). xs ++ zs) (ap (λ (m : ℕ). take m ys) least ∙ take_min k ys)
    ∙ ap (λ (zs : List ℕ). zs ++ take k ys) (sym (take_at xs ys (length xs) refl))
    ∙ ap (λ (zs : List ℕ). take (length xs) (xs ++ ys) ++ take k zs) (sym (drop_at xs ys (length xs) refl))
    ∙ sym (take-add (length xs) k (xs ++ ys))
    ∙ ap (λ (m : ℕ). take m (xs ++ ys)) (sym split)

-- a buffer that was written keeps its length
pub written : (n : ℕ) (old new : List ℕ) → length old ≡ n → length new ≡ length old → length old ≡ 65536
    → length (take n (new ++ drop (length new) old)) ≡ 65536
written n old new whole same is =
    omega (
      arith,
      length-take n (new ++ drop (length new) old),
      length-append new (drop (length new) old),
      length-drop (length new) old,
      whole,
      same,
      is,
    )

-- what does not fit may be dropped before more comes
take_front : (n : ℕ) (xs ys : List ℕ) → take n (take n xs ++ ys) ≡ take n (xs ++ ys)
take_front n xs ys = ⊎_elim
    (λ long.
    let enough : n ≤ length xs = omega (arith, long) in
    let all : n ≤ length (take n xs) = omega (arith, length-take-le n xs enough) in
    take-append-le n (take n xs) ys all ∙ take-take n n xs (omega arith) ∙ sym (take-append-le n xs ys enough))
    (λ short. ap (λ (zs : List ℕ). take n (zs ++ ys)) (take_all n xs short))
    (cases_lt n (length xs))

pub taken_none : (told : Option (List ℕ)) → IsTaken told told 0 [] []
taken_none told = record { got = []; count_is = refl; kept_is = refl; told = same told }
  where
    same : (told : Option (List ℕ)) → told ≡ before_told [] told
    same None = refl
    same (Some text) = refl

-- a piece more
pub taken_more : (first middle last : Option (List ℕ)) (a b : ℕ) (kept new : List ℕ) → IsTaken first middle a [] kept
    → IsTaken middle last b kept new → IsTaken first last (a + b) [] new
taken_more first middle last a b kept new s t = record {
  got = s.got ++ t.got;
  count_is = omega (arith, length-append s.got t.got, s.count_is, t.count_is);
  kept_is =
      t.kept_is ∙ ap (λ (front : List ℕ). take most_kept (front ++ t.got)) s.kept_is ∙ take_front most_kept s.got t.got;
  told = s.told ∙ ap (before_told s.got) t.told ∙ sym (before_told-append s.got t.got last);
}

pub taken_short : (first last : Option (List ℕ)) (n : ℕ) (old kept : List ℕ) → IsTaken first last n old kept
    → length kept ≤ most_kept
taken_short first last n old kept t = omega (arith, ap (length {A = ℕ}) t.kept_is, length-take most_kept (old ++ t.got))

-- ---- at the end

kept_by : (first last : Option (List ℕ)) (got kept : List ℕ) → first ≡ before_told got last → kept ≡ take most_kept got
    → IsSpent last → IsKept first kept
kept_by first None got kept told is spent = subst (λ (f : Option (List ℕ)). IsKept f kept) (sym told) tt
kept_by first (Some rest) got kept told is spent =
    subst (λ (f : Option (List ℕ)). IsKept f kept) (sym told)
    (is ∙ ap (take most_kept) (sym (ap (λ (zs : List ℕ). got ++ zs) spent ∙ append-nil got)))

pub kept_whole : (first last : Option (List ℕ)) (n : ℕ) (kept : List ℕ) → IsTaken first last n [] kept → IsSpent last
    → IsKept first kept
kept_whole first last n kept t spent = kept_by first last t.got kept t.told t.kept_is spent

short_by : (first last : Option (List ℕ)) (got : List ℕ) → first ≡ before_told got last → length got < 4294967296
    → IsSpent last → IfSome first (λ left. length left < 4294967296)
short_by first None got told few spent =
    subst (λ (f : Option (List ℕ)). IfSome f (λ left. length left < 4294967296)) (sym told) tt
short_by first (Some rest) got told few spent =
    subst (λ (f : Option (List ℕ)). IfSome f (λ left. length left < 4294967296)) (sym told)
    (omega (arith, length-append got rest, ap (length {A = ℕ}) spent, few))

pub read_whole : (first last : Option (List ℕ)) (n : ℕ) (kept : List ℕ) → IsTaken first last n [] kept → n < 4294967296
    → IsSpent last → IsReadWhole first last
read_whole first last n kept t few spent = record {
  spent = spent;
  short = short_by first last t.got t.told (omega (arith, t.count_is, few)) spent;
}

were_by : (first last : Option (List ℕ)) (got : List ℕ) (n : ℕ) → first ≡ before_told got last → length got ≡ n
    → WereTaken n first last
were_by first None got n told count = ap (λ (f : Option (List ℕ)). option_map length f) told
were_by first (Some rest) got n told count =
    let sum : length (got ++ rest) ≡ length rest + n = omega (arith, length-append got rest, count) in
    ap (λ (f : Option (List ℕ)). option_map length f) told ∙ ap Some sum

pub were_taken : (first last : Option (List ℕ)) (n m : ℕ) (kept : List ℕ) → IsTaken first last n [] kept → n ≡ m
    → WereTaken m first last
were_taken first last n m kept t is = were_by first last t.got m t.told (t.count_is ∙ is)
