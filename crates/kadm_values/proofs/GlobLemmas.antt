-- How a glob goes on behind bytes that are matched one by one.
use Rattle.std.proofs.Common.{◌≡◌, ◌≢◌, ◌⊎◌, ℕ, zero, suc, ◌+◌, ◌<◌, ◌≤◌, List, [], ◌∷◌, length, drop, get_or}
use Rattle.std.proofs.Common.{inl, inr, refl, sym, ap, subst, ◌∙◌, arith, add-one, drop-cons, length-drop}
use Rattle.std.proofs.lemmas.List.{drop_all}
use Rattle.kadm_values.specs.Globs.{AnyBytes, Matches, IsStar}

pub drop_none : (n : ℕ) → drop {A = ℕ} n [] ≡ []
drop_none zero = refl
drop_none (suc n) = refl

next : (n : ℕ) (xs : List ℕ) → drop (suc n) xs ≡ drop n (drop 1 xs)
next n [] = sym (drop_none n)
next n (x ∷ xs) = refl

both : (a b : ℕ) (xs : List ℕ) → drop a (drop b xs) ≡ drop (b + a) xs
both a zero xs = let e : zero + a ≡ a = omega arith in rw e
both a (suc b) [] = let e : suc b + a ≡ suc (b + a) = omega arith in rw e (drop_none a)
both a (suc b) (x ∷ xs) = let e : suc b + a ≡ suc (b + a) = omega arith in rw e (both a b xs)

drop_later : (n k : ℕ) (xs : List ℕ) → drop n (drop k xs) ≡ drop k (drop n xs)
drop_later n k xs = let e : k + n ≡ n + k = omega arith in both n k xs ∙ ap (λ m. drop m xs) e ∙ sym (both k n xs)

one_off : (wanted : ℕ) (glob text : List ℕ) → wanted ≢ 42 → Matches (wanted ∷ glob) text → Matches glob (drop 1 text)
unfolding Matches
one_off wanted glob text plain (inl star) = absurd (plain star.0)
one_off wanted glob text plain (inr one) =
    let P : List ℕ → Type 0 = λ t. Matches glob (drop 1 t) in subst P (sym one.1.text_is) one.1.rest

matches_same : (glob glob' text text' : List ℕ) → glob ≡ glob' → text ≡ text' → Matches glob text → Matches glob' text'
matches_same glob glob' text text' eg et m =
    let P : List ℕ → Type 0 = λ g. Matches g text in
    let Q : List ℕ → Type 0 = λ t. Matches glob' t in
    subst Q et (subst P eg m)

pub forward : (count : ℕ) (glob text : List ℕ) → ((k : ℕ) → k < count → get_or glob k 0 ≢ 42) → count ≤ length glob
    → Matches glob text → Matches (drop count glob) (drop count text)
forward zero glob text plain within m = m
forward (suc n) [] text plain within m = absurd (omega arith)
forward (suc n) (wanted ∷ glob) text plain within m =
    let rest = forward n glob (drop 1 text) (λ k lt. plain (suc k) (omega arith)) (omega arith)
    (one_off wanted glob text (plain 0 (omega arith)) m) in
    matches_same _ _ _ _ refl (sym (next n text)) rest

pub step_back : (glob text : List ℕ) (at : ℕ) → at < length glob → at < length text → get_or glob at 0 ≢ 42
    → (get_or glob at 0 ≡ 63) ⊎ (get_or glob at 0 ≡ get_or text at 0)
    → Matches (drop (at + 1) glob) (drop (at + 1) text) → Matches (drop at glob) (drop at text)
unfolding Matches
step_back glob text at within long plain fits m =
    matches_same _ _ _ _ (sym (drop-cons glob at 0 within)) (sym (drop-cons text at 0 long))
    (inr (
      plain,
      record {
        byte = get_or text at 0;
        behind = drop (suc at) text;
        text_is = refl;
        fits = fits;
        rest = rw add-one at m;
      },
    ))

none_left : (wanted : ℕ) (glob : List ℕ) → wanted ≢ 42 → Matches (wanted ∷ glob) [] → ⊥
unfolding Matches
none_left wanted glob plain (inl star) = plain star.0
none_left wanted glob plain (inr one) = let e = one.1.text_is in cc

fit_of : (wanted : ℕ) (glob : List ℕ) (byte : ℕ) (text : List ℕ) → wanted ≢ 42 → Matches (wanted ∷ glob) (byte ∷ text)
    → (wanted ≡ 63) ⊎ (wanted ≡ byte)
unfolding Matches
fit_of wanted glob byte text plain (inl star) = absurd (plain star.0)
fit_of wanted glob byte text plain (inr one) =
    let e = one.1.text_is in
    let same : one.1.byte ≡ byte = cc in
    let P : ℕ → Type 0 = λ b. (wanted ≡ 63) ⊎ (wanted ≡ b) in
    subst P same one.1.fits

pub no_text : (glob text : List ℕ) (count at : ℕ) → ((k : ℕ) → k < count → get_or glob k 0 ≢ 42) → count ≤ length glob
    → at < count → length text ≤ at → Matches glob text → ⊥
no_text glob text count at plain within lt short m =
    let here : at < length glob = omega arith in
    none_left _ _ (plain at lt)
    (matches_same _ _ _ _ (drop-cons glob at 0 here) (drop_all at text short)
    (forward at glob text (λ k l. plain k (omega arith)) (omega arith) m))

pub misfit : (glob text : List ℕ) (count at : ℕ) → ((k : ℕ) → k < count → get_or glob k 0 ≢ 42) → count ≤ length glob
    → at < count → at < length text
    → ((get_or glob at 0 ≡ 63) ⊎ (get_or glob at 0 ≡ get_or text at 0) → ⊥) → Matches glob text → ⊥
misfit glob text count at plain within lt long other m =
    let here : at < length glob = omega arith in
    other (fit_of _ _ _ _ (plain at lt)
    (matches_same _ _ _ _ (drop-cons glob at 0 here) (drop-cons text at 0 long)
    (forward at glob text (λ k l. plain k (omega arith)) (omega arith) m)))

star_off : (glob text : List ℕ) → Matches (42 ∷ glob) text → AnyBytes (Matches glob) text
unfolding Matches
star_off glob text (inl star) = star.1
star_off glob text (inr one) = absurd (one.0 refl)

star_on : (glob text : List ℕ) → AnyBytes (Matches glob) text → Matches (42 ∷ glob) text
unfolding Matches
star_on glob text any = inl (refl, any)

pub any_later : (glob text : List ℕ) (skipped : ℕ) → AnyBytes (Matches glob) (drop skipped text)
    → AnyBytes (Matches glob) text
any_later glob text skipped any =
    record {
      skipped = skipped + any.skipped;
      rest = matches_same _ _ _ _ refl (both any.skipped skipped text) any.rest;
    }

pub star_laid : (glob text : List ℕ) (count : ℕ) → count ≤ length text → count < length glob
    → ((k : ℕ) → k < count → get_or glob k 0 ≢ 42) → get_or glob count 0 ≡ 42
    → (Matches (drop count glob) (drop count text) → Matches glob text) → IsStar glob text count
star_laid glob text count long within plain star lies =
    let at : drop count glob ≡ 42 ∷ drop (count + 1) glob =
    rw add-one (drop-cons glob count 0 within ∙ ap (λ b. b ∷ drop (suc count) glob) star) in
    record {
      within = within;
      long = long;
      back = λ any. lies (matches_same _ _ _ _ (sym at) refl (star_on _ _ any));
      forth = λ skipped m.
          any_later _ _ skipped (star_off _ _ (matches_same _ _ _ _ at (drop_later count skipped text)
          (forward count glob (drop skipped text) plain (omega arith) m)));
    }

pub whole_laid : (glob text : List ℕ) (count : ℕ) → count ≡ length text → length glob ≤ count
    → (Matches (drop count glob) (drop count text) → Matches glob text) → Matches glob text
unfolding Matches
whole_laid glob text count whole short lies =
    lies (matches_same _ _ _ _ (sym (drop_all count glob short)) refl (drop_all count text (omega arith)))

pub longer_text : (glob text : List ℕ) (count : ℕ) → count ≤ length text → count ≢ length text → length glob ≤ count
    → count ≤ length glob
    → ((k : ℕ) → k < count → get_or glob k 0 ≢ 42) → Matches glob text → ⊥
unfolding Matches
longer_text glob text count long other short within plain m =
    let none : drop count text ≡ [] =
    matches_same _ _ _ _ (drop_all count glob short) refl (forward count glob text plain within m) in
    omega (arith, ap length none, length-drop count text)

more_of : (glob text : List ℕ) → (Matches glob text → ⊥) → (skipped : ℕ) → Matches glob (drop skipped text)
    → AnyBytes (Matches glob) (drop 1 text)
more_of glob text apart zero m = absurd (apart m)
more_of glob text apart (suc skipped) m =
    record { skipped = skipped; rest = matches_same _ _ _ _ refl (next skipped text) m }

-- where a glob does not lie on a text, a byte more is left out
pub one_more : (glob text : List ℕ) → (Matches glob text → ⊥) → AnyBytes (Matches glob) text
    → AnyBytes (Matches glob) (drop 1 text)
one_more glob text apart any = more_of glob text apart any.skipped any.rest

pub none_more : (glob text : List ℕ) → (Matches glob text → ⊥) → text ≡ [] → AnyBytes (Matches glob) text → ⊥
none_more glob text apart none any =
    apart (matches_same _ _ _ _ refl (ap (drop any.skipped) none ∙ drop_none any.skipped ∙ sym none) any.rest)

pub any_of : (glob text : List ℕ) → Matches glob text → AnyBytes (Matches glob) text
any_of glob text m = record { skipped = 0; rest = m }

pub any_same : (glob glob' text text' : List ℕ) → text ≡ text' → glob ≡ glob' → AnyBytes (Matches glob) text
    → AnyBytes (Matches glob') text'
any_same glob glob' text text' et eg any =
    record { skipped = any.skipped; rest = matches_same _ _ _ _ eg (ap (drop any.skipped) et) any.rest }

pub no_bytes : (text : List ℕ) → length text ≡ 0 → text ≡ []
no_bytes [] e = refl
no_bytes (byte ∷ text) e = absurd (omega arith)
