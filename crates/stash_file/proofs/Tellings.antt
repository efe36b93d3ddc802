-- What a reader tells of a piece is what the piece tells.
use Rattle.std.proofs.Common.{◌≡◌, ℕ, ◌-◌, Bool, true, false, cond, ltb, List, []}
use Rattle.std.proofs.Common.{◌∷◌, ◌++◌, Option, Some, None, refl, sym, ap, ◌∙◌}
use Rattle.std.specs.Prelude.{option_map, option_and_then}
use Rattle.std.proofs.lemmas.Option.{same_Some}
use Rattle.kdb_format.specs.Fields.{IsBytes}
use Rattle.kdb_format.specs.Readings.{big_at, bytes_at, known}
use Rattle.stash_file.specs.Answers.{IsNext}
use Rattle.stash_file.specs.Keytabs.{NothingThere}
use Rattle.stash_file.specs.Parsing.{entry_at, entry_in, hole_at, held_at, piece_at}
use Rattle.stash_file.specs.Parsing.{told_at, told_held, told_hole, told_in}
use Rattle.stash_file.specs.Pieces.{Entry, Piece, Told, piece_text, told_by, told_of, told_with}
use Rattle.stash_file.specs.Pieces.Piece.{Held}
use Rattle.stash_file.proofs.Fields.{entry_field, piece_field}
use Rattle.stash_file.proofs.Uniques.{none_there}

-- an entry was read from the front of all of its bytes
pub told_front : (bytes : List ℕ) (e : Entry) (rest : List ℕ) → IsBytes bytes → entry_at bytes ≡ Some (e, rest)
    → told_in bytes ≡ Some (told_with bytes e rest)
unfolding told_in
told_front bytes e rest fits read =
    ap (option_map (λ (x : Entry × List ℕ). told_of x.0 x.1)) read
    ∙ ap (λ (b : List ℕ). Some (told_with b e rest)) (sym (entry_field.spelled bytes e rest fits read))

pub told_nothing : (bytes : List ℕ) → entry_at bytes ≡ None → told_in bytes ≡ None
unfolding told_in
told_nothing bytes none = ap (option_map (λ (x : Entry × List ℕ). told_of x.0 x.1)) none

-- a step of two readings, of which the second one's value is then seen by f
step : {A B C : Type 0} (g : A → Option C) (h : A → Option B) (f : B → C) (o : Option A)
    → ((x : A) → g x ≡ option_map f (h x))
    → option_and_then g o ≡ option_map f (option_and_then h o)
step g h f None e = refl
step g h f (Some x) e = e x

told_in_same : (bytes : List ℕ) → option_map (λ t. t ∷ []) (told_in bytes) ≡ option_map told_by (entry_in bytes)
unfolding told_in entry_in
told_in_same bytes = seen (entry_at bytes)
  where
    seen : (o : Option (Entry × List ℕ))
        → option_map (λ (t : Told). t ∷ []) (option_map (λ (x : Entry × List ℕ). told_of x.0 x.1) o)
        ≡ option_map told_by (option_map (λ (x : Entry × List ℕ). Held x.0 x.1) o)
    seen None = refl
    seen (Some x) = refl

known_same : (o : Option Piece) (rest : List ℕ)
    → known (option_map told_by o) rest ≡ option_map (λ x. (told_by x.0, x.1)) (known o rest)
known_same None rest = refl
known_same (Some p) rest = refl

told_same : (bytes : List ℕ) → told_at bytes ≡ option_map (λ x. (told_by x.0, x.1)) (piece_at bytes)
unfolding told_at piece_at
told_same bytes = step _ _ _ (big_at 4 bytes) (λ size. behind (ltb size.0 2147483648) size.0 size.1)
  where
    behind : (b : Bool) (size : ℕ) (rest : List ℕ)
        → cond b (told_held size) (told_hole size) rest
        ≡ option_map (λ (x : Piece × List ℕ). (told_by x.0, x.1)) (cond b (held_at size) (hole_at size) rest)
    behind true size rest = step _ _ _ (bytes_at size rest)
        (λ y. ap (λ (o : Option (List Told)). known o y.1) (told_in_same y.0) ∙ known_same (entry_in y.0) y.1)
    behind false size rest = step _ _ _ (bytes_at (4294967296 - size) rest) (λ y. refl)

map_some : {A B : Type 0} (f : A → B) (o : Option A) (y : B) → option_map f o ≡ Some y
    → (x : A) × (o ≡ Some x) × (f x ≡ y)
map_some f None y e = absurd cc
map_some f (Some x) y e = (x, refl, same_Some (f x) y e)

map_none : {A B : Type 0} (f : A → B) (o : Option A) → option_map f o ≡ None → o ≡ None
map_none f None e = refl
map_none f (Some x) e = absurd cc

-- a piece was read
pub next_there : (old : List ℕ) (entries : List Told) (new : List ℕ) → IsBytes old → told_at old ≡ Some (entries, new)
    → IsNext old entries new
next_there old entries new fits e =
    let m =
    map_some (λ (x : Piece × List ℕ). (told_by x.0, x.1)) (piece_at old) (entries, new) (sym (told_same old) ∙ e) in
    let text = piece_field.spelled old m.0.0 m.0.1 fits m.1 in
    record {
      piece = m.0.0;
      fits = piece_field.fits old m.0.0 m.0.1 fits m.1;
      spelled = text ∙ ap (λ (z : List Told × List ℕ). piece_text m.0.0 ++ z.1) m.2;
      told = sym (ap (λ (z : List Told × List ℕ). z.0) m.2);
    }

-- none was read
pub next_missing : (old : List ℕ) → told_at old ≡ None → NothingThere old
next_missing old e =
    none_there old (map_none (λ (x : Piece × List ℕ). (told_by x.0, x.1)) (piece_at old) (sym (told_same old) ∙ e))
