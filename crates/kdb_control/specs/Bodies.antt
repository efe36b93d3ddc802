-- The body of a control slot: what follows its gate.
use Rattle.std.proofs.Common.{◌≡◌, ℕ, ◌<◌, ◌^◌, true, List, [], ◌∷◌, ◌++◌, refl, ap, ◌∙◌}
use Rattle.std.proofs.lemmas.List.{append-nil}
use Rattle.kdb_base.specs.declared.moments.Point.{Point}
use Rattle.kdb_format.specs.Readings.{Reading, ◌>>=◌, ◌>>◌, done, checked, literal_at, big_at, zeros_at}
use Rattle.kdb_format.specs.Spellings.{big, zeros}
use Rattle.kdb_format.specs.Moments.{point_at, point, IsPoint, point_field}
use Rattle.kdb_format.specs.Fields.{IsField}
use Rattle.kdb_format.specs.Laws.{same_field, first_field, then_field, after_field, done_field}
use Rattle.kdb_format.specs.Laws.{big_field, literal_field, zeros_field, checked_field}
use Rattle.kdb_control.specs.Choice.{Choice, is_choice}

-- KDBP
unfoldable pub magic : List ℕ
magic = 75 ∷ 68 ∷ 66 ∷ 80 ∷ []

-- the numbers in their order, and 33 zero bytes
unfoldable pub numbers_at : Reading Choice
numbers_at = do
  literal_at magic
  format ← big_at 2
  turn ← big_at 1
  image ← big_at 1
  log ← big_at 1
  stash ← big_at 1
  size ← big_at 4
  block ← big_at 4
  base ← point_at
  zeros_at 33
  done (record {
    format = format;
    turn = turn;
    image = image;
    log = log;
    stash = stash;
    size = size;
    block = block;
    base = base;
  })

-- and each within its range
unfoldable pub body_at : Reading Choice
body_at = checked is_choice numbers_at

unfoldable pub body : Choice → List ℕ
body c = magic ++ (big 2 c.format ++ (big 1 c.turn ++ (big 1 c.image ++ (big 1 c.log ++ (big 1 c.stash
    ++ (big 4 c.size ++ (big 4 c.block ++ (point c.base ++ zeros 33))))))))

pub record IsNumbers (c : Choice) : Type 0 where
  pub format : c.format < 2 ^ 16
  pub turn : c.turn < 2 ^ 8
  pub image : c.image < 2 ^ 8
  pub log : c.log < 2 ^ 8
  pub stash : c.stash < 2 ^ 8
  pub size : c.size < 2 ^ 32
  pub block : c.block < 2 ^ 32
  pub base : IsPoint c.base

pub record IsBody (c : Choice) : Type 0 where
  pub numbers : IsNumbers c
  pub ranges : is_choice c ≡ true

-- a choice by its numbers
same_choice : (c : Choice) (format turn image log stash size block : ℕ) (base : Point)
    → c.format ≡ format → c.turn ≡ turn → c.image ≡ image → c.log ≡ log → c.stash ≡ stash → c.size ≡ size
    → c.block ≡ block
    → c.base ≡ base
    → c ≡ record {
      format = format;
      turn = turn;
      image = image;
      log = log;
      stash = stash;
      size = size;
      block = block;
      base = base;
    }
same_choice c format turn image log stash size block base k a b d e f g h =
    let made : ℕ → ℕ → ℕ → ℕ → ℕ → ℕ → ℕ → Point → Choice =
    λ (x0 : ℕ) (x1 : ℕ) (x2 : ℕ) (x3 : ℕ) (x4 : ℕ) (x5 : ℕ) (x6 : ℕ) (x7 : Point).
    record { format = x0; turn = x1; image = x2; log = x3; stash = x4; size = x5; block = x6; base = x7 } in
    ap (λ (x : ℕ). made x c.turn c.image c.log c.stash c.size c.block c.base) k
    ∙ ap (λ (x : ℕ). made format x c.image c.log c.stash c.size c.block c.base) a
    ∙ ap (λ (x : ℕ). made format turn x c.log c.stash c.size c.block c.base) b
    ∙ ap (λ (x : ℕ). made format turn image x c.stash c.size c.block c.base) d
    ∙ ap (λ (x : ℕ). made format turn image log x c.size c.block c.base) e
    ∙ ap (λ (x : ℕ). made format turn image log stash x c.block c.base) f
    ∙ ap (λ (x : ℕ). made format turn image log stash size x c.base) g
    ∙ ap (λ (x : Point). made format turn image log stash size block x) h

-- what is known of a choice once so many of its numbers are read
abbrev Formats : ℕ → Choice → Type 0
Formats format c = c.format ≡ format

abbrev Turns : ℕ → ℕ → Choice → Type 0
Turns format turn c = (c.turn ≡ turn) × Formats format c

abbrev Images : ℕ → ℕ → ℕ → Choice → Type 0
Images format turn image c = (c.image ≡ image) × Turns format turn c

abbrev Logs : ℕ → ℕ → ℕ → ℕ → Choice → Type 0
Logs format turn image log c = (c.log ≡ log) × Images format turn image c

abbrev Stashes : ℕ → ℕ → ℕ → ℕ → ℕ → Choice → Type 0
Stashes format turn image log stash c = (c.stash ≡ stash) × Logs format turn image log c

abbrev Sizes : ℕ → ℕ → ℕ → ℕ → ℕ → ℕ → Choice → Type 0
Sizes format turn image log stash size c = (c.size ≡ size) × Stashes format turn image log stash c

abbrev Blocks : ℕ → ℕ → ℕ → ℕ → ℕ → ℕ → ℕ → Choice → Type 0
Blocks format turn image log stash size block c = (c.block ≡ block) × Sizes format turn image log stash size c

last_part : (format turn image log stash size block : ℕ) (base : Point)
    → IsField {A = Choice} (zeros_at 33 >> done (record {
      format = format;
      turn = turn;
      image = image;
      log = log;
      stash = stash;
      size = size;
      block = block;
      base = base;
    }))
    (λ _. zeros 33)
    (λ c. ((c.base ≡ base) × Blocks format turn image log stash size block c) × Unit {0})
last_part format turn image log stash size block base =
    let made : Choice = record {
      format = format;
      turn = turn;
      image = image;
      log = log;
      stash = stash;
      size = size;
      block = block;
      base = base;
    } in
    same_field
    (after_field (zeros_field 33) tt (done_field made))
    (λ c e. (
      append-nil (zeros 33),
      (
        (
          ap (λ (x : Choice). x.base) e,
          (
            ap (λ (x : Choice). x.block) e,
            (
              ap (λ (x : Choice). x.size) e,
              (
                ap (λ (x : Choice). x.stash) e,
                (
                  ap (λ (x : Choice). x.log) e,
                  (ap (λ (x : Choice). x.image) e, (ap (λ (x : Choice). x.turn) e, ap (λ (x : Choice). x.format) e)),
                ),
              ),
            ),
          ),
        ),
        tt,
      ),
    ))
    (λ c f. same_choice c format turn image log stash size block base
    f.0.1.1.1.1.1.1.1 f.0.1.1.1.1.1.1.0 f.0.1.1.1.1.1.0 f.0.1.1.1.1.0 f.0.1.1.1.0 f.0.1.1.0 f.0.1.0 f.0.0)

pub numbers_field : IsField numbers_at body IsNumbers
unfolding numbers_at body
numbers_field = same_field
    (after_field (literal_field magic) tt
    (first_field (big_field 2) (λ (c : Choice). c.format) (λ format _.
    then_field {K = Formats format} (big_field 1) (λ (c : Choice). c.turn) (λ turn _.
    then_field {K = Turns format turn} (big_field 1) (λ (c : Choice). c.image) (λ image _.
    then_field {K = Images format turn image} (big_field 1) (λ (c : Choice). c.log) (λ log _.
    then_field {K = Logs format turn image log} (big_field 1) (λ (c : Choice). c.stash) (λ stash _.
    then_field {K = Stashes format turn image log stash} (big_field 4) (λ (c : Choice). c.size) (λ size _.
    then_field {K = Sizes format turn image log stash size} (big_field 4) (λ (c : Choice). c.block) (λ block _.
    then_field {K = Blocks format turn image log stash size block} point_field (λ (c : Choice). c.base) (λ base _.
    last_part format turn image log stash size block base))))))))))
    (λ c f. (
      refl,
      record {
        format = f.0;
        turn = f.1.0;
        image = f.1.1.0;
        log = f.1.1.1.0;
        stash = f.1.1.1.1.0;
        size = f.1.1.1.1.1.0;
        block = f.1.1.1.1.1.1.0;
        base = f.1.1.1.1.1.1.1.0;
      },
    ))
    (λ c f. (f.format, (f.turn, (f.image, (f.log, (f.stash, (f.size, (f.block, (f.base, tt)))))))))

pub body_field : IsField body_at body IsBody
unfolding body_at
body_field = same_field (checked_field is_choice numbers_field) (λ c f. (refl, record { numbers = f.0; ranges = f.1 }))
    (λ c f. (f.numbers, f.ranges))
