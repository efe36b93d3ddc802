-- Moments and points as bytes.
use Rattle.std.proofs.Common.{ℕ, ◌^◌, ◌<◌, List, ◌++◌, refl, sym, ap, arith}
use Rattle.std.specs.Prelude.{nat_lt}
use Rattle.std.proofs.lemmas.Bool.{ltb-true, lt-ltb}
use Rattle.kdb_base.specs.Moment.{Moment}
use Rattle.kdb_base.specs.declared.moments.Point.{Point}
use Rattle.kdb_format.specs.Readings.{Reading, ◌>>=◌, done, checked, big_at}
use Rattle.kdb_format.specs.Spellings.{big}
use Rattle.kdb_format.specs.Fields.{IsField}
use Rattle.kdb_format.specs.Laws.{same_field, first_field, last_field, big_field, checked_field}

-- seconds, and microseconds below 1000000
unfoldable pub time_at : Reading Moment
time_at = do
  secs ← big_at 4
  usecs ← checked (λ n. nat_lt n 1000000) (big_at 4)
  done (record { secs = secs; usecs = usecs })

unfoldable pub time : Moment → List ℕ
time m = big 4 m.secs ++ big 4 m.usecs

pub record IsTime (m : Moment) : Type 0 where
  pub secs : m.secs < 2 ^ 32
  pub usecs : m.usecs < 1000000

-- a serial and a time
unfoldable pub point_at : Reading Point
point_at = do
  sno ← big_at 4
  time ← time_at
  done (record { sno = sno; time = time })

unfoldable pub point : Point → List ℕ
point p = big 4 p.sno ++ time p.time

pub record IsPoint (p : Point) : Type 0 where
  pub sno : p.sno < 2 ^ 32
  pub time : IsTime p.time

pub time_field : IsField time_at time IsTime
unfolding time_at time
time_field = same_field
    (first_field (big_field 4) (λ (m : Moment). m.secs) (λ secs _.
    last_field (checked_field (λ n. nat_lt n 1000000) (big_field 4)) (λ (m : Moment). m.usecs) (λ usecs. record {
      secs = secs;
      usecs = usecs;
    }) (λ _ _. (refl, refl)) (λ m k. ap (λ (n : ℕ). record { secs = n; usecs = m.usecs }) (sym k))))
    (λ m f. (refl, record { secs = f.0; usecs = ltb-true _ _ f.1.1 }))
    (λ m f. (f.secs, (omega (arith, f.usecs), lt-ltb _ _ f.usecs)))

pub point_field : IsField point_at point IsPoint
unfolding point_at point
point_field = same_field
    (first_field (big_field 4) (λ (p : Point). p.sno) (λ sno _.
    last_field time_field (λ (p : Point). p.time) (λ time. record { sno = sno; time = time }) (λ _ _. (refl, refl))
    (λ p k. ap (λ (n : ℕ). record { sno = n; time = p.time }) (sym k))))
    (λ p f. (refl, record { sno = f.0; time = f.1 }))
    (λ p f. (f.sno, f.time))
