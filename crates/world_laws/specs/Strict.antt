-- At which points the stages of a story stand, one behind the other.
use Rattle.std.specs.Prelude.{◌≡◌, List, [], ◌∷◌}
use Rattle.kdb_base.specs.Moments.{ComesBefore}
use Rattle.kdb_base.specs.declared.moments.Point.{Point}
use Rattle.kdb_histories.specs.Stages.{Deed, Filled, Did, Anew, Stashed, Stage}
use Rattle.kdb_places.specs.Places.{point_of}

-- a stash keeps the point, and every other deed leads to a later one
abbrev pub Rises : Deed → Point → Point → Type 0
Rises (Filled state) old new = ComesBefore old new
Rises (Did ask due point op) old new = ComesBefore old new
Rises Anew old new = ComesBefore old new
Rises Stashed old new = new ≡ old

-- from the stage before, where there is one
abbrev pub RisesFrom : List Stage → Stage → Type 0
RisesFrom [] u = Unit {0}
RisesFrom (t ∷ older) u = Rises u.deed (point_of t.place) (point_of u.place)

-- the newest first
abbrev pub IsStrict : List Stage → Type 0
IsStrict [] = Unit {0}
IsStrict (u ∷ older) = RisesFrom older u × IsStrict older
