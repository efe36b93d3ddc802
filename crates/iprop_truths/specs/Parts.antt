-- Places made one after the other, and where a call that makes them may stop.
use Rattle.std.specs.Prelude.{◌≡◌, ◌⊎◌, List, [], ◌∷◌}
use Rattle.kdb_places.specs.Places.{Place}

-- the last of these places, or this one
abbrev pub end_of : Place → List Place → Place
end_of p [] = p
end_of p (q ∷ others) = end_of q others

-- the place before, or one of those that are made
abbrev pub IsPart : Place → List Place → Place → Type 0
IsPart p [] q = q ≡ p
IsPart p (next ∷ others) q = (q ≡ p) ⊎ IsPart next others q
