-- What a clock and a source of random bytes will give, behind what was taken of both.
use Rattle.std.proofs.Common.{◌≡◌, ◌∙◌, ℕ, List, refl, ap}
use Rattle.std.specs.Prelude.{Option, Some, None, IfSome, option_map}
use Rattle.std.proofs.lemmas.Option.{same_Some}
use Rattle.session_base.specs.Draws.{Draws, bytes_of, moment_in, told_draws}
use Rattle.kadm_top.specs.Openings.{AMoment, ABlock, behind}
use Rattle.kadm_top.specs.Run.{AreDrawn}
use Rattle.kdb_base.specs.Moment.{Moment}
use Rattle.kdb_ports.specs.Told.{later_bytes, later_moments}

pub behind_clock : (moments : Option (ℕ → Moment)) (stream : Option (ℕ → ℕ))
    → told_draws (option_map later_moments moments) stream ≡ behind AMoment (told_draws moments stream)
behind_clock None stream = refl
behind_clock (Some moments) None = refl
behind_clock (Some moments) (Some stream) = refl

pub behind_both : (moments : Option (ℕ → Moment)) (stream : Option (ℕ → ℕ))
    → told_draws (option_map later_moments moments) (option_map (later_bytes 2048) stream)
    ≡ behind ABlock (told_draws moments stream)
behind_both None stream = refl
behind_both (Some moments) None = refl
behind_both (Some moments) (Some stream) = refl

-- the moment that a clock gave
pub clock_gave : (moments : Option (ℕ → Moment)) (stream : Option (ℕ → ℕ)) (told : Draws) (now : Moment)
    → told_draws moments stream ≡ Some told → IfSome moments (λ f. now ≡ f 0) → now ≡ moment_in told
clock_gave None stream told now e first = absurd cc
clock_gave (Some moments) None told now e first = absurd cc
clock_gave (Some moments) (Some stream) told now e first = first ∙ ap moment_in (same_Some _ _ e)

-- a creation took the next moment and the next block
pub are_drawn : (moments : Option (ℕ → Moment)) (stream : Option (ℕ → ℕ)) (now : Moment) (random : List ℕ)
    → IfSome moments (λ f. now ≡ f 0) → IfSome stream (λ s. random ≡ bytes_of 2048 s)
    → AreDrawn (told_draws moments stream) now random
are_drawn None stream now random first bytes = tt
are_drawn (Some moments) None now random first bytes = tt
are_drawn (Some moments) (Some stream) now random first bytes = (first, bytes)
