-- What was read of an input.
use Rattle.std.specs.Prelude.{ℕ, ◌≡◌, ◌⊎◌, false, List, [], Option}
use Rattle.kadm_lines.specs.Reader.{ReaderState}
use Rattle.session_base.specs.Wholes.{IsReadWhole, WereTaken}

-- a reader at the front of an input
abbrev pub fresh : ReaderState
fresh = record { text = []; skipping = false; pending = []; over = false; taken = 0 }

-- What was read where an input was answered and nothing refused, where something was refused, and where it was too
-- long.
pub record InputIsRead {S : Type 0} (left : S → Option (List ℕ)) (old new : S)
    (done refused too_long : Type 0) : Type 0 where
  pub when_done : done → IsReadWhole (left old) (left new)
  pub when_refused : refused → IsReadWhole (left old) (left new) ⊎ (new ≡ old)
  pub when_long : too_long → WereTaken 4294967296 (left old) (left new)
