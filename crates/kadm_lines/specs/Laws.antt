-- What the lines of an input are, by its bytes: put together again they are the input.
use Rattle.std.specs.Prelude.{ℕ, ◌≡◌, ◌≢◌, true, false, List, [], ◌∷◌, ◌++◌, if◌then◌else◌, ⊤}
use Rattle.kadm_lines.specs.Lines.{Line}
use Rattle.kadm_lines.specs.Windows.{lacks_feed}

-- a line as it stands in an input
abbrev pub written : Line → List ℕ
written line = line.bytes ++ (if line.ended then 10 ∷ [] else [])

unfoldable pub bytes_of : List Line → List ℕ
bytes_of [] = []
bytes_of (line ∷ lines) = written line ++ bytes_of lines

-- no line holds a line feed, and each is ended by one, but the last may lack it where it has a byte
unfoldable pub AreLines : List Line → Type 0
AreLines [] = ⊤
AreLines (line ∷ lines) =
    (lacks_feed line.bytes ≡ true) × (line.ended ≡ false → (lines ≡ []) × (line.bytes ≢ [])) × AreLines lines

pub record IsInputOf (bytes : List ℕ) (lines : List Line) : Type 0 where
  pub whole : bytes_of lines ≡ bytes
  pub each : AreLines lines
