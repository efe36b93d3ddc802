-- The lines of a script, as a function of its seed and of their number.
use Rattle.std.specs.Prelude.{ℕ, zero, suc, ◌+◌, ◌*◌, ◌/◌, ◌%◌, ◌==◌, List, [], ◌∷◌, ◌++◌, codes, if◌then◌else◌}
use Rattle.std.specs.Fmt.{decimal}
use Rattle.made_scripts.specs.declared.words.Script.{Script}

-- five lines follow one another in turn: what stands in them before the number of the name
unfoldable pub line_front : ℕ → List ℕ
line_front turn =
    if turn == 0 then codes "addprinc -randkey p"
    else if turn == 1 then codes "addprinc -nokey q"
    else if turn == 2 then codes "cpw -randkey -keepold p"
    else if turn == 3 then codes "modprinc +requires_preauth q"
    else codes "delprinc p"

-- how far the number of the name goes on from one of them to the next of its kind
unfoldable pub stride : ℕ → ℕ
stride turn = if turn == 3 then 5 else if turn == 4 then 7 else 3

-- one of 40 names, from the seed on
unfoldable pub name_number : ℕ → ℕ → ℕ
name_number seed number = (seed + stride (number % 5) * (number / 5)) % 40

-- the line of this number, counted from 0
unfoldable pub line_at : ℕ → ℕ → List ℕ
line_at seed number = line_front (number % 5) ++ decimal (name_number seed number)

-- so many lines, from the one of this number on
unfoldable pub lines_from : ℕ → ℕ → ℕ → List (List ℕ)
lines_from seed number zero = []
lines_from seed number (suc left) = line_at seed number ∷ lines_from seed (number + 1) left

abbrev pub lines_of : Script → List (List ℕ)
lines_of script = lines_from script.seed 0 script.count
