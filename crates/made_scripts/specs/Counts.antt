-- How many keys the rows of a database have.
use Rattle.std.specs.Prelude.{ℕ, ◌+◌, List, [], ◌∷◌, length}
use Rattle.princ_record.specs.declared.princs.Princ.{Princ}

-- the keys of all of these principals, those of the master key among them
unfoldable pub keys_in : List Princ → ℕ
keys_in [] = 0
keys_in (princ ∷ princs) = length princ.keys + keys_in princs
