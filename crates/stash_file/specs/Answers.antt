-- What a reader of a stash answers.
use Rattle.std.specs.Prelude.{◌≡◌, ℕ, Bool, true, false, map, Vec, List, [], ◌∷◌}
use Rattle.std.specs.Prelude.{◌++◌, Option, Some, None, option_map, Result, Ok, Err}
use Rattle.std.specs.declared.alloc.Global.{Global}
use Rattle.kdb_format.specs.Answers.{Refuses}
use Rattle.kdb_format.specs.declared.faults.FormatFault.{FormatFault}
use Rattle.stash_file.specs.Pieces.{Piece, Told, piece_text, told_by, IsPiece}
use Rattle.kdb_base.specs.declared.keys.Etype.{Etype}
use Rattle.kdb_format.specs.declared.faults.Malformed.{Malformed}
use Rattle.std.specs.Option.{option_to_list}
use Rattle.stash_file.specs.Keytabs.{Stands, has_length}
use Rattle.stash_file.specs.Stashes.{stash_key}
use Rattle.stash_file.specs.declared.keys.StashKey.{StashKey}
use Rattle.stash_file.specs.declared.pieces.Entry.{Entry as HeldEntry}
use Rattle.stash_file.specs.declared.faults.StashFault.{StashFault}
use Rattle.stash_file.specs.declared.faults.StashFault.TheVariants.{BadStash, MemoryOut}

-- an entry, as contracts see it
abbrev pub told : HeldEntry → Told
told e = record {
  realm = e.realm;
  parts = e.parts.items;
  name_type = e.name_type;
  time = e.time;
  version = e.version;
  key_type = e.key_type;
  key = e.key;
  bytes = e.bytes;
}

-- ---- whole files

-- these keys, unless memory ran out
abbrev pub Gives : Result (List StashKey) StashFault → List StashKey → Type 0
Gives (Ok found) keys = found ≡ keys
Gives (Err (BadStash place)) keys = ⊥
Gives (Err MemoryOut) keys = Unit {0}

-- these entries, unless memory ran out
abbrev pub GivesEntries : Result (Vec HeldEntry Global) StashFault → List Told → Type 0
GivesEntries (Ok found) entries = map told found.items ≡ entries
GivesEntries (Err (BadStash place)) entries = ⊥
GivesEntries (Err MemoryOut) entries = Unit {0}

-- a refusal at this place, unless memory ran out
abbrev pub RefusesAt : {A : Type 0} → Result A StashFault → ℕ → Type 0
RefusesAt (Ok found) place = ⊥
RefusesAt (Err (BadStash at)) place = at ≡ place
RefusesAt (Err MemoryOut) place = Unit {0}

-- ---- pieces

-- an entry, or none of a hole
abbrev pub told_list : Option HeldEntry → List Told
told_list None = []
told_list (Some e) = told e ∷ []

-- what was returned is the entry that was found, unless memory ran out
abbrev pub Tells : Result HeldEntry FormatFault → Option Told → Type 0
Tells (Ok e) found = found ≡ Some (told e)
Tells (Err fault) found = Refuses fault found

-- a piece stands at the front of the bytes, and tells this
pub record IsNext (old : List ℕ) (entries : List Told) (new : List ℕ) : Type 0 where
  pub piece : Piece
  pub fits : IsPiece piece
  pub spelled : old ≡ piece_text piece ++ new
  pub told : entries ≡ told_by piece

-- a piece that may stand there is at the front of the bytes, and tells these items
pub record IsNextBy {A : Type 0} (test : Told → Bool) (tell : Piece → List A) (old : List ℕ) (items : List A)
    (new : List ℕ) : Type 0 where
  pub piece : Piece
  pub fits : Stands test piece
  pub spelled : old ≡ piece_text piece ++ new
  pub told : items ≡ tell piece

-- the key of this type, or None where it is skipped; refused where its length is wrong
abbrev pub Judges : Result (Option StashKey) Malformed → Option Etype → ℕ → List ℕ → Type 0
Judges (Ok key) etype version bytes = (has_length etype bytes ≡ true)
    × (option_to_list key ≡ option_to_list (option_map (λ t. stash_key version t bytes) etype))
Judges (Err fault) etype version bytes = has_length etype bytes ≡ false
