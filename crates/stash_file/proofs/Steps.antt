-- Reading a stash, and a keytab, piece by piece.
use Rattle.std.proofs.Common.{◌≡◌, ℕ, ◌-◌, ◌<◌, Bool, true, false, List, [], ◌++◌, length, sym, ap, ◌∙◌}
use Rattle.std.specs.List.{flat_map, list_all}
use Rattle.stash_file.specs.Answers.{IsNext, IsNextBy}
use Rattle.stash_file.specs.Keytabs.{with_version, has_key, IsBadKeytab, IsEnd, IsKeytab, NoPiece}
use Rattle.stash_file.specs.Pieces.{Told, told_by}
use Rattle.stash_file.specs.Stashes.{has_master_key, key_of, keys_by, IsStash, IsBadAt}
use Rattle.stash_file.specs.declared.keys.StashKey.{StashKey}
use Rattle.stash_file.proofs.Loops.{IsReadBy, nothing_by, more_by, less_by, ends_by, breaks_by}
use Rattle.stash_file.proofs.Uniques.{none_beside}

-- ---- stashes

-- these keys were read of the text, and the rest is left
abbrev pub IsRead : List ℕ → List StashKey → List ℕ → Type 0
IsRead text keys rest = IsReadBy has_master_key keys_by text keys rest

pub nothing_read : (text rest : List ℕ) → text ≡ with_version rest → IsRead text [] rest
nothing_read text rest e = nothing_by has_master_key keys_by text rest e

pub one_more : (text : List ℕ) (keys : List StashKey) (rest : List ℕ) (more : List StashKey) (after : List ℕ)
    → IsRead text keys rest → IsNextBy has_master_key keys_by rest more after → IsRead text (keys ++ more) after
one_more text keys rest more after read next = more_by has_master_key keys_by text keys rest more after read next

pub less_left : (old : List ℕ) (keys : List StashKey) (new : List ℕ) → IsNextBy has_master_key keys_by old keys new
    → length new < length old
less_left old keys new next = less_by has_master_key keys_by old keys new next

pub ends_here : (text : List ℕ) (keys : List StashKey) (rest : List ℕ) → IsRead text keys rest → IsEnd rest
    → IsStash text keys
ends_here text keys rest read end =
    record { pieces = read.pieces; is = ends_by has_master_key keys_by text keys rest read end; told = read.told }

pub breaks_here : (text : List ℕ) (keys : List StashKey) (rest : List ℕ) → IsRead text keys rest → (IsEnd rest → ⊥)
    → NoPiece has_master_key rest → IsBadAt text (length text - length rest)
breaks_here text keys rest read going_on none = breaks_by has_master_key keys_by text keys rest read going_on none

-- ---- keytabs

abbrev pub IsReadKeytab : List ℕ → List Told → List ℕ → Type 0
IsReadKeytab text entries rest = IsReadBy has_key told_by text entries rest

pub nothing_told : (text rest : List ℕ) → text ≡ with_version rest → IsReadKeytab text [] rest
nothing_told text rest e = nothing_by has_key told_by text rest e

pub one_more_told : (text : List ℕ) (entries : List Told) (rest : List ℕ) (more : List Told) (after : List ℕ)
    → IsReadKeytab text entries rest → IsNextBy has_key told_by rest more after
    → IsReadKeytab text (entries ++ more) after
one_more_told text entries rest more after read next = more_by has_key told_by text entries rest more after read next

pub less_told : (old : List ℕ) (entries : List Told) (new : List ℕ) → IsNextBy has_key told_by old entries new
    → length new < length old
less_told old entries new next = less_by has_key told_by old entries new next

pub keytab_ends : (text : List ℕ) (entries : List Told) (rest : List ℕ) → IsReadKeytab text entries rest → IsEnd rest
    → IsKeytab text entries
keytab_ends text entries rest read end =
    record { pieces = read.pieces; is = ends_by has_key told_by text entries rest read end; told = read.told }

pub keytab_breaks : (text : List ℕ) (entries : List Told) (rest : List ℕ) → IsReadKeytab text entries rest
    → (IsEnd rest → ⊥) → NoPiece has_key rest → IsBadKeytab text (length text - length rest)
keytab_breaks text entries rest read going_on none = breaks_by has_key told_by text entries rest read going_on none

-- a piece that was read, of which every key passes or one fails
pub passing : (test : Told → Bool) (old : List ℕ) (entries : List Told) (new : List ℕ) → IsNext old entries new
    → list_all test entries ≡ true → IsNextBy test told_by old entries new
passing test old entries new next passes = record {
  piece = next.piece;
  fits = record { piece = next.fits; passes = ap (list_all test) (sym next.told) ∙ passes };
  spelled = next.spelled;
  told = next.told;
}

pub failing : (test : Told → Bool) (old : List ℕ) (entries : List Told) (new : List ℕ) → IsNext old entries new
    → list_all test entries ≡ false → NoPiece test old
failing test old entries new next fails =
    none_beside test old next.piece new next.fits next.spelled (ap (list_all test) (sym next.told) ∙ fails)

-- ---- the key of a piece that was read

pub key_there : (old : List ℕ) (entries : List Told) (keys : List StashKey) (new : List ℕ)
    → IsNext old entries new → keys ≡ flat_map key_of entries → list_all has_master_key entries ≡ true
    → IsNextBy has_master_key keys_by old keys new
unfolding keys_by
key_there old entries keys new next told passes = record {
  piece = next.piece;
  fits = record { piece = next.fits; passes = ap (list_all has_master_key) (sym next.told) ∙ passes };
  spelled = next.spelled;
  told = told ∙ ap (flat_map key_of) next.told;
}

pub key_missing : (old : List ℕ) (entries : List Told) (new : List ℕ) → IsNext old entries new
    → list_all has_master_key entries ≡ false → NoPiece has_master_key old
key_missing old entries new next fails =
    none_beside has_master_key old next.piece new next.fits next.spelled
    (ap (list_all has_master_key) (sym next.told) ∙ fails)
