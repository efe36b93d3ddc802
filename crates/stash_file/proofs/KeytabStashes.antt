-- A keytab is a stash of the keys of its entries of K/M.
use Rattle.std.proofs.Common.{◌≡◌, ℕ, Bool, true, false, List, [], ◌∷◌, ◌++◌, Option, None, refl, ap, ◌∙◌}
use Rattle.std.specs.Prelude.{if◌then◌else◌}
use Rattle.std.specs.List.{AllByRecursion, flat_map, list_all}
use Rattle.std.proofs.lemmas.Bool.{and_from, and_parts}
use Rattle.std.proofs.lemmas.Grind.{flat_map-append}
use Rattle.std.proofs.lemmas.List.Elements.{All-from_recursion, recursion_from_All}
use Rattle.kdb_base.specs.Etypes.{etype_of}
use Rattle.kdb_base.specs.declared.keys.Etype.{Etype}
use Rattle.stash_file.specs.Keytabs.{IsKeytab, Stands, has_key, has_length}
use Rattle.stash_file.specs.Pieces.{Piece, Told, told_by}
use Rattle.stash_file.specs.Stashes.{IsStash, has_master_key, is_master, key_of, keys_by}

-- where an entry may be skipped, less is asked of its key
skipped_passes : (master : Bool) (t : Option Etype) (key : List ℕ) → has_length t key ≡ true
    → has_length (if master then t else None) key ≡ true
skipped_passes true t key e = e
skipped_passes false t key e = refl

master_passes : (list : List Told) → list_all has_key list ≡ true → list_all has_master_key list ≡ true
master_passes [] e = refl
master_passes (t ∷ list) e =
    let both = and_parts (has_key t) (list_all has_key list) e in
    and_from (has_master_key t) (list_all has_master_key list)
    (skipped_passes (is_master t.parts) (etype_of t.key_type) t.key both.0) (master_passes list both.1)

pieces_stand : (pieces : List Piece) → AllByRecursion (Stands has_key) pieces
    → AllByRecursion (Stands has_master_key) pieces
pieces_stand [] f = tt
pieces_stand (p ∷ pieces) f =
    (record { piece = f.0.piece; passes = master_passes (told_by p) f.0.passes }, pieces_stand pieces f.1)

keys_told : (pieces : List Piece) → flat_map key_of (flat_map told_by pieces) ≡ flat_map keys_by pieces
unfolding keys_by
keys_told [] = refl
keys_told (p ∷ pieces) = flat_map-append key_of (told_by p) (flat_map told_by pieces)
    ∙ ap (λ rest. flat_map key_of (told_by p) ++ rest) (keys_told pieces)

pub keytab_stashes : (text : List ℕ) (entries : List Told) → IsKeytab text entries
    → IsStash text (flat_map key_of entries)
keytab_stashes text entries f = record {
  pieces = f.pieces;
  is = record {
    end = f.is.end;
    each = All-from_recursion (Stands has_master_key) f.pieces
        (pieces_stand f.pieces (recursion_from_All (Stands has_key) f.pieces f.is.each));
    ended = f.is.ended;
    spelled = f.is.spelled;
  };
  told = ap (flat_map key_of) f.told ∙ keys_told f.pieces;
}
