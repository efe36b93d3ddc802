-- What a keytab holds, and what is made of keys, are entries that a keytab can hold.
use Rattle.std.proofs.Common.{◌≡◌, ℕ, ◌%◌, ◌^◌, ◌<◌, ◌≤◌, Bool, true, false, cond, eqb, List}
use Rattle.std.proofs.Common.{[], ◌∷◌, ◌++◌, length, Option, Some, refl, sym, ap, ◌∙◌, arith}
use Rattle.std.specs.List.{All, AllByRecursion, flat_map}
use Rattle.std.proofs.Math.Nat.{mod-lt}
use Rattle.std.proofs.lemmas.Bool.{and_parts, eq-eqb, eqb-true}
use Rattle.std.proofs.lemmas.List.{append-nil, length-append}
use Rattle.std.proofs.lemmas.List.Elements.{All-from_recursion, recursion_from_All}
use Rattle.kdb_base.specs.Etypes.{etype_of, key_len, number_of}
use Rattle.kdb_base.specs.EtypeLaws.{key_fits, of_number, small_number}
use Rattle.kdb_base.specs.declared.extracts.Extract.{Extract}
use Rattle.kdb_base.specs.declared.keys.Etype.{Etype}
use Rattle.kdb_format.specs.Laws.{big_field}
use Rattle.kdb_format.specs.Lengths.{length-counted}
use Rattle.kdb_format.specs.Numbers.{length-big}
use Rattle.kdb_format.specs.Readings.{big_at}
use Rattle.kdb_format.specs.Spellings.{big}
use Rattle.princ_name.specs.Names.{IsName, NameParts}
use Rattle.stash_file.specs.Keytabs.{IsKeytab, Stands, has_key, has_length}
use Rattle.stash_file.specs.Pieces.{Piece, Told, entry_text, told_by, told_of, unless_zero, version_from}
use Rattle.stash_file.specs.Pieces.Piece.{Hole, Held}
use Rattle.keytab_out.specs.Entries.{IsListed}
use Rattle.keytab_out.specs.Written.{bytes_of, entry_of, front_of}
use Rattle.keytab_out.proofs.Names.{parts_room, parts_short, realm_short}

-- ---- of a file

by_pieces : (pieces : List Piece) → AllByRecursion (Stands has_key) pieces
    → AllByRecursion IsListed (flat_map told_by pieces)
by_pieces [] f = tt
by_pieces (Hole bytes ∷ pieces) f = by_pieces pieces f.1
by_pieces (Held e more ∷ pieces) f = (
  record {
    front = e;
    more = more;
    held = f.0.piece;
    told = refl;
    key = (and_parts (has_key (told_of e more)) true f.0.passes).0;
  },
  by_pieces pieces f.1,
)

pub all_listed : (text : List ℕ) (entries : List Told) → IsKeytab text entries → All IsListed entries
all_listed text entries f =
    let each = All-from_recursion IsListed (flat_map told_by f.pieces)
    (by_pieces f.pieces (recursion_from_All (Stands has_key) f.pieces f.is.each)) in
    rw f.told each

-- ---- of a key

-- the 32-bit version, whatever it is
version_there : (v : ℕ) → v < 2 ^ 32 → version_from (v % 256) (big 4 v) ≡ v
unfolding version_from
version_there v lt =
    let read : big_at 4 (big 4 v) ≡ Some (v, []) =
    ap (big_at 4) (sym (append-nil (big 4 v))) ∙ (big_field 4).again v [] lt in
    ap (unless_zero (v % 256)) read ∙ by_test (eqb v 0) refl
  where
    by_test : (b : Bool) → eqb v 0 ≡ b → cond b (v % 256) v ≡ v
    by_test true e = let zero : v ≡ 0 = eqb-true v 0 e in rw zero refl
    by_test false e = refl

key_passes : (t : Etype) (key : List ℕ) → length key ≡ key_len t → has_length (etype_of (number_of t)) key ≡ true
key_passes t key e = ap (λ (o : Option Etype). has_length o key) (of_number t) ∙ eq-eqb _ _ e

-- at most 287 bytes of a name's parts, 257 of its realm, 34 of a key, and 17 more
room : (name : NameParts) (secs : ℕ) (x : Extract) → IsName name → length x.key.bytes ≤ 32
    → length (entry_text (front_of name secs x) ++ big 4 x.kvno) < 2 ^ 31
unfolding entry_text
room name secs x is few =
    let parts = parts_room name is in
    let realm = realm_short name is in
    simp (length-append, length-counted, length-big) (omega arith)

pub entry_listed : (name : NameParts) (secs : ℕ) (x : Extract) → IsName name → secs < 2 ^ 32 → x.kvno < 2 ^ 32
    → length x.key.bytes ≡ key_len x.key.etype → IsListed (entry_of name secs x)
unfolding bytes_of
entry_listed name secs x is lt version len =
    let few = key_fits x.key.etype in
    let realm = realm_short name is in
    let count = is.few in
    let byte : x.kvno % 256 < 256 = mod-lt x.kvno (omega arith) in
    record {
      front = front_of name secs x;
      more = big 4 x.kvno;
      held = record {
        entry = record {
          realm = omega arith;
          count = omega arith;
          components = parts_short name is;
          name_type = omega arith;
          time = lt;
          version = byte;
          key_type = small_number x.key.etype;
          key = omega arith;
        };
        most = room name secs x is (omega arith);
      };
      told = ap (λ (v : ℕ). versioned v) (sym (version_there x.kvno version));
      key = key_passes x.key.etype x.key.bytes len;
    }
  where
    versioned : ℕ → Told
    versioned v = record {
      realm = name.realm;
      parts = name.parts;
      name_type = 1;
      time = secs;
      version = v;
      key_type = number_of x.key.etype;
      key = x.key.bytes;
      bytes = entry_text (front_of name secs x) ++ big 4 x.kvno;
    }

pub listed_short : (t : Told) → IsListed t → length t.bytes < 2 ^ 31
listed_short t l = let few = l.held.most in omega (arith, ap (λ (x : Told). length x.bytes) l.told)
