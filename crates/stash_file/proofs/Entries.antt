-- The entries that are written are pieces, and tell the keys that they are written for.
use Rattle.std.proofs.Common.{◌≡◌, ℕ, ◌+◌, ◌%◌, ◌^◌, ◌<◌, ◌≤◌, Bool, true, false, cond, eqb, List, [], ◌∷◌}
use Rattle.std.proofs.Common.{◌++◌, length, Option, Some, refl, sym, ap, subst, ◌∙◌, arith, inl, append_assoc}
use Rattle.std.specs.Prelude.{◌&&◌, codes, map, option_map, reverse}
use Rattle.std.specs.Option.{option_to_list}
use Rattle.std.specs.List.{All, AllByRecursion, flat_map, list_all}
use Rattle.std.proofs.Math.Nat.{mod-lt}
use Rattle.std.proofs.lemmas.Bool.{eqb-true, eq-eqb}
use Rattle.std.proofs.lemmas.List.{append-nil, flat_map_more, length-append}
use Rattle.std.proofs.lemmas.List.{map-append, reverse-append, reverse-reverse}
use Rattle.std.proofs.lemmas.List.Elements.{All-append, All-from_recursion, recursion_from_All}
use Rattle.std.proofs.lemmas.List.Sorted.{All-permutation, IsPermutation-reverse}
use Rattle.kdb_base.specs.Etypes.{etype_of, key_len, number_of}
use Rattle.kdb_base.specs.EtypeLaws.{key_fits, of_number, small_number}
use Rattle.kdb_base.specs.declared.keys.Etype.{Etype}
use Rattle.kdb_base.specs.declared.versions.Master.{Master}
use Rattle.kdb_format.specs.Laws.{big_field}
use Rattle.kdb_format.specs.Lengths.{length-counted}
use Rattle.kdb_format.specs.Numbers.{length-big}
use Rattle.kdb_format.specs.Readings.{big_at}
use Rattle.kdb_format.specs.Spellings.{big}
use Rattle.stash_file.specs.Keytabs.{with_version, has_length, Stands}
use Rattle.stash_file.specs.Pieces.{Piece, entry_text, piece_text, told_by, unless_zero, version_from}
use Rattle.stash_file.specs.Written.{entry_of, piece_of, stash_keys, stash_text, IsStashed}
use Rattle.stash_file.specs.Stashes.{has_master_key, is_master, keys_by, stash_key, IsStash}
use Rattle.stash_file.specs.declared.keys.StashKey.{StashKey}

pub written_length : (realm : List ℕ) (secs : ℕ) (m : Master)
    → length (entry_text (entry_of realm secs m) ++ big 4 m.version) ≡ 27 + length realm + length m.key.bytes
unfolding entry_text
written_length realm secs m = simp (length-append, length-counted, length-big) (omega arith)

key_passes : (realm : List ℕ) (secs : ℕ) (m : Master) → length m.key.bytes ≡ key_len m.key.etype
    → list_all has_master_key (told_by (piece_of realm secs m)) ≡ true
unfolding is_master
key_passes realm secs m len = by_type m.key.etype len
  where
    by_type : (t : Etype) → length m.key.bytes ≡ key_len t
        → (has_length (etype_of (number_of t)) m.key.bytes && true) ≡ true
    by_type t e =
        let known : has_length (etype_of (number_of t)) m.key.bytes ≡ true =
        ap (λ (o : Option Etype). has_length o m.key.bytes) (of_number t) ∙ eq-eqb _ _ e in
        rw known refl

pub written_fits : (realm : List ℕ) (secs : ℕ) (m : Master) → length realm ≤ 64 → secs < 2 ^ 32
    → length m.key.bytes ≡ key_len m.key.etype → Stands has_master_key (piece_of realm secs m)
written_fits realm secs m short lt len =
    let small = small_number m.key.etype in
    let few = key_fits m.key.etype in
    let byte : m.version % 256 < 256 = mod-lt m.version (omega arith) in
    record {
      piece = record {
        entry = record {
          realm = omega arith;
          count = omega arith;
          components = All-from_recursion (λ (text : List ℕ). length text < 2 ^ 16) (codes "K" ∷ codes "M" ∷ []) (
            omega arith,
            (omega arith, tt),
          );
          name_type = omega arith;
          time = lt;
          version = byte;
          key_type = small;
          key = omega arith;
        };
        most = omega (arith, written_length realm secs m);
      };
      passes = key_passes realm secs m len;
    }

-- the 32-bit version, whatever it is
version_there : (v : ℕ) → v < 2 ^ 32 → version_from (v % 256) (big 4 v) ≡ v
unfolding version_from
version_there v lt =
    let read : big_at 4 (big 4 v) ≡ Some (v, []) =
    ap (big_at 4) (sym (append-nil (big 4 v))) ∙ (big_field 4).again v [] lt in
    ap (unless_zero (v % 256)) read ∙ by_test (eqb v 0) refl
  where
    by_test : (b : Bool) → eqb v 0 ≡ b → cond b (v % 256) v ≡ v
    by_test true e = let zero : v ≡ 0 = eqb-true v 0 e in rw zero refl
    by_test false e = refl

pub written_key : (realm : List ℕ) (secs : ℕ) (m : Master) → m.version < 2 ^ 32
    → keys_by (piece_of realm secs m) ≡ record { version = m.version; key = m.key } ∷ []
unfolding keys_by is_master
written_key realm secs m lt = by_type m.key.etype
  where
    by_type : (t : Etype)
        → option_to_list (option_map (λ (u : Etype).
        stash_key (version_from (m.version % 256) (big 4 m.version)) u m.key.bytes) (etype_of (number_of t))) ++ []
        ≡ stash_key m.version t m.key.bytes ∷ []
    by_type t =
        ap (λ (o : Option Etype). option_to_list (option_map (λ (u : Etype).
        stash_key (version_from (m.version % 256) (big 4 m.version)) u m.key.bytes) o) ++ []) (of_number t)
        ∙ ap (λ (v : ℕ). stash_key v t m.key.bytes ∷ []) (version_there m.version lt)

-- a master key as a stash has it
abbrev stashed : Master → StashKey
stashed m = record { version = m.version; key = m.key }

-- these keys were written so far
pub record IsWritten (realm : List ℕ) (secs : ℕ) (out : List ℕ) (masters : List Master) : Type 0 where
  pub text : out ≡ with_version (flat_map piece_text (map (piece_of realm secs) masters))
  pub each : All (Stands has_master_key) (map (piece_of realm secs) masters)
  pub told : flat_map keys_by (map (piece_of realm secs) masters) ≡ map stashed masters

pub nothing_written : (realm : List ℕ) (secs : ℕ) → IsWritten realm secs (with_version []) []
nothing_written realm secs =
    record { text = refl; each = All-from_recursion (Stands has_master_key) [] tt; told = refl }

pub one_more_written : (realm : List ℕ) (secs : ℕ) (out new : List ℕ) (masters : List Master) (m : Master)
    → IsWritten realm secs out masters
    → new ≡ out ++ piece_text (piece_of realm secs m) → Stands has_master_key (piece_of realm secs m)
    → keys_by (piece_of realm secs m) ≡ stashed m ∷ []
    → IsWritten realm secs new (masters ++ m ∷ [])
one_more_written realm secs out new masters m before text fits told =
    let one : List Piece = piece_of realm secs m ∷ [] in
    let before_it = map (piece_of realm secs) masters in
    let pieces : map (piece_of realm secs) (masters ++ m ∷ []) ≡ before_it ++ one =
    map-append (piece_of realm secs) masters (m ∷ []) in
    record {
      text =
          text
          ∙ ap (λ (o : List ℕ). o ++ piece_text (piece_of realm secs m)) before.text
          ∙ ap with_version (flat_map_more piece_text [] before_it (piece_of realm secs m))
          ∙ ap (λ (ps : List Piece). with_version (flat_map piece_text ps)) (sym pieces);
      each = subst (All (Stands has_master_key)) (sym pieces) (All-append (Stands has_master_key) before_it one
          before.each (All-from_recursion (Stands has_master_key) one (fits, tt)));
      told =
          ap (flat_map keys_by) pieces
          ∙ sym (flat_map_more keys_by [] before_it (piece_of realm secs m))
          ∙ ap (λ (ks : List StashKey). ks ++ keys_by (piece_of realm secs m)) before.told
          ∙ ap (λ (ks : List StashKey). map stashed masters ++ ks) told
          ∙ sym (map-append stashed masters (m ∷ []));
    }

pub all_written : (realm : List ℕ) (secs : ℕ) (out : List ℕ) (masters : List Master)
    → IsWritten realm secs out (reverse masters) → IsStash out (stash_keys masters)
unfolding stash_keys
all_written realm secs out masters f = record {
  pieces = map (piece_of realm secs) (reverse masters);
  is = record {
    end = [];
    each = f.each;
    ended = inl refl;
    spelled =
        f.text ∙ ap with_version (sym (append-nil (flat_map piece_text (map (piece_of realm secs) (reverse masters)))));
  };
  told = sym f.told;
}

-- the masters from the end down to the rest were written so far
pub record IsPartWritten (realm : List ℕ) (secs : ℕ) (out : List ℕ) (masters rest : List Master) : Type 0 where
  pub done : List Master
  pub whole : masters ≡ rest ++ reverse done
  pub written : IsWritten realm secs out done

pub none_written : (realm : List ℕ) (secs : ℕ) (masters : List Master)
    → IsPartWritten realm secs (with_version []) masters masters
none_written realm secs masters =
    record { done = []; whole = sym (append-nil masters); written = nothing_written realm secs }

pub last_written : (realm : List ℕ) (secs : ℕ) (out new : List ℕ) (masters rest older : List Master) (m : Master)
    → IsPartWritten realm secs out masters rest → rest ≡ older ++ m ∷ []
    → new ≡ out ++ piece_text (piece_of realm secs m) → Stands has_master_key (piece_of realm secs m)
    → keys_by (piece_of realm secs m) ≡ stashed m ∷ []
    → IsPartWritten realm secs new masters older
last_written realm secs out new masters rest older m before last text fits told = record {
  done = before.done ++ m ∷ [];
  whole =
      before.whole
      ∙ ap (λ (ms : List Master). ms ++ reverse before.done) last
      ∙ append_assoc older (m ∷ []) (reverse before.done)
      ∙ ap (λ (ms : List Master). older ++ ms) (sym (reverse-append before.done (m ∷ [])));
  written = one_more_written realm secs out new before.done m before.written text fits told;
}

pub rest_written : (realm : List ℕ) (secs : ℕ) (out : List ℕ) (masters rest : List Master)
    → IsPartWritten realm secs out masters rest → rest ≡ [] → IsWritten realm secs out (reverse masters)
rest_written realm secs out masters rest f none =
    let whole : masters ≡ reverse f.done = f.whole ∙ ap (λ (ms : List Master). ms ++ reverse f.done) none in
    subst (IsWritten realm secs out) (sym (reverse-reverse f.done) ∙ ap reverse (sym whole)) f.written

-- ---- a text that is said to be written

each_stands : (realm : List ℕ) (secs : ℕ) → length realm ≤ 64 → secs < 2 ^ 32 → (masters : List Master)
    → AllByRecursion IsStashed masters
    → AllByRecursion (Stands has_master_key) (map (piece_of realm secs) masters)
each_stands realm secs short lt [] fits = tt
each_stands realm secs short lt (m ∷ masters) fits =
    (written_fits realm secs m short lt fits.0.whole, each_stands realm secs short lt masters fits.1)

each_told : (realm : List ℕ) (secs : ℕ) (masters : List Master) → AllByRecursion IsStashed masters
    → flat_map keys_by (map (piece_of realm secs) masters) ≡ map stashed masters
each_told realm secs [] fits = refl
each_told realm secs (m ∷ masters) fits =
    ap (λ (ks : List StashKey). ks ++ flat_map keys_by (map (piece_of realm secs) masters))
    (written_key realm secs m fits.0.version)
    ∙ ap (λ (ks : List StashKey). stashed m ∷ ks) (each_told realm secs masters fits.1)

pub stash_written : (realm : List ℕ) (secs : ℕ) (masters : List Master) → length realm ≤ 64 → secs < 2 ^ 32
    → All IsStashed masters
    → IsStash (stash_text realm secs masters) (stash_keys masters)
unfolding stash_text
stash_written realm secs masters short lt fits =
    let turned : AllByRecursion IsStashed (reverse masters) =
    recursion_from_All IsStashed (reverse masters)
    (All-permutation IsStashed masters (reverse masters) (IsPermutation-reverse masters) fits) in
    all_written realm secs (stash_text realm secs masters) masters (record {
      text = refl;
      each = All-from_recursion (Stands has_master_key) _ (each_stands realm secs short lt (reverse masters) turned);
      told = each_told realm secs (reverse masters) turned;
    })
