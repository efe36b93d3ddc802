-- The keys of earlier passwords, by sets of one version each.
use Rattle.std.proofs.Common.{ℕ, ◌^◌, ◌<◌, ◌≤◌, Bool, List, ◌++◌, length}
use Rattle.std.specs.Prelude.{nat_le}
use Rattle.std.specs.List.{All}
use Rattle.kdb_base.specs.Limits.{most_old_sets}
use Rattle.kdb_format.specs.Etypes.{etype_at, etype_text}
use Rattle.kdb_format.specs.Readings.{Reading, ◌>>=◌, done, checked, big_at, counted_at, counted_list_at}
use Rattle.kdb_format.specs.Spellings.{big, counted, counted_list}
use Rattle.princ_keys.specs.declared.remembered.OldKey.{OldKey}
use Rattle.princ_keys.specs.declared.remembered.OldSet.{OldSet}

unfoldable pub old_key_at : Reading OldKey
old_key_at = do
  etype ← etype_at
  wrapped ← counted_at
  done (record { etype = etype; wrapped = wrapped })

unfoldable pub old_key : OldKey → List ℕ
old_key k = etype_text k.etype ++ counted k.wrapped

pub record IsOldKey (k : OldKey) : Type 0 where
  pub wrapped : length k.wrapped < 2 ^ 16

unfoldable pub old_set_at : Reading OldSet
old_set_at = do
  kvno ← big_at 2
  keys ← counted_list_at 2 old_key_at
  done (record { kvno = kvno; keys = keys })

unfoldable pub old_set : OldSet → List ℕ
old_set s = big 2 s.kvno ++ counted_list 2 old_key s.keys

-- a set may be empty
pub record IsOldSet (s : OldSet) : Type 0 where
  pub kvno : s.kvno < 2 ^ 16
  pub count : length s.keys < 2 ^ 16
  pub keys : All IsOldKey s.keys

abbrev pub are_few : List OldSet → Bool
are_few sets = nat_le (length sets) most_old_sets

unfoldable pub old_sets_at : Reading (List OldSet)
old_sets_at = checked are_few (counted_list_at 2 old_set_at)

unfoldable pub old_sets : List OldSet → List ℕ
old_sets sets = counted_list 2 old_set sets

pub record AreOldSets (sets : List OldSet) : Type 0 where
  pub few : length sets ≤ most_old_sets
  pub each : All IsOldSet sets
