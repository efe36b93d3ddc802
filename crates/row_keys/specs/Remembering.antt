-- What a record remembers of keys that are replaced, wrapped under the history key.
use Rattle.std.specs.Prelude.{ℕ, ◌-◌, List, [], ◌∷◌, take, drop}
use Rattle.kdb_base.specs.Key.{Key}
use Rattle.master_keys.specs.Wrapping.{wrapped}
use Rattle.princ_keys.specs.declared.remembered.OldKey.{OldKey}
use Rattle.princ_keys.specs.declared.remembered.OldSet.{OldSet}
use Rattle.plain_keys.specs.Keys.{newest_keys, newest_kvno}
use Rattle.plain_keys.specs.declared.items.PlainItem.{PlainItem}

unfoldable pub wrapped_old_key : Key → List ℕ → Key → OldKey
wrapped_old_key history confounder key = record { etype = key.etype; wrapped = wrapped history key confounder }

-- each with the next 16 bytes
unfoldable pub wrapped_old_keys : Key → List ℕ → List Key → List OldKey
wrapped_old_keys history random [] = []
wrapped_old_keys history random (k ∷ keys) =
    wrapped_old_key history (take 16 random) k ∷ wrapped_old_keys history (drop 16 random) keys

-- the keys of the greatest version
abbrev pub wrapped_set : Key → List ℕ → List PlainItem → OldSet
wrapped_set history random keys =
    record { kvno = newest_kvno keys; keys = wrapped_old_keys history random (newest_keys keys) }

-- before those of earlier ones, where there is a key
abbrev pub with_wrapped_set : Key → List ℕ → List PlainItem → List OldSet → List OldSet
with_wrapped_set history random [] old = old
with_wrapped_set history random (k ∷ keys) old = wrapped_set history random (k ∷ keys) ∷ old

-- one set less than the history, which counts the new password too
unfoldable pub remembered_sets : Key → ℕ → List ℕ → List PlainItem → List OldSet → List OldSet
remembered_sets history count random keys old = take (count - 1) (with_wrapped_set history random keys old)
