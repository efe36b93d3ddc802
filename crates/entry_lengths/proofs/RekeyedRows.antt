-- A record with its keys wrapped anew is as long as is told of the principal under the other version.
use Rattle.std.proofs.Common.{◌≡◌, ℕ, ◌*◌, ◌≤◌, false, List, [], ◌∷◌, length}
use Rattle.std.proofs.Common.{take, drop, Some, None, refl, sym, ap, ◌∙◌, arith}
use Rattle.std.specs.List.{AllZip, sum_by}
use Rattle.std.proofs.lemmas.List.{length-drop, length-take-le}
use Rattle.std.proofs.lemmas.List.Sums.{sum_by-cons}
use Rattle.entry_lengths.proofs.Wrapped.{wrapped_long}
use Rattle.entry_lengths.specs.Lengths.{IsAsLong, entry_len_in}
use Rattle.kdb_base.specs.Etypes.{key_len}
use Rattle.kdb_base.specs.Key.{Key}
use Rattle.kdb_model.specs.Refusals.{len_in, len_under}
use Rattle.kdb_model.specs.Rekeying.{under_version}
use Rattle.kdb_plain.specs.Heads.{plain_head}
use Rattle.kdb_plain.specs.Lengths.{item_len, row_len}
use Rattle.kdb_plain.specs.States.{history_key, master_of}
use Rattle.kdb_plain.specs.declared.changes.PlainOp.TheVariants.{PutPrinc}
use Rattle.kdb_plain.specs.declared.princs.PlainPrinc.{PlainPrinc}
use Rattle.kdb_plain.specs.declared.states.State.{State}
use Rattle.master_keys.specs.Lengths.{length-wrapped}
use Rattle.master_keys.specs.Wrapping.{wrapped_len}
use Rattle.plain_keys.specs.declared.items.PlainItem.{PlainItem}
use Rattle.princ_keys.specs.Keys.{salt_bytes}
use Rattle.princ_keys.specs.Sizes as key_sizes
use Rattle.princ_keys.specs.declared.keys.KeyItem.{KeyItem}
use Rattle.princ_record.specs.Princs.{princ}
use Rattle.princ_record.specs.SizeLaws.{length-princ}
use Rattle.princ_record.specs.Sizes as sizes
use Rattle.princ_record.specs.declared.princs.Princ.{Princ}
use Rattle.princ_rows.specs.Entries.{key_of, row_of}
use Rattle.princ_rows.specs.declared.entries.Op.TheVariants as op
use Rattle.rekey_work.specs.Works.{IsRewrappedItem}
use Rattle.row_keys.proofs.Lengths.{row_long}
use Rattle.row_keys.specs.Shows.{ShowsItem, ShowsPrinc, ShowsUnder}
use Rattle.row_keys.specs.Wraps.{wrapped_item, wrapped_items}

-- ---- the keys

-- wrapped anew with the random bytes of a rekeying
pub anew_long : (old fresh : Key) (random : List ℕ) (items : List KeyItem) (keys : List PlainItem)
    → length fresh.bytes ≡ key_len fresh.etype
    → AllZip (ShowsItem old) items keys → 16 * length keys ≤ length random
    → sum_by key_sizes.key_len (wrapped_items fresh false random keys) ≡ sum_by (item_len fresh.etype) keys
unfolding wrapped_items wrapped_item
anew_long old fresh random [] [] whole h enough = refl
anew_long old fresh random [] (k ∷ keys) whole h enough = absurd h
anew_long old fresh random (i ∷ items) [] whole h enough = absurd h
anew_long old fresh random (i ∷ items) (k ∷ keys) whole h enough =
    let blob = wrapped_long fresh k.key (take 16 random) whole (h.0.holds.long ∙ ap key_len (sym h.0.holds.of_type))
    (length-take-le 16 random (omega (arith, enough))) in
    let rest =
    anew_long old fresh (drop 16 random) items keys whole h.1 (omega (arith, enough, length-drop 16 random)) in
    omega (
      arith,
      blob,
      rest,
      sum_by-cons key_sizes.key_len (wrapped_item fresh (take 16 random) k)
          (wrapped_items fresh false (drop 16 random) keys),
      sum_by-cons (item_len fresh.etype) k keys,
    )

item_long : (held old fresh : Key) (item made : KeyItem) (k : PlainItem) → ShowsItem held item k
    → IsRewrappedItem old fresh item made → key_sizes.key_len made ≡ item_len fresh.etype k
item_long held old fresh item made k h w =
    let salt : length (salt_bytes made.salt) ≡ length (salt_bytes k.salt) =
    ap (λ s. length (salt_bytes s)) (w.salt ∙ h.salt) in
    let blob : length made.wrapped ≡ wrapped_len fresh.etype made.etype = length-wrapped w.sealed in
    let etype : wrapped_len fresh.etype made.etype ≡ wrapped_len fresh.etype k.key.etype =
    ap (wrapped_len fresh.etype) (w.etype ∙ sym h.holds.of_type) in
    omega (arith, salt, blob, etype)

-- of work
pub made_long : (held old fresh : Key) (items made : List KeyItem) (keys : List PlainItem)
    → AllZip (ShowsItem held) items keys → AllZip (IsRewrappedItem old fresh) items made
    → sum_by key_sizes.key_len made ≡ sum_by (item_len fresh.etype) keys
made_long held old fresh [] [] [] h w = refl
made_long held old fresh [] [] (k ∷ keys) h w = absurd h
made_long held old fresh [] (m ∷ made) keys h w = absurd w
made_long held old fresh (i ∷ items) [] keys h w = absurd w
made_long held old fresh (i ∷ items) (m ∷ made) [] h w = absurd h
made_long held old fresh (i ∷ items) (m ∷ made) (k ∷ keys) h w =
    omega (
      arith,
      sum_by-cons key_sizes.key_len m made,
      sum_by-cons (item_len fresh.etype) k keys,
      item_long held old fresh i m k h.0 w.0,
      made_long held old fresh items made keys h.1 w.1,
    )

-- ---- the row and its entry

row_rekeyed : (master fresh history : Key) (version : ℕ) (p : Princ) (q : PlainPrinc) (keys : List KeyItem)
    → ShowsUnder master history p q → p.chain ≡ None
    → sum_by key_sizes.key_len keys ≡ sum_by (item_len fresh.etype) q.keys
    → length (princ (record p { mkvno = version; keys = keys }))
    ≡ row_len fresh.etype history.etype (under_version version q)
unfolding row_len
row_rekeyed master fresh history version p q keys f alone same =
    let bare : Princ = record p { keys = [] } in
    let plain : PlainPrinc = record q { keys = [] } in
    let shown : ShowsUnder master history bare plain = record { fields = f.fields; keys = tt; old = f.old } in
    omega (
      arith,
      same,
      row_long master history bare plain shown,
      ap sizes.chain_len alone,
      length-princ bare,
      length-princ (record p { mkvno = version; keys = keys }),
      length-princ (plain_head q),
      length-princ (plain_head (under_version version q)),
    )

told_by : (s : State) (history fresh : Key) (version : ℕ) (q : PlainPrinc) → history_key s.realm s.princs ≡ Some history
    → master_of s.masters version ≡ Some fresh
    → len_in s (under_version version q) ≡ row_len fresh.etype history.etype (under_version version q)
unfolding len_under
told_by s history fresh version q history_is listed = rw (listed, history_is) refl

pub entry_rekeyed : (s : State) (history fresh : Key) (version : ℕ) (p made : Princ) (q : PlainPrinc)
    → history_key s.realm s.princs ≡ Some history → ShowsPrinc s.masters history p q
    → p.chain ≡ None → master_of s.masters version ≡ Some fresh → made ≡ record p { mkvno = version; keys = made.keys }
    → sum_by key_sizes.key_len made.keys ≡ sum_by (item_len fresh.etype) q.keys
    → IsAsLong s (op.PutPrinc made) (PutPrinc (under_version version q))
unfolding key_of row_of entry_len_in
entry_rekeyed s history fresh version p made q history_is f alone listed is same =
    let name : length made.name ≡ length q.name =
    ap (λ (x : Princ). length x.name) is ∙ ap (λ (x : Princ). length x.name) f.under.fields in
    let row : length (princ made) ≡ row_len fresh.etype history.etype (under_version version q) =
    ap (λ (x : Princ). length (princ x)) is
    ∙ row_rekeyed f.master fresh history version p q made.keys f.under alone same in
    omega (arith, name, row, told_by s history fresh version q history_is listed)
