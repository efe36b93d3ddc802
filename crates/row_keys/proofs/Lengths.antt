-- How long the row of a plain principal is.
use Rattle.std.proofs.Common.{◌≡◌, suc, ◌+◌, ◌*◌, ◌-◌, List, [], ◌∷◌, ◌++◌, length}
use Rattle.std.proofs.Common.{take, Option, Some, None, refl, sym, ap, ◌∙◌, arith}
use Rattle.std.specs.List.{last_or, sum_by}
use Rattle.std.proofs.lemmas.List.{length-append}
use Rattle.kdb_base.specs.Key.{Key}
use Rattle.kdb_base.specs.declared.versions.Activation.{Activation}
use Rattle.kdb_base.specs.declared.versions.AuxKey.{AuxKey}
use Rattle.kdb_base.specs.declared.versions.Master.{Master}
use Rattle.master_keys.specs.Chain.{IsAuxOf}
use Rattle.master_keys.specs.Lengths.{length-wrapped}
use Rattle.master_keys.specs.Wrapping.{wrapped_len}
use Rattle.princ_keys.specs.Keys.{salt_bytes}
use Rattle.princ_record.specs.Princs.{princ}
use Rattle.princ_record.specs.SizeLaws.{length-princ}
use Rattle.princ_record.specs.Sizes as sizes
use Rattle.princ_keys.specs.Sizes as key_sizes
use Rattle.princ_record.specs.declared.facts.ChainPart.{ChainPart}
use Rattle.princ_keys.specs.declared.keys.KeyItem.{KeyItem}
use Rattle.princ_record.specs.declared.princs.Princ.{Princ}
use Rattle.princ_keys.specs.declared.remembered.OldKey.{OldKey}
use Rattle.princ_keys.specs.declared.remembered.OldSet.{OldSet}
use Rattle.tagged_data.specs.Versions.{length-aux_keys_text}
use Rattle.kdb_plain.specs.Heads.{head, plain_head}
use Rattle.kdb_plain.specs.Lengths.{aux_len, aux_lens, chain_len, item_len}
use Rattle.kdb_plain.specs.Lengths.{old_key_len, older_masters, row_len, set_len}
use Rattle.plain_keys.specs.declared.items.PlainItem.{PlainItem}
use Rattle.plain_keys.specs.declared.items.PlainSet.{PlainSet}
use Rattle.kdb_plain.specs.declared.princs.PlainPrinc.{PlainPrinc}
use Rattle.row_keys.specs.Shows.{ShowsChain, ShowsItem, ShowsOldKey, ShowsSet, ShowsUnder}
use Rattle.row_keys.proofs.Sides.{zip_sums}

item_long : (master : Key) (item : KeyItem) (k : PlainItem) → ShowsItem master item k
    → key_sizes.key_len item ≡ item_len master.etype k
item_long master item k f =
    let salt : length (salt_bytes item.salt) ≡ length (salt_bytes k.salt) = ap (λ s. length (salt_bytes s)) f.salt in
    let blob : length item.wrapped ≡ wrapped_len master.etype item.etype = length-wrapped f.holds in
    let etype : wrapped_len master.etype item.etype ≡ wrapped_len master.etype k.key.etype =
    ap (wrapped_len master.etype) (sym f.holds.of_type) in
    omega (arith, salt, blob, etype)

old_key_long : (history : Key) (kept : OldKey) (k : Key) → ShowsOldKey history kept k
    → key_sizes.old_key_len kept ≡ old_key_len history.etype k
old_key_long history kept k f =
    let blob : length kept.wrapped ≡ wrapped_len history.etype kept.etype = length-wrapped f in
    let etype : wrapped_len history.etype kept.etype ≡ wrapped_len history.etype k.etype =
    ap (wrapped_len history.etype) (sym f.of_type) in
    omega (arith, blob, etype)

set_long : (history : Key) (kept : OldSet) (s : PlainSet) → ShowsSet history kept s
    → key_sizes.old_set_len kept ≡ set_len history.etype s
set_long history kept s f =
    omega (
      arith,
      zip_sums (ShowsOldKey history) key_sizes.old_key_len (old_key_len history.etype)
          (old_key_long history) kept.keys s.keys f.keys,
    )

-- the row, and what K/M's has beside
pub row_long : (master history : Key) (p : Princ) (q : PlainPrinc) → ShowsUnder master history p q
    → length (princ p) ≡ row_len master.etype history.etype q + sizes.chain_len p.chain
unfolding row_len
row_long master history p q f =
    let keys : sum_by key_sizes.key_len p.keys ≡ sum_by (item_len master.etype) q.keys =
    zip_sums (ShowsItem master) key_sizes.key_len (item_len master.etype) (item_long master) p.keys q.keys f.keys in
    let old : sum_by key_sizes.old_set_len p.old ≡ sum_by (set_len history.etype) q.old =
    zip_sums (ShowsSet history) key_sizes.old_set_len (set_len history.etype) (set_long history) p.old q.old f.old in
    let fields : length (princ (head p)) ≡ length (princ (plain_head q)) = ap (λ h. length (princ h)) f.fields in
    omega (arith, length-princ p, length-princ (head p), fields, keys, old)

-- ---- K/M

aux_long : (newest : Key) (aux : AuxKey) (older : Master) → IsAuxOf newest aux older
    → 6 + length aux.wrapped ≡ aux_len newest.etype older
aux_long newest aux older f =
    let blob : length aux.wrapped ≡ wrapped_len older.key.etype aux.etype = length-wrapped f.unwraps in
    let etype : wrapped_len older.key.etype aux.etype ≡ wrapped_len older.key.etype newest.etype =
    ap (wrapped_len older.key.etype) (sym f.unwraps.of_type) in
    omega (arith, blob, etype)

pub last_pushed : {X : Type 0} (o : Option X) (xs : List X) (x : X) → last_or o (xs ++ x ∷ []) ≡ Some x
last_pushed o [] x = refl
last_pushed o (y ∷ xs) x = last_pushed (Some y) xs x

pub front_of : {X : Type 0} (xs : List X) (x : X) → take (length (xs ++ x ∷ []) - 1) (xs ++ x ∷ []) ≡ xs
front_of [] x = refl
front_of (y ∷ xs) x =
    let long : length (y ∷ xs ++ x ∷ []) - 1 ≡ suc (length (xs ++ x ∷ []) - 1) =
    omega (arith, length-append xs (x ∷ [])) in
    ap (λ n. take n (y ∷ xs ++ x ∷ [])) long ∙ ap (λ ys. y ∷ ys) (front_of xs x)

part_long : (c : Option ChainPart) (part : ChainPart) → c ≡ Some part
    → sizes.chain_len c ≡ 8 + 6 * length part.activations + sum_by (λ (k : AuxKey). 6 + length k.wrapped) part.aux
part_long c part e =
    ap sizes.chain_len e ∙ ap (λ n. 8 + 6 * length part.activations + n) (length-aux_keys_text part.aux)

pub chain_long : (masters : List Master) (activations : List Activation) (p : Princ) → ShowsChain masters activations p
    → sizes.chain_len p.chain ≡ chain_len masters activations
unfolding chain_len
chain_long masters activations p f =
    let u = f.chain.under in
    let newest : Master = record { version = p.mkvno; key = f.chain.newest } in
    let whole = part_long p.chain u.part u.part_is in
    let same : Some u.part ≡ Some f.part = sym u.part_is ∙ f.part_is in
    let begun : length u.part.activations ≡ length activations = ap (λ (c : ChainPart). length c.activations)
    (part_same u.part f.part same) ∙ ap (λ xs. length xs) f.activations_are in
    let aux : sum_by (λ (k : AuxKey). 6 + length k.wrapped) u.part.aux ≡ sum_by (aux_len f.chain.newest.etype) u.older =
    zip_sums (IsAuxOf f.chain.newest) (λ (k : AuxKey). 6 + length k.wrapped) (aux_len f.chain.newest.etype)
    (aux_long f.chain.newest) u.part.aux u.older u.aux in
    let lens : aux_lens (last_or None masters) (older_masters masters) ≡ sum_by (aux_len f.chain.newest.etype) u.older =
    ap (λ ms. aux_lens (last_or None ms) (older_masters ms)) u.masters_are
    ∙ ap (λ o. aux_lens o (older_masters (u.older ++ newest ∷ []))) (last_pushed None u.older newest)
    ∙ ap (λ ms. aux_lens (Some newest) ms) (front_of u.older newest) in
    omega (arith, whole, begun, aux, lens)
  where
    part_same : (a b : ChainPart) → ◌≡◌ {A = Option ChainPart} (Some a) (Some b) → a ≡ b
    part_same a b e = cc
