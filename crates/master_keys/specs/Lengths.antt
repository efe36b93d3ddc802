-- How long wrapped keys are.
use Rattle.std.proofs.Common.{◌≡◌, ℕ, ◌^◌, ◌<◌, ◌≤◌, List, length, ap, arith}
use Rattle.std.proofs.lemmas.List.{length-append}
use Rattle.kdb_base.specs.Etypes.{key_len}
use Rattle.kdb_base.specs.EtypeLaws.{key_fits, tag_fits}
use Rattle.kdb_base.specs.Key.{Key}
use Rattle.kdb_base.specs.declared.keys.Etype.{Etype}
use Rattle.kdb_format.specs.Spellings.{little}
use Rattle.kdb_format.specs.Numbers.{length-little}
use Rattle.master_keys.specs.Wrapping.{Unwraps, wrapped_len}

-- what holds a key is as long as such a key is, wrapped
pub length-wrapped : {master : Key} {etype : Etype} {blob : List ℕ} {key : Key} → Unwraps master etype blob key
    → length blob ≡ wrapped_len master.etype etype
unfolding wrapped_len
length-wrapped {master = master} {etype = etype} {blob = blob} {key = key} u =
    omega (
      arith,
      ap length u.blob_is,
      u.sealed.long,
      u.long,
      length-append (little 2 (key_len etype)) u.text,
      length-little 2 (key_len etype),
    )

-- a wrapped key has at most 74 bytes
pub few_wrapped_bytes : (master etype : Etype) → wrapped_len master etype ≤ 74
unfolding wrapped_len
few_wrapped_bytes master etype = omega (arith, key_fits etype, tag_fits master)

pub few_bytes : {master : Key} {etype : Etype} {blob : List ℕ} {key : Key} → Unwraps master etype blob key
    → length blob ≤ 74
few_bytes {master = master} {etype = etype} u = omega (arith, length-wrapped u, few_wrapped_bytes master.etype etype)

pub short_blob : {master : Key} {etype : Etype} {blob : List ℕ} {key : Key} → Unwraps master etype blob key
    → length blob < 2 ^ 16
short_blob u = let few = few_bytes u in omega arith
