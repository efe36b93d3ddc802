use Rattle.std.proofs.Common.{◌≡◌, ◌∙◌, ap, sym, List, ℕ}
use Rattle.kdb_base.specs.Key.{Key}
use Rattle.kdb_base.specs.declared.keys.Etype.{Etype}
use Rattle.master_keys.specs.Faults.{unopened_by}
use Rattle.master_keys.proofs.wrapping.MasterKey.unsealed.Goals as goal

same_key : (key : Key) (etype : Etype) (bytes : List ℕ) → key.etype ≡ etype → bytes ≡ key.bytes
    → ◌≡◌ {A = Key} (record { etype = etype; bytes = bytes }) key
same_key key etype bytes e b =
    ap (λ (t : Etype). record { etype = t; bytes = bytes }) (sym e)
    ∙ ap (λ (bs : List ℕ). record { etype = key.etype; bytes = bs }) b

pub returns-else-len-key_len-clause-only : goal.returns-else-len-key_len-clause-only
returns-else-len-key_len-clause-only c key e l s =
    let plain = c.in-Ok.ensures.after_seal key.bytes (rw (c.self.invariant, c.self.view_is) s) in
    c.from_bytes.ensures ∙ same_key key c.args.etype c.as_slice.result.now e (c.as_slice.ensures ∙ plain)

pub returns-in-Err-clause-only : goal.returns-in-Err-clause-only
returns-in-Err-clause-only c key e l s =
    c.from.ensures ∙ ap unopened_by (c.in-Err.ensures.after_seal key.bytes (rw (c.self.invariant, c.self.view_is) s))
