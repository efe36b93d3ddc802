use Rattle.std.proofs.Common.{◌≡◌, ℕ, ap, ◌∙◌}
use Rattle.kdb_base.specs.Key.{Key}
use Rattle.kdb_base.specs.declared.versions.Master.{Master}
use Rattle.master_keys.proofs.Chains.{same_blob}
use Rattle.master_keys.proofs.opening.open_master.Goals as goal

same_master : (master : Master) (version : ℕ) (key : Key) → version ≡ master.version → key ≡ master.key
    → ◌≡◌ {A = Master} (record { version = version; key = key }) master
same_master master version key v k =
    ap (λ (n : ℕ). record { version = n; key = key }) v
    ∙ ap (λ (x : Key). record { version = master.version; key = x }) k

pub returns-in-Ok-clause-only : goal.returns-in-Ok-clause-only
returns-in-Ok-clause-only c master h =
    same_master master c.args.item.now.kvno c.in-Ok.key h.version
    (c.in-Ok.ensures.only master.key (same_blob _ _ c.as_slice.ensures h.unwraps))

pub returns-in-Err-clause-only : goal.returns-in-Err-clause-only
returns-in-Err-clause-only c master h = c.in-Err.ensures.only master.key (same_blob _ _ c.as_slice.ensures h.unwraps)
