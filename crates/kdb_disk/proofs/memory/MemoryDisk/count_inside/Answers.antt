use Rattle.std.proofs.Common.{◌≡◌, ◌+◌, ◌-◌, ◌<◌, ◌∙◌, ◌∷◌, ℕ, List, length, drop, get_or, ap, sym, arith, rules}
use Rattle.std.proofs.lemmas.List.{drop_more}
use Rattle.kdb_disk.specs.declared.record.Call.{Call}
use Rattle.kdb_disk.specs.Inside.{unsynced, calls_inside}
use Rattle.kdb_disk.proofs.Picks.{unsynced_here, unsynced_other}
use Rattle.kdb_disk.proofs.memory.MemoryDisk.count_inside.Goals as goal

-- the call, and those before it
one : (calls : List Call) (k at : ℕ) (call : Call) → k < length calls → at ≡ length calls - 1 - k
    → call ≡ get_or calls at call → drop (length calls - (k + 1)) calls ≡ call ∷ drop (length calls - k) calls
one calls k at call lt is here =
    ap (λ (n : ℕ). drop n calls) (omega arith)
    ∙ drop_more calls at call (omega arith)
    ∙ ap (λ (x : Call). x ∷ drop (at + 1) calls) (sym here)
    ∙ ap (λ (n : ℕ). call ∷ drop n calls) (omega arith)

pub returns-in-Synced-clause-calls : goal.returns-in-Synced-clause-calls
unfolding calls_inside
returns-in-Synced-clause-calls c =
    let calls = c.args.self.now.calls.items in
    let at = c.len.result - 1 - c.args.call in
    let long : c.len.result ≡ length calls = search rules in
    let here = one calls c.args.call at c.index.result.now c.requires (omega arith) c.index.ensures in
    sym (ap unsynced here
    ∙ unsynced_here c.index.result.now c.in-Synced.file (drop (length calls - c.args.call) calls) c.in-Synced.is)

pub returns-in_default : goal.returns-in_default
unfolding calls_inside
returns-in_default c =
    let calls = c.args.self.now.calls.items in
    let at = c.len.result - 1 - c.args.call in
    let long : c.len.result ≡ length calls = search rules in
    let here = one calls c.args.call at c.index.result.now c.requires (omega arith) c.index.ensures in
    let same = unsynced_other c.index.result.now (drop (length calls - c.args.call) calls) c.in_default.not-Synced in
    record { count = omega (arith, c.requires); at_least = omega arith; calls = here ∙ sym (ap unsynced here ∙ same) }
