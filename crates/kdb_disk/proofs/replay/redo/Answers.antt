use Rattle.std.proofs.Common.{◌≡◌, ◌+◌, ◌-◌, ◌∙◌, ◌∷◌, ℕ, List, [], length, drop, get_or, ap, sym, arith, rules}
use Rattle.std.proofs.lemmas.List.{drop_all, drop_more}
use Rattle.kdb_disk.specs.declared.record.Call.{Call}
use Rattle.kdb_disk.specs.Memory.{settled_at, file_after}
use Rattle.kdb_disk.proofs.replay.redo.Goals as goal

pub loop-done-init : goal.loop-done-init
unfolding file_after
loop-done-init c starts is =
    let calls = c.args.calls.now.items in
    let none : drop (length calls - 0) calls ≡ [] = drop_all (length calls - 0) calls (omega arith) in
    c.in_ok-replay.ensures ∙ ap settled_at (sym is)
    ∙ ap (λ (past : List Call). file_after starts past c.args.file) (sym none)

pub loop-done-preserved : goal.loop-done-preserved
loop-done-preserved c starts is =
    let calls = c.args.calls.now.items in
    let done = c.loop-done.done in
    let at = c.len.result - 1 - done in
    let long : c.len.result ≡ length calls = search rules in
    let here : c.index.result.now ≡ get_or calls at c.index.result.now = c.index.ensures in
    let one : at + 1 ≡ length calls - done = omega arith in
    let more : drop (length calls - (done + 1)) calls ≡ c.index.result.now ∷ drop (length calls - done) calls =
    ap (λ (n : ℕ). drop n calls) (omega arith)
    ∙ drop_more calls at c.index.result.now (omega arith)
    ∙ ap (λ (call : Call). call ∷ drop (at + 1) calls) (sym here)
    ∙ ap (λ (n : ℕ). c.index.result.now ∷ drop n calls) one in
    c.in_ok-step.ensures starts (drop (length calls - done) calls) (c.loop-done.invariant starts is)
    ∙ ap (λ (past : List Call). file_after starts past c.args.file) (sym more)
