use Rattle.std.proofs.Common.{ℕ, ◌<◌, length, Option, Some, ap, ◌∙◌, arith}
use Rattle.kdb_base.specs.declared.versions.Master.{Master}
use Rattle.stash_opening.proofs.Listed.{found_here, found_nowhere, passed_over}
use Rattle.stash_opening.proofs.finding.first_listed.Goals as goal

pub returns-in-Some : goal.returns-in-Some
returns-in-Some c =
    let lt : c.loop-key.key-index < length c.args.keys.now = omega arith in
    let same = c.version_of.ensures.same c.in-Some.version c.in-Some.is in
    let made : ℕ → Option Master = λ (n : ℕ). Some (record { version = n; key = c.key-item.result.key }) in
    ap made same
    ∙ found_here c.args.items.now c.args.keys.now c.loop-key.key-index c.key-item.result lt c.key-item.is
    (c.version_of.ensures.some c.in-Some.version c.in-Some.is) c.loop-key.invariant

pub loop-key-preserved : goal.loop-key-preserved
loop-key-preserved c =
    let lt : c.loop-key.key-index < length c.args.keys.now = omega arith in
    passed_over c.args.items.now c.args.keys.now c.loop-key.key-index c.key-item.result lt c.key-item.is
    (c.version_of.ensures.none c.in-None.is)
    c.loop-key.invariant

pub returns : goal.returns
returns c = found_nowhere c.args.items.now c.args.keys.now c.loop-key.key-index (omega arith) c.loop-key.invariant
