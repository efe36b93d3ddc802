use Rattle.std.proofs.Common.{arith, ap, get_or, length, length-set, sym, ◌∙◌, ◌+◌, ◌<◌, ℕ, ◌^◌}
use Rattle.std.specs.Prelude.{nat_eq, if◌then◌else◌}
use Rattle.kdb_base.specs.declared.versions.Master.{Master}
use Rattle.mkey_admin.proofs.Counts.{all_noted, one_noted, small_at, still_left}
use Rattle.mkey_admin.proofs.counting.note.Goals as goal

pub counted-requires : goal.counted-requires
counted-requires c =
    small_at c.loop-at.counts c.args.counts.now c.loop-at.at
    (2 ^ 31) (omega (arith, c.loop-at.invariant.long, c.requires.length, c.loop-at-test.true))
    (omega (arith, c.requires.length, c.loop-at-test.true)) c.loop-at.invariant.left c.requires.few

pub loop-at-preserved : goal.loop-at-preserved
loop-at-preserved c =
    let in_counts : c.loop-at.at < length c.loop-at.counts =
    omega (arith, c.loop-at.invariant.long, c.requires.length, c.loop-at-test.true) in
    let in_old : c.loop-at.at < length c.args.counts.now = omega (arith, c.requires.length, c.loop-at-test.true) in
    record {
      long = length-set {A = ℕ} c.loop-at.counts c.loop-at.at c.counted.result ∙ c.loop-at.invariant.long;
      left = still_left c.loop-at.counts c.args.counts.now c.loop-at.at c.counted.result in_counts in_old
          c.loop-at.invariant.left;
      whole = one_noted c.args.version c.args.masters.now c.loop-at.counts _ c.loop-at.at c.counted.result
          c.index-masters-at.result in_counts c.loop-at-test.true c.index-masters-at.is
          (c.counted.ensures
          ∙ ap (λ (m : Master). if nat_eq c.args.version m.version then get_or c.loop-at.counts c.loop-at.at 0 + 1
          else get_or c.loop-at.counts c.loop-at.at 0) (sym c.index-masters-at.is)) c.loop-at.invariant.whole;
    }

pub returns : goal.returns
returns c =
    all_noted c.args.version c.args.masters.now c.loop-at.counts _ c.loop-at.at
    (omega (arith, c.loop-at.invariant.long, c.requires.length, c.loop-at-test.false)) c.loop-at-test.false
    c.loop-at.invariant.whole
