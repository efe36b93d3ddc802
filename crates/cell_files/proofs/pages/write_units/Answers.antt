use Rattle.std.proofs.Common.{◌≡◌, ◌≤◌, ◌+◌, ◌-◌, ℕ, List, length, take, drop, refl, ap, sym, ◌∙◌, arith}
use Rattle.std.proofs.lemmas.Bool.Decides.{nat_tests}
use Rattle.kdb_disk.specs.Files.{written}
use Rattle.kdb_disk.proofs.Puts.{written_nothing}
use Rattle.kdb_disk.proofs.Runs.{started}
use Rattle.kdb_disk.proofs.Differing.{started_differs, wrote_more}
use Rattle.cell_files.specs.Building.{text_units}
use Rattle.cell_files.proofs.Units.{no_units, piece_more, piece_place, all_pieces}
use Rattle.cell_files.proofs.pages.write_units.Goals as goal

pub loop-at-init : goal.loop-at-init
loop-at-init g c =
    let v = g.D.Disk.view c.args.disk.now in
    record {
      moments = λ tells. started v _ (started_differs c.args.file v);
      seen = λ tells. sym (ap (λ (b : List ℕ). written c.args.file c.args.from b v.seen) (no_units c.args.unit)
          ∙ written_nothing c.args.file c.args.from v.seen);
      within = omega arith;
      long = refl;
      same = refl;
      faults = omega arith;
    }

pub write_at-requires-clause-at : goal.write_at-requires-clause-at
write_at-requires-clause-at g c tells =
    piece_place c.args.file c.args.from c.args.unit c.loop-at.at c.args.texts.now (g.D.Disk.view c.args.disk.now).seen
    (g.D.Disk.view c.loop-at.disk).seen (c.requires.begun tells) c.loop-at.invariant.within c.requires.fits
    (c.loop-at.invariant.seen tells)

pub returns-in_err-write_at-clause-moments : goal.returns-in_err-write_at-clause-moments
returns-in_err-write_at-clause-moments g c tells =
    wrote_more (c.loop-at.invariant.moments tells) (c.write_at.ensures.crash tells) (c.write_at.ensures.time tells)

pub loop-at-preserved : goal.loop-at-preserved
loop-at-preserved g c =
    let before = c.loop-at.invariant in
    let texts = c.args.texts.now in
    let at = c.loop-at.at in
    let n = c.min-count.result in
    let unit = c.args.unit in
    let few : n ≤ length texts - at = grind (arith, nat_tests) in
    let piece = take (at + n - at) (drop at texts) in
    let same : piece ≡ take n (drop at texts) = ap (λ (k : ℕ). take k (drop at texts)) (omega arith) in
    let bytes : take c.fill_page-len.result c.fill_page-len.new.page ≡ text_units unit piece =
    ap (λ (k : ℕ). take k c.fill_page-len.new.page) c.fill_page-len.ensures.value ∙ c.fill_page-len.ensures.units in
    record {
      moments =
          λ tells. wrote_more (before.moments tells) (c.write_at.ensures.crash tells) (c.write_at.ensures.time tells);
      seen = λ tells. piece_more c.args.file c.args.from unit at n texts piece _ (g.D.Disk.view c.args.disk.now).seen
          (g.D.Disk.view c.loop-at.disk).seen _ (c.requires.begun tells) before.within c.requires.fits same bytes
          (before.seen tells)
          (c.in_ok-write_at.ensures.seen tells);
      within = omega (arith, few, before.within);
      long = c.fill_page-len.ensures.long ∙ before.long;
      same = cc (before.same, c.write_at.ensures.same);
      faults = omega (arith, before.faults, c.write_at.ensures.cause.later);
    }

pub returns-clause-seen : goal.returns-clause-seen
returns-clause-seen g c tells =
    all_pieces c.args.file c.args.from c.args.unit c.loop-at.at c.args.texts.now (g.D.Disk.view c.args.disk.now).seen
    (g.D.Disk.view c.loop-at.disk).seen (omega arith) (c.loop-at.invariant.seen tells)
