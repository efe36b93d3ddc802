use Rattle.std.proofs.Common.{◌≡◌, ◌++◌, length, arith}
use Rattle.std.proofs.lemmas.List.{length-append}
use Rattle.kdb_base.specs.Moment.{Moment}
use Rattle.kdb_base.specs.declared.moments.Point.{Point}
use Rattle.kdb_format.specs.Lengths.{length-counted}
use Rattle.kdb_format.specs.Moments.{time, point}
use Rattle.kdb_format.specs.Numbers.{length-big}
use Rattle.kdb_format.specs.Spellings.{big, counted}
use Rattle.princ_rows.specs.Entries.{logged, op_text, kind_of, key_of, row_of}
use Rattle.princ_rows.proofs.entry_laws.entries_have_their_lengths.Goals as goal

length-time : (m : Moment) → length (time m) ≡ 8
unfolding time
length-time m = omega (arith, length-append (big 4 m.secs) (big 4 m.usecs), length-big 4 m.secs, length-big 4 m.usecs)

length-point : (p : Point) → length (point p) ≡ 12
unfolding point
length-point p = omega (arith, length-append (big 4 p.sno) (time p.time), length-big 4 p.sno, length-time p.time)

pub returns : goal.returns
unfolding logged op_text
returns c = λ l.
    let e = l.entry in
    let text = counted (key_of e.op) ++ counted (row_of e.op) in
    omega (
      arith,
      length-append (point e.point) (big 1 (kind_of e.op) ++ (big 4 l.cell ++ text)),
      length-append (big 1 (kind_of e.op)) (big 4 l.cell ++ text),
      length-append (big 4 l.cell) text,
      length-append (counted (key_of e.op)) (counted (row_of e.op)),
      length-point e.point,
      length-big 1 (kind_of e.op),
      length-big 4 l.cell,
      length-counted (key_of e.op),
      length-counted (row_of e.op),
    )
