-- What stands in a frame is not too long for it.
use Rattle.std.proofs.Common.{◌≡◌, ◌≤◌, ◌++◌, length, arith}
use Rattle.std.proofs.lemmas.List.{length-append}
use Rattle.kdb_base.specs.Moment.{Moment}
use Rattle.kdb_base.specs.declared.moments.Point.{Point}
use Rattle.kdb_format.specs.Lengths.{length-counted}
use Rattle.kdb_format.specs.Moments.{time, point}
use Rattle.kdb_format.specs.Numbers.{length-big}
use Rattle.kdb_format.specs.Spellings.{big, counted}
use Rattle.princ_rows.specs.Entries.{op_text, sent, kind_of, key_of, row_of, IsSent}
use Rattle.princ_rows.specs.EntryLaws.{key_short, row_short}
use Rattle.princ_rows.specs.Replies.{number_of}
use Rattle.princ_rows.specs.declared.entries.Entry.{Entry}
use Rattle.iprop_wire.specs.Frames.{most_behind}
use Rattle.iprop_wire.specs.Messages.{head_text}
use Rattle.iprop_wire.specs.declared.formats.Head.{Head}

length-time : (m : Moment) → length (time m) ≡ 8
unfolding time
length-time m = omega (arith, length-append (big 4 m.secs) (big 4 m.usecs), length-big 4 m.secs, length-big 4 m.usecs)

pub length-point : (p : Point) → length (point p) ≡ 12
unfolding point
length-point p = omega (arith, length-append (big 4 p.sno) (time p.time), length-big 4 p.sno, length-time p.time)

pub length-head : (h : Head) → length (head_text h) ≡ 17
unfolding head_text
length-head h = omega (
  arith,
  length-append (big 1 (number_of h.code)) (point h.asked ++ big 4 h.count),
  length-append (point h.asked) (big 4 h.count),
  length-big 1 (number_of h.code),
  length-point h.asked,
  length-big 4 h.count,
)

pub point_short : (p : Point) → length (point p) ≤ most_behind
point_short p = let e = length-point p in omega arith

pub head_short : (h : Head) → length (head_text h) ≤ most_behind
head_short h = let e = length-head h in omega arith

pub sent_short : (e : Entry) → IsSent e → length (sent e) ≤ most_behind
unfolding sent op_text
sent_short e is =
    let text = counted (key_of e.op) ++ counted (row_of e.op) in
    let key = key_short e.op is.op in
    let row = row_short e.op is.op in
    omega (
      arith,
      length-append (point e.point) (big 1 (kind_of e.op) ++ text),
      length-append (big 1 (kind_of e.op)) text,
      length-append (counted (key_of e.op)) (counted (row_of e.op)),
      length-point e.point,
      length-big 1 (kind_of e.op),
      length-counted (key_of e.op),
      length-counted (row_of e.op),
    )
