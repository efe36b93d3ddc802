use Rattle.std.proofs.Common.{ℕ, ◌<◌, ◌^◌, [], ◌++◌, refl, ◌∙◌, ap, subst, arith, rules}
use Rattle.kdb_format.specs.Spellings.{big, zeros}
use Rattle.kdb_format.specs.Moments.{point, time}
use Rattle.kdb_format.specs.Numbers.{length-big}
use Rattle.kdb_control.specs.Choice.{Choice}
use Rattle.kdb_control.specs.Bodies.{magic, body, IsBody}
use Rattle.kdb_control.proofs.Bytes.{IsSoFar, next, in_order}
use Rattle.kdb_control.proofs.Choices.{has_body}
use Rattle.kdb_control.proofs.body.write_body.Goals as goal

pub returns-clause-bytes : goal.returns-clause-bytes
unfolding magic zeros body point time
returns-clause-bytes c =
    let x = c.control.inside in
    let none : IsSoFar 0 [] (zeros 63) = record { len = refl; is = refl } in
    let s0 = next 4 magic c.put_bytes.new.out none c.put_bytes.ensures refl (omega arith) in
    let sf = next 2 (big 2 x.format) c.put_u16.new.out s0 c.put_u16.ensures (length-big 2 x.format) (omega arith) in
    let s1 = next 1 (big 1 x.turn) c.put_u8.new.out sf c.put_u8.ensures (length-big 1 x.turn) (omega arith) in
    let s2 = next 1 (big 1 x.image) c.put_u8-2.new.out s1 c.put_u8-2.ensures (length-big 1 x.image) (omega arith) in
    let s3 = next 1 (big 1 x.log) c.put_u8-3.new.out s2 c.put_u8-3.ensures (length-big 1 x.log) (omega arith) in
    let s4 = next 1 (big 1 x.stash) c.put_u8-4.new.out s3 c.put_u8-4.ensures (length-big 1 x.stash) (omega arith) in
    let s5 = next 4 (big 4 x.size) c.put_u32.new.out s4 c.put_u32.ensures (length-big 4 x.size) (omega arith) in
    let s6 = next 4 (big 4 x.block) c.put_u32-2.new.out s5 c.put_u32-2.ensures (length-big 4 x.block) (omega arith) in
    let s7 =
    next 4 (big 4 x.base.sno) c.put_u32-3.new.out s6 c.put_u32-3.ensures (length-big 4 x.base.sno) (omega arith) in
    let s8 = next 4 (big 4 c.secs.result) c.put_u32-4.new.out s7 c.put_u32-4.ensures (length-big 4 c.secs.result)
    (omega arith) in
    let s9 = next 4 (big 4 c.usecs.result) c.put_u32-5.new.out s8 c.put_u32-5.ensures (length-big 4 c.usecs.result)
    (omega arith) in
    s9.is
    ∙ in_order magic (big 2 x.format) (big 1 x.turn) (big 1 x.image) (big 1 x.log) (big 1 x.stash) (big 4 x.size)
    (big 4 x.block) (big 4 x.base.sno) (big 4 c.secs.result) (big 4 c.usecs.result) (zeros 33)
    ∙ ap (λ (n : ℕ). magic ++ (big 2 x.format ++ (big 1 x.turn ++ (big 1 x.image ++ (big 1 x.log ++ (big 1 x.stash
    ++ (big 4 x.size ++ (big 4 x.block ++ ((big 4 x.base.sno ++ (big 4 n ++ big 4 c.usecs.result)) ++ zeros 33)))))))))
    c.secs.ensures
    ∙ ap (λ (n : ℕ). magic ++ (big 2 x.format
    ++ (big 1 x.turn ++ (big 1 x.image ++ (big 1 x.log ++ (big 1 x.stash ++ (big 4 x.size ++ (big 4 x.block
    ++ ((big 4 x.base.sno ++ (big 4 x.base.time.secs ++ big 4 n)) ++ zeros 33))))))))) c.usecs.ensures.value
    ∙ ap body c.control.view_is

pub returns-clause-fits : goal.returns-clause-fits
returns-clause-fits c =
    let x = c.control.inside in
    let y : Choice = record {
      format = x.format;
      turn = x.turn;
      image = x.image;
      log = x.log;
      stash = x.stash;
      size = x.size;
      block = x.block;
      base = x.base;
    } in
    let sno : x.base.sno < 2 ^ 32 = search rules in
    let secs : x.base.time.secs < 2 ^ 32 = search rules in
    let usecs : x.base.time.usecs < 1000000 = search rules in
    subst IsBody c.control.view_is
    (has_body y c.control.invariant (record { sno = sno; time = record { secs = secs; usecs = usecs } }))
