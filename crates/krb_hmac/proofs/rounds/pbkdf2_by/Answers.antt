use Rattle.std.proofs.Common.{◌≡◌, ◌+◌, ◌*◌, ◌++◌, ◌∙◌, arith, refl, length}
use Rattle.krb_hmac.specs.Hmac.{hmac_by}
use Rattle.krb_hmac.proofs.DerivedKey.{no_block, next_piece, all_pieces}
use Rattle.krb_hmac.proofs.rounds.pbkdf2_by.Goals as goal

pub loop-start-init : goal.loop-start-init
loop-start-init g c = (
  refl,
  omega arith,
  omega arith,
  omega (arith, c.block_len-block.ensures.some),
  λ password keyed. no_block (hmac_by g.H.BlockHash.hash g.H.BlockHash.block password)
      (c.args.prefix.now ++ c.args.salt.now) c.args.into.now c.args.count (length c.args.into.now),
)

pub loop-start-preserved : goal.loop-start-preserved
loop-start-preserved g c =
    let l = c.loop-start in
    let inv = l.invariant in
    let size = g.row.N in
    let mac = hmac_by g.H.BlockHash.hash g.H.BlockHash.block in
    let some = c.block_len-block.ensures.some in
    let long : length c.put_behind.new.text ≡ length l.into = c.put_behind.auto.text in
    let piece : length c.block_at-block.result ≡ size = omega arith in
    let next : (l.number + 1) * size ≡ l.number * size + size = grind arith in (
      long ∙ inv.0,
      omega (arith, inv.1, some),
      omega (arith, inv.2, next),
      omega (arith, c.loop-start-test.true, long),
      λ password keyed.
          next_piece (mac password) (c.args.prefix.now ++ c.args.salt.now) l.into c.put_behind.new.text
          c.block_at-block.result c.args.count l.number l.start size (length l.into)
          c.loop-start-test.true refl piece inv.2 (c.block_at-block.ensures password keyed) (inv.4 password keyed)
          (rw piece at c.put_behind.ensures) long,
    )

pub returns : goal.returns
returns g c = λ password keyed.
    let l = c.loop-start in
    let inv = l.invariant in
    all_pieces (hmac_by g.H.BlockHash.hash g.H.BlockHash.block) password
    (c.args.prefix.now ++ c.args.salt.now) l.into c.args.count l.number g.row.N
    (length c.args.into.now) l.start c.block_len-block.ensures.some inv.0 inv.2
    (omega (arith, inv.0, c.loop-start-test.false)) (omega (arith, inv.0, inv.3))
    (rw inv.0 at (inv.4 password keyed))
