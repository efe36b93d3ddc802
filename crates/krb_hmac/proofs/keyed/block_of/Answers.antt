use Rattle.std.proofs.Common.{◌≡◌, [], true, false, nat_lt, length}
use Rattle.std.proofs.lemmas.Bool.{lt-ltb, le-ltb}
use Rattle.krb_hmac.proofs.KeyBlocks.{long_key, whole_key}
use Rattle.krb_hmac.proofs.keyed.block_of.Goals as goal

pub returns-then-key-block_len : goal.returns-then-key-block_len
returns-then-key-block_len g c =
    let hash = g.H.BlockHash.hash in
    let digest : c.end.result ≡ hash c.args.key.now =
    c.end.ensures c.args.key.now (c.add.ensures [] c.begin-hash.ensures) in
    let long : nat_lt g.H.BlockHash.block (length c.args.key.now) ≡ true =
    lt-ltb _ _ (rw c.block_len.ensures.exact at c.if-key-block_len.true) in
    rw (long_key hash g.H.BlockHash.block c.args.key.now long, ← digest, ← c.block_len-then-key-block_len.ensures.exact)
    c.zero_padded.ensures

pub returns-else-key-block_len : goal.returns-else-key-block_len
returns-else-key-block_len g c =
    let short : nat_lt g.H.BlockHash.block (length c.args.key.now) ≡ false =
    le-ltb _ _ (rw c.block_len.ensures.exact at c.if-key-block_len.false) in
    rw (
      whole_key g.H.BlockHash.hash g.H.BlockHash.block c.args.key.now short,
      ← c.block_len-else-key-block_len.ensures.exact,
    ) c.zero_padded-else-key-block_len.ensures
