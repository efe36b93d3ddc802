use Rattle.std.proofs.Common.{◌++◌, ◌∙◌, ap, sym, append_assoc}
use Rattle.krb_hmac.specs.Hmac.{hmac_by}
use Rattle.krb_hmac.proofs.DerivedKey.{next_round, last_round}
use Rattle.krb_hmac.proofs.rounds.block_at.Goals as goal

pub loop-preserved : goal.loop-preserved
loop-preserved g c = λ password keyed.
    let mac = hmac_by g.H.BlockHash.hash g.H.BlockHash.block password in
    next_round mac c.loop.last _ c.loop.sum _ _ c.args.count c.loop.counter c.loop-test.true
    (c.tag-last-in-loop.ensures password keyed) c.xor_into.ensures (c.loop.invariant password keyed)

pub returns : goal.returns
returns g c = λ password keyed.
    let mac = hmac_by g.H.BlockHash.hash g.H.BlockHash.block password in
    let first = c.tag-last.ensures password keyed
    ∙ ap mac (sym (append_assoc c.args.prefix.now c.args.salt.now c.to_be_bytes.result)) in
    last_round mac (c.args.prefix.now ++ c.args.salt.now) c.tag-last.result _ c.loop.last c.args.number c.args.count
    c.loop.counter c.requires c.loop-test.false
    (rw c.to_be_bytes.ensures at first) (c.loop.invariant password keyed)
