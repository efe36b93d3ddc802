use Rattle.std.proofs.Common.{◌-◌, ◌∙◌, ap, length, List, ℕ}
use Rattle.aes_cts.specs.Cipher.{add_bytes, cipher_by}
use Rattle.aes_cts.specs.Words.{block_of, schedule_bytes}
use Rattle.aes_cts.proofs.Expansion.{length-block_of}
use Rattle.aes_cts.proofs.Passes.{steal_end_whole, steal_end_short}
use Rattle.aes_cts.proofs.stealing.encrypt_end.Goals as goal

pub returns-then-end-eq16 : goal.returns-then-end-eq16
returns-then-end-eq16 g c =
    let e = cipher_by (schedule_bytes c.args.keys.now) (g.row.N - 1) in
    steal_end_whole e (block_of c.args.vector) c.args.end.now _ c.if-end-eq16.true
    (c.store.ensures ∙ c.encrypt-held.ensures
    ∙ ap e (c.add_key.ensures ∙ ap (λ (l : List ℕ). add_bytes l (block_of c.args.vector)) c.load.ensures))

pub returns : goal.returns
returns g c =
    let e = cipher_by (schedule_bytes c.args.keys.now) (g.row.N - 1) in
    steal_end_short e (block_of c.args.vector) c.args.end.now (block_of c.encrypt-held.result)
    (block_of c.load_padded.result) c.store-2.new.block c.store_front.new.tail
    c.if-end-eq16.false c.requires.low
    (c.encrypt-held.ensures
    ∙ ap e (c.add_key.ensures ∙ ap (λ (l : List ℕ). add_bytes l (block_of c.args.vector)) c.load.ensures))
    c.load_padded.ensures
    (c.store-2.ensures ∙ c.encrypt-last.ensures ∙ ap e c.add_key-2.ensures)
    (ap length c.store-2.ensures ∙ length-block_of c.encrypt-last.result)
    c.store_front.ensures
