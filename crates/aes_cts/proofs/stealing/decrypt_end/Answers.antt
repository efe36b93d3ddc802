use Rattle.std.proofs.Common.{◌-◌, ◌∙◌, ap, length, List, ℕ}
use Rattle.aes_cts.specs.Cipher.{add_bytes}
use Rattle.aes_cts.specs.Inverse.{uncipher_by}
use Rattle.aes_cts.specs.Words.{block_of, schedule_bytes}
use Rattle.aes_cts.proofs.Expansion.{length-block_of}
use Rattle.aes_cts.proofs.Passes.{return_end_whole, return_end_short}
use Rattle.aes_cts.proofs.stealing.decrypt_end.Goals as goal

pub returns-then-end-eq16 : goal.returns-then-end-eq16
returns-then-end-eq16 g c =
    let d = uncipher_by (schedule_bytes c.args.keys.now) (g.row.N - 1) in
    return_end_whole d (block_of c.args.vector) c.args.end.now _ c.if-end-eq16.true
    (c.store.ensures ∙ c.add_key.ensures
    ∙ ap (λ (l : List ℕ). add_bytes l (block_of c.args.vector)) (c.decrypt-opened.ensures ∙ ap d c.load.ensures))

pub returns : goal.returns
returns g c =
    let d = uncipher_by (schedule_bytes c.args.keys.now) (g.row.N - 1) in
    return_end_short d (block_of c.args.vector) c.args.end.now (block_of c.decrypt-opened.result)
    (block_of c.load_completed-held.result) c.store-2.new.block
    (block_of c.add_key-3.result) c.store_front.new.tail
    c.if-end-eq16.false c.requires.low
    (c.decrypt-opened.ensures ∙ ap d c.load.ensures)
    c.load_completed-held.ensures
    (c.store-2.ensures ∙ c.add_key-2.ensures
    ∙ ap (λ (l : List ℕ). add_bytes l (block_of c.args.vector)) c.decrypt.ensures)
    (ap length c.store-2.ensures ∙ length-block_of c.add_key-2.result)
    c.add_key-3.ensures
    c.store_front.ensures
