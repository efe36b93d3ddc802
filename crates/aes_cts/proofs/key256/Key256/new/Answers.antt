use Rattle.std.proofs.Common.{List, ℕ, ◌++◌, take, drop, arith, ap, ap₂, ◌∙◌}
use Rattle.std.proofs.lemmas.List.{append-nil, take-append-drop, take_all, length-drop}
use Rattle.aes_cts.specs.Words.{block_of, schedule_bytes}
use Rattle.aes_cts.proofs.key256.Key256.new.Goals as goal

pub returns : goal.returns
unfolding schedule_bytes
returns c =
    ap schedule_bytes c.expand.ensures.key
    ∙ ap (λ (l : List ℕ). block_of c.load.result ++ l) (append-nil (block_of c.load-2.result))
    ∙ ap₂ (λ (x y : List ℕ). x ++ y) c.load.ensures c.load-2.ensures
    ∙ ap (λ (l : List ℕ). take 16 c.args.bytes.now ++ l)
    (take_all 16 (drop 16 c.args.bytes.now) (omega (arith, length-drop 16 c.args.bytes.now)))
    ∙ take-append-drop 16 c.args.bytes.now
