use Rattle.std.proofs.Common.{◌≡◌, ℕ, ◌<◌, ◌∙◌, ap, ◌*◌, length, take, length-take-le, get_or-take, arith}
use Rattle.krb_profile.specs.NFold.{copied_bit, number_of}
use Rattle.krb_profile.proofs.Numbers.{number-bits}
use Rattle.krb_profile.proofs.folding.piece_at.Goals as goal

pub returns : goal.returns
returns c =
    let len = c.args.len in
    let piece = c.loop-i.piece in
    let long : length (take len piece) ≡ len = length-take-le len piece (omega arith) in
    number-bits (copied_bit c.args.text.now) (take len piece) c.args.start (λ k below.
    let inside : k < len = omega (arith, below, long) in
    get_or-take len piece k 0 inside ∙ c.loop-i.invariant.1 k (omega arith))
    ∙ ap (λ (n : ℕ). number_of (copied_bit c.args.text.now) (8 * c.args.start) (8 * n)) long
