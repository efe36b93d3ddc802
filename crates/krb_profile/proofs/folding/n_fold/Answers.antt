use Rattle.std.proofs.Common.{rules, ◌≡◌, ◌<◌, ◌≤◌, ℕ, ◌∙◌, ap, length, take, ◌+◌, ◌*◌, ◌^◌, get_or, replicate, arith}
use Rattle.std.proofs.lemmas.List.{take-replicate}
use Rattle.krb_profile.specs.Bytes.{number}
use Rattle.krb_profile.specs.NFold.{residue, sum_of_pieces}
use Rattle.krb_profile.proofs.Numbers.{number-zeros}
use Rattle.krb_profile.proofs.Pieces.{one_more_piece, last_carry}
use Rattle.krb_profile.proofs.folding.n_fold.Goals as goal

pub loop-i-init : goal.loop-i-init
unfolding residue sum_of_pieces
loop-i-init c =
    let zeros = c.fill.ensures.after (λ y h. h) in
    let none : number c.fill.new.self ≡ 0 = ap number zeros ∙ number-zeros (length c.args.into.now) in
    (omega (arith, none), omega arith)

pub loop-i-preserved : goal.loop-i-preserved
loop-i-preserved c =
    let n = length c.args.into.now in
    let same : length c.loop-i.into ≡ n = c.loop-i.auto.into ∙ c.fill.ensures.len in
    let total = rw same at c.add-carry.ensures.total in
    let small : c.add-carry.result ≤ 1 = c.add-carry.ensures.carried in
    let bytes : (k : ℕ) → get_or c.add-carry.new.sum k 0 < 256 = search rules in (
      one_more_piece c.args.text.now c.loop-i.into c.add-carry.new.sum
          (take n c.piece_at-piece.result) n c.loop-i.i c.loop-i.carry c.add-carry.result
          c.requires.into_given (c.add-carry.auto.sum ∙ same) bytes c.piece_at-piece.ensures small
          c.loop-i.invariant.0 total,
      small,
    )

pub returns : goal.returns
returns c =
    let n = length c.args.into.now in
    let same : length c.loop-i.into ≡ n = c.loop-i.auto.into ∙ c.fill.ensures.len in
    let zeros : number (take n (replicate 64 0)) ≡ 0 =
    ap number (take-replicate n 64 0 c.requires.into_short) ∙ number-zeros n in
    let added : number c.add.new.sum + 2 ^ (8 * length c.loop-i.into) * c.add.result
    ≡ number c.loop-i.into + number (take n (replicate 64 0)) + c.loop-i.carry = c.add.ensures.total in
    let total = rw (same, zeros) at added in
    let all : c.loop-i.i ≡ c.piece_count-i-end.result = omega arith in
    let bytes : (k : ℕ) → get_or c.add.new.sum k 0 < 256 = search rules in
    last_carry c.args.text.now c.loop-i.into c.add.new.sum n c.loop-i.i c.loop-i.carry c.add.result
    c.requires.into_given (c.add.auto.sum ∙ same) bytes (all ∙ c.piece_count-i-end.ensures.count) c.add.ensures.carried
    c.loop-i.invariant.0 total
