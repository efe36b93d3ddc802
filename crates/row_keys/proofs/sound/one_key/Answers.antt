use Rattle.std.proofs.Common.{◌∙◌, Some, Err, ap, sym}
use Rattle.row_keys.proofs.Judgements.{one_opens}
use Rattle.row_keys.proofs.sound.one_key.Goals as goal

pub returns-in-Ok-clause-only : goal.returns-in-Ok-clause-only
returns-in-Ok-clause-only c key h =
    ap Some (c.in-Ok.ensures.only key
    (one_opens c.args.ring.now c.args.princ.now key c.as_slice.result.now c.item-item.result c.in-Some.master.now
    c.as_slice-2.result.now c.as_slice.ensures c.item-item.is (sym c.in-Some.ensures) c.as_slice-2.ensures h))

pub returns-in-Err-Wrong-clause-only : goal.returns-in-Err-Wrong-clause-only
returns-in-Err-Wrong-clause-only c key h =
    absurd (c.unwrap.ensures.wrong (c.in-Err-Wrong.is ∙ ap Err c.in-Err-Wrong.field-0-is) key
    (one_opens c.args.ring.now c.args.princ.now key c.as_slice.result.now c.item-item.result c.in-Some.master.now
    c.as_slice-2.result.now c.as_slice.ensures c.item-item.is (sym c.in-Some.ensures) c.as_slice-2.ensures h))
