use Rattle.std.proofs.Common.{◌≡◌, ℕ, ◌+◌, ◌^◌, ◌<◌, List, [], ◌∷◌, length, take, get_or, sym, ap, subst, ◌∙◌, arith}
use Rattle.std.specs.List.{sum_by}
use Rattle.std.proofs.lemmas.List.{take_more, take_all}
use Rattle.std.proofs.lemmas.List.Sums.{sum_by-append}
use Rattle.std.proofs.lemmas.List.Elements.{All-get_or}
use Rattle.tagged_data.specs.Items.{item, IsItem, length-item}
use Rattle.tagged_data.specs.Lists.{IsTagged, few, length-tagged}
use Rattle.tagged_data.specs.declared.items.TagItem.{TagItem}
use Rattle.tagged_data.proofs.lists.tagged_len.Goals as goal

short : (list items : List TagItem) (i : ℕ) (x : TagItem) → items ≡ list → IsTagged list → i < length items
    → x ≡ get_or items i x → (i < 100) × (length x.bytes < 2 ^ 16)
short list items i x same f lt is =
    let tagged : IsTagged items = subst IsTagged (sym same) f in
    let here : IsItem x = subst IsItem (sym is) (All-get_or IsItem items i x lt tagged.items) in
    (omega (arith, few items tagged), here.short)

sum_more : (items : List TagItem) (i : ℕ) (x : TagItem) → i < length items → x ≡ get_or items i x
    → sum_by (λ i. length (item i)) (take (i + 1) items)
    ≡ sum_by (λ i. length (item i)) (take i items) + (4 + length x.bytes)
sum_more items i x lt is =
    let f : TagItem → ℕ = λ (i : TagItem). length (item i) in
    let parts = ap (sum_by f) (take_more items i x lt) ∙ sum_by-append f (take i items) (get_or items i x ∷ []) in
    omega (arith, parts, length-item (get_or items i x), ap (λ (y : TagItem). length y.bytes) is)

pub overflow_add-len-in-loop-item : goal.overflow_add-len-in-loop-item
overflow_add-len-in-loop-item c =
    let s = short c.args.list.now c.as_slice-item-items.result.now c.loop-item.item-index c.item-item.result
    c.as_slice-item-items.ensures.value c.as_slice-item-items.ensures.tagged c.loop-item-test.true c.item-item.is in
    omega (arith, s.0, s.1, c.loop-item.invariant.1, c.len.ensures)

pub loop-item-preserved : goal.loop-item-preserved
loop-item-preserved c =
    let s = short c.args.list.now c.as_slice-item-items.result.now c.loop-item.item-index c.item-item.result
    c.as_slice-item-items.ensures.value c.as_slice-item-items.ensures.tagged c.loop-item-test.true c.item-item.is in (
      omega (
        arith,
        sum_more c.as_slice-item-items.result.now c.loop-item.item-index c.item-item.result c.loop-item-test.true
            c.item-item.is,
        c.loop-item.invariant.0,
        c.len.ensures,
      ),
      omega (arith, s.1, c.loop-item.invariant.1, c.len.ensures),
    )

pub returns : goal.returns
returns c =
    let items = c.as_slice-item-items.result.now in
    let whole : take c.loop-item.item-index items ≡ items =
    take_all c.loop-item.item-index items c.loop-item-test.false in
    let f : TagItem → ℕ = λ (i : TagItem). length (item i) in
    c.loop-item.invariant.0 ∙ ap (λ (xs : List TagItem). 2 + sum_by f xs) (whole ∙ c.as_slice-item-items.ensures.value)
    ∙ sym (length-tagged c.args.list.now)
