use Rattle.std.proofs.Common.{◌≡◌, ◌≤◌, ◌+◌, ◌*◌, ℕ, [], ◌∷◌, ◌++◌, length, take, refl, subst, ap, sym, ◌∙◌, arith}
use Rattle.std.proofs.Math.Nat.{mul-le-mul_right}
use Rattle.std.proofs.lemmas.List.{take_all, take_more}
use Rattle.cell_files.specs.declared.texts.RowText.{RowText}
use Rattle.cell_files.specs.Building.{text_units, HasUnit}
use Rattle.cell_files.proofs.Units.{page_more, page_long, no_units}
use Rattle.cell_files.proofs.pages.fill_page.Goals as goal

pub loop-text-init : goal.loop-text-init
loop-text-init c = record {
  place = omega arith;
  units = sym (no_units c.args.unit);
  long = refl;
}

pub fill_at-requires-clause-fits : goal.fill_at-requires-clause-fits
fill_at-requires-clause-fits c = subst (HasUnit c.args.unit) (sym c.text-item.is)
    (c.requires.fits c.loop-text.text-index c.text-item.result c.loop-text-test.true)

pub fill_at-requires-clause-within : goal.fill_at-requires-clause-within
fill_at-requires-clause-within c =
    let i = c.loop-text.text-index in
    let most : (i + 1) * c.args.unit ≤ length c.args.texts.now * c.args.unit =
    mul-le-mul_right c.args.unit (omega (arith, c.loop-text-test.true)) in
    omega (arith, most, c.loop-text.invariant.place, c.loop-text.invariant.long, c.requires.within)

pub loop-text-preserved : goal.loop-text-preserved
loop-text-preserved c =
    let i = c.loop-text.text-index in
    let unit = c.args.unit in
    let texts = c.args.texts.now in
    let text = c.text-item.result in
    let lt = c.loop-text-test.true in
    let inv = c.loop-text.invariant in
    let has = subst (HasUnit unit) (sym c.text-item.is) (c.requires.fits i text lt) in
    let most : (i + 1) * unit ≤ length texts * unit = mul-le-mul_right unit (omega (arith, lt)) in
    let within : c.loop-text.at + unit ≤ length c.loop-text.page =
    omega (arith, most, inv.place, inv.long, c.requires.within) in
    record {
      place = omega (arith, inv.place);
      units = page_more unit c.loop-text.at text (take i texts) c.loop-text.page c.fill_at.new.page has within inv.units
          c.fill_at.ensures
          ∙ ap (text_units unit) (ap (λ (y : RowText). take i texts ++ y ∷ []) c.text-item.is
          ∙ sym (take_more texts i text lt));
      long = page_long unit c.loop-text.at text c.loop-text.page c.fill_at.new.page has within c.fill_at.ensures
          ∙ inv.long;
    }

pub returns-clause-units : goal.returns-clause-units
returns-clause-units c =
    let n = length c.args.texts.now in
    let all : c.loop-text.text-index ≡ n = omega (arith, c.loop-text.auto.text-index-end) in
    ap (λ (k : ℕ). take k c.loop-text.page) (sym (c.loop-text.invariant.place ∙ ap (λ (k : ℕ). k * c.args.unit) all))
    ∙ c.loop-text.invariant.units
    ∙ ap (text_units c.args.unit) (take_all c.loop-text.text-index c.args.texts.now (omega (arith, all)))
