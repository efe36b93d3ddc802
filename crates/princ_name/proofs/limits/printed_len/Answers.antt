-- The components, each with a sign behind it, and the realm.
use Rattle.std.proofs.Common.{◌≡◌, ◌≢◌, ◌+◌, ◌==◌, false, [], ◌∷◌, List, ℕ, length, arith, ap, sym, subst, refl, ◌∙◌}
use Rattle.std.specs.List.{list_all}
use Rattle.princ_name.specs.Bytes.{can_stand}
use Rattle.princ_name.specs.Names.{printed_text}
use Rattle.princ_name.proofs.Costs.{name-cost, is_name}
use Rattle.princ_name.proofs.limits.printed_len.Goals as goal

empty_not : (text : List ℕ) → (length text == 0) ≡ false → text ≢ []
empty_not [] h = absurd (cc)
empty_not (b ∷ text) h = λ none. cc

pub returns-in_err-room-clause-none : goal.returns-in_err-room-clause-none
returns-in_err-room-clause-none c = λ _ name. omega
    (arith, name.short, name-cost c.args.parts.now c.args.realm.now c.requires.some, c.in_err-room.ensures.none refl)

pub returns-in_err-room-2-clause-none : goal.returns-in_err-room-2-clause-none
returns-in_err-room-2-clause-none c = λ _ name.
    omega (
      arith,
      name.short,
      name-cost c.args.parts.now c.args.realm.now c.requires.some,
      c.in_ok-room.ensures.fits,
      c.in_err-room-2.ensures.none refl,
      ap (λ (t : List ℕ). length (printed_text t)) c.as_slice-realm.ensures,
    )

pub returns-clause-name : goal.returns-clause-name
returns-clause-name c = is_name c.args.parts.now c.args.realm.now _ _ c.requires.some c.requires.bytes (omega arith)
    (subst (λ (t : List ℕ). t ≢ []) c.as_slice-realm.ensures
    (empty_not _ (sym c.is_empty.ensures ∙ c.if-is_empty.false)))
    (ap (λ (t : List ℕ). list_all can_stand t) (sym c.as_slice-realm.ensures) ∙ sym c.all_stand.ensures
    ∙ c.if-not-all_stand.false)
    c.in_ok-room.ensures.fits
    (ap (λ (t : List ℕ). c.in_ok-room-2.room + length (printed_text t)) (sym c.as_slice-realm.ensures)
    ∙ c.in_ok-room-2.ensures.fits)

pub returns-clause-len : goal.returns-clause-len
returns-clause-len c =
    omega (
      arith,
      name-cost c.args.parts.now c.args.realm.now c.requires.some,
      c.in_ok-room.ensures.fits,
      c.in_ok-room-2.ensures.fits,
      ap (λ (t : List ℕ). length (printed_text t)) c.as_slice-realm.ensures,
    )
