use Rattle.std.proofs.Common.{refl, sym, subst, arith}
use Rattle.first_rows.specs.Creation.{first_state}
use Rattle.primary_core.proofs.Created.{are_bytes, created_open, created_state}
use Rattle.primary_core.proofs.creating.primary_of.Goals as goal
use Rattle.primary_core.specs.Opened.{HasState, Opened}

pub of_parts-requires : goal.of_parts-requires
of_parts-requires c = created_open c.args.spec.now c.args.now c.args.random.now
    (record { kept = c.args.database; masters = c.args.masters; dumps = 0; room = 1 })
    c.requires.place c.requires.masters
    (c.first_state_is_valid.ensures.realm c.args.spec.now c.args.now c.args.random.now)
    (c.first_state_is_valid.ensures.point c.args.spec.now c.args.now c.args.random.now)
    (c.first_state_is_valid.ensures.valid c.args.spec.now c.args.now c.args.random.now c.realm-realm.ensures.spec)
    (c.first_rows_show_the_first_state.ensures c.args.spec.now c.args.now c.args.random.now c.requires.random
    (are_bytes c.args.random.now (λ i. omega (arith, c.type_inv.random i)))) refl refl

pub returns-clause-state : goal.returns-clause-state
returns-clause-state c = subst (λ (x : Opened). HasState x (first_state c.args.spec.now c.args.now c.args.random.now))
    (sym c.of_parts.ensures)
    (created_state c.args.spec.now c.args.now c.args.random.now
    (record { kept = c.args.database; masters = c.args.masters; dumps = 0; room = 1 })
    c.requires.place c.requires.masters
    (c.first_state_is_valid.ensures.realm c.args.spec.now c.args.now c.args.random.now)
    (c.first_state_is_valid.ensures.point c.args.spec.now c.args.now c.args.random.now)
    (c.first_state_is_valid.ensures.valid c.args.spec.now c.args.now c.args.random.now c.realm-realm.ensures.spec)
    (c.first_rows_show_the_first_state.ensures c.args.spec.now c.args.now c.args.random.now c.requires.random
    (are_bytes c.args.random.now (λ i. omega (arith, c.type_inv.random i)))))
