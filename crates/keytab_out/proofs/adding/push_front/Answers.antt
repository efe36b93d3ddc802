use Rattle.std.proofs.Common.{◌^◌, ◌<◌, ℕ, List, length, subst, sym, ap, append_assoc, arith}
use Rattle.std.specs.List.{All}
use Rattle.stash_file.specs.Pieces.{entry_text}
use Rattle.keytab_out.proofs.Names.{parts_short, realm_short}
use Rattle.keytab_out.proofs.adding.push_front.Goals as goal

pub push_counted-requires : goal.push_counted-requires
push_counted-requires c = let short =
    realm_short c.args.name.now c.realm.ensures.name in omega (arith, ap (length {A = ℕ}) c.realm.ensures.value)

pub push_parts-requires : goal.push_parts-requires
push_parts-requires c = subst (All (λ (text : List ℕ). length text < 2 ^ 16)) (sym c.parts-2.ensures.value)
    (parts_short c.args.name.now c.parts-2.ensures.name)

pub returns : goal.returns
unfolding entry_text
returns c =
    rw (
      c.in_ok-push_counted-2.ensures,
      c.in_ok-push_u16-2.ensures.ok,
      c.in_ok-push_u8.ensures.ok,
      c.in_ok-push_u32-2.ensures.ok,
      c.in_ok-push_u32.ensures.ok,
      c.in_ok-push_parts.ensures,
      c.in_ok-push_counted.ensures,
      c.in_ok-push_u16.ensures.ok,
      c.parts.ensures.value,
      c.parts-2.ensures.value,
      c.realm.ensures.value,
      c.as_slice.ensures.value,
      c.number.ensures,
      c.etype.ensures,
    ) (simp append_assoc)
