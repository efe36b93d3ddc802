use Rattle.std.proofs.Common.{◌^◌, ◌<◌, ℕ, length, sym, ap, ◌∙◌, arith}
use Rattle.keytab_out.proofs.Listed.{entry_listed}
use Rattle.keytab_out.proofs.adding.entry_of.Goals as goal

pub returns-clause-listed : goal.returns-clause-listed
returns-clause-listed c =
    let kvno : c.args.extract.now.kvno < 2 ^ 32 = let fits : c.from.result < 2 ^ 32 =
    c.from.type_inv in omega (arith, fits, c.from.ensures) in
    let len = ap (length {A = ℕ}) (sym c.as_slice.ensures.value) ∙ c.as_slice.ensures.length in
    rw (
      c.in_ok-realm.ensures,
      c.in_ok-parts.ensures,
      c.in_ok-key.ensures,
      c.in_ok-bytes.ensures,
      c.from.ensures,
      c.number.ensures,
      c.etype.ensures,
      c.as_slice.ensures.value,
      c.realm.ensures.value,
      c.parts.ensures.value,
    ) (entry_listed c.args.name.now c.args.secs c.args.extract.now c.parts.ensures.name c.ranges.secs.fits kvno len)
