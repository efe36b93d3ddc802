use Rattle.std.proofs.Common.{◌^◌, ◌<◌, ℕ, length, sym, ap, ◌∙◌, append_assoc, arith}
use Rattle.stash_file.specs.Pieces.{piece_text}
use Rattle.stash_file.proofs.Entries.{written_length, written_fits, written_key}
use Rattle.stash_file.proofs.writing.push_piece.Goals as goal

pub returns-clause-text : goal.returns-clause-text
unfolding piece_text
returns-clause-text c =
    let len = written_length c.args.realm.now c.args.secs c.args.master.now in
    rw (
      c.in_ok-push_u32-2.ensures.ok,
      c.in_ok-push_entry.ensures,
      c.in_ok-push_u32.ensures.ok,
      c.from.ensures,
      c.as_slice.ensures.value,
      len,
    ) (simp append_assoc)

pub returns-clause-fits : goal.returns-clause-fits
returns-clause-fits c =
    written_fits c.args.realm.now c.args.secs c.args.master.now c.requires c.ranges.secs.fits
    (ap (length {A = ℕ}) (sym c.as_slice.ensures.value) ∙ c.as_slice.ensures.length)

pub returns-clause-told : goal.returns-clause-told
returns-clause-told c = written_key c.args.realm.now c.args.secs c.args.master.now
    (let fits : c.from.result < 2 ^ 32 = c.from.type_inv in omega (arith, fits, c.from.ensures))
