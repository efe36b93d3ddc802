use Rattle.std.proofs.Common.{append_assoc}
use Rattle.std.proofs.lemmas.List.{append-nil}
use Rattle.stash_file.specs.Pieces.{entry_text}
use Rattle.stash_file.proofs.writing.push_entry.Goals as goal

pub returns : goal.returns
unfolding entry_text
returns c =
    rw (
      c.in_ok-push_counted-4.ensures,
      c.in_ok-push_u16-2.ensures.ok,
      c.in_ok-push_u8.ensures.ok,
      c.in_ok-push_u32-2.ensures.ok,
      c.in_ok-push_u32.ensures.ok,
      c.in_ok-push_counted-3.ensures,
      c.in_ok-push_counted-2.ensures,
      c.in_ok-push_counted.ensures,
      c.in_ok-push_u16.ensures.ok,
      c.as_slice.ensures.value,
      c.number.ensures,
      c.etype.ensures,
    ) (simp (append_assoc, append-nil))
