use Rattle.stash_file.proofs.Tellings.{told_front}
use Rattle.stash_file.proofs.pieces.read_entry.Goals as goal

pub returns : goal.returns
returns c =
    let front = told_front c.new-reader.result _ _ c.holds_bytes.ensures c.in_ok-front.ensures in
    rw (c.in_ok-bytes.ensures, c.version_of-version.ensures, c.rest.ensures, ← c.new-reader.ensures) front
