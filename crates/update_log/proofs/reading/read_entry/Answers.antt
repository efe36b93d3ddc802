use Rattle.std.proofs.Common.{◌≡◌, ◌-◌, ◌∙◌, ap, subst, List, ℕ, length, drop, arith, length-drop, take_all}
use Rattle.kdb_format.specs.Answers.{Gives}
use Rattle.kdb_format.specs.Readings.{padded}
use Rattle.princ_rows.specs.Entries.{logged_at}
use Rattle.update_log.specs.Runs.{spelled_in}
use Rattle.update_log.proofs.ReadSlots.{finds_front, reads_spelled}
use Rattle.update_log.proofs.reading.read_entry.Goals as goal

pub returns-clause-found : goal.returns-clause-found
unfolding spelled_in
returns-clause-found c =
    let bytes = c.args.bytes.now in
    let whole : c.new-reader.result ≡ drop 1 bytes =
    c.new-reader.ensures ∙ take_all (length bytes - 1) (drop 1 bytes) (omega (arith, length-drop 1 bytes)) in
    let long : length bytes - 1 ≡ c.args.block - 1 = ap (λ (n : ℕ). n - 1) c.requires.whole in
    finds_front c.read_padded.result c.read_padded.new.reader (padded (c.args.block - 1) logged_at (drop 1 bytes))
    (subst (λ (n : ℕ). Gives c.read_padded.result c.read_padded.new.reader (padded n logged_at (drop 1 bytes))) long
    (subst (λ (b : List ℕ). Gives c.read_padded.result c.read_padded.new.reader (padded (length bytes - 1) logged_at b))
    whole c.read_padded.ensures))

pub returns-clause-spelled : goal.returns-clause-spelled
returns-clause-spelled c =
    let long : length c.args.bytes.now - 1 ≡ c.args.block - 1 = ap (λ (n : ℕ). n - 1) c.requires.whole in
    reads_spelled c.args.block c.new-reader.result c.read_padded.new.reader c.read_padded.result c.holds_bytes.ensures
    (subst (λ (n : ℕ). Gives c.read_padded.result c.read_padded.new.reader (padded n logged_at c.new-reader.result))
    long c.read_padded.ensures)
