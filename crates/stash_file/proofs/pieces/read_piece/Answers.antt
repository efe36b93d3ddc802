use Rattle.std.proofs.Common.{◌≡◌, List, Option, Result, Ok, Err, ℕ}
use Rattle.std.specs.Prelude.{IfOk}
use Rattle.kdb_format.specs.Answers.{GivesAs}
use Rattle.kdb_format.specs.Fields.{IsBytes}
use Rattle.kdb_format.specs.declared.faults.FormatFault.{FormatFault}
use Rattle.kdb_format.specs.declared.faults.FormatFault.TheVariants.{Malformed, MemoryOut}
use Rattle.stash_file.specs.Answers.{IsNext, told_list}
use Rattle.stash_file.specs.Keytabs.{NothingThere}
use Rattle.stash_file.specs.Parsing.{told_at}
use Rattle.stash_file.specs.declared.pieces.Entry.{Entry}
use Rattle.stash_file.proofs.Tellings.{next_there, next_missing}
use Rattle.stash_file.proofs.pieces.read_piece.Goals as goal

found : (old new : List ℕ) (result : Result (Option Entry) FormatFault) → IsBytes old
    → GivesAs (λ e. told_list e) result new (told_at old) → IfOk result (λ e. IsNext old (told_list e) new)
found old new (Ok entry) fits e = next_there old (told_list entry) new fits e
found old new (Err fault) fits e = tt

missing : (old new : List ℕ) (result : Result (Option Entry) FormatFault)
    → GivesAs (λ e. told_list e) result new (told_at old) → result ≡ Err Malformed → NothingThere old
missing old new (Ok entry) e is = absurd cc
missing old new (Err Malformed) e is = next_missing old e
missing old new (Err MemoryOut) e is = absurd cc

pub returns-clause-found : goal.returns-clause-found
returns-clause-found c =
    found c.args.reader.now c.read_sized.new.reader c.read_sized.result c.holds_bytes.ensures c.read_sized.ensures

pub returns-clause-none : goal.returns-clause-none
returns-clause-none c = missing c.args.reader.now c.read_sized.new.reader c.read_sized.result c.read_sized.ensures
