use Rattle.std.proofs.Common.{◌≡◌, ℕ, ◌≤◌, ◌/◌, ◌∙◌, Some, List, max, take, ap, sym, subst, arith}
use Rattle.kdb_disk.specs.Files.{Files}
use Rattle.kdb_disk.proofs.Runs.{kept, keeps_on, keeps_then}
use Rattle.kdb_disk.specs.Reader.{left_of}
use Rattle.kdb_cells.specs.Cells.{unit_size}
use Rattle.kdb_cells.specs.CellFiles.{CellFile}
use Rattle.kdb_cells.specs.Indexes.{units, count}
use Rattle.kdb_cells.specs.Scanning.{heading_of, end_of, skipping, IsDamaged}
use Rattle.kdb_cells.specs.Scanning.{IsScanned, AreGathered, AreScanned, AreCellsIn}
use Rattle.kdb_cells.specs.Sheets.{realm_in, count_of}
use Rattle.kdb_cells.proofs.Apart.{gathered_apart}
use Rattle.kdb_cells.proofs.Wholly.{wholly, scanned_all, unnamed_damaged}
use Rattle.kdb_cells.proofs.Wholly.{named_skipping, realm_first, named_count, scan_end}
use Rattle.kdb_cells.proofs.files.scan.Goals as goal

pub returns-in-Err-read_realm-clause-refused : goal.returns-in-Err-read_realm-clause-refused
returns-in-Err-read_realm-clause-refused g c = λ tells r same.
    let a = c.args in
    let bytes = (g.D.Disk.view a.disk.now).seen a.file in
    let left : left_of c.in-Ok-open.reader (g.D.Disk.view c.open.new.disk).seen ≡ bytes =
    c.in-Ok-open.ensures.left tells ∙ ap (λ (s : Files). s a.file) (c.length.ensures.looks tells).seen in
    let refused = c.in-Err-read_realm.ensures.refused tells r cc in
    unnamed_damaged a.file a.format a.torn bytes r (c.requires.torn tells)
    (ap (λ (l : List ℕ). heading_of a.format (take (unit_size a.format) l)) (sym left) ∙ refused.1) refused.0

pub returns-in-Err-gather-clause-refused : goal.returns-in-Err-gather-clause-refused
unfolding count_of
returns-in-Err-gather-clause-refused g c = λ tells r same.
    let a = c.args in
    let v = g.D.Disk.view a.disk.now in
    let bytes = v.seen a.file in
    let may = c.requires.torn tells in
    let keeps = keeps_then (keeps_on (keeps_on (kept v) (c.length.ensures.looks tells)) (c.open.ensures.looks tells))
    (c.read_realm.ensures.keeps tells) in
    let left : left_of c.in-Ok-open.reader (g.D.Disk.view c.open.new.disk).seen ≡ bytes =
    c.in-Ok-open.ensures.left tells ∙ ap (λ (s : Files). s a.file) (c.length.ensures.looks tells).seen in
    let realm = c.in-Ok-read_realm.realm in
    let named = ap (λ (l : List ℕ). heading_of a.format (take (unit_size a.format) l)) (sym left)
    ∙ c.in-Ok-read_realm.ensures.found tells in
    let end = c.unit_end-end.ensures.value
    ∙ ap (λ (n : ℕ). max 1 (end_of a.torn (n / unit_size a.format))) (c.in-Ok.ensures.value tells) in
    let whole = scan_end a.format a.torn bytes may (named_count a.format bytes realm named) in
    subst (λ (s : Files). realm_in a.format (skipping a.format a.torn (s a.file)) ≡ Some realm → c.unit_end-end.result
    ≤ count_of a.format (skipping a.format a.torn (s a.file)) → IsDamaged a.file a.format a.torn (s a.file) r)
    keeps.seen
    (λ realm_is le. c.in-Err-gather.ensures.refused tells realm realm_is le r cc)
    (named_skipping a.format a.torn bytes may ∙ realm_first a.format bytes ∙ named) (omega (arith, whole, end))

pub returns-in-Err-gather-clause-keeps : goal.returns-in-Err-gather-clause-keeps
returns-in-Err-gather-clause-keeps g c = λ tells.
    keeps_then (keeps_then (keeps_on (keeps_on (kept (g.D.Disk.view c.args.disk.now)) (c.length.ensures.looks tells))
    (c.open.ensures.looks tells)) (c.read_realm.ensures.keeps tells)) (c.gather.ensures.keeps tells)

pub returns-in-Ok-with_index-clause-scanned : goal.returns-in-Ok-with_index-clause-scanned
unfolding count_of
returns-in-Ok-with_index-clause-scanned g c = λ tells.
    let a = c.args in
    let v = g.D.Disk.view a.disk.now in
    let bytes = v.seen a.file in
    let may = c.requires.torn tells in
    let keeps = keeps_then (keeps_on (keeps_on (kept v) (c.length.ensures.looks tells)) (c.open.ensures.looks tells))
    (c.read_realm.ensures.keeps tells) in
    let left : left_of c.in-Ok-open.reader (g.D.Disk.view c.open.new.disk).seen ≡ bytes =
    c.in-Ok-open.ensures.left tells ∙ ap (λ (s : Files). s a.file) (c.length.ensures.looks tells).seen in
    let realm = c.in-Ok-read_realm.realm in
    let all = c.in-Ok-gather.gathered in
    let named = ap (λ (l : List ℕ). heading_of a.format (take (unit_size a.format) l)) (sym left)
    ∙ c.in-Ok-read_realm.ensures.found tells in
    let end = c.unit_end-end.ensures.value
    ∙ ap (λ (n : ℕ). max 1 (end_of a.torn (n / unit_size a.format))) (c.in-Ok.ensures.value tells) in
    let gathered =
    subst (λ (s : Files). AreGathered a.format a.torn g.D.Disk.tells (s a.file) (units all.index) (count all.index)
    all.princs.items all.policies.items c.unit_end-end.result) keeps.seen c.in-Ok-gather.ensures.gathered in
    let cells : CellFile = record { file = a.file; format = a.format; index = all.index } in
    subst (λ (x : CellFile). IsScanned x realm all.princs.items all.policies.items a.torn bytes)
    (sym c.in-Ok-with_index.ensures)
    (wholly cells a.torn g.D.Disk.tells bytes realm all.princs.items all.policies.items c.unit_end-end.result tells may
    named end gathered c.in-Ok-gather.ensures.placed)

pub returns-in-Ok-with_index-clause-keeps : goal.returns-in-Ok-with_index-clause-keeps
returns-in-Ok-with_index-clause-keeps g c = λ tells.
    keeps_then (keeps_then (keeps_on (keeps_on (kept (g.D.Disk.view c.args.disk.now)) (c.length.ensures.looks tells))
    (c.open.ensures.looks tells)) (c.read_realm.ensures.keeps tells)) (c.gather.ensures.keeps tells)

pub returns-clause-keeps : goal.returns-clause-keeps
returns-clause-keeps g c = λ tells.
    keeps_then (keeps_then (keeps_on (keeps_on (kept (g.D.Disk.view c.args.disk.now)) (c.length.ensures.looks tells))
    (c.open.ensures.looks tells)) (c.read_realm.ensures.keeps tells)) (c.gather.ensures.keeps tells)

pub returns-in-Ok-with_index-clause-apart : goal.returns-in-Ok-with_index-clause-apart
returns-in-Ok-with_index-clause-apart g c =
    let all = c.in-Ok-gather.gathered in
    let from = c.in-Ok-gather.ensures.gathered in
    gathered_apart c.args.format (units all.index) (count all.index) all.princs.items all.policies.items
    from.cells from.gathered

pub returns-in-Ok-with_index-clause-gathered : goal.returns-in-Ok-with_index-clause-gathered
unfolding count_of
returns-in-Ok-with_index-clause-gathered g c =
    let a = c.args in
    let v = g.D.Disk.view a.disk.now in
    let bytes = v.seen a.file in
    let all = c.in-Ok-gather.gathered in
    let realm = c.in-Ok-read_realm.realm in
    let cells : CellFile = record { file = a.file; format = a.format; index = all.index } in
    let from = c.in-Ok-gather.ensures.gathered in
    let end = c.unit_end-end.result in
    let same : AreGathered a.format a.torn g.D.Disk.tells bytes (units all.index)
    (count all.index) all.princs.items all.policies.items end = record {
      cells = from.cells;
      long = from.long;
      gathered = from.gathered;
      read = λ tells.
          let keeps =
          keeps_then (keeps_on (keeps_on (kept v) (c.length.ensures.looks tells)) (c.open.ensures.looks tells))
          (c.read_realm.ensures.keeps tells) in
          subst (λ (s : Files). AreCellsIn a.format a.torn (s a.file) from.cells) keeps.seen (from.read tells);
    } in
    subst (λ (x : CellFile). AreScanned g.D.Disk.tells x realm all.princs.items all.policies.items a.torn bytes)
    (sym c.in-Ok-with_index.ensures)
    (scanned_all cells a.torn g.D.Disk.tells bytes realm all.princs.items all.policies.items end same (λ tells.
    let left : left_of c.in-Ok-open.reader (g.D.Disk.view c.open.new.disk).seen ≡ bytes =
    c.in-Ok-open.ensures.left tells ∙ ap (λ (s : Files). s a.file) (c.length.ensures.looks tells).seen in
    let named = ap (λ (l : List ℕ). heading_of a.format (take (unit_size a.format) l)) (sym left)
    ∙ c.in-Ok-read_realm.ensures.found tells in
    let is = c.unit_end-end.ensures.value
    ∙ ap (λ (n : ℕ). max 1 (end_of a.torn (n / unit_size a.format))) (c.in-Ok.ensures.value tells) in
    (c.requires.torn tells, (named, (is, c.in-Ok-gather.ensures.placed)))))
