-- What a slot's body spells, and which entry has a serial.
use Rattle.std.proofs.Common.{◌≡◌, ◌≢◌, ℕ, ◌+◌, ◌-◌, ◌<◌, ◌≤◌, List, [], ◌∷◌, ◌++◌, length, get_or}
use Rattle.std.proofs.Common.{Option, Some, None, sym, ◌∙◌, ap, arith, length-append, Bor}
use Rattle.std.specs.Prelude.{IfSome, Contains}
use Rattle.std.specs.Slice.{IsItemAt}
use Rattle.std.proofs.lemmas.List.{append-nil}
use Rattle.kdb_format.specs.Readings.{padded}
use Rattle.kdb_format.specs.Spellings.{zeros}
use Rattle.kdb_format.specs.Lengths.{length-zeros}
use Rattle.kdb_format.specs.Laws.{padded_field}
use Rattle.princ_rows.specs.Entries.{logged_at, logged}
use Rattle.princ_rows.specs.EntryLaws.{logged_field}
use Rattle.kdb_base.specs.declared.moments.Point.{Point}
use Rattle.kdb_base.specs.Moments.{micros}
use Rattle.princ_rows.specs.declared.entries.Entry.{Entry}
use Rattle.princ_rows.specs.declared.entries.Logged.{Logged}
use Rattle.update_log.specs.Slots.{Spells, IsSpelled}
use Rattle.update_log.specs.Logs.{ComesNext}

pub spelled : (block : ℕ) (e : Logged) (text : List ℕ) → IsSpelled block e
    → text ≡ logged e ++ zeros ((block - 1) - length (logged e)) → Spells block (0 ∷ text) e
spelled block e text fits is =
    ap (padded (block - 1) logged_at) (is ∙ sym (append-nil (logged e ++ zeros ((block - 1) - length (logged e)))))
    ∙ (padded_field (block - 1) logged_field).again e [] (fits.fits, fits.short)

pub long_body : (n : ℕ) (e : Logged) (text : List ℕ) → length (logged e) ≤ n
    → text ≡ logged e ++ zeros (n - length (logged e)) → length text ≡ n
long_body n e text short is = omega (
  arith,
  ap (λ (l : List ℕ). length l) is,
  length-append (logged e) (zeros (n - length (logged e))),
  length-zeros (n - length (logged e)),
  short,
)

-- the item at a place has the serial of that place
pub found : (held : List Logged) (first i sno : ℕ) (r : Option (Bor Logged)) → IsItemAt held i r
    → ((k : ℕ) (d : Logged) → k < length held → (get_or held k d).entry.point.sno ≡ first + k) → sno ≡ first + i
    → IfSome r (λ l. Contains held l.now × (l.now.entry.point.sno ≡ sno))
found held first i sno None item serials is = tt
found held first i sno (Some e) item serials is =
    ((i, item.3.0, sym item.1), ap (λ (x : Logged). x.entry.point.sno) item.1 ∙ serials i e.now item.3.0 ∙ sym is)

-- a change at the time of the last entry comes next
pub follows : (held : List Logged) (last : Point) (e : Entry) (cell : ℕ)
    → e.op ≢ None → e.point ≡ record { sno = last.sno + 1; time = last.time }
    → ((d : Logged) → last ≡ (get_or held (length held - 1) d).entry.point)
    → ComesNext held (record { entry = e; cell = cell })
follows held last e cell change is there = record {
  change = change;
  serial = λ d. ap (λ (p : Point). p.sno) is ∙ ap (λ (p : Point). p.sno + 1) (there d);
  time = λ d.
      let same : micros e.point.time ≡ micros (get_or held (length held - 1) d).entry.point.time =
      ap (λ (p : Point). micros p.time) is ∙ ap (λ (p : Point). micros p.time) (there d) in
      omega (arith, same);
}
