-- A reader of dumps, as its callers see it.
use Rattle.std.specs.Prelude.{ℕ, ◌≡◌, ◌≤◌, List, [], ◌++◌, length, take, Option, Some, None, IfSome, Result, Ok, Err}
use Rattle.dump_text.specs.Judged.{Said, nothing, judged_from, said_by}
use Rattle.dump_text.specs.Lines.{lines_of}
use Rattle.dump_text.specs.Versions.{longest}
use Rattle.dump_text.specs.declared.dumps.Dump.{Dump}
use Rattle.dump_text.specs.declared.stops.DumpStop.{DumpStop}
use Rattle.dump_text.specs.declared.stops.DumpStop.TheVariants as stop
use Rattle.dump_text.specs.declared.stops.LineStop.{LineStop}
use Rattle.dump_text.specs.declared.stops.LineStop.TheVariants as line

-- what the lines so far said, how many they are, the bytes behind them, and the line that broke
pub record ReaderState : Type 0 where
  pub said : Said
  pub count : ℕ
  pub held : List ℕ
  pub bad : Option ℕ

abbrev pub fresh : ReaderState
fresh = record { said = nothing; count = 0; held = []; bad = None }

abbrev pub judged_or_bad : Option ℕ → Said → ℕ → List ℕ → Result Dump ℕ
judged_or_bad None said count text = judged_from said count text
judged_or_bad (Some line) said count text = Err line

-- what the whole text is, where this still comes
unfoldable pub judged_with : ReaderState → List ℕ → Result Dump ℕ
judged_with r rest = judged_or_bad r.bad r.said r.count (r.held ++ rest)

-- ---- the answers of what reads a line

-- there is no value, unless memory ran out
abbrev pub Refuses : {A : Type 0} → LineStop → Option A → Type 0
Refuses line.Bad read = read ≡ None
Refuses line.MemoryOut read = Unit {0}

-- what was returned is the value that was found, unless memory ran out
abbrev pub FindsAs : {X A : Type 0} → (X → A) → Result X LineStop → Option A → Type 0
FindsAs view (Ok x) found = found ≡ Some (view x)
FindsAs view (Err e) found = Refuses e found

abbrev pub Finds : {A : Type 0} → Result A LineStop → Option A → Type 0
Finds (Ok x) found = found ≡ Some x
Finds (Err e) found = Refuses e found

abbrev pub Leaves : LineStop → Option Said → Said → Said → Type 0
Leaves line.Bad found old new = (found ≡ None) × (new ≡ old)
Leaves line.MemoryOut found old new = new ≡ old

-- a step leads to what was found, and an error changes nothing
abbrev pub Goes : Result Unit LineStop → Option Said → Said → Said → Type 0
Goes (Ok done) found old new = found ≡ Some new
Goes (Err e) found old new = Leaves e found old new

-- what was said stays said
pub record Grows (old new : Said) : Type 0 where
  pub realm : IfSome old.realm (λ r. new.realm ≡ Some r)
  pub princs : take (length old.princs) new.princs ≡ old.princs
  pub policies : take (length old.policies) new.policies ≡ old.policies

-- ---- answers

abbrev pub answer_of : Result Dump ℕ → Result Dump DumpStop
answer_of (Ok dump) = Ok dump
answer_of (Err line) = Err (stop.DumpBad line)

-- each whole line was judged, and what stands behind the last one is held
pub record IsFed (piece : List ℕ) (old new : ReaderState) : Type 0 where
  pub said : said_by old.said (lines_of (old.held ++ piece)).whole ≡ Some new.said
  pub held : new.held ≡ (lines_of (old.held ++ piece)).rest
  pub going : new.bad ≡ None
  pub short : length new.held ≤ longest
