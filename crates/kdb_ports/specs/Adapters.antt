-- Sources and sinks over the readers and writers of std. Std knows the bytes of some of them, as of a slice or a
-- vector, and of those an adapter says what it did with them.
use Rattle.std.specs.Prelude.{ℕ, List, take, Option}
use Rattle.std.specs.Io.KnownBytes.{Appends}

-- a source over a reader: the reader, and the reads that failed
pub record ReaderState (R : Type 0) : Type 0 where
  pub reader : R
  pub faults : ℕ

-- a sink over a writer: the writer, and the writes that failed
pub record WriterState (W : Type 0) : Type 0 where
  pub writer : W
  pub faults : ℕ

-- known bytes of a writer grew by a front of these
pub record AppendsFront (old new : Option (List ℕ)) (bytes : List ℕ) : Type 0 where
  pub count : ℕ
  pub got : Appends old new (take count bytes)
