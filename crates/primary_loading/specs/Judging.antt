-- Which dumps a primary takes in the place of all that it has, and why a dump is refused: the stash is looked at first,
-- then the realm, then the keys that the stash opens, and then each row.
use Rattle.std.specs.Prelude.{ℕ, ◌≡◌, ◌≢◌, ◌⊎◌, List, [], Option}
use Rattle.dump_text.specs.declared.dumps.Dump.{Dump}
use Rattle.kdb_base.specs.declared.outcomes.Refusal.{Refusal}
use Rattle.kdb_base.specs.declared.outcomes.Refusal.TheVariants.{DumpBad}
use Rattle.kdb_base.specs.declared.versions.Master.{Master}
use Rattle.primary_loading.specs.Lines.{end_place, princ_place, realm_place}
use Rattle.princ_rows.specs.Rows.{RowLists}
use Rattle.row_keys.specs.Sound.{AreSound, IsFirstUnsound, Judged, LacksOwn, judged}
use Rattle.stash_file.specs.declared.keys.StashKey.{StashKey}
use Rattle.stash_opening.specs.Finding.{HasKeys, HasNoKey, IsDamage, IsStashCause, StashOpens, own_record}

-- ---- a stash, whatever the dump is

-- the stash can be read, and it has a key
pub record HasKey (stash : Option (List ℕ)) : Type 0 where
  pub keys : List StashKey
  pub spelled : HasKeys stash keys
  pub some : keys ≢ []

-- there is no stash, or it has no key
pub record LacksKeys (stash : Option (List ℕ)) (why : Refusal) : Type 0 where
  pub keys : List StashKey
  pub spelled : HasKeys stash keys
  pub lacks : HasNoKey keys why

-- why the stash in this file opens no dump
abbrev pub IsNoStash : Option (List ℕ) → ℕ → Refusal → Type 0
IsNoStash stash file why = IsDamage stash file why ⊎ LacksKeys stash why

-- ---- a dump of another realm

-- the line of the realm is told
pub record NamesOther (stash : Option (List ℕ)) (why : Refusal) : Type 0 where
  pub some : HasKey stash
  pub why_is : why ≡ DumpBad realm_place

abbrev pub IsForeignCause : Option (List ℕ) → ℕ → Refusal → Type 0
IsForeignCause stash file why = IsNoStash stash file why ⊎ NamesOther stash why

-- ---- rows that are not sound

-- the line of the first record that is not sound is told
pub record HasUnsound (j : Judged) (rows : RowLists) (why : Refusal) : Type 0 where
  pub at : ℕ
  pub first : IsFirstUnsound j rows at
  pub why_is : why ≡ DumpBad (princ_place at)

-- where K/M or kadmin/history is missing, the line of the end is told
pub record EndsEarly (j : Judged) (rows : RowLists) (why : Refusal) : Type 0 where
  pub lacks : LacksOwn j rows
  pub why_is : why ≡ DumpBad (end_place rows)

abbrev pub IsUnsound : Judged → RowLists → Refusal → Type 0
IsUnsound j rows why = HasUnsound j rows why ⊎ EndsEarly j rows why

-- ---- rows of the own realm

-- The stash opens these master keys, by the record of K/M among the rows, and the rows are sound under them at the
-- seconds.
pub record AreTaken (stash : Option (List ℕ)) (realm : List ℕ) (secs : ℕ) (rows : RowLists)
    (masters : List Master) : Type 0 where
  pub opened : StashOpens stash (own_record realm rows) masters
  pub sound : AreSound (judged masters realm secs) rows

-- the stash opens these master keys, and the rows are not sound under them
pub record AreUntrue (stash : Option (List ℕ)) (realm : List ℕ) (secs : ℕ) (rows : RowLists)
    (why : Refusal) : Type 0 where
  pub masters : List Master
  pub opened : StashOpens stash (own_record realm rows) masters
  pub unsound : IsUnsound (judged masters realm secs) rows why

abbrev pub IsRowsCause : Option (List ℕ) → ℕ → List ℕ → ℕ → RowLists → Refusal → Type 0
IsRowsCause stash file realm secs rows why =
    IsStashCause stash file (own_record realm rows) why ⊎ AreUntrue stash realm secs rows why

-- ---- dumps

-- A dump of this realm is taken, with these master keys.
pub record IsTaken (stash : Option (List ℕ)) (realm : List ℕ) (secs : ℕ) (dump : Dump)
    (masters : List Master) : Type 0 where
  pub same : dump.realm ≡ realm
  pub rows : AreTaken stash realm secs dump.rows masters

-- the dump is of another realm
pub record IsForeign (stash : Option (List ℕ)) (file : ℕ) (realm : List ℕ) (dump : Dump) (why : Refusal) : Type 0 where
  pub other : dump.realm ≢ realm
  pub cause : IsForeignCause stash file why

-- it is of this realm, and its rows are refused
pub record IsUntaken (stash : Option (List ℕ)) (file : ℕ) (realm : List ℕ) (secs : ℕ) (dump : Dump)
    (why : Refusal) : Type 0 where
  pub same : dump.realm ≡ realm
  pub cause : IsRowsCause stash file realm secs dump.rows why

-- why a dump is refused
abbrev pub IsDumpCause : Option (List ℕ) → ℕ → List ℕ → ℕ → Dump → Refusal → Type 0
IsDumpCause stash file realm secs dump why =
    IsForeign stash file realm dump why ⊎ IsUntaken stash file realm secs dump why
