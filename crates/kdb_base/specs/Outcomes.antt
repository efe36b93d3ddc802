-- The exit status of a program, by the way in which its run ended, and the words of refusals.
use Rattle.std.specs.Prelude.{ℕ, List, codes}
use Rattle.kdb_base.specs.declared.outcomes.Status.{Status}
use Rattle.kdb_base.specs.declared.outcomes.Field.{Field}
use Rattle.kdb_base.specs.declared.outcomes.Field.TheVariants as field
use Rattle.kdb_base.specs.declared.outcomes.Status.TheVariants.{Done, Refused, MemoryOut, ReadFault, WriteFault}
use Rattle.kdb_base.specs.declared.outcomes.Status.TheVariants.{DiskFault, LinkFault, InputTooLong}

abbrev pub code_of : Status → ℕ
code_of Done = 0
code_of Refused = 1
code_of MemoryOut = 70
code_of ReadFault = 71
code_of WriteFault = 72
code_of DiskFault = 73
code_of LinkFault = 74
code_of InputTooLong = 75

-- the word of a field
unfoldable pub field_word : Field → List ℕ
field_word field.Expire = codes "expire"
field_word field.PwExpire = codes "pwexpire"
field_word field.MaxLife = codes "maxlife"
field_word field.MaxRenewLife = codes "maxrenewlife"
field_word field.MinLife = codes "minlife"
field_word field.MinLength = codes "minlength"
field_word field.MinClasses = codes "minclasses"
field_word field.History = codes "history"
field_word field.KeepKvno = codes "keepkvno"
field_word field.Enctypes = codes "enctypes"
field_word field.Policy = codes "policy"
field_word field.UlogSize = codes "ulogsize"
field_word field.Realm = codes "realm"
field_word field.Mkvno = codes "mkvno"
field_word field.Time = codes "time"
field_word field.Glob = codes "glob"
field_word field.Key = codes "key"
field_word field.Value = codes "value"
field_word field.Seed = codes "seed"
field_word field.Count = codes "count"
field_word field.Kvno = codes "kvno"
