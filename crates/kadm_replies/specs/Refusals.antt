-- The texts of refusals.
use Rattle.std.specs.Prelude.{ℕ, List, [], ◌++◌, codes}
use Rattle.std.specs.Fmt.{decimal}
use Rattle.kadm_replies.specs.Texts.{line_feed, time_text}
use Rattle.kdb_base.specs.Outcomes.{field_word}
use Rattle.kdb_base.specs.declared.outcomes.Refusal.{Refusal}
use Rattle.kdb_base.specs.declared.outcomes.Refusal.TheVariants.{BadLine, BadName, Duplicate, UnknownPrincipal}
use Rattle.kdb_base.specs.declared.outcomes.Refusal.TheVariants.{UnknownPolicy, PolicyInUse, Denied, Protected}
use Rattle.kdb_base.specs.declared.outcomes.Refusal.TheVariants.{PassTooShort, PassClasses, PassReused, PassTooSoon}
use Rattle.kdb_base.specs.declared.outcomes.Refusal.TheVariants.{BadValue, RecordTooLarge, TooManyMasters}
use Rattle.kdb_base.specs.declared.outcomes.Refusal.TheVariants.{UnknownMaster, NoActiveMaster, StashMissing}
use Rattle.kdb_base.specs.declared.outcomes.Refusal.TheVariants.{StashWrong, NotADatabase, AlreadyThere, Damaged}
use Rattle.kdb_base.specs.declared.outcomes.Refusal.TheVariants.{TimeEnd, DumpBad, Busy, Closed, LineTooLong}
use Rattle.kdb_base.specs.declared.outcomes.Refusal.TheVariants.{KeysFull, RowsFull, StringsFull, UnknownString}
use Rattle.kdb_base.specs.declared.outcomes.Refusal.TheVariants.{LockedDown, BadKeytab, UnknownEntry}

-- the number and the name of a refusal
unfoldable pub refusal_named : Refusal → List ℕ
refusal_named BadLine = codes "1 BadLine"
refusal_named (BadName offset) = codes "2 BadName"
refusal_named Duplicate = codes "3 Duplicate"
refusal_named UnknownPrincipal = codes "4 UnknownPrincipal"
refusal_named UnknownPolicy = codes "5 UnknownPolicy"
refusal_named (PolicyInUse count) = codes "6 PolicyInUse"
refusal_named (Denied line) = codes "7 Denied"
refusal_named Protected = codes "8 Protected"
refusal_named PassTooShort = codes "9 PassTooShort"
refusal_named PassClasses = codes "10 PassClasses"
refusal_named PassReused = codes "11 PassReused"
refusal_named (PassTooSoon until) = codes "12 PassTooSoon"
refusal_named (BadValue field) = codes "13 BadValue"
refusal_named (RecordTooLarge size) = codes "14 RecordTooLarge"
refusal_named (TooManyMasters limit) = codes "15 TooManyMasters"
refusal_named (UnknownMaster version) = codes "16 UnknownMaster"
refusal_named NoActiveMaster = codes "17 NoActiveMaster"
refusal_named StashMissing = codes "18 StashMissing"
refusal_named StashWrong = codes "19 StashWrong"
refusal_named NotADatabase = codes "20 NotADatabase"
refusal_named AlreadyThere = codes "21 AlreadyThere"
refusal_named (Damaged file place) = codes "22 Damaged"
refusal_named TimeEnd = codes "23 TimeEnd"
refusal_named (DumpBad line) = codes "24 DumpBad"
refusal_named Busy = codes "25 Busy"
refusal_named Closed = codes "26 Closed"
refusal_named LineTooLong = codes "27 LineTooLong"
refusal_named KeysFull = codes "28 KeysFull"
refusal_named (RowsFull limit) = codes "29 RowsFull"
refusal_named (StringsFull limit) = codes "30 StringsFull"
refusal_named UnknownString = codes "31 UnknownString"
refusal_named LockedDown = codes "32 LockedDown"
refusal_named (BadKeytab place) = codes "33 BadKeytab"
refusal_named UnknownEntry = codes "34 UnknownEntry"

-- what is told of a cause, with a space before it
abbrev pub cause_field : List ℕ → List ℕ
cause_field text = codes " " ++ text

unfoldable pub cause_text : Refusal → List ℕ
cause_text (BadName offset) = cause_field (decimal offset)
cause_text (PolicyInUse count) = cause_field (decimal count)
cause_text (Denied line) = cause_field (decimal line)
cause_text (PassTooSoon until) = cause_field (time_text until)
cause_text (BadValue field) = cause_field (field_word field)
cause_text (RecordTooLarge size) = cause_field (decimal size)
cause_text (TooManyMasters limit) = cause_field (decimal limit)
cause_text (UnknownMaster version) = cause_field (decimal version)
cause_text (Damaged file place) = cause_field (decimal file) ++ cause_field (decimal place)
cause_text (DumpBad line) = cause_field (decimal line)
cause_text (RowsFull limit) = cause_field (decimal limit)
cause_text (StringsFull limit) = cause_field (decimal limit)
cause_text (BadKeytab place) = cause_field (decimal place)
cause_text _ = []

-- a number, the name, and what is told of the cause
unfoldable pub refusal_text : Refusal → List ℕ
refusal_text refusal = codes "err " ++ (refusal_named refusal ++ (cause_text refusal ++ line_feed))
