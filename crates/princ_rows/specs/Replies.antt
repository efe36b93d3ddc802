-- What a poll of the log is answered.
use Rattle.std.specs.Prelude.{◌≡◌, ℕ, nat_eq, List, [], Option, Some, None, if◌then◌else◌}
use Rattle.std.specs.List.{All}
use Rattle.kdb_base.specs.declared.moments.Point.{Point}
use Rattle.princ_rows.specs.Entries.{IsSent}
use Rattle.princ_rows.specs.declared.entries.Entry.{Entry}
use Rattle.princ_rows.specs.declared.replies.ReplyCode.{ReplyCode}
use Rattle.princ_rows.specs.declared.replies.ReplyCode.TheVariants.{UpdateOk, FullResyncNeeded, Busy, Nil, PermDenied}

abbrev pub number_of : ReplyCode → ℕ
number_of UpdateOk = 0
number_of FullResyncNeeded = 2
number_of Busy = 3
number_of Nil = 4
number_of PermDenied = 5

abbrev pub code_of : ℕ → Option ReplyCode
code_of n =
    if nat_eq n 0 then Some UpdateOk
    else if nat_eq n 2 then Some FullResyncNeeded
    else if nat_eq n 3 then Some Busy
    else if nat_eq n 4 then Some Nil
    else if nat_eq n 5 then Some PermDenied
    else None

pub record Reply : Type 0 where
  pub code : ReplyCode
  pub asked : Point
  pub updates : List Entry

-- updates come with UpdateOk alone
abbrev pub MayCome : ReplyCode → List Entry → Type 0
MayCome UpdateOk updates = Unit {0}
MayCome FullResyncNeeded updates = updates ≡ []
MayCome Busy updates = updates ≡ []
MayCome Nil updates = updates ≡ []
MayCome PermDenied updates = updates ≡ []

pub record IsReply (code : ReplyCode) (updates : List Entry) : Type 0 where
  pub may_come : MayCome code updates
  pub sent : All IsSent updates
