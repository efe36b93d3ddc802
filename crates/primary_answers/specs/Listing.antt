-- The names of the principals that are to be rekeyed, and the reply to a poll.
use Rattle.std.specs.Prelude.{ℕ, Bool, true, not, ◌&&◌, List, filter, Option, Some, None}
use Rattle.iprop_truths.specs.Polls.{PollReply}
use Rattle.kadm_values.specs.Globs.{matches}
use Rattle.princ_rows.specs.Replies.{Reply, number_of}
use Rattle.princ_name.specs.Printed.{is_master}

-- the glob matches the name; all names without one
abbrev pub fits_glob : Option (List ℕ) → List ℕ → Bool
fits_glob None name = true
fits_glob (Some glob) name = matches glob name

-- a printed name other than K/M's that the glob matches
abbrev pub is_told : Option (List ℕ) → List ℕ → Bool
is_told glob name = not (is_master name) && fits_glob glob name

-- those of these names, in their order
unfoldable pub names_told : Option (List ℕ) → List (List ℕ) → List (List ℕ)
names_told glob names = filter (is_told glob) names

-- a reply as it is told
abbrev pub told_reply : Reply → PollReply
told_reply r = record { code = number_of r.code; asked = r.asked; updates = r.updates }
