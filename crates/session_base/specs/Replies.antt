-- What is written to a sink.
use Rattle.std.specs.Prelude.{ℕ, List, [], Option, Some, None}
use Rattle.kadm_commands.specs.declared.replies.Reply.{Reply}
use Rattle.kadm_replies.specs.Replies.{reply_text}
use Rattle.session_base.specs.declared.replies.Printed.{Printed}

-- nothing is written where there is no reply
abbrev pub text_of : Option Reply → List ℕ
text_of None = []
text_of (Some reply) = reply_text reply

-- ---- what was printed

abbrev pub reply_in : Option Printed → Option Reply
reply_in None = None
reply_in (Some printed) = Some printed.reply

abbrev pub text_in : Option Printed → List ℕ
text_in None = []
text_in (Some printed) = printed.text
