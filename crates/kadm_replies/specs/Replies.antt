-- The text of a reply.
use Rattle.std.specs.Prelude.{ℕ, List, [], ◌++◌, codes}
use Rattle.kadm_commands.specs.declared.replies.Reply.{Reply}
use Rattle.kadm_commands.specs.declared.replies.Reply.TheVariants.{Done, Shown, Listed, Strings, Extracted, PolicyShown}
use Rattle.kadm_commands.specs.declared.replies.Reply.TheVariants.{Privileges, MasterAdded, MasterUsed, MastersListed}
use Rattle.kadm_commands.specs.declared.replies.Reply.TheVariants.{MastersPurged, Rekeyed, Stashed, Refused}
use Rattle.kadm_replies.specs.Lists.{extracts_text, letters_text, names_text, rules_text, strings_text}
use Rattle.kadm_replies.specs.Masters.{added_text, masters_text, purged_text, purges_text, totals_text, used_text}
use Rattle.kadm_replies.specs.Princs.{shown_text}
use Rattle.kadm_replies.specs.Refusals.{refusal_text}
use Rattle.kadm_replies.specs.Texts.{done_text, field_line}

-- the lines of data
unfoldable pub data_text : Reply → List ℕ
data_text (Shown p) = shown_text p
data_text (Listed names) = names_text names
data_text (Strings list) = strings_text list
data_text (Extracted list) = extracts_text list
data_text (PolicyShown p) = rules_text p
data_text (Privileges letters) = field_line (codes "privileges") (letters_text letters)
data_text (MastersListed rows) = masters_text rows
data_text (MastersPurged point rows) = purges_text rows
data_text _ = []

-- the last line, which tells what was done, that all was told, or why nothing was done
unfoldable pub end_text : Reply → List ℕ
end_text (Done point) = done_text point
end_text (MasterAdded point version) = added_text point version
end_text (MasterUsed point version secs) = used_text point version secs
end_text (MastersPurged point rows) = purged_text point rows
end_text (Rekeyed totals) = totals_text totals
end_text (Refused refusal) = refusal_text refusal
end_text _ = codes "ok\n"

unfoldable pub reply_text : Reply → List ℕ
reply_text reply = data_text reply ++ end_text reply
