-- Answers of the reader of rules, exactly as the text has them.
use Rattle.std.specs.Prelude.{ℕ, ◌≡◌, List, Result, Ok, Err, ⊤}
use Rattle.acl_text.specs.declared.faults.AclFault.{AclFault}
use Rattle.acl_text.specs.declared.faults.AclFault.TheVariants.{BadAcl, MemoryOut}
use Rattle.acl_text.specs.declared.rules.AclLine.{AclLine}

-- the rules are answered, or memory ran out
unfoldable pub AnswersRules : List AclLine → Result (List AclLine) AclFault → Type 0
AnswersRules lines (Ok answer) = answer ≡ lines
AnswersRules lines (Err MemoryOut) = ⊤
AnswersRules lines (Err (BadAcl line)) = ⊥

-- the line is refused, or memory ran out
unfoldable pub AnswersFault : ℕ → Result (List AclLine) AclFault → Type 0
AnswersFault number (Ok answer) = ⊥
AnswersFault number (Err MemoryOut) = ⊤
AnswersFault number (Err (BadAcl line)) = line ≡ number
