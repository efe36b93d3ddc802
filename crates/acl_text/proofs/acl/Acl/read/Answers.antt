use Rattle.std.proofs.Common.{◌≡◌, ◌∙◌, ℕ, List, Result, Ok, Err, refl, sym, ap}
use Rattle.std.proofs.lemmas.List.Elements.{All-same}
use Rattle.acl_text.specs.Answers.{AnswersFault, AnswersRules}
use Rattle.acl_text.specs.Reading.{IsNumbered}
use Rattle.acl_text.specs.Rules.{rules_in, rules_of}
use Rattle.acl_text.specs.Texts.{lines_of, said_lines}
use Rattle.acl_text.specs.declared.faults.AclFault.{AclFault}
use Rattle.acl_text.specs.declared.faults.AclFault.TheVariants.{BadAcl, MemoryOut}
use Rattle.acl_text.specs.declared.rules.AclLine.{AclLine}
use Rattle.acl_text.specs.declared.texts.Line.{Line}
use Rattle.acl_text.proofs.RulesFit.{rules_fit}
use Rattle.acl_text.proofs.TextLemmas.{all_numbered}
use Rattle.acl_text.proofs.acl.Acl.read.Goals as goal

text_rules : (realm text : List ℕ) (lines : List Line) → lines ≡ lines_of text
    → rules_in realm text ≡ rules_of realm (said_lines lines)
unfolding rules_in
text_rules realm text lines is = ap (λ (ls : List Line). rules_of realm (said_lines ls)) (sym is)

same_rules : (rules lines : List AclLine) (r s : Result (List AclLine) ℕ) → s ≡ r → r ≡ Ok rules → s ≡ Ok lines
    → AnswersRules lines (Ok rules)
unfolding AnswersRules
same_rules rules lines r s same is has = cc

not_fault : (number : ℕ) (rules : List AclLine) (r s : Result (List AclLine) ℕ) → s ≡ r → r ≡ Ok rules → s ≡ Err number
    → AnswersFault number (Ok rules)
unfolding AnswersFault
not_fault number rules r s same is has = absurd (cc)

-- what a reader of any rules says of its fault
abbrev Refuses : Type 0 → AclFault → Result (List AclLine) ℕ → Type 0
Refuses A fault r = (number : ℕ) → ◌≡◌ {A = Result A AclFault} (Err fault) (Err (BadAcl number)) → r ≡ Err number

not_rules : (A : Type 0) (lines : List AclLine) (r s : Result (List AclLine) ℕ) (fault : AclFault) → s ≡ r
    → Refuses A fault r → s ≡ Ok lines → AnswersRules lines (Err fault)
unfolding AnswersRules
not_rules A lines r s MemoryOut same bad has = tt
not_rules A lines r s (BadAcl number) same bad has = let is = bad number refl in absurd (cc)

same_fault : (A : Type 0) (number : ℕ) (r s : Result (List AclLine) ℕ) (fault : AclFault) → s ≡ r → Refuses A fault r
    → s ≡ Err number → AnswersFault number (Err fault)
unfolding AnswersFault
same_fault A number r s MemoryOut same bad has = tt
same_fault A number r s (BadAcl line) same bad has = let is = bad line refl in cc

pub read_rules-requires : goal.read_rules-requires
read_rules-requires c =
    All-same IsNumbered c.deref.result.now (lines_of c.args.text.now) (c.deref.ensures.value ∙ c.in-Ok.ensures)
    (all_numbered c.args.text.now c.requires)

pub returns-in-Err-clause-only : goal.returns-in-Err-clause-only
unfolding AnswersRules
returns-in-Err-clause-only c = λ lines is. tt

pub returns-in-Err-clause-only_bad : goal.returns-in-Err-clause-only_bad
unfolding AnswersFault
returns-in-Err-clause-only_bad c = λ number is. tt

pub returns-in-Ok-read_rules-clause-only : goal.returns-in-Ok-read_rules-clause-only
returns-in-Ok-read_rules-clause-only c = λ lines is.
    same_rules c.in-Ok-read_rules.lines.items lines _ _
    (text_rules c.args.realm.now c.args.text.now c.deref.result.now (c.deref.ensures.value ∙ c.in-Ok.ensures))
    c.in-Ok-read_rules.ensures.ok is

pub returns-in-Ok-read_rules-clause-only_bad : goal.returns-in-Ok-read_rules-clause-only_bad
returns-in-Ok-read_rules-clause-only_bad c = λ number is.
    not_fault number c.in-Ok-read_rules.lines.items _ _
    (text_rules c.args.realm.now c.args.text.now c.deref.result.now (c.deref.ensures.value ∙ c.in-Ok.ensures))
    c.in-Ok-read_rules.ensures.ok is

pub returns-clause-only : goal.returns-clause-only
returns-clause-only c = λ lines is.
    not_rules _ lines _ _ c.in-Err-read_rules.fault
    (text_rules c.args.realm.now c.args.text.now c.deref.result.now (c.deref.ensures.value ∙ c.in-Ok.ensures))
    c.in-Err-read_rules.ensures.bad is

pub returns-clause-only_bad : goal.returns-clause-only_bad
returns-clause-only_bad c = λ number is.
    same_fault _ number _ _ c.in-Err-read_rules.fault
    (text_rules c.args.realm.now c.args.text.now c.deref.result.now (c.deref.ensures.value ∙ c.in-Ok.ensures))
    c.in-Err-read_rules.ensures.bad is

pub invariant_of-result : goal.invariant_of-result
invariant_of-result c =
    rules_fit c.args.realm.now (said_lines c.deref.result.now) c.in-Ok-read_rules.lines.items
    c.in-Ok-read_rules.ensures.ok
