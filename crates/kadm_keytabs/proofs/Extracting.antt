-- What a state answers to `extract`.
use Rattle.std.proofs.Common.{◌≡◌, ℕ, Bool, true, false, List, [], ◌∷◌, refl, sym, ap, ◌∙◌, subst}
use Rattle.std.specs.Prelude.{Option, Some, None, Result, Ok, Err, IfOk, is_none, if◌then◌else◌, ◌||◌}
use Rattle.kadm_commands.specs.Commands.{IsCommand, IsOwnName}
use Rattle.kadm_commands.specs.declared.commands.Command.{Command}
use Rattle.kadm_commands.specs.declared.commands.Command.TheVariants as command
use Rattle.kadm_commands.specs.declared.replies.Reply.{Reply}
use Rattle.kadm_commands.specs.declared.replies.Reply.TheVariants as reply
use Rattle.kadm_keytabs.specs.Additions.{keys_found, keys_told, reply_with}
use Rattle.kdb_base.specs.Moment.{Moment}
use Rattle.kdb_base.specs.declared.extracts.Extract.{Extract}
use Rattle.kdb_base.specs.declared.outcomes.Refusal.{Refusal}
use Rattle.kdb_base.specs.declared.outcomes.Refusal.TheVariants.{Protected, UnknownPrincipal}
use Rattle.kdb_histories.specs.Asks.{Answer, Replied, commanded, outcome}
use Rattle.kdb_histories.specs.Seen.{Seen, answer_at, due_at}
use Rattle.kdb_model.specs.Calls.{Call, call_of}
use Rattle.kdb_model.specs.Entries.{entry_of}
use Rattle.kdb_model.specs.Refusals.{bytes_put, causes_with, first, is_protected, named_in, refusal, target, when}
use Rattle.kdb_model.specs.Steps.{performed, reading_of, step, unless_refused}
use Rattle.kdb_plain.specs.declared.princs.PlainPrinc.{PlainPrinc}
use Rattle.kdb_plain.specs.declared.states.State.{State}
use Rattle.primary_core.specs.Deciding.{is_judged}
use Rattle.primary_core.specs.Opened.{command_ask}
use Rattle.princ_name.specs.Names.{NameParts}

-- by whether the name is protected, and the principal
abbrev refused_by : Bool → Option PlainPrinc → Option Refusal
refused_by true found = Some Protected
refused_by false None = Some UnknownPrincipal
refused_by false (Some q) = None

abbrev reply_for : State → Call → NameParts → Option Refusal → Option PlainPrinc → Reply
reply_for s call name None found = reading_of s call (command.Extract name) found
reply_for s call name (Some why) found = reply.Refused why

abbrev extract_call : NameParts → NameParts → Moment → List ℕ → Bool → Call
extract_call client name clock random due = call_of client None (command.Extract name) clock random due

-- of the causes only two can hold
refusal_is : (s : State) (client name : NameParts) (clock : Moment) (random : List ℕ) (due : Bool)
    → refusal s (extract_call client name clock random due)
    ≡ refused_by (is_protected s.realm name) (named_in s.princs name)
unfolding refusal causes_with first entry_of target bytes_put
refusal_is s client name clock random due = by (is_protected s.realm name) (named_in s.princs name)
  where
    by : (b : Bool) (found : Option PlainPrinc)
        → first (None ∷ None ∷ when (b || false) Protected ∷ None ∷ when (is_none found) UnknownPrincipal
        ∷ None ∷ None ∷ None ∷ None ∷ None ∷ None ∷ None ∷ None ∷ None ∷ None ∷ None ∷ None ∷ None ∷ None ∷ None ∷ [])
        ≡ refused_by b found
    by true found = refl
    by false None = refl
    by false (Some q) = refl

reply_is : (s : State) (client name : NameParts) (clock : Moment) (random : List ℕ) (due : Bool) (r : Option Refusal)
    → (unless_refused s (extract_call client name clock random due) r).reply
    ≡ reply_for s (extract_call client name clock random due) name r (named_in s.princs name)
unfolding unless_refused performed entry_of target
reply_is s client name clock random due None = refl
reply_is s client name clock random due (Some why) = refl

told_is : (s : State) (call : Call) (name : NameParts) (b : Bool) (found : Option PlainPrinc)
    → reply_for s call name (refused_by b found) found ≡ reply_with (if b then Err Protected else keys_found found)
unfolding reading_of
told_is s call name true found = refl
told_is s call name false None = refl
told_is s call name false (Some q) = refl

-- the keys, or why they are not told
pub extract_step : (s : State) (client name : NameParts) (clock : Moment) (random : List ℕ) (due : Bool)
    → (step s (extract_call client name clock random due)).reply ≡ reply_with (keys_told s name)
unfolding step
extract_step s client name clock random due =
    reply_is s client name clock random due (refusal s (extract_call client name clock random due))
    ∙ ap (λ (r : Option Refusal). reply_for s (extract_call client name clock random due) name r
    (named_in s.princs name)) (refusal_is s client name clock random due)
    ∙ told_is s (extract_call client name clock random due) name (is_protected s.realm name) (named_in s.princs name)

-- ---- which keys a reply has

abbrev told_in : Reply → Result (List Extract) Refusal
told_in (reply.Extracted keys) = Ok keys
told_in (reply.Refused why) = Err why
told_in other = Err Protected

told_back : (told : Result (List Extract) Refusal) → told_in (reply_with told) ≡ told
told_back (Ok keys) = refl
told_back (Err why) = refl

pub same_told : (a b : Result (List Extract) Refusal) → reply_with a ≡ reply_with b → a ≡ b
same_told a b e = sym (told_back a) ∙ ap told_in e ∙ told_back b

-- ---- as it is asked of a primary

replied_in : Answer → Reply
replied_in (Replied reply) = reply
replied_in other = reply.Refused Protected

extract_answer : (at : Seen) (client name : NameParts) (clock : Moment) (random : List ℕ) (cmd : Command)
    → cmd ≡ command.Extract name
    → answer_at (command_ask client None cmd clock random) at ≡ Replied (reply_with (keys_told at.state name))
unfolding outcome commanded
extract_answer at client name clock random cmd is =
    let ask = command_ask client None (command.Extract name) clock random in
    ap (λ (c : Command). answer_at (command_ask client None c clock random) at) is
    ∙ ap Replied (extract_step at.state client name clock random (due_at ask at))

-- what the primary answered are the keys
pub keys_answered : {E : Type 0} (result : Result (Result (List Extract) Refusal) E) (at : Seen)
    (client name : NameParts) (clock : Moment) (random : List ℕ) (cmd : Command) (reply given : Reply)
    → cmd ≡ command.Extract name → answer_at (command_ask client None cmd clock random) at ≡ Replied reply
    → given ≡ reply
    → IfOk result (λ told. given ≡ reply_with told) → IfOk result (λ told. told ≡ keys_told at.state name)
unfolding replied_in
keys_answered (Ok told) at client name clock random cmd reply given is answered same has =
    same_told told (keys_told at.state name)
    (sym has ∙ same ∙ ap replied_in (sym answered ∙ extract_answer at client name clock random cmd is))
keys_answered (Err e) at client name clock random cmd reply given is answered same has = tt

pub is_extract : (realm : List ℕ) (name : NameParts) (cmd : Command) → cmd ≡ command.Extract name → IsOwnName realm name
    → IsCommand realm cmd
unfolding IsCommand
is_extract realm name cmd is own = subst (IsCommand realm) (sym is) own

pub is_judged_extract : (name : NameParts) (cmd : Command) → cmd ≡ command.Extract name → is_judged cmd ≡ true
is_judged_extract name cmd is = ap is_judged is
