-- The command for new random keys, as it is judged.
use Rattle.std.proofs.Common.{◌≡◌, ◌∙◌, ℕ, true, List, sym, ap, subst}
use Rattle.std.specs.Prelude.{None, Result, Ok, Err, IfOk}
use Rattle.kadm_commands.specs.Commands.{AreEtypes, IsCommand, IsOwnName}
use Rattle.kadm_commands.specs.declared.commands.Command.{Command}
use Rattle.kadm_commands.specs.declared.replies.Reply.{Reply}
use Rattle.kadm_keytabs.specs.Additions.{addition_by, keys_told}
use Rattle.kadm_keytabs.specs.Renewals.{Wanted, answer_of, ask_for, keys_behind, refusal_in, refused_in, renew_command}
use Rattle.kadm_keytabs.specs.declared.answers.Answer.{Answer}
use Rattle.kadm_keytabs.specs.declared.judging.Judged.{Judged}
use Rattle.kdb_base.specs.Moment.{Moment}
use Rattle.kdb_base.specs.declared.keys.Etype.{Etype}
use Rattle.kdb_histories.specs.Asks.{Answer as Outcome, Replied}
use Rattle.kdb_histories.specs.Seen.{Seen, after_ask, answer_at, moment_at}
use Rattle.primary_core.specs.Deciding.{is_judged}
use Rattle.primary_core.specs.Opened.{IsDecided, Opened, command_ask}
use Rattle.princ_name.specs.Names.{NameParts}
use Rattle.stash_file.specs.Pieces.{Told}

pub is_renewal : (realm : List ℕ) (name : NameParts) (etypes : List Etype) (cmd : Command)
    → cmd ≡ renew_command name etypes → IsOwnName realm name → AreEtypes etypes → IsCommand realm cmd
unfolding IsCommand
is_renewal realm name etypes cmd is own are = subst (IsCommand realm) (sym is) (own, are)

pub is_judged_renewal : (name : NameParts) (etypes : List Etype) (cmd : Command) → cmd ≡ renew_command name etypes
    → is_judged cmd ≡ true
is_judged_renewal name etypes cmd is = ap is_judged is

pub decided_so : {E : Type 0} (result : Result Judged E) (o : Opened) (w : Wanted) (now : Moment) (random : List ℕ)
    (cmd : Command) → cmd ≡ renew_command w.name w.etypes
    → IfOk result (λ j. IsDecided o (command_ask w.client None cmd now random) j.reply j.change)
    → IfOk result (λ j. IsDecided o (ask_for w now random) j.reply j.change)
decided_so (Ok j) o w now random cmd is decided =
    subst (λ (c : Command). IsDecided o (command_ask w.client None c now random) j.reply j.change) is decided
decided_so (Err e) o w now random cmd is decided = tt

-- the answer that is made by the reply
pub answer_so : (answer : Answer) (at : Seen) (w : Wanted) (now : Moment) (random : List ℕ) (entries : List Told)
    (reply : Reply)
    → answer_at (ask_for w now random) at ≡ Replied reply
    → answer ≡ addition_by w.name (moment_at now at.place).secs entries
    (keys_behind (refused_in reply) (keys_told (after_ask (ask_for w now random) at).state w.name))
    → answer ≡ answer_of w now random at entries
answer_so answer at w now random entries reply answered is =
    is ∙ ap (λ (a : Outcome). addition_by w.name (moment_at now at.place).secs entries
    (keys_behind (refusal_in a) (keys_told (after_ask (ask_for w now random) at).state w.name))) (sym answered)

pub same_so : {T E : Type 0} (result : Result T E) (x y : T) → IfOk result (λ (t : T). t ≡ x) → x ≡ y
    → IfOk result (λ (t : T). t ≡ y)
same_so (Ok t) x y is same = is ∙ same
same_so (Err e) x y is same = tt
