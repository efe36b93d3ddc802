-- The command is `extract`, and what is answered to it are the keys.
use Rattle.std.proofs.Common.{ap, subst, sym, ◌∙◌}
use Rattle.std.specs.Prelude.{ℕ, List, None}
use Rattle.kadm_commands.specs.Commands.{IsOwnName}
use Rattle.kadm_commands.specs.declared.commands.Command.TheVariants as command
use Rattle.kdb_histories.specs.Seen.{seen}
use Rattle.primary_core.specs.Deciding.{change_of, reply_of}
use Rattle.primary_core.specs.Opened.{IsDecided, command_ask, place_of}
use Rattle.primary_core.specs.declared.decided.Decided.{Decided}
use Rattle.kadm_keytabs.proofs.Extracting.{is_extract, keys_answered}
use Rattle.kadm_keytabs.proofs.adding.keys_told.Goals as goal

pub prepare-requires : goal.prepare-requires
prepare-requires c =
    is_extract c.as_slice.result.now c.args.name.now (command.Extract c.in_ok-copy.copy)
    (ap command.Extract c.in_ok-copy.ensures)
    (subst (λ (realm : List ℕ). IsOwnName realm c.args.name.now) (sym (search)) c.requires.name)

pub decide-requires-clause-command : goal.decide-requires-clause-command
decide-requires-clause-command c =
    is_extract c.args.primary.now.kept.realm c.args.name.now c.in_ok-ready.ready.command
    (c.in_ok-ready.ensures.command ∙ ap command.Extract c.in_ok-copy.ensures) c.requires.name

pub returns-in-Ok-Answer : goal.returns-in-Ok-Answer
returns-in-Ok-Answer c = λ s has.
    let ask = command_ask c.args.name.now None c.in_ok-ready.ready.command c.args.moment c.deref.result.now in
    keys_answered c.keys_in.result (seen (place_of c.args.primary.now) s) c.args.name.now c.args.name.now c.args.moment
    c.deref.result.now c.in_ok-ready.ready.command c.in-Ok-Answer.reply _
    (c.in_ok-ready.ensures.command ∙ ap command.Extract c.in_ok-copy.ensures)
    (c.decisions_are_asked.ensures.answers c.args.primary.now ask c.in-Ok-Answer.reply None s
    (subst (λ (d : Decided). IsDecided c.args.primary.now ask (reply_of d) (change_of d)) c.in-Ok-Answer.field-0-is
    (c.in-Ok-Answer.ensures.decided c.requires.whole)) has)
    c.in-Ok-Answer.reply-is c.keys_in.ensures
