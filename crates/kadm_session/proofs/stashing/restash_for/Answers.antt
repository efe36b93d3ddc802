use Rattle.std.proofs.Common.{refl}
use Rattle.kadm_commands.specs.declared.commands.Command.TheVariants.{Stash}
use Rattle.kadm_session.proofs.Leaving.{may_still}
use Rattle.kadm_session.proofs.StashAsked.{stash_crash, stash_performs, stash_stands}
use Rattle.kadm_session.proofs.stashing.restash_for.Goals as goal
use Rattle.kadm_session.specs.Steps.{ask_at}
use Rattle.kdb_histories.specs.Calls.{Perform}
use Rattle.kdb_histories.specs.Seen.{seen}
use Rattle.primary_core.specs.Opened.{place_of}

pub returns-in-Ok-stash_reply-clause-performs : goal.returns-in-Ok-stash_reply-clause-performs
returns-in-Ok-stash_reply-clause-performs g c = λ s random has.
    stash_performs c.args.primary.now c.perform_stash.new.self s c.args.client.now c.args.now random
    c.perform_stash.result c.in-Ok-perform_stash.reply c.in-Ok-stash_reply.printed.reply
    c.requires.client c.in-Ok-perform_stash.is c.in-Ok-stash_reply.ensures.reply
    (c.perform_stash.ensures.does s random c.requires.whole has)

pub returns-in-Ok-stash_reply-clause-stands : goal.returns-in-Ok-stash_reply-clause-stands
returns-in-Ok-stash_reply-clause-stands g c = λ s random has.
    stash_stands c.args.primary.now c.perform_stash.new.self s c.args.client.now c.args.now random
    c.perform_stash.result c.in-Ok-perform_stash.reply
    c.requires.client c.in-Ok-perform_stash.is (c.perform_stash.ensures.does s random c.requires.whole has)
    (c.perform_stash.ensures.state s has)

pub returns-in-Ok-stash_reply-clause-crash : goal.returns-in-Ok-stash_reply-clause-crash
returns-in-Ok-stash_reply-clause-crash g c = λ s random has.
    stash_crash g.D.Disk c.args.disk.now c.perform_stash.new.disk c.args.primary.now s c.args.client.now c.args.now
    random c.requires.client (c.perform_stash.ensures.crash s random c.requires.whole has)

pub returns-in-Err-stash_reply-clause-crash : goal.returns-in-Err-stash_reply-clause-crash
returns-in-Err-stash_reply-clause-crash g c = λ s random has.
    stash_crash g.D.Disk c.args.disk.now c.perform_stash.new.disk c.args.primary.now s c.args.client.now c.args.now
    random c.requires.client (c.perform_stash.ensures.crash s random c.requires.whole has)

pub returns-in-Err-perform_stash-clause-crash : goal.returns-in-Err-perform_stash-clause-crash
returns-in-Err-perform_stash-clause-crash g c = λ s random has.
    stash_crash g.D.Disk c.args.disk.now c.perform_stash.new.disk c.args.primary.now s c.args.client.now c.args.now
    random c.requires.client (c.perform_stash.ensures.crash s random c.requires.whole has)

pub returns-in-Err-clause-crash : goal.returns-in-Err-clause-crash
returns-in-Err-clause-crash g c = λ s random has.
    let p = place_of c.args.primary.now in
    may_still g.D.Disk c.args.disk.now c.args.disk.now p s (Perform (ask_at Stash c.args.now random (seen p s))) refl
    (λ told. c.what_is_kept_is_recovered.ensures c.args.primary.now.kept (c.requires.on told))
