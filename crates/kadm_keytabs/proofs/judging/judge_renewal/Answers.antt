-- The command is `cpw -randkey`, which a line can give.
use Rattle.std.proofs.Common.{subst, sym}
use Rattle.std.specs.Prelude.{ℕ, List}
use Rattle.kadm_commands.specs.Commands.{IsOwnName}
use Rattle.kadm_keytabs.proofs.Judged.{decided_so, is_judged_renewal, is_renewal}
use Rattle.kadm_keytabs.specs.Renewals.{wanted}
use Rattle.kadm_keytabs.proofs.judging.judge_renewal.Goals as goal

pub ready_renewal-requires-clause-name : goal.ready_renewal-requires-clause-name
ready_renewal-requires-clause-name c =
    subst (λ (realm : List ℕ). IsOwnName realm c.args.name.now) (sym (search)) c.requires.name

pub judge_ready-judged-requires-clause-command : goal.judge_ready-judged-requires-clause-command
judge_ready-judged-requires-clause-command c =
    is_renewal c.args.primary.now.kept.realm c.args.name.now c.args.etypes.now c.in_ok-ready.ready.command
    c.in_ok-ready.ensures c.requires.name c.requires.etypes

pub judge_ready-judged-requires-clause-judged : goal.judge_ready-judged-requires-clause-judged
judge_ready-judged-requires-clause-judged c = is_judged_renewal c.args.name.now c.args.etypes.now c.in_ok-ready.ready.command
    c.in_ok-ready.ensures

pub returns-clause-decided : goal.returns-clause-decided
returns-clause-decided c =
    decided_so c.judge_ready-judged.result c.args.primary.now (wanted c.args.client.now c.args.name.now c.args.etypes.now)
    c.args.now c.args.random.now c.in_ok-ready.ready.command
    c.in_ok-ready.ensures c.judge_ready-judged.ensures.decided
