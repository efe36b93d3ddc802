use Rattle.std.specs.Prelude.{option_map}
use Rattle.primary_core.proofs.Decisions.{is_decided, is_pointed, may_be_made, of_command}
use Rattle.primary_core.proofs.primary.Primary.decide.Goals as goal
use Rattle.primary_core.specs.Opened.{command_ask}

pub returns-then-is_master_command-clause-decided : goal.returns-then-is_master_command-clause-decided
returns-then-is_master_command-clause-decided c = λ whole.
    is_decided c.args.self.now (command_ask c.args.client.now (option_map (λ acl. acl.now) c.args.acl)
    c.args.ready.now.command c.args.now c.args.random.now) c.args.now c.decide_masters.result
    (of_command c.args.self.now c.args.client.now (option_map (λ acl. acl.now) c.args.acl) c.command-command.result.now
    c.args.ready.now.command c.args.now c.args.random.now c.decide_masters.result c.command-command.ensures.value
    c.decide_masters.ensures.decided)

pub returns-then-is_master_command-clause-may : goal.returns-then-is_master_command-clause-may
returns-then-is_master_command-clause-may c = may_be_made c.args.self.now
    (command_ask c.args.client.now (option_map (λ acl. acl.now) c.args.acl) c.args.ready.now.command c.args.now
    c.args.random.now) c.args.now c.decide_masters.result
    (of_command c.args.self.now c.args.client.now (option_map (λ acl. acl.now) c.args.acl) c.command-command.result.now
    c.args.ready.now.command c.args.now c.args.random.now c.decide_masters.result c.command-command.ensures.value
    c.decide_masters.ensures.decided)

pub returns-then-is_master_command-clause-point : goal.returns-then-is_master_command-clause-point
returns-then-is_master_command-clause-point c = is_pointed c.args.self.now
    (command_ask c.args.client.now (option_map (λ acl. acl.now) c.args.acl) c.args.ready.now.command c.args.now
    c.args.random.now) c.args.now c.decide_masters.result
    (of_command c.args.self.now c.args.client.now (option_map (λ acl. acl.now) c.args.acl) c.command-command.result.now
    c.args.ready.now.command c.args.now c.args.random.now c.decide_masters.result c.command-command.ensures.value
    c.decide_masters.ensures.decided)

pub returns-clause-decided : goal.returns-clause-decided
returns-clause-decided c = λ whole. is_decided c.args.self.now
    (command_ask c.args.client.now (option_map (λ acl. acl.now) c.args.acl) c.args.ready.now.command c.args.now
    c.args.random.now) c.args.now c.decide_rows.result c.decide_rows.ensures.decided

pub returns-clause-may : goal.returns-clause-may
returns-clause-may c = may_be_made c.args.self.now
    (command_ask c.args.client.now (option_map (λ acl. acl.now) c.args.acl) c.args.ready.now.command c.args.now
    c.args.random.now) c.args.now c.decide_rows.result c.decide_rows.ensures.decided

pub returns-clause-point : goal.returns-clause-point
returns-clause-point c = is_pointed c.args.self.now
    (command_ask c.args.client.now (option_map (λ acl. acl.now) c.args.acl) c.args.ready.now.command c.args.now
    c.args.random.now) c.args.now c.decide_rows.result c.decide_rows.ensures.decided
