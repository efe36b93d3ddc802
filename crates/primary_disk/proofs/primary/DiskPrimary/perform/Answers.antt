use Rattle.std.proofs.Common.{◌∙◌, ap, sym}
use Rattle.std.specs.Prelude.{option_map}
use Rattle.primary_disk.proofs.Stashing.{stash_line, stash_stops}
use Rattle.primary_disk.proofs.primary.DiskPrimary.perform.Goals as goal
use Rattle.primary_disk.specs.Held.{is_stash}

pub returns-then-is_stash-clause-does : goal.returns-then-is_stash-clause-does
returns-then-is_stash-clause-does g c =
    stash_line (record { disk = c.self.inside.disk; opened = c.self.inside.primary }) c.args.self.now
    (record { disk = c.perform_stash.new.disk; opened = c.perform_stash.new.self }) c.self.view_is
    c.args.ready.now.command (ap is_stash (sym c.command.ensures.value) ∙ sym c.is_stash.ensures ∙ c.if-is_stash.true)
    c.args.client.now (option_map (λ acl. acl.now) c.args.acl) c.args.now c.args.random.now c.perform_stash.result
    c.perform_stash.ensures.does c.perform_stash.ensures.state

pub returns-then-is_stash-clause-stops : goal.returns-then-is_stash-clause-stops
returns-then-is_stash-clause-stops g c =
    stash_stops g.D.Disk (record { disk = c.self.inside.disk; opened = c.self.inside.primary }) c.args.self.now
    (record { disk = c.perform_stash.new.disk; opened = c.perform_stash.new.self }) c.self.view_is
    c.args.ready.now.command (ap is_stash (sym c.command.ensures.value) ∙ sym c.is_stash.ensures ∙ c.if-is_stash.true)
    c.args.client.now (option_map (λ acl. acl.now) c.args.acl) c.args.now c.args.random.now c.perform_stash.result
    c.perform_stash.ensures.crash c.perform_stash.ensures.reach
