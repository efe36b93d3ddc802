use Rattle.primary_core.proofs.primary.Primary.masters_decided.Goals as goal

pub decide_master_change-requires : goal.decide_master_change-requires
decide_master_change-requires c = (c.requires c.in-Change.change c.in-Change.is).spelled
