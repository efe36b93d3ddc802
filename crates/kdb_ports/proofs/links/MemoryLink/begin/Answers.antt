use Rattle.kdb_ports.proofs.links.MemoryLink.begin.Goals as goal

pub returns-clause-fails : goal.returns-clause-fails
returns-clause-fails c = rw (← c.self.view_is) c.contains-fails.ensures
