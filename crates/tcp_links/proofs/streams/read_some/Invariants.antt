use Rattle.std.specs.Io.KnownBytes.{Keeps}
use Rattle.tcp_links.proofs.streams.read_some.Given as goal

abbrev pub invariant-loop : goal.invariant-loop
invariant-loop g l = Keeps (g.S.Read.remaining l.fn.stream) (g.S.Read.remaining l.stream)
