use Rattle.std.specs.Io.KnownBytes.{Keeps}
use Rattle.links.proofs.reading.read_some.Given as goal

abbrev pub invariant-loop : goal.invariant-loop
invariant-loop g l = Keeps (g.I.Read.remaining l.initial.from) (g.I.Read.remaining l.from)
