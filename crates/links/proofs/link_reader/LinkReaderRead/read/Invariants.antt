use Rattle.std.specs.Io.KnownBytes.{Keeps}
use Rattle.links.proofs.link_reader.LinkReaderRead.read.Given as goal

-- nothing was read
abbrev pub invariant-loop : goal.invariant-loop
invariant-loop g l = Keeps (g.S.Read.remaining l.fn.self.stream) (g.S.Read.remaining l.self.stream)
