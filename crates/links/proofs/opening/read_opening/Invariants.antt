use Rattle.std.proofs.Common.{[]}
use Rattle.links.proofs.FirstPieces.{Came}
use Rattle.links.proofs.opening.read_opening.Given as goal

-- nothing is whole yet
abbrev pub invariant-loop : goal.invariant-loop
invariant-loop g l = Came (g.I.Read.remaining l.fn.from) (g.I.Read.remaining l.from) [] l.decoder
