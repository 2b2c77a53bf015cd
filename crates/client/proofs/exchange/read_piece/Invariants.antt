use Rattle.std.specs.Io.KnownBytes.{Keeps}
use Rattle.client.proofs.exchange.read_piece.Given as goal

abbrev pub invariant-loop-try : goal.invariant-loop-try
invariant-loop-try g l = Keeps (g.R.Read.remaining l.initial.reader) (g.R.Read.remaining l.reader)
