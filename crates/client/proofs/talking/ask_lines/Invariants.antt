use Rattle.std.proofs.Common.{ℕ, List}
use Rattle.client.specs.Exchange.{Talks}
use Rattle.client.proofs.AskedLemmas.{AreSoFar}
use Rattle.client.proofs.talking.ask_lines.Given as goal

-- what was read so far is the requests that were sent
abbrev pub invariant-loop-line : goal.invariant-loop-line
invariant-loop-line g l = record {
  requests : List (List (List ℕ));
  so_far : AreSoFar (g.I.Read.remaining l.initial.input) (g.I.Read.remaining l.input) requests;
  talks : Talks requests l.failed (g.W.Write.contents l.initial.connection.writer) (g.W.Write.contents l.connection.writer) (g.R.Read.remaining l.initial.connection.reader) (g.R.Read.remaining l.connection.reader)
      l.initial.connection.parser l.connection.parser (g.O.Write.contents l.initial.out) (g.O.Write.contents l.out);
}
