use Rattle.std.proofs.Common.{◌≡◌}
use Rattle.std.specs.Io.KnownBytes.{Keeps}
use Rattle.clients.proofs.block.read_some.Given as goal

abbrev pub invariant-loop : goal.invariant-loop
invariant-loop g l = record {
  input : l.input ≡ l.initial.input;
  kept : Keeps (g.S.Read.remaining l.initial.stream) (g.S.Read.remaining l.stream);
}
