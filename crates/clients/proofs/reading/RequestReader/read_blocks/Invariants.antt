use Rattle.std.proofs.Common.{◌≡◌, [], false}
use Rattle.std.specs.Io.KnownBytes.{IsAtEnd}
use Rattle.clients.specs.declared.reading.Progress.{Progress}
use Rattle.clients.specs.Reader.{owed, Reads}
use Rattle.clients.proofs.reading.RequestReader.read_blocks.Given as goal

abbrev pub invariant-loop : goal.invariant-loop
invariant-loop g l = record {
  reads : Reads (g.S.Read.remaining l.initial.stream) (g.S.Read.remaining l.stream) l.initial.self l.self (g.O.Outlet.offered l.initial.outlet) (g.O.Outlet.offered l.outlet);
  all : (l.progress ≡ Progress.Full → ⊥) → owed l.self [] ≡ [];
  end : l.progress ≡ Progress.Ended → l.self.inbound.is_closed ≡ false → IsAtEnd (g.S.Read.remaining l.stream);
  done : l.self.is_done ≡ l.initial.self.is_done;
  same : g.O.Outlet.is_same l.initial.outlet l.outlet;
}
