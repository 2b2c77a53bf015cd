use Rattle.std.proofs.Common.{◌≡◌, [], length}
use Rattle.clients.specs.Reader.{owed, Offers}
use Rattle.clients.proofs.reading.RequestReader.offer_all.Given as goal

abbrev pub invariant-loop-self : goal.invariant-loop-self
invariant-loop-self g l = record {
  offers : Offers l.initial.self l.self (g.O.Outlet.offered l.initial.outlet) (g.O.Outlet.offered l.outlet);
  done : l.self.is_done ≡ l.initial.self.is_done;
  same : g.O.Outlet.is_same l.initial.outlet l.outlet;
}

abbrev pub decreases-loop-self : goal.decreases-loop-self
decreases-loop-self g l = length (owed l.self [])
