use Rattle.std.proofs.Common.{refl}
use Rattle.std.proofs.lemmas.Result.{on_ok_weaker}
use Rattle.clients.proofs.ReaderLemmas.{reads-join-waited, reads-waited, waited-on-ok}
use Rattle.clients.proofs.reading.RequestReader.read_next.Goals as goal

pub returns-then-not-next-clause-reads : goal.returns-then-not-next-clause-reads
returns-then-not-next-clause-reads g c =
    waited-on-ok c.full.result (reads-waited (g.S.Read.remaining c.args.stream.now) c.args.self.now _ (g.O.Outlet.offered c.args.outlet.now) _ c.next.ensures.unchanged refl refl)

pub returns-then-not-next-clause-offers : goal.returns-then-not-next-clause-offers
returns-then-not-next-clause-offers g c =
    (reads-waited (g.S.Read.remaining c.args.stream.now) c.args.self.now _ (g.O.Outlet.offered c.args.outlet.now) _ c.next.ensures.unchanged refl refl).part

pub returns-clause-reads : goal.returns-clause-reads
returns-clause-reads g c =
    on_ok_weaker c.read_block.result
    (reads-join-waited (g.S.Read.remaining c.args.stream.now) (g.S.Read.remaining c.read_block.new.stream) c.args.self.now _ c.read_block.new.self
    (g.O.Outlet.offered c.args.outlet.now) (g.O.Outlet.offered c.next.new.outlet) (g.O.Outlet.offered c.read_block.new.outlet) c.next.ensures.unchanged refl refl)
    c.read_block.ensures.reads
