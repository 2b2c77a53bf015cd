use Rattle.std.proofs.Common.{refl}
use Rattle.std.proofs.lemmas.Result.{on_ok_weaker}
use Rattle.clients.proofs.ReaderLemmas.{reads-noted}
use Rattle.clients.proofs.reading.RequestReader.read.Goals as goal

pub returns-then-is_last-clause-reads : goal.returns-then-is_last-clause-reads
returns-then-is_last-clause-reads g c =
    on_ok_weaker c.read_blocks-progress.result (reads-noted (g.S.Read.remaining c.args.stream.now) (g.S.Read.remaining c.read_blocks-progress.new.stream) c.args.self.now c.read_blocks-progress.new.self _
    (g.O.Outlet.offered c.args.outlet.now) (g.O.Outlet.offered c.read_blocks-progress.new.outlet) refl refl) c.read_blocks-progress.ensures.reads
