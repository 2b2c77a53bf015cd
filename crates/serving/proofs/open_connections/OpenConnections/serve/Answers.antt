use Rattle.std.proofs.Common.{subst, sym}
use Rattle.serving.specs.Callers.{answers_of}
use Rattle.serving.specs.Visiting.{HeedsCalls, floor_of}
use Rattle.serving.specs.declared.callers.Callers.{Callers}
use Rattle.serving.proofs.open_connections.OpenConnections.serve.Goals as goal

pub returns-clause-visits : goal.returns-clause-visits
returns-clause-visits g c =
    let listed = c.list_called-called in
    let s = c.args.front.now.sequencer in (
      floor_of listed.new.self s,
      subst (λ (callers : Callers). HeedsCalls (answers_of c.args.self.now.callers.answers) (answers_of callers.answers) (floor_of c.args.self.now s) (floor_of listed.new.self s))
          (sym c.serve_listed-served.ensures.callers) (listed.ensures.heeds s),
      rw c.close.ensures at c.serve_listed-served.ensures.visits,
    )
