use Rattle.connections.specs.declared.connections.Connections.{Connections}
use Rattle.connections.proofs.SeatLemmas.{sessions-start}
use Rattle.connections.proofs.connections.Connections.new.Goals as goal

pub returns-clause-stands : goal.returns-clause-stands
returns-clause-stands c = λ transcript told.
    let now : Connections = record { lobby = c.in_ok-new.field-0; connections = c.new-2.result; replies = c.in_ok-new-2.field-0 } in
    sessions-start now transcript c.in_ok-new.ensures.all_free c.new-2.ensures.items c.in_ok-new-2.ensures told
