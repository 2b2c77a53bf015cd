use Rattle.std.proofs.Common.{inl}
use Rattle.serving.proofs.open_connections.OpenConnections.admit.Goals as goal

pub returns-in-Ok-clause-admits : goal.returns-in-Ok-clause-admits
returns-in-Ok-clause-admits g c = inl (record {
  connection = c.in-Ok.connection;
  opened = rw c.in-Ok.ensures.connection c.in-Ok.ensures.opened;
  put = c.serve_again.ensures.listed c.open.new.front.sequencer;
  is_short = c.serve_again.ensures.short;
  filling = c.serve_again.ensures.filling;
})
