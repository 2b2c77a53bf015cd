use Rattle.std.proofs.Common.{◌≡◌, length}
use Rattle.connections.specs.Session.{SeatsRefine, seats_of}
use Rattle.connections.proofs.OverLemmas.{NoneSeated}
use Rattle.connections.proofs.connections.end_all.Given as goal

abbrev pub invariant-loop-connection : goal.invariant-loop-connection
invariant-loop-connection l = record {
  seats : SeatsRefine l.initial.lobby.statuses (seats_of l.initial.connection-items) → SeatsRefine l.lobby.statuses (seats_of l.connection-items);
  none : NoneSeated (seats_of l.connection-items) l.connection-index;
  count : length l.connection-items ≡ length l.initial.connection-items;
}
