use Rattle.std.proofs.Common.{◌≡◌, [], ◌++◌}
use Rattle.std.specs.Vec.Iter.{into_iter_items}
use Rattle.stream_codec.specs.Scanning.{sent_of_all}
use Rattle.standby.specs.Taking.{Stands}
use Rattle.links.specs.Serving.{HasRun, held}
use Rattle.links.proofs.following.answer_all.Given as goal

abbrev pub invariant-loop-message : goal.invariant-loop-message
invariant-loop-message g l = record {
  stands : Stands g.E.Durable.device g.E.Durable.contents g.E.Durable.is_faulted g.K.Keyspace.table l.node;
  emptied : l.out.items ≡ [];
  so_far : HasRun (held (g.E.Durable.contents l.initial.node.engine) (g.K.Keyspace.table l.initial.node.keyspace)) (sent_of_all l.yielded) (g.O.Write.contents l.initial.to)
      (held (g.E.Durable.contents l.node.engine) (g.K.Keyspace.table l.node.keyspace)) (g.O.Write.contents l.to);
  left : l.fn.messages.items ≡ l.yielded ++ into_iter_items l.message-iterator;
}
