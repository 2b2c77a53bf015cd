use Rattle.std.proofs.Common.{◌≡◌, List, ◌++◌, length}
use Rattle.std.specs.Vec.Iter.{into_iter_items, into_iter_len}
use Rattle.standby.specs.Newcomers.{AwaitsCopy}
use Rattle.stream_codec.specs.declared.message.Message.{Message}
use Rattle.stream_codec.specs.Scanning.{sent_of_all}
use Rattle.links.specs.Copying.{TakesParts, newcomer}
use Rattle.links.proofs.copying.take_all.Given as goal

abbrev pub invariant-loop-message : goal.invariant-loop-message
invariant-loop-message g l =
    AwaitsCopy g.E.Durable.device g.E.Durable.contents g.E.Durable.is_faulted g.E.Durable.staged g.K.Keyspace.table l.node
    × (l.to ≡ l.initial.to)
    × (into_iter_len l.coming ≡ length (into_iter_items l.coming))
    × ((yielded : List Message) × (l.fn.messages.items ≡ yielded ++ into_iter_items l.coming)
    × TakesParts (newcomer g.E.Durable.device g.E.Durable.contents g.E.Durable.is_faulted g.E.Durable.staged g.K.Keyspace.table) l.initial.node (sent_of_all yielded) l.node)

abbrev pub decreases-loop-message : goal.decreases-loop-message
decreases-loop-message g l = into_iter_len l.coming
