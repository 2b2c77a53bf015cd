use Rattle.std.proofs.Common.{sym, subst}
use Rattle.standby.specs.Following.{Follows}
use Rattle.standby.proofs.newcomer.Newcomer.into_standby.Goals as goal

pub returns-clause-stands : goal.returns-clause-stands
returns-clause-stands g c = record {
  follows = subst (Follows (g.E.Durable.contents c.args.self.engine) (g.K.Keyspace.table c.args.self.keyspace) c.args.self.heap) (sym c.new.ensures.items) c.requires.follows;
  sound = c.requires.sound;
  durable = c.requires.durable;
}
