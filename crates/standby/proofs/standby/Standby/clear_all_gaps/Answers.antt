use Rattle.std.proofs.Common.{Ok, refl, ap, subst, ◌∙◌}
use Rattle.standby.specs.Following.{Follows}
use Rattle.standby.proofs.OpenedNewcomer.{ClearsGaps-none, ClearsGaps-then}
use Rattle.standby.proofs.standby.Standby.clear_all_gaps.Goals as goal

pub loop-init : goal.loop-init
loop-init g c = record { stands = c.requires.stands; none = c.requires.none; cleared = ClearsGaps-none (g.E.Durable.contents c.args.self.now.engine); copying = refl }

pub clear_gap-requires-clause-follows : goal.clear_gap-requires-clause-follows
clear_gap-requires-clause-follows g c =
    let node = c.loop.self in
    subst (Follows (g.E.Durable.contents node.engine) (g.K.Keyspace.table node.keyspace) node.heap) c.loop.invariant.none c.loop.invariant.stands.follows

pub clear_gap-requires-clause-sound : goal.clear_gap-requires-clause-sound
clear_gap-requires-clause-sound g c = c.loop.invariant.stands.sound

pub clear_gap-requires-clause-durable : goal.clear_gap-requires-clause-durable
clear_gap-requires-clause-durable g c = c.loop.invariant.stands.durable

pub loop-preserved : goal.loop-preserved
loop-preserved g c =
    let told = c.in_ok-clear_gap.ensures in
    let cleared = told.cleared (ap Ok c.if-branch.true) in
    record {
      stands = record { follows = told.tidies.still (λ is. cc); sound = (told.tidies.sound (λ is. cc)).0; durable = told.tidies.durable (λ is. cc) };
      none = told.tidies.none;
      cleared = ClearsGaps-then (g.E.Durable.contents c.args.self.now.engine) (g.E.Durable.contents c.loop.self.engine) (g.E.Durable.contents c.clear_gap.new.self.engine) cleared.entries
          c.loop.invariant.cleared cleared.clears;
      copying = told.copying ∙ c.loop.invariant.copying;
    }
