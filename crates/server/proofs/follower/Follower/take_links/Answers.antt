use Rattle.server.proofs.FollowerLemmas.{stands-opened, stands-copied}
use Rattle.server.proofs.follower.Follower.take_links.Goals as goal
use Rattle.server.proofs.follower.Follower.take_links.Goals.{in-Standby, in-Newcomer+in_ok-take_copy-in-Newcomer+in-Ok}

pub follow-requires : goal.follow-requires
follow-requires g c = record {
  stands = elim c.match-self.branch [
    | in-Standby w ↦ stands-opened _ _ _ _ g.E.Durable.staged c.args.self _ _ c.requires w.in-Standby.is w.node-is
    | in-Newcomer+in_ok-take_copy-in-Newcomer+in-Ok w ↦ stands-copied _ _ _ _ _ _ _ w.in_ok-take_copy-in-Newcomer.ensures.stands w.in-Ok.ensures.node w.node-is
  ];
}
