use Rattle.primary.proofs.SettledLemmas.{nothing-in-hand}
use Rattle.primary.proofs.back.Back.is_room_coming.Goals as goal

pub returns : goal.returns
returns g c =
    let b = c.args.self.now in
    nothing-in-hand (g.E.Durable.contents b.committer.engine) b.work.items b.committer.aside.items c.is_empty-is_queued.result c.has_aside.result c.has_gap.result
    c.is_empty-is_queued.ensures c.has_aside.ensures c.has_gap.ensures.some
