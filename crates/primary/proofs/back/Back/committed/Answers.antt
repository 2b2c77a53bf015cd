use Rattle.primary.proofs.back.Back.committed.Goals as goal

pub committed-requires : goal.committed-requires
committed-requires g c = c.requires.1.durable
