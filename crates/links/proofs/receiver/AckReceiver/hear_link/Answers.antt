use Rattle.std.proofs.Common.{rules}
use Rattle.links.proofs.Hearing.{HasHeard-all, HasHeard-lost, HasHeard-stopped, SoFar-begun, SoFar-more}
use Rattle.links.proofs.receiver.AckReceiver.hear_link.Goals as goal

pub returns-in_default-clause-heard : goal.returns-in_default-clause-heard
returns-in_default-clause-heard g c = HasHeard-all _ _ _ _ _ _ (SoFar-begun _ c.args.decoder _)

pub loop-init : goal.loop-init
loop-init g c = record { epoch = search rules; stays = search rules; so_far = SoFar-begun _ _ _ }

pub returns-in_default-read_messages-clause-heard : goal.returns-in_default-read_messages-clause-heard
returns-in_default-read_messages-clause-heard g c =
    let ended = c.read_messages.ensures.ended c.in_default-read_messages.is in
    HasHeard-lost _ _ _ _ _ _ _ ended.1.0 c.loop.invariant.so_far ended.1.1

pub returns-in-Err-clause-heard : goal.returns-in-Err-clause-heard
returns-in-Err-clause-heard g c = HasHeard-stopped _ _ _ _ _ _ _ _ _ _ c.loop.invariant.so_far c.in-Some.ensures.read c.in-Err.ensures.refused

pub returns-then-is_broken-clause-heard : goal.returns-then-is_broken-clause-heard
returns-then-is_broken-clause-heard g c =
    HasHeard-all _ _ _ _ _ _ (SoFar-more _ _ _ _ _ _ _ _ _ _ c.loop.invariant.so_far c.in-Some.ensures.read c.in-Ok-hear_all.ensures.all)

pub loop-preserved : goal.loop-preserved
loop-preserved g c = record {
  epoch = search rules;
  stays = search rules;
  so_far = SoFar-more _ _ _ _ _ _ _ _ _ _ c.loop.invariant.so_far c.in-Some.ensures.read c.in-Ok-hear_all.ensures.all;
}

pub returns-clause-heard : goal.returns-clause-heard
returns-clause-heard g c = HasHeard-all _ _ _ _ _ _ c.loop.invariant.so_far
