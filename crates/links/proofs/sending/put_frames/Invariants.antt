use Rattle.std.proofs.Common.{◌≡◌, ◌+◌, ◌≤◌, ◌++◌}
use Rattle.standby_stream.specs.Sent.{Grows, between}
use Rattle.links.specs.Sending.{frames_text}
use Rattle.links.proofs.SentRounds.{Put}
use Rattle.links.proofs.sending.put_frames.Given as goal

abbrev pub invariant-loop : goal.invariant-loop
invariant-loop g l = record {
  put : l.out.items ≡ l.initial.out.items ++ frames_text (between l.initial.outgoing.link.next l.outgoing.link.next l.outgoing.link.kept);
  many : l.outgoing.link.next ≡ l.initial.outgoing.link.next + l.counter;
  rises : l.initial.outgoing.link.next ≤ l.outgoing.link.next;
  grows : Grows l.initial.outgoing.link.kept l.outgoing.link.kept;
  sends : Put g.I.Inlet.take_gives l.initial.outgoing.link l.initial.groups l.initial.out.items l.outgoing.link l.groups l.out.items;
}
