-- What the replies of a connection keep, step by step.
use Rattle.std.proofs.Common.{refl, ◌∙◌}
use Rattle.clients.specs.declared.reply_side.ReplySide.{ReplySide}
use Rattle.clients.specs.ReplySide.{StaysWritten}

pub stays_written-same : (side : ReplySide) → StaysWritten side side
stays_written-same side = record { outbox = refl; replies = refl; state = refl; ready = λ is. is }

pub stays_written-join : (first second third : ReplySide) → StaysWritten first second → StaysWritten second third → StaysWritten first third
stays_written-join first second third stays then = record {
  outbox = then.outbox ∙ stays.outbox;
  replies = then.replies ∙ stays.replies;
  state = then.state ∙ stays.state;
  ready = λ is. then.ready (stays.ready is);
}
