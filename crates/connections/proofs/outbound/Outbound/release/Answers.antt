use Rattle.std.proofs.Common.{◌++◌, take, drop, sym, ap, ◌∙◌}
use Rattle.reply_gate.specs.Gate.{covered_bytes, is_first_covered, uncovered_rest}
use Rattle.connections.proofs.OutboundLemmas.{first_covered, gate-lets_out}
use Rattle.connections.proofs.outbound.Outbound.release.Goals as goal

pub returns : goal.returns
returns c = λ calls machine stands.
    let gate = c.args.self.now.gate in
    record {
      done = sym c.if-not-can_release.false ∙ c.can_release.ensures ∙ ap (λ seen. is_first_covered seen gate.replies) stands.seen
          ∙ first_covered machine.seen gate.replies machine.held stands.gate.held;
      out = λ did. record {
        made = stands.made;
        gate = gate-lets_out gate c.release.new.self machine stands.gate
            (c.release.ensures.pending ∙ ap (λ seen. gate.pending ++ take (covered_bytes seen gate.replies) gate.waiting) stands.seen)
            (c.release.ensures.waiting ∙ ap (λ seen. drop (covered_bytes seen gate.replies) gate.waiting) stands.seen)
            (c.release.ensures.replies ∙ ap (λ seen. uncovered_rest seen gate.replies) stands.seen);
        seen = stands.seen;
      };
      stays = λ did. cc;
    }
