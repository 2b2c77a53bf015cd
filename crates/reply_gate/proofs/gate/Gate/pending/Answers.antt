use Rattle.std.proofs.Common.{arith}
use Rattle.reply_gate.specs.Parts.{all_bytes}
use Rattle.reply_gate.proofs.HeldLemmas.{first_pending}
use Rattle.reply_gate.proofs.gate.Gate.pending.Goals as goal

pub returns-clause-first : goal.returns-clause-first
returns-clause-first c =
    rw (← c.self.view_is)
    (first_pending c.self.inside.pending c.min.result (all_bytes c.self.inside.parts) c.first-first.result.now c.first-first.ensures.first (omega (arith, c.min.ensures)) (omega (arith, c.min.ensures)))
