use Rattle.reply_gate.proofs.GrowsLemmas.{grows-text}
use Rattle.reply_gate.proofs.WovenLemmas.{text-written}
use Rattle.std.proofs.Common.{refl}
use Rattle.reply_gate.proofs.parts.Parts.put_bytes.Goals as goal

pub invariant_of-self : goal.invariant_of-self
invariant_of-self c = record { woven = (text-written _ _ _ _ _ _ _ c.args.self.now.woven c.extend_from_slice.ensures.ok c.extend_from_slice.ensures.err).0 }

pub returns-clause-ok : goal.returns-clause-ok
returns-clause-ok c = (text-written _ _ _ _ _ _ _ c.args.self.now.woven c.extend_from_slice.ensures.ok c.extend_from_slice.ensures.err).1

pub returns-clause-grew : goal.returns-clause-grew
returns-clause-grew c = grows-text _ _ (text-written _ _ _ _ _ _ _ c.args.self.now.woven c.extend_from_slice.ensures.ok c.extend_from_slice.ensures.err).2 refl
