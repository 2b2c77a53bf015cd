use Rattle.primary.proofs.KeptLemmas.{keeps-told}
use Rattle.primary.proofs.front.Front.take_back.Goals as goal

pub returns-clause-stands : goal.returns-clause-stands
returns-clause-stands g c = rw (c.deref.ensures.value, c.deref-2.ensures.value) at c.accept_freed.ensures.stands

pub returns-clause-keeps : goal.returns-clause-keeps
returns-clause-keeps g c = λ low past contents items aside keeps.
    keeps-told low past contents items aside c.args.self.now.sequencer c.accept_freed.new.self c.accept_freed.ensures.back.after keeps
