use Rattle.std.proofs.Common.{sym, subst}
use Rattle.links.specs.Opening.{HearsLink, silent, unawaited}
use Rattle.links.specs.declared.receiver.AckReceiver.{AckReceiver}
use Rattle.links.proofs.opening.open_to_newcomer.Goals as goal

pub returns-in-Err-clause-refused : goal.returns-in-Err-clause-refused
returns-in-Err-clause-refused c = subst (λ (receiver : AckReceiver). HearsLink c.args.receiver.now receiver) (sym c.in-Err.ensures.refused) (silent _)

pub returns-in-Err-await_copy-clause-refused : goal.returns-in-Err-await_copy-clause-refused
returns-in-Err-await_copy-clause-refused c = unawaited _ _ c.args.wanted.now c.in_default.ensures.heard
