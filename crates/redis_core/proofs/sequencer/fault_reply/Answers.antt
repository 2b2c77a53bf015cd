use Rattle.std.proofs.Common.{ap, inl, refl, subst, sym}
use Rattle.kv_types.specs.declared.item.ProtocolFault.{ProtocolFault}
use Rattle.kv_types.specs.declared.reply.Reply.{Error}
use Rattle.redis_core.specs.Turn.{MayTell}
use Rattle.redis_core.proofs.AnswersLemmas.{tells-text}
use Rattle.redis_core.proofs.sequencer.fault_reply.Goals as goal

pub returns-in-Ok : goal.returns-in-Ok
returns-in-Ok c = tells-text c.args.fault (Error c.in-Ok.text) (ap Error c.in-Ok.ensures.text)

pub returns-in-Err : goal.returns-in-Err
returns-in-Err c =
    let shows = c.in-Err.ensures.memory refl in
    subst (λ (fault : ProtocolFault). MayTell fault c.memory_reply.result) (sym shows.1) (inl c.memory_reply.ensures)
