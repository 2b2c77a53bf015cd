use Rattle.std.proofs.Common.{List, [], ◌∷◌, ◌++◌, rules, sym, ap, ◌∙◌, append_assoc}
use Rattle.std.specs.Vec.Iter.{into_iter_items}
use Rattle.stream_codec.specs.declared.message.Message.{Message}
use Rattle.links.specs.Hearing.{nothing}
use Rattle.links.proofs.Hearing.{Hears-more, StopsAt-next}
use Rattle.links.proofs.Serving.{OnErr-always}
use Rattle.links.proofs.receiver.AckReceiver.hear_all.Goals as goal

pub loop-message-init : goal.loop-message-init
loop-message-init c = record { epoch = search rules; stays = search rules; run = nothing _; left = sym c.into_iter-message-iterator.ensures.into_iter_gives.0 }

pub loop-message-preserved : goal.loop-message-preserved
loop-message-preserved c =
    let taken = c.in_ok-hear_message.ensures.taken in
    record {
      epoch = search rules;
      stays = search rules;
      run = Hears-more _ _ _ c.loop-message.yielded c.in-Some.message c.loop-message.invariant.run taken.0 taken.1 taken.2;
      left = c.loop-message.invariant.left ∙ ap (λ (rest : List Message). c.loop-message.yielded ++ rest) c.in-Some.ensures.steps.0
          ∙ sym (append_assoc c.loop-message.yielded (c.in-Some.message ∷ []) (into_iter_items c.next.new.self));
    }

pub returns-in_err-hear_message-clause-refused : goal.returns-in_err-hear_message-clause-refused
returns-in_err-hear_message-clause-refused c =
    OnErr-always _ (StopsAt-next _ _ _ c.args.messages.items c.loop-message.yielded _ _ c.in-Some.message c.loop-message.invariant.left c.in-Some.ensures.steps.0 c.loop-message.invariant.run
    c.in_err-hear_message.ensures.refused)
