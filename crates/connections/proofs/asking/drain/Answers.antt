use Rattle.std.proofs.Common.{◌≡◌, ◌||◌, Ok, Option, length, take, ap, subst, sym, ◌∙◌}
use Rattle.std.specs.Prelude.{option_to_list}
use Rattle.std.specs.List.{list_any}
use Rattle.kv_types.specs.declared.item.Item.{Item}
use Rattle.model.specs.Command.{closes}
use Rattle.inbound.specs.ToCome.{Advances}
use Rattle.inbound.proofs.Giving.{one-more, fewer, no-more}
use Rattle.connections.proofs.AskingLemmas.{still-behind}
use Rattle.connections.proofs.asking.drain.Goals as goal

pub loop-item-smaller : goal.loop-item-smaller
loop-item-smaller c =
    fewer c.loop-item.inbound c.next.new.self c.in-Some.item (subst (λ (o : Option Item). Advances c.loop-item.inbound o c.next.new.self) c.in-Some.is c.in_ok-item.ensures.given)

pub loop-item-preserved : goal.loop-item-preserved
loop-item-preserved c = record {
  given = one-more c.args.asked.now.items c.loop-item.asked.items c.push_back.new.self.items c.args.inbound.now c.loop-item.inbound c.next.new.self c.in-Some.item
      c.loop-item.invariant.given (subst (λ (o : Option Item). Advances c.loop-item.inbound o c.next.new.self) c.in-Some.is c.in_ok-item.ensures.given)
      (c.in_ok-item.ensures.closed ∙ ap (λ (o : Option Item). c.loop-item.inbound.is_closed || list_any closes (option_to_list o)) c.in-Some.is)
      c.in_ok-push_back.ensures.items;
  behind = subst (λ xs. take (length c.args.asked.now.items) xs ≡ c.args.asked.now.items) (sym c.in_ok-push_back.ensures.items)
      (still-behind c.args.asked.now.items c.loop-item.asked.items c.in-Some.item c.loop-item.invariant.behind);
}

pub returns-clause-gives : goal.returns-clause-gives
returns-clause-gives c =
    no-more c.args.asked.now.items c.loop-item.asked.items c.args.inbound.now c.loop-item.inbound c.next.new.self
    c.loop-item.invariant.given (subst (λ (o : Option Item). Advances c.loop-item.inbound o c.next.new.self) c.in_default.is c.in_ok-item.ensures.given)
    (c.in_ok-item.ensures.closed ∙ ap (λ (o : Option Item). c.loop-item.inbound.is_closed || list_any closes (option_to_list o)) c.in_default.is)
    (c.next.ensures.none (c.in_ok-item.was ∙ ap Ok c.in_default.is))
