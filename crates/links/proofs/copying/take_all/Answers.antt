use Rattle.std.proofs.Common.{◌≡◌, ◌+◌, List, [], ◌∷◌, ◌++◌, length, Ok, ℕ, rules, refl, sym, ap, subst, ◌∙◌, append_assoc, arith}
use Rattle.std.proofs.lemmas.Result.{err_from_is_err_and}
use Rattle.std.specs.Vec.Iter.{into_iter_items}
use Rattle.stream_codec.specs.declared.message.Message.{Message}
use Rattle.stream_codec.specs.Scanning.{sent_of_all}
use Rattle.links.specs.Copying.{IsAcknowledged, none}
use Rattle.links.proofs.GatheredParts.{IfErr-at, IfSome-at, StopsShort-next, TakesEnd-next, TakesParts-next, is_last_of}
use Rattle.links.proofs.copying.take_all.Goals as goal

pub loop-message-init : goal.loop-message-init
loop-message-init g c = (c.requires.awaits, refl, search rules, ([], sym c.into_iter-coming.ensures.rest, none _))

one_less : (fewer more : ℕ) (x : Message) (waiting later : List Message) → more ≡ length waiting → waiting ≡ x ∷ later → fewer + 1 ≡ more → fewer ≡ length later
one_less fewer more x waiting later len is gone =
    let short = ap length is in
    omega arith

pub loop-message-preserved : goal.loop-message-preserved
loop-message-preserved g c =
    let so_far = c.loop-message.invariant.3 in
    let steps = c.in-Some.ensures.cases in
    let taken = c.in_ok-ack.ensures.part (ap Ok (search rules)) in (
      taken.0,
      c.loop-message.invariant.1,
      one_less _ _ _ _ _ c.loop-message.invariant.2 steps.0 steps.1,
      (
        so_far.0 ++ c.in-Some.message ∷ [],
        so_far.1 ∙ ap (λ (rest : List Message). so_far.0 ++ rest) steps.0 ∙ sym (append_assoc so_far.0 (c.in-Some.message ∷ []) (into_iter_items c.next.new.self)),
        TakesParts-next _ _ _ _ so_far.0 c.in-Some.message so_far.2 taken.1,
      ),
    )

pub returns-in_err-ack-clause-ends : goal.returns-in_err-ack-clause-ends
returns-in_err-ack-clause-ends g c =
    let exit = err_from_is_err_and c.from_residual.result c.from_residual.ensures.1 in
    let so_far = c.loop-message.invariant.3 in
    let refused = c.in_err-ack.ensures.refused in
    IfErr-at _ c.from_residual.result exit.0 c.in_err-ack.field-0.0 exit.1 exit.2 (
      c.loop-message.invariant.1,
      StopsShort-next _ _ _ _ _ so_far.0 _ _ c.in-Some.message c.in_err-ack.field-0.0 so_far.1 c.in-Some.ensures.cases.0 so_far.2 refused.0 refused.1 refused.2,
    )

pub returns-in-Some-2-clause-end : goal.returns-in-Some-2-clause-end
returns-in-Some-2-clause-end g c =
    let so_far = c.loop-message.invariant.3 in
    let steps = c.in-Some.ensures.cases in
    let ended = IfSome-at _ _ c.in-Some-2.ack c.in-Some-2.is c.in_ok-ack.ensures.end in
    let is_last = is_last_of c.is_none-is_last.result _ c.next.new.self c.next-in-Some-2.new.self c.is_none-is_last.ensures (one_less _ _ _ _ _ c.loop-message.invariant.2 steps.0 steps.1) c.next-in-Some-2.ensures.cases in (
      ended.0,
      TakesEnd-next _ _ _ _ _ so_far.0 _ _ c.in-Some.message c.in-Some-2.ack _ _ _ so_far.1 steps.0 so_far.2 ended.1
          (subst (λ to. IsAcknowledged c.in-Some-2.ack (sent_of_all (into_iter_items c.next.new.self)) c.acknowledge.result (g.O.Write.contents to) (g.O.Write.contents c.acknowledge.new.to))
          c.loop-message.invariant.1 (c.acknowledge.ensures (sent_of_all (into_iter_items c.next.new.self)) is_last)),
    )
