use Rattle.std.proofs.Common.{◌≡◌, List, length, refl, ap, ap₂, subst, ◌∙◌, arith}
use Rattle.std.proofs.lemmas.List.{length-drop}
use Rattle.frames.specs.declared.frame.Frame.{Frame}
use Rattle.standby_stream.specs.Copying.{IsAside}
use Rattle.standby_stream.specs.Stream.{Stream, pinned_at}
use Rattle.standby_stream.specs.declared.copying.Copying.{Copying}
use Rattle.standby_stream.specs.declared.copying.Copying.TheVariants as stages
use Rattle.standby_stream.proofs.CopyLemmas.{drop-up_to, is_aside-pinned, take-up_to}
use Rattle.standby_stream.proofs.link.Link.pin_copy.Goals as goal

pub invariant_of-self : goal.invariant_of-self
invariant_of-self c =
    let awaited : c.self.inside.copying ≡ stages.Awaited = c.is_awaited.ensures.0 c.if-not-is_awaited.false in
    let stands = subst (λ (copying : Copying). IsAside copying c.self.inside.kept.items c.self.inside.next c.self.inside.aside.items) awaited c.self.invariant.is_aside in
    let short = ap (λ (frames : List Frame). length frames) c.move_tail.ensures.moved ∙ length-drop c.count_up_to-count.result c.self.inside.aside.items in
    record {
      few = omega (arith, short);
      next_within = omega (arith, stands.0);
      has_room = omega (arith, c.move_tail.ensures.capacity, c.self.invariant.has_room);
      is_aside = is_aside-pinned c.args.position c.self.inside.kept.items c.move_tail.new.to.items c.self.inside.next c.self.inside.aside.items c.move_tail.new.from.items c.count_up_to-count.result stands
          c.count_up_to-count.ensures c.move_tail.ensures.left;
    }

pub returns-clause-pinned : goal.returns-clause-pinned
returns-clause-pinned c = λ may.
    let own : Stream = record { epoch = c.self.inside.epoch; kept = c.self.inside.kept.items; next = c.self.inside.next; known = c.self.inside.known; pending = c.self.inside.pending; delta = c.self.inside.delta; copying = c.self.inside.copying; aside = c.self.inside.aside.items } in
    let kept = c.move_tail.ensures.moved ∙ drop-up_to c.args.position c.self.inside.aside.items c.count_up_to-count.result c.count_up_to-count.ensures in
    let aside = c.move_tail.ensures.left ∙ take-up_to c.args.position c.self.inside.aside.items c.count_up_to-count.result c.count_up_to-count.ensures in
    let now : Stream = record own { kept = c.move_tail.new.to.items; copying = stages.Sending c.args.position; aside = c.move_tail.new.from.items } in (
      refl,
      subst (λ (s : Stream). now ≡ pinned_at c.args.position s) c.self.view_is
          (ap₂ (λ (frames less : List Frame). record own { kept = frames; copying = stages.Sending c.args.position; aside = less }) kept aside),
    )

pub returns-clause-within : goal.returns-clause-within
returns-clause-within c =
    let awaited : c.self.inside.copying ≡ stages.Awaited = c.is_awaited.ensures.0 c.if-not-is_awaited.false in
    let stands = subst (λ (copying : Copying). IsAside copying c.self.inside.kept.items c.self.inside.next c.self.inside.aside.items) awaited c.self.invariant.is_aside in
    omega (arith, stands.0)
