use Rattle.std.proofs.Common.{◌≤◌, ap, ◌∙◌, arith}
use Rattle.standby_stream.specs.Stream.{Stream}
use Rattle.standby_stream.proofs.CopyLemmas.{ends-copy, is_aside-reached}
use Rattle.standby_stream.proofs.link.Link.reach.Goals as goal

pub invariant_of-self : goal.invariant_of-self
invariant_of-self c =
    let less : c.saturating_sub-self-inside.result ≤ c.self.inside.next = omega arith in
    record {
      few = omega (arith, c.drop_known-dropped.ensures.count, c.self.invariant.few);
      next_within = omega (arith, c.drop_known-dropped.ensures.count, c.self.invariant.next_within);
      has_room = omega (arith, c.drop_known-dropped.ensures.capacity, c.self.invariant.has_room);
      is_aside = rw (c.acknowledged-self-inside.ensures, c.drop_known-dropped.ensures.kept, c.drop_known.ensures.kept)
          (is_aside-reached c.args.position c.self.inside.copying c.self.inside.kept.items c.self.inside.next c.saturating_sub-self-inside.result c.self.inside.aside.items less c.self.invariant.is_aside);
    }

pub returns-clause-ends : goal.returns-clause-ends
returns-clause-ends c = λ pinned is le.
    let less : c.saturating_sub-self-inside.result ≤ c.self.inside.next = omega arith in
    let own = ap (λ (s : Stream). s.copying) c.self.view_is ∙ is in
    let ends =
    ends-copy c.args.position pinned c.self.inside.copying c.self.inside.kept.items c.self.inside.next c.saturating_sub-self-inside.result c.self.inside.aside.items less own le c.self.invariant.is_aside in
    record { follows = c.acknowledged-self-inside.ensures ∙ ends.0; none_aside = c.drop_known.ensures.kept ∙ ends.1; from_first = ends.2 }
