use Rattle.std.proofs.Common.{◌≡◌, ◌<◌, [], ◌∷◌, List, length, false, ap, sym, subst, ◌∙◌, arith}
use Rattle.std.proofs.lemmas.List.{length-append}
use Rattle.pipes.specs.declared.limits.TheConstants.{KEPT_GROUPS}
use Rattle.frames.specs.declared.frame.Frame.{Frame}
use Rattle.standby_stream.specs.Copying.{goes_aside}
use Rattle.standby_stream.specs.Stream.{Stream}
use Rattle.standby_stream.proofs.CopyLemmas.{is_aside-keep}
use Rattle.standby_stream.proofs.link.Link.keep.Goals as goal

pub invariant_of-self : goal.invariant_of-self
invariant_of-self c =
    let sent = subst (λ (s : Stream). goes_aside s.copying c.args.frame.after ≡ false) (sym c.self.view_is) c.requires.sent in
    let room = subst (λ (s : Stream). length s.kept < KEPT_GROUPS) (sym c.self.view_is) c.requires.room in
    let more = ap (λ (frames : List Frame). length frames) c.push_back_reserved.ensures.items ∙ length-append c.self.inside.kept.items (c.args.frame ∷ []) in
    record {
      few = omega (arith, more, room);
      next_within = omega (arith, more, c.self.invariant.next_within);
      has_room = omega (arith, c.push_back_reserved.ensures.capacity, c.self.invariant.has_room);
      is_aside = rw c.push_back_reserved.ensures.items
          (is_aside-keep c.self.inside.copying c.self.inside.kept.items c.self.inside.next c.self.inside.aside.items c.args.frame sent c.self.invariant.is_aside);
    }
