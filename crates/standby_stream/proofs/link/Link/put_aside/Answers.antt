use Rattle.std.proofs.Common.{◌≡◌, true, sym, subst}
use Rattle.standby_stream.specs.Copying.{goes_aside}
use Rattle.standby_stream.specs.Stream.{Stream}
use Rattle.standby_stream.proofs.CopyLemmas.{is_aside-put}
use Rattle.standby_stream.proofs.link.Link.put_aside.Goals as goal

pub invariant_of-self-2 : goal.invariant_of-self-2
invariant_of-self-2 c =
    let holds = subst (λ (s : Stream). goes_aside s.copying c.args.frame.after ≡ true) (sym c.self.view_is) c.requires.holds in
    record {
      few = c.self.invariant.few;
      next_within = c.self.invariant.next_within;
      has_room = c.self.invariant.has_room;
      is_aside = rw c.in_ok-push_back.ensures.items
          (is_aside-put c.self.inside.copying c.self.inside.kept.items c.self.inside.next c.self.inside.aside.items c.args.frame holds c.self.invariant.is_aside);
    }
