use Rattle.std.proofs.Common.{◌<◌, ◌∙◌, length, subst, arith}
use Rattle.std.proofs.lemmas.Result.{err_from_is_err_and}
use Rattle.pipes.specs.declared.limits.TheConstants.{KEPT_GROUPS}
use Rattle.standby_stream.specs.Stream.{Stream}
use Rattle.standby_stream.proofs.StreamLemmas.{keeps-group, adds-frame}
use Rattle.standby_stream.proofs.link.Link.add_next.Goals as goal

pub returns-in_err-frame-clause-refused : goal.returns-in_err-frame-clause-refused
returns-in_err-frame-clause-refused g c =
    let exit = err_from_is_err_and c.from_residual.result c.from_residual.ensures.1 in
    let own : Stream = record { epoch = c.self.inside.epoch; kept = c.self.inside.kept.items; next = c.self.inside.next; known = c.self.inside.known; pending = c.self.inside.pending; delta = c.self.inside.delta; copying = c.self.inside.copying; aside = c.self.inside.aside.items } in
    rw exit.1 (
      exit.2,
      subst (λ (s : Stream). length s.kept < KEPT_GROUPS) c.self.view_is (omega arith),
      keeps-group g.I.Inlet.take_gives c.args.groups.now c.take_next.new.groups own c.args.self.now c.self.view_is c.in-Some.group c.take_next.new.pending c.in-Some.is c.take_next.ensures,
    )

pub returns-in_err-place-clause-refused : goal.returns-in_err-place-clause-refused
returns-in_err-place-clause-refused g c =
    let exit = err_from_is_err_and c.from_residual-in_err-place.result c.from_residual-in_err-place.ensures.1 in
    let own : Stream = record { epoch = c.self.inside.epoch; kept = c.self.inside.kept.items; next = c.self.inside.next; known = c.self.inside.known; pending = c.self.inside.pending; delta = c.self.inside.delta; copying = c.self.inside.copying; aside = c.self.inside.aside.items } in
    let left = keeps-group g.I.Inlet.take_gives c.args.groups.now c.take_next.new.groups own c.args.self.now c.self.view_is c.in-Some.group c.take_next.new.pending c.in-Some.is c.take_next.ensures in
    rw exit.1 (
      exit.2,
      subst (λ (s : Stream). length s.kept < KEPT_GROUPS) c.self.view_is (omega arith),
      (left.0, left.1, c.in_err-place.ensures.refused ∙ left.2),
    )

pub returns-clause-next : goal.returns-clause-next
returns-clause-next g c = λ few.
    let own : Stream = record { epoch = c.self.inside.epoch; kept = c.self.inside.kept.items; next = c.self.inside.next; known = c.self.inside.known; pending = c.self.inside.pending; delta = c.self.inside.delta; copying = c.self.inside.copying; aside = c.self.inside.aside.items } in
    adds-frame g.I.Inlet.take_gives c.args.groups.now c.take_next.new.groups own c.args.self.now c.self.view_is c.in-Some.group c.take_next.new.pending c.in-Some.is c.take_next.ensures
    c.in_ok-frame.frame c.place.new.self c.in_ok-frame.ensures c.in_ok-place.ensures.placed
