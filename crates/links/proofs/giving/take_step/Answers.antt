use Rattle.std.proofs.Common.{[], sym, ◌∙◌, append-nil}
use Rattle.links.specs.Giving.{nothing, told, told_by}
use Rattle.links.proofs.GivenCopies.{TakesStep-pinned, TakesStep-refused}
use Rattle.links.proofs.giving.take_step.Goals as goal

pub returns-in_default : goal.returns-in_default
returns-in_default g c = record { takes = ([], nothing _ _ _ c.in_default.ensures, sym (append-nil _)) }

pub returns-then-not-pin_copy : goal.returns-then-not-pin_copy
returns-then-not-pin_copy g c = record {
  takes = (
    told_by c.args.attempt c.in-Some.step,
    TakesStep-refused g.C.Inlet.take_gives _ _ _ _ _ c.in-Some.step c.in-Some-pinned.position c.pin_copy.result c.in-Some.ensures c.if-not-pin_copy.true c.pin_copy.ensures.pinned c.pin_copy.ensures.refused,
    tt,
  );
}

pub returns-in-Some-pinned : goal.returns-in-Some-pinned
returns-in-Some-pinned g c = record {
  takes = (
    [],
    TakesStep-pinned g.C.Inlet.take_gives _ _ _ _ _ c.in-Some.step c.in-Some-pinned.position c.pin_copy.result c.in-Some.ensures (sym c.pinned.ensures ∙ c.in-Some-pinned.is) c.if-not-pin_copy.false
        c.pin_copy.ensures.pinned c.pin_copy.ensures.refused,
    sym (append-nil _),
  );
}

pub returns-in-Ok : goal.returns-in-Ok
returns-in-Ok g c = record { takes = (told_by c.args.attempt c.in-Some.step, told _ _ _ c.in-Some.step c.in-Some.ensures, c.in-Ok.ensures.put) }

pub returns : goal.returns
returns g c = record { takes = (told_by c.args.attempt c.in-Some.step, told _ _ _ c.in-Some.step c.in-Some.ensures, tt) }
