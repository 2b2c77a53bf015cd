use Rattle.std.proofs.Common.{refl}
use Rattle.lobby.proofs.SlotsLemmas.{IsSound-taken}
use Rattle.lobby.proofs.BookLemmas.{statuses-same, enter-moves, enter-lowest, enter-full, enter-err}
use Rattle.lobby.proofs.lobby.Lobby.enter.Goals as goal

pub invariant_of-self-inside : goal.invariant_of-self-inside
invariant_of-self-inside c = (IsSound-taken _ _ _ c.take_lowest.ensures c.self.inside.sound, tt)

pub returns-clause-moves : goal.returns-clause-moves
returns-clause-moves c =
    rw c.ok_or.ensures.value (enter-moves _ _ c.self.inside.sound _ (statuses-same c.self.view_is) _ refl _ c.take_lowest.ensures)

pub returns-clause-lowest : goal.returns-clause-lowest
returns-clause-lowest c =
    rw c.ok_or.ensures.value (enter-lowest _ _ c.self.inside.sound c.args.self.now (statuses-same c.self.view_is) _ c.take_lowest.ensures)

pub returns-clause-full : goal.returns-clause-full
returns-clause-full c =
    rw c.ok_or.ensures.value (enter-full _ _ c.self.inside.sound c.args.self.now (statuses-same c.self.view_is) _ c.take_lowest.ensures)

pub returns-clause-err : goal.returns-clause-err
returns-clause-err c =
    rw c.ok_or.ensures.value (enter-err _ _ c.self.inside.sound _ (statuses-same c.self.view_is) _ refl _ c.take_lowest.ensures)
