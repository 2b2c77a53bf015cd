use Rattle.std.proofs.Common.{refl}
use Rattle.lobby.proofs.SlotsLemmas.{IsSound-put}
use Rattle.lobby.proofs.BookLemmas.{statuses-same, leave-moves, leave-unchanged}
use Rattle.lobby.proofs.lobby.Lobby.leave.Goals as goal

pub invariant_of-self-inside : goal.invariant_of-self-inside
invariant_of-self-inside c = (IsSound-put _ _ _ c.put_back.ensures c.self.inside.sound, tt)

pub returns-clause-moves : goal.returns-clause-moves
returns-clause-moves c = leave-moves _ _ _ c.put_back.ensures _ _ (statuses-same c.self.view_is) refl

pub returns-clause-unchanged : goal.returns-clause-unchanged
returns-clause-unchanged c = leave-unchanged _ _ _ c.put_back.ensures _ _ (statuses-same c.self.view_is) refl
