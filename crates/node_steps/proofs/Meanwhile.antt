-- What others leave as it was.
use Rattle.std.specs.Prelude.{◌≡◌, ℕ, ◌≤◌, true, List, ◌++◌}
use Rattle.machine.specs.Event.{Span, World, is_open}
use Rattle.machine.specs.Sound.{Sound}

-- What others' events may have done: of what is the thread's own nothing changes, but that the link takes some of what waits there, first the oldest. No open
-- connection is over, and the standby does not fall back.
pub record Meanwhile (old new : World) : Type 0 where
  pub sound : Sound new
  pub life : new.primary.life ≡ old.primary.life
  pub epoch : new.primary.epoch ≡ old.primary.epoch
  pub are_open : (c : ℕ) → is_open old c ≡ true → is_open new c ≡ true
  pub calls : new.primary.calls ≡ old.primary.calls
  pub committer : new.primary.committer ≡ old.primary.committer
  pub ended : new.primary.ended ≡ old.primary.ended
  pub newest : new.primary.newest ≡ old.primary.newest
  pub notices : new.primary.notices ≡ old.primary.notices
  pub gaps : new.primary.gaps ≡ old.primary.gaps
  pub sent : List Span
  pub waiting : old.primary.link.waiting ≡ sent ++ new.primary.link.waiting
  pub standby : old.standby.position ≤ new.standby.position
