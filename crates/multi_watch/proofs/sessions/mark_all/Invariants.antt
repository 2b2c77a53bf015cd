use Rattle.std.proofs.Common.{◌≡◌, ℕ, drop}
use Rattle.multi_watch.specs.Watchers.{has_number}
use Rattle.multi_watch.specs.Sessions.{slot, marked_if}
use Rattle.multi_watch.proofs.sessions.mark_all.Given as goal

abbrev pub invariant-loop-number : goal.invariant-loop-number
invariant-loop-number l =
    (n : ℕ) → marked_if l.key (has_number n (drop l.number-index l.numbers)) (slot l.sessions.slots n)
    ≡ marked_if l.key (has_number n l.numbers) (slot l.fn.sessions.slots n)
