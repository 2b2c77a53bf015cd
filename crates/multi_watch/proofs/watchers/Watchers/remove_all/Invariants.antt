use Rattle.std.proofs.Common.{◌≡◌, ◌&&◌, not, ℕ, nat_eq, List}
use Rattle.multi_watch.specs.Session.{is_watched}
use Rattle.multi_watch.specs.Watches.{is_key_in}
use Rattle.multi_watch.specs.Watchers.{watches}
use Rattle.multi_watch.proofs.watchers.Watchers.remove_all.Given as goal

abbrev pub invariant-loop-key : goal.invariant-loop-key
invariant-loop-key l =
    (key : List ℕ) (n : ℕ) → (watches l.self.table.entries key n && not (is_key_in key l.key-iterator && nat_eq l.number n))
    ≡ (watches l.fn.self.table.entries key n && not (is_watched key l.watched && nat_eq l.number n))
