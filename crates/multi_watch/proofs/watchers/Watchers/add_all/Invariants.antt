use Rattle.std.proofs.Common.{◌≡◌, ◌&&◌, ◌||◌, ℕ, true, nat_eq, List}
use Rattle.multi_watch.specs.Session.{is_watched}
use Rattle.multi_watch.specs.Watches.{AreShort, is_key_in}
use Rattle.multi_watch.specs.Watchers.{watches}
use Rattle.multi_watch.proofs.watchers.Watchers.add_all.Given as goal

abbrev pub invariant-loop-key : goal.invariant-loop-key
invariant-loop-key l = record {
  added : (key : List ℕ) (n : ℕ) → (watches l.self.table.entries key n || (is_key_in key l.key-iterator && nat_eq l.number n))
      ≡ (watches l.fn.self.table.entries key n || (is_watched key l.watched && nat_eq l.number n));
  left : (key : List ℕ) → is_key_in key l.key-iterator ≡ true → is_watched key l.watched ≡ true;
  short : AreShort l.key-iterator;
}
