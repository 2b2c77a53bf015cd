use Rattle.std.proofs.Common.{◌≡◌, ◌≤◌, ℕ, [], length, drop, vec_len, vec_capacity}
use Rattle.redis_core.specs.Stored.{AreUnderWay}
use Rattle.redis_core.proofs.store.Store.run_all.Given as goal

abbrev pub invariant-loop-request : goal.invariant-loop-request
invariant-loop-request g l = record {
  under : (position : ℕ) → AreUnderWay l.fn.self position l.requests [] l.requests l.fn.running l.fn.self
      → AreUnderWay l.fn.self position l.requests l.replies.items (drop l.request-index l.requests) l.running l.self;
  counted : vec_len l.replies ≡ l.request-index;
  room : length l.requests ≤ vec_capacity l.replies;
}
