use Rattle.std.proofs.Common.{◌≡◌, ℕ, drop}
use Rattle.std.specs.List.{list_any}
use Rattle.cmd_core.specs.Contents.{same_bytes}
use Rattle.multi_watch.specs.Sessions.{slot}
use Rattle.redis_core.proofs.MarkingLemmas.{marked}
use Rattle.redis_core.proofs.marking.mark_keys.Given as goal

abbrev pub invariant-loop-key : goal.invariant-loop-key
invariant-loop-key l =
    (seat : ℕ) → marked (λ own. list_any (λ key. same_bytes own key) (drop l.key-index l.keys)) (slot l.seats seat)
    ≡ marked (λ own. list_any (λ key. same_bytes own key) l.keys) (slot l.fn.seats seat)
