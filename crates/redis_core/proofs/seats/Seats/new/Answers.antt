use Rattle.std.proofs.Common.{◌≡◌, List, replicate, Option, Some, None, refl}
use Rattle.pipes.specs.declared.limits.TheConstants.{MAX_SEATS}
use Rattle.multi_watch.specs.declared.sessions.SessionNo.{SessionNo}
use Rattle.redis_core.proofs.SeatsLemmas.{all_closed}
use Rattle.redis_core.proofs.seats.Seats.new.Goals as goal

-- a clone of `None` is `None`
none_again : (is_clone : Option SessionNo → Type 0) → ((number : SessionNo) → is_clone (Some number) → ⊥) → (o : Option SessionNo) → is_clone o → o ≡ None
none_again is_clone never None clone = refl
none_again is_clone never (Some number) clone = absurd (never number clone)

pub returns-clause-closed : goal.returns-clause-closed
returns-clause-closed c =
    let numbers : List (Option SessionNo) = c.in_ok-vec.field-0.items in
    let is : numbers ≡ replicate MAX_SEATS None = c.in_ok-vec.ensures.items_if_clones_equal (none_again _ (λ number clone. clone)) in
    all_closed _ numbers is
