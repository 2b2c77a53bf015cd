-- Where a copy may be pinned, and is.
use Rattle.std.proofs.Common.{◌≡◌, ◌≢◌, ℕ, true, List, [], ◌∷◌, Option, Some, None, Result, Ok, Err, OnErr, is_some, refl}
use Rattle.kv_types.specs.declared.refusal.Refusal.{Refusal}
use Rattle.model.specs.declared.group.Part.{Part}
use Rattle.redis_core.specs.Copying.{CopyOf, copied_at}

pub none-waits : (waiting : List Part) → ¬ (waiting ≢ []) → waiting ≡ []
none-waits [] none = refl
none-waits (part ∷ parts) none = absurd (none (λ is. cc))

pub copy-pinned : (copy : Option CopyOf) (position : ℕ) → copied_at copy ≡ Some position → is_some copy ≡ true
copy-pinned None position is = cc
copy-pinned (Some copy) position is = refl

-- what holds at a refusal
pub at-refusal : (P : Type 0) (answer : Result (Option ℕ) Refusal) → P → OnErr answer P
at-refusal P (Ok position) holds = tt
at-refusal P (Err refusal) holds = holds
