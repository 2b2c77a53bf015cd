-- What a contract sees of a pipe that is one object.
use Rattle.std.specs.Prelude.{◌≡◌, ◌≤◌, List, [], ◌∷◌, length, Option, Some, None, MatchOption}
use Rattle.std.proofs.Common.{◌∙◌}
use Rattle.std.proofs.lemmas.List.{append-nil}
use mathlib.Core.List.{IsPrefix}
use Rattle.pipes.specs.declared.limits.TheConstants.{PIPE_ITEMS}

-- the items that wait in a pipe, oldest first: at most `PIPE_ITEMS`
pub record Waiting (T : Type 0) : Type 0 where
  pub items : List T
  pub within : length items ≤ PIPE_ITEMS

module _ {T : Type 0} where
  -- the oldest item is taken, if one waits
  abbrev pub LocalTakes : Waiting T → Option T → Waiting T → Type 0
  LocalTakes before None after = (before.items ≡ []) × (after.items ≡ [])
  LocalTakes before (Some item) after = before.items ≡ item ∷ after.items

  pub LocalTakes-known : (before after : Waiting T) (taken : Option T) → LocalTakes before taken after
      → MatchOption taken (before.items ≡ []) (λ item. IsPrefix before.items (item ∷ after.items))
  LocalTakes-known before after None gives = gives.0
  LocalTakes-known before after (Some item) gives = ([], append-nil before.items ∙ gives)
