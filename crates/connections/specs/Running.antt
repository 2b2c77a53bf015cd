-- What running a connection's first waiting item does, before its call is written.
use Rattle.std.specs.Prelude.{◌≡◌, ℕ, ◌<◌, false, List, ◌∷◌, length}
use Rattle.kv_types.specs.declared.item.Item.{Item}
use Rattle.kv_types.specs.declared.reply.Held.{Held}
use Rattle.model.specs.declared.group.TheConstants.{MAX_PARTS}
use Rattle.redis_core.specs.Sequencing.{Sequencing, is_closed}
use Rattle.redis_core.specs.Turn.{Answers}

-- The sequencer answered the first of the items that waited, in an open seat and with room for what it changes. The reply carries the position after it.
pub record Runs (before : Sequencing) (seat : ℕ) (waiting : List Item) (held : Held) (rest : List Item) (after : Sequencing) : Type 0 where
  pub item : Item
  pub first : waiting ≡ item ∷ rest
  pub answers : Answers before seat item held.reply after
  pub position : held.position ≡ after.position
  pub is_open : is_closed before seat ≡ false
  pub few : length before.waiting < MAX_PARTS
