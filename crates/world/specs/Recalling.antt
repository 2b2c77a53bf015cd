-- What a primary's image still tells of the keyspaces that the standby may stand at, over the list of calls.
use Rattle.std.specs.Prelude.{◌≡◌, ℕ, ◌<◌, ◌≤◌, List}
use Rattle.world.specs.Words.{Call, changes_size, Contents, delta_changes, FreeList, MAX_BODY_BYTES, Opening, Past, play_all, position_of, RecallsEach, Remembers, Sequencing, Work}
pub use Rattle.node_steps.specs.Node.{past_of}

-- The contents, at this position, remember each keyspace from their record's floor on, and the standby stands no lower.
pub record RemembersFor (standby position : ℕ) (past : Past) (contents : Contents) (items : List Work) (aside : List FreeList) (s : Sequencing) : Type 0 where
  pub floored : contents.current.floor ≤ standby
  pub remembers : Remembers contents.current.floor position past contents items aside s

-- The contents of an image recall each keyspace from their record's floor on up to this position, and the standby stands no lower.
pub record RecallsFor (standby position : ℕ) (past : Past) (contents : Contents) : Type 0 where
  pub floored : contents.current.floor ≤ standby
  pub recalls : RecallsEach contents.current.floor position past contents

-- From each position that the standby may stand at, which is no lower than the opening's floor, the delta leads to the keyspace at which the primary was opened, and
-- one frame has room for it.
pub record OpeningLeads (low opened : ℕ) (calls : List Call) (opening : Opening) : Type 0 where
  pub within : opened ≤ position_of calls
  pub opened_at : opening.position ≡ opened
  pub floored : opening.floor ≤ low
  pub leads : (p : ℕ) → low ≤ p → p < opened → play_all (past_of calls p) (delta_changes opening p) ≡ past_of calls opened
  pub size : (p : ℕ) → low ≤ p → p < opened → changes_size (delta_changes opening p) ≤ MAX_BODY_BYTES
