-- A new standby by a copy while commands go on (this project's profile): what passes, what the newcomer has of the copy, and what the link knows of it. Nothing here
-- knows of connections or of the committer.
use Rattle.std.specs.Prelude.{◌≡◌, ◌≢◌, ◌⊎◌, ℕ, ◌+◌, Bool, true, false, ◌&&◌, ◌||◌, nat_eq, nat_lt, nat_le, if◌then◌else◌, max, min, List, [], ◌∷◌, Option, Some, None}

-- a group, or what a frame tells: the changes of the list between two positions, call by call
pub record Span : Type 0 where
  pub before : ℕ
  pub after : ℕ

-- what a frame tells: changes; or a part of the copy at this position, by its number from 0; or the end of that copy, with the number of its parts
pub data Told : Type 0 where
  Changes : Span → Told
  Part : (position number : ℕ) → Told
  End : (position parts : ℕ) → Told

-- ---- the newcomer

-- what the node is that follows the primary: a standby, or one that has no copy yet. Only a standby may be promoted.
pub data Role : Type 0 where
  Follower : Role
  Uncopied : Role

-- the parts that were taken of the copy at this position: the first so many
pub record Half : Type 0 where
  pub position : ℕ
  pub parts : ℕ

abbrev pub is_follower : Role → Bool
is_follower Follower = true
is_follower Uncopied = false

-- The first part of a copy that it has not begun frees what it has of another one, and is taken; or it has no room for it then, or could not free.
abbrev pub BeginsCopy : ℕ → Option Half → Option Half → Type 0
BeginsCopy position old new = (new ≡ Some (record { position = position; parts = 1 })) ⊎ (new ≡ None) ⊎ (new ≡ old)

-- The part that comes next is taken, or there is no room for it. One that it has changes nothing, and a later one is refused.
abbrev pub ContinuesCopy : ℕ → Half → Option Half → Type 0
ContinuesCopy number half new =
    ((number ≡ half.parts) × (new ≡ Some (record half { parts = half.parts + 1 }))) ⊎ (new ≡ Some half)

-- what a newcomer does with a part
abbrev pub TakesPart : ℕ → ℕ → Option Half → Option Half → Type 0
TakesPart position number None new = ((number ≡ 0) × BeginsCopy position None new) ⊎ (new ≡ None)
TakesPart position number (Some half) new =
    ((position ≡ half.position) × ContinuesCopy number half new)
    ⊎ ((position ≢ half.position) × (number ≡ 0) × BeginsCopy position (Some half) new)
    ⊎ ((position ≢ half.position) × (new ≡ Some half))

-- it has taken all these parts of the copy at this position; of a copy without parts there are none to take
abbrev pub has_all : ℕ → ℕ → Option Half → Bool
has_all position parts None = nat_eq parts 0
has_all position parts (Some half) = nat_eq parts 0 || (nat_eq half.position position && nat_eq half.parts parts)

-- ---- the link

-- a copy that is pinned: the view at this position, in so many parts, and which frame of it is sent next; frame `parts` is its end
pub record Pinned : Type 0 where
  pub position : ℕ
  pub parts : ℕ
  pub next : ℕ

-- how the link stands to the node that follows
pub data Copying : Type 0 where
  -- a standby follows
  Follows : Copying
  -- a newcomer wants a copy, and none is pinned
  Awaited : Copying
  Sending : Pinned → Copying

abbrev pub is_awaited : Copying → Bool
is_awaited Follows = false
is_awaited Awaited = true
is_awaited (Sending pinned) = false

-- a copy is pinned, a frame of it is left to send, and the primary's record, which is at this position, is not below it
abbrev pub may_send_copy : ℕ → Copying → Bool
may_send_copy position Follows = false
may_send_copy position Awaited = false
may_send_copy position (Sending pinned) = nat_le pinned.next pinned.parts && nat_le pinned.position position

-- the frame of the copy that is sent next
abbrev pub told_next : Pinned → Told
told_next pinned = if nat_lt pinned.next pinned.parts then Part pinned.position pinned.next else End pinned.position pinned.parts

abbrev pub next_of_copy : Copying → List Told
next_of_copy Follows = []
next_of_copy Awaited = []
next_of_copy (Sending pinned) = told_next pinned ∷ []

abbrev pub sent_one : Copying → Copying
sent_one Follows = Follows
sent_one Awaited = Awaited
sent_one (Sending pinned) = Sending (record pinned { next = pinned.next + 1 })

-- Whether the link keeps a group that ends here, when it takes it: all, where a standby follows; while a copy is awaited those above a pinned one.
abbrev pub keeps_group : Copying → Span → Bool
keeps_group Follows group = true
keeps_group Awaited group = false
keeps_group (Sending pinned) group = nat_lt pinned.position group.after

-- where the last of these groups ends, which were dropped after one that ends here
abbrev pub dropped_with : ℕ → List Span → ℕ
dropped_with dropped [] = dropped
dropped_with dropped (group ∷ groups) = dropped_with (max dropped group.after) groups

-- ---- what is sent

-- the position at or below which all lies that was ever sent to the node that follows, where the primary's record is at this position
abbrev pub reach_of : Copying → ℕ → ℕ
reach_of Follows committed = committed
reach_of Awaited committed = committed
reach_of (Sending pinned) committed = min pinned.position committed
