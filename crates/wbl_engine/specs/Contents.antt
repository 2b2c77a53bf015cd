-- What an engine holds and what its device holds.
use Rattle.std.specs.Prelude.{◌≡◌, ◌↔◌, ℕ, ◌+◌, ◌<◌, ◌≤◌, ◌⊎◌, [], None, true}
use Rattle.pmem.specs.Device.{State, moment}
use Rattle.pmem.specs.Crash.{IsImage}
use Rattle.pmem.specs.Floor.{MayBeLeft}
use Rattle.model.specs.declared.group.Group.{Group}
use Rattle.model.specs.declared.image.TheConstants.{COUNTER_LIMIT, STAMP_WINDOW}
use Rattle.model.specs.declared.layout.TheConstants.{LAYOUT}
use Rattle.model.specs.declared.record.Role.{Role}
use Rattle.model.specs.declared.record.Role.TheVariants.{Newcomer}
use Rattle.model.specs.Image.{Image, HasSuperblock, HasRecord, version_at}
use Rattle.model.specs.Group.{Contents, entries_of, next_record}
use Rattle.heap_layout.specs.Version.{IsUnder}

-- The image holds these contents: its record is the current one, each entry holds the version that it should, and breaks no rule under the
-- record: every stamp in it is below the record's limit.
pub record Keeps (contents : Contents) (image : Image) : Type 0 where
  pub superblock : HasSuperblock contents.current.layout contents.lines image
  pub has_record : HasRecord contents.lines contents.current image
  pub versions : (i : ℕ) → i < entries_of contents → version_at contents.current image i ≡ contents.versions i
  pub entries : (i : ℕ) → i < entries_of contents → IsUnder contents.current contents.lines image i

-- every crash leaves an image that holds the contents, of a device whose floor is the present moment, as it is between the calls of an engine
abbrev pub IsDurable : State → Contents → Type 0
IsDurable device contents = (image : Image) → IsImage device.words image → Keeps contents image

-- the same of a device with this floor
abbrev pub IsDurableFrom : ℕ → State → Contents → Type 0
IsDurableFrom floor device contents = (image : Image) → MayBeLeft device floor image → Keeps contents image

-- Where the floor is the present moment, the two say the same.
abbrev pub SyncedIsDurable : Type 0
SyncedIsDurable = (device : State) (contents : Contents) → IsDurableFrom (moment device) device contents ↔ IsDurable device contents

-- two contents say the same of each entry
pub record Same (old new : Contents) : Type 0 where
  pub current : new.current ≡ old.current
  pub lines : new.lines ≡ old.lines
  pub versions : (i : ℕ) → new.versions i ≡ old.versions i
  pub is_free : (i : ℕ) → new.is_free i ≡ old.is_free i

-- a counter of the record would reach the limit, which the epoch does only where it rises; a newcomer's position is not to rise at all
abbrev pub Exhausts : Contents → Group → Type 0
Exhausts contents group =
    let next = next_record contents.current group in
    (COUNTER_LIMIT ≤ next.cd)
    ⊎ (COUNTER_LIMIT ≤ next.position)
    ⊎ (COUNTER_LIMIT ≤ next.number)
    ⊎ ((contents.current.epoch < next.epoch) × (COUNTER_LIMIT ≤ next.epoch))
    ⊎ (contents.current.role ≡ Newcomer)

-- the contents of a new image
pub record IsNew (lines : ℕ) (role : Role) (epoch' : ℕ) (contents : Contents) : Type 0 where
  pub layout : contents.current.layout ≡ LAYOUT
  pub number : contents.current.number ≡ 1
  pub position : contents.current.position ≡ 0
  pub cp : contents.current.cp ≡ 0
  pub cd : contents.current.cd ≡ 1 + STAMP_WINDOW
  pub epoch : contents.current.epoch ≡ epoch'
  pub role_is : contents.current.role ≡ role
  pub gaps : contents.current.gaps.items ≡ []
  pub floor : contents.current.floor ≡ 0
  pub line_count : contents.lines ≡ lines
  pub versions : (i : ℕ) → contents.versions i ≡ None
  pub is_free : (i : ℕ) → i < entries_of contents → contents.is_free i ≡ true
