-- Changes whose puts find room whatever their order.
use Rattle.std.specs.Prelude.{ℕ, ◌+◌, Bool, List, [], ◌∷◌, length, max}
use Rattle.std.specs.List.{flat_map}
use Rattle.kv_types.specs.declared.change.Change.{Change}
use Rattle.kv_types.specs.declared.change.Change.TheVariants as change
use Rattle.model.specs.Group.{bytes_of_id}
use Rattle.model.specs.Image.{lines_of_bytes}
use Rattle.extent_heap.specs.Room.{Room, has_room}

-- how many lines the change wants, if it is a put
abbrev pub lines_of_change : Change → List ℕ
lines_of_change (change.Put id value) = lines_of_bytes (bytes_of_id id + length value) ∷ []
lines_of_change (change.Drop id) = []
lines_of_change (change.DropKey key) = []
lines_of_change change.Clear = []

-- how many lines each put wants, in order
abbrev pub lines_wanted : List Change → List ℕ
lines_wanted = flat_map lines_of_change

-- the greatest of them, and at least so many
abbrev pub most : ℕ → List ℕ → ℕ
most least [] = least
most least (lines ∷ others) = most (max least lines) others

-- there are as many free entries as puts, and so many extents of the longest of them can be cut from the free runs
abbrev pub fits_surely : Room → List Change → Bool
fits_surely room changes = has_room (length (lines_wanted changes)) (most 1 (lines_wanted changes)) room
