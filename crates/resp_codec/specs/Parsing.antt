-- What a parser has yet to give. A clause sees it as the bytes that were fed and not yet given as items, or as `None` once a fault was given.
use Rattle.std.specs.Prelude.{◌≡◌, ℕ, List, [], ◌++◌, Option, None, Some, option_to_list}
use Rattle.kv_types.specs.declared.item.Item.{Item}
use Rattle.kv_types.specs.declared.limits.TheConstants.{REQUEST_LIMITS}
use Rattle.kv_types.specs.Reading.{items_at}

-- the parser after one more piece; after a fault no bytes are read
abbrev pub fed : Option (List ℕ) → List ℕ → Option (List ℕ)
fed None piece = None
fed (Some unread) piece = Some (unread ++ piece)

-- the items still to be given, if no more bytes come
abbrev pub ahead : Option (List ℕ) → List Item
ahead None = []
ahead (Some unread) = items_at REQUEST_LIMITS unread

-- An item, or none, was given: whatever comes later, it is the first of those that were ahead, and the others are still ahead.
abbrev pub Advances : Option (List ℕ) → Option Item → Option (List ℕ) → Type 0
Advances old item new = (more : List ℕ) → ahead (fed old more) ≡ option_to_list item ++ ahead (fed new more)

-- What any sequence of calls reaches: all the bytes fed, all the items given, and the parser's value.
pub data Reaches : List ℕ → List Item → Option (List ℕ) → Type 0 where
  begun : Reaches [] [] (Some [])
  took : {text : List ℕ} {given : List Item} {held : Option (List ℕ)} → Reaches text given held → (piece : List ℕ) → Reaches (text ++ piece) given (fed held piece)
  gave : {text : List ℕ} {given : List Item} {old new : Option (List ℕ)} → Reaches text given old → (item : Option Item) → Advances old item new → Reaches text (given ++ option_to_list item) new
