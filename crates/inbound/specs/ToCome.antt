-- What an inbound has yet to give, of the bytes that it was fed.
use Rattle.std.specs.Prelude.{◌≡◌, ℕ, ◌||◌, if◌then◌else◌, List, [], ◌++◌, Option, option_to_list}
use Rattle.std.specs.List.{list_any}
use Rattle.kv_types.specs.declared.item.Item.{Item}
use Rattle.kv_types.specs.declared.limits.TheConstants.{REQUEST_LIMITS}
use Rattle.kv_types.specs.Reading.{items_at}
use Rattle.model.specs.Call.{up_to_closing}
use Rattle.model.specs.Command.{closes}
use Rattle.resp_codec.specs.Parsing.{fed, ahead}
use Rattle.inbound.specs.declared.inbound.Inbound.{Inbound}

-- the inbound after one more piece; once an item has closed the connection nothing more is read
abbrev pub with_piece : Inbound → List ℕ → Inbound
with_piece inbound piece = if inbound.is_closed then inbound else record inbound { parser = fed inbound.parser piece }

-- the items still to be given, if no more bytes come: up to and including one that closes the connection, and none after it
abbrev pub to_come : Inbound → List Item
to_come inbound = if inbound.is_closed then [] else up_to_closing (ahead inbound.parser)

-- An item, or none, was given: whatever comes later, it is the first of those that were to come, and the others are still to come.
abbrev pub Advances : Inbound → Option Item → Inbound → Type 0
Advances old item new = (more : List ℕ) → to_come (with_piece old more) ≡ option_to_list item ++ to_come (with_piece new more)

-- All that was to come was given, and joined what there was before; what is to come now is what later bytes add.
pub record GivesAll (before after : List Item) (old new : Inbound) : Type 0 where
  pub all : after ≡ before ++ to_come old
  pub later : (more : List ℕ) → to_come (with_piece old more) ≡ to_come old ++ to_come (with_piece new more)
  pub closed : new.is_closed ≡ (old.is_closed || list_any closes (to_come old))

-- the items that the bytes of a connection ask for, up to and including the one that closes it
abbrev pub asked_for : List ℕ → List Item
asked_for bytes = up_to_closing (items_at REQUEST_LIMITS bytes)

-- All that these bytes ask for was given; what is to come is what later bytes add.
abbrev pub HasGiven : List ℕ → Inbound → Type 0
HasGiven bytes inbound = (more : List ℕ) → asked_for (bytes ++ more) ≡ asked_for bytes ++ to_come (with_piece inbound more)
