-- What the bytes of a connection ask for.
use Rattle.std.specs.Prelude.{ℕ, List}
use Rattle.kv_types.specs.declared.item.Item.{Item}
use Rattle.kv_types.specs.declared.limits.TheConstants.{REQUEST_LIMITS}
use Rattle.kv_types.specs.Reading.{items_at}
use Rattle.model.specs.Call.{up_to_closing}

-- the items that the bytes ask for, up to and including the first that closes the connection
abbrev pub asked_by : List ℕ → List Item
asked_by bytes = up_to_closing (items_at REQUEST_LIMITS bytes)
