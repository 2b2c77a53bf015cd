-- What a reader has yet to offer, and what a turn of it does.
use Rattle.std.specs.Prelude.{◌≡◌, ℕ, Bool, true, false, List, ◌++◌, Option, option_to_list, Result, Ok, Err}
use Rattle.std.specs.Io.KnownBytes.{Consumes}
use Rattle.kv_types.specs.declared.item.Item.{Item}
use Rattle.inbound.specs.ToCome.{with_piece, to_come}
use Rattle.clients.specs.declared.reading.Progress.{Progress}
use Rattle.clients.specs.declared.reading.Progress.TheVariants as progress
use Rattle.clients.specs.declared.reading.RequestReader.{RequestReader}

-- the items that a reader has yet to offer if these bytes come next: the one that it holds, and those that are to come
abbrev pub owed : RequestReader → List ℕ → List Item
owed reader more = option_to_list reader.held ++ to_come (with_piece reader.inbound more)

-- Items were offered: whatever comes later, they are the first of those that were owed, and the others are still owed.
pub record Offers (reader reader' : RequestReader) (offered offered' : List Item) : Type 0 where
  pub given : List Item
  pub offers : offered' ≡ offered ++ given
  pub owes : (more : List ℕ) → owed reader more ≡ given ++ owed reader' more

-- Bytes came, and items were offered: whatever comes later, they are the first of those that are owed for these bytes, and the others are still owed.
-- So turns join: what was offered in all of them is what all their bytes ask for, up to what is owed at the end.
pub record OffersFor (reader reader' : RequestReader) (offered offered' : List Item) : Type 0 where
  pub bytes : List ℕ
  pub given : List Item
  pub offers : offered' ≡ offered ++ given
  pub owes : (more : List ℕ) → owed reader (bytes ++ more) ≡ given ++ owed reader' more

-- The same, and the bytes are those that were read of a source.
pub record Reads (source source' : Option (List ℕ)) (reader reader' : RequestReader) (offered offered' : List Item) : Type 0 where
  pub part : OffersFor reader reader' offered offered'
  pub consumed : Consumes source source' part.bytes

-- a turn came to the end of the requests, or broke off: nothing more is asked of the reader
abbrev pub is_last : {E : Type 0} → Result Progress E → Bool
is_last (Ok progress.Drained) = false
is_last (Ok progress.More) = false
is_last (Ok progress.Full) = false
is_last (Ok progress.Ended) = true
is_last (Err error) = true
