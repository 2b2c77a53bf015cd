-- How much room a request may need, and that it is enough.
use Rattle.std.specs.Prelude.{ℕ, ◌+◌, ◌-◌, ◌^◌, ◌≤◌, max, min, true, false, List, length, if◌then◌else◌, Option, Some, None}
use Rattle.std.specs.List.{AllByRecursion}
use Rattle.kv_types.specs.declared.change.Change.{Change}
use Rattle.kv_types.specs.declared.command_name.CommandName.{CommandName}
use Rattle.kv_types.specs.declared.command_name.CommandName.TheVariants as name
use Rattle.kv_types.specs.declared.item.Item.{Item}
use Rattle.kv_types.specs.declared.item.Item.TheVariants.{Request, Fault}
use Rattle.kv_types.specs.CommandName.{named_by}
use Rattle.cmd_core.specs.Puts.{put_sizes}
use Rattle.cmd_table.specs.Puts.{most_puts}
use Rattle.model.specs.Image.{lines_of_bytes}
use Rattle.serving.specs.declared.needs.Asked.{Asked}
use Rattle.serving.specs.declared.needs.Asked.TheVariants.{AtMost, Begins, Runs, Drops}
use Rattle.serving.specs.declared.needs.Need.{Need}
use Rattle.serving.specs.declared.needs.Queued.{Queued}

-- the most that the request puts, with an extent for each version
abbrev pub need_of : List (List ℕ) → Need
need_of words = record { count = (most_puts words).count; lines = lines_of_bytes (most_puts words).bytes }

abbrev pub asked_by_named : Need → Option CommandName → Asked
asked_by_named need (Some name.Multi) = Begins
asked_by_named need (Some name.Exec) = Runs
asked_by_named need (Some name.Discard) = Drops
asked_by_named need _ = AtMost need

abbrev pub asked_by_words : List (List ℕ) → Asked
asked_by_words words = asked_by_named (need_of words) (named_by words)

-- a fault puts nothing
abbrev pub asked_by : Item → Asked
asked_by (Request words) = asked_by_words words
asked_by (Fault fault) = AtMost (record { count = 0; lines = 1 })

-- nor does nothing
abbrev pub asked_by_next : Option Item → Asked
asked_by_next (Some item) = asked_by item
asked_by_next None = AtMost (record { count = 0; lines = 1 })

-- what an item that asks for this may need in its turn, where that waits for EXEC
abbrev pub need_in_turn : Queued → Asked → Need
need_in_turn queued Runs = queued.need
need_in_turn queued (AtMost need) = if queued.is_open then record { count = 0; lines = 1 } else need
need_in_turn queued Begins = record { count = 0; lines = 1 }
need_in_turn queued Drops = record { count = 0; lines = 1 }

-- room for both: for all versions of the two, as far as 64 bits count them, each in an extent of the longer length
abbrev pub need_of_both : Need → Need → Need
need_of_both one other = record { count = min (one.count + other.count) (2 ^ 64 - 1); lines = max one.lines other.lines }

-- what waits for EXEC once an item that asks for this had its turn: where no transaction is open it ran, and nothing waits
abbrev pub queued_after : Queued → Asked → Queued
queued_after queued (AtMost need) = if queued.is_open then record { is_open = true; need = need_of_both queued.need need } else queued
queued_after queued Begins = record { is_open = true; need = record { count = 0; lines = 1 } }
queued_after queued Runs = record { is_open = false; need = record { count = 0; lines = 1 } }
queued_after queued Drops = record { is_open = false; need = record { count = 0; lines = 1 } }

-- The changes put no more versions, and none takes an extent of more lines.
pub record IsEnough (need : Need) (changes : List Change) : Type 0 where
  pub few : length (put_sizes changes) ≤ need.count
  pub short : AllByRecursion (λ bytes. lines_of_bytes bytes ≤ need.lines) (put_sizes changes)
