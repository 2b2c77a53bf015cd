-- The table of commands: what a request of each looks like, and which of them are served (the Redis page of each; the bounds are
-- this project's profile).
use Rattle.std.specs.Prelude.{ℕ, Bool, true, false, if◌then◌else◌, List, Option, Some, None}
use Rattle.cmd_core.specs.declared.shape.WordCount.TheVariants.{Exactly, AtLeast, Between, OddFrom, EvenFrom}
use Rattle.cmd_core.specs.declared.shape.Keys.TheVariants as keys
use Rattle.kv_types.specs.declared.command_name.CommandName.{CommandName}
use Rattle.kv_types.specs.declared.command_name.CommandName.TheVariants as name
use Rattle.kv_types.specs.declared.command_name.TheConstants.{COMMANDS}
use Rattle.kv_types.specs.CommandName.{find}
use Rattle.cmd_table.specs.declared.row.Row.{Row}

abbrev pub row : CommandName → Row
row name.Set = record { words = AtLeast 3; keys = keys.First }
row name.Get = record { words = Exactly 2; keys = keys.First }
row name.Ping = record { words = Between 1 2; keys = keys.None }
row name.Echo = record { words = Exactly 2; keys = keys.None }
row name.Quit = record { words = AtLeast 1; keys = keys.None }
row name.SetNx = record { words = Exactly 3; keys = keys.First }
row name.GetDel = record { words = Exactly 2; keys = keys.First }
row name.StrLen = record { words = Exactly 2; keys = keys.First }
row name.Append = record { words = Exactly 3; keys = keys.First }
row name.Del = record { words = AtLeast 2; keys = keys.All }
row name.Exists = record { words = AtLeast 2; keys = keys.All }
row name.MSet = record { words = OddFrom 3; keys = keys.EverySecond }
row name.MSetNx = record { words = OddFrom 3; keys = keys.EverySecond }
row name.MGet = record { words = AtLeast 2; keys = keys.All }
row name.Incr = record { words = Exactly 2; keys = keys.First }
row name.Decr = record { words = Exactly 2; keys = keys.First }
row name.IncrBy = record { words = Exactly 3; keys = keys.First }
row name.DecrBy = record { words = Exactly 3; keys = keys.First }
row name.TypeOf = record { words = Exactly 2; keys = keys.First }
row name.DbSize = record { words = Exactly 1; keys = keys.None }
row name.FlushDb = record { words = AtLeast 1; keys = keys.None }
row name.HSet = record { words = EvenFrom 4; keys = keys.FirstAndPairs }
row name.HSetNx = record { words = Exactly 4; keys = keys.FirstTwo }
row name.HGet = record { words = Exactly 3; keys = keys.All }
row name.HMGet = record { words = AtLeast 3; keys = keys.All }
row name.HDel = record { words = AtLeast 3; keys = keys.All }
row name.HLen = record { words = Exactly 2; keys = keys.First }
row name.HExists = record { words = Exactly 3; keys = keys.All }
row name.HStrLen = record { words = Exactly 3; keys = keys.All }
row name.HIncrBy = record { words = Exactly 4; keys = keys.FirstTwo }
row name.HGetAll = record { words = Exactly 2; keys = keys.First }
row name.HKeys = record { words = Exactly 2; keys = keys.First }
row name.HVals = record { words = Exactly 2; keys = keys.First }
row name.Multi = record { words = Exactly 1; keys = keys.None }
row name.Exec = record { words = Exactly 1; keys = keys.None }
row name.Discard = record { words = Exactly 1; keys = keys.None }
row name.Watch = record { words = AtLeast 2; keys = keys.All }
row name.Unwatch = record { words = Exactly 1; keys = keys.None }

-- These are answered by sessions alone, and never run on a keyspace; the other commands are served.
abbrev pub is_served : CommandName → Bool
is_served name.Multi = false
is_served name.Exec = false
is_served name.Discard = false
is_served name.Watch = false
is_served _ = true

abbrev pub if_served : Option CommandName → Option CommandName
if_served None = None
if_served (Some c) = if is_served c then Some c else None

-- the served command that the word names
abbrev pub command_named : List ℕ → Option CommandName
command_named word = if_served (find COMMANDS word)
