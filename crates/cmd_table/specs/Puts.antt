-- The column of the table that says what a command may put (the Redis page of each).
use Rattle.std.specs.Prelude.{ℕ, List, drop, Option, Some, None}
use Rattle.kv_types.specs.declared.command_name.CommandName.{CommandName}
use Rattle.kv_types.specs.declared.command_name.CommandName.TheVariants as name
use Rattle.kv_types.specs.CommandName.{named_by}
use Rattle.cmd_core.specs.declared.puts.Puts.{Puts}
use Rattle.cmd_core.specs.declared.puts.Puts.TheVariants.{Nothing, Words, Integer, Appended, Pairs}
use Rattle.cmd_core.specs.declared.puts.PutBound.{PutBound}
use Rattle.cmd_core.specs.Puts.{most}

abbrev pub puts : CommandName → Puts
puts name.Set = Words 2
puts name.Get = Nothing
puts name.Ping = Nothing
puts name.Echo = Nothing
puts name.Quit = Nothing
puts name.SetNx = Words 2
puts name.GetDel = Nothing
puts name.StrLen = Nothing
puts name.Append = Appended
puts name.Del = Nothing
puts name.Exists = Nothing
puts name.MSet = Pairs 0
puts name.MSetNx = Pairs 0
puts name.MGet = Nothing
puts name.Incr = Integer 1
puts name.Decr = Integer 1
puts name.IncrBy = Integer 1
puts name.DecrBy = Integer 1
puts name.TypeOf = Nothing
puts name.DbSize = Nothing
puts name.FlushDb = Nothing
puts name.HSet = Pairs 1
puts name.HSetNx = Words 3
puts name.HGet = Nothing
puts name.HMGet = Nothing
puts name.HDel = Nothing
puts name.HLen = Nothing
puts name.HExists = Nothing
puts name.HStrLen = Nothing
puts name.HIncrBy = Integer 2
puts name.HGetAll = Nothing
puts name.HKeys = Nothing
puts name.HVals = Nothing
puts name.Multi = Nothing
puts name.Exec = Nothing
puts name.Discard = Nothing
puts name.Watch = Nothing
puts name.Unwatch = Nothing

abbrev pub puts_if_named : Option CommandName → Puts
puts_if_named None = Nothing
puts_if_named (Some command) = puts command

-- The most that a request puts, whatever the keyspace holds. What EXEC runs are requests of their own, and EXEC itself puts nothing.
abbrev pub most_puts : List (List ℕ) → PutBound
most_puts words = most (puts_if_named (named_by words)) (drop 1 words)
