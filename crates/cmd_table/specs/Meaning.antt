-- What each command answers and what it changes. The arguments are the words after the name.
use Rattle.std.specs.Prelude.{ℕ, List}
use Rattle.kv_types.specs.Keyspace.{Keyspace}
use Rattle.cmd_core.specs.declared.outcome.Status.TheVariants as status
use Rattle.cmd_core.specs.Outcome.{Outcome, Simple, reads, excluded}
use Rattle.cmd_string.specs.Strings.{set, get, setnx, getdel, strlen, append, mset, msetnx, mget}
use Rattle.cmd_string.specs.Counters.{incr, decr, incrby, decrby}
use Rattle.cmd_string.specs.Keys.{del, exists, type_of, dbsize, flushdb}
use Rattle.cmd_string.specs.Connection.{ping, echo, quit}
use Rattle.cmd_hash.specs.Writing.{hset, hsetnx, hdel}
use Rattle.cmd_hash.specs.Reading.{hget, hmget, hexists, hstrlen}
use Rattle.cmd_hash.specs.Whole.{hlen, hgetall, hkeys, hvals}
use Rattle.cmd_hash.specs.Counter.{hincrby}
use Rattle.kv_types.specs.declared.command_name.CommandName.{CommandName}
use Rattle.kv_types.specs.declared.command_name.CommandName.TheVariants as name

-- The session forgets its watches (the Redis page of UNWATCH); of the keyspace nothing is asked.
abbrev pub unwatch : Outcome
unwatch = reads (Simple status.Ok)

abbrev pub does : Keyspace → CommandName → List (List ℕ) → Outcome
does s name.Set = set s
does s name.Get = get s
does s name.Ping = ping
does s name.Echo = echo
does s name.Quit = quit
does s name.SetNx = setnx s
does s name.GetDel = getdel s
does s name.StrLen = strlen s
does s name.Append = append s
does s name.Del = del s
does s name.Exists = exists s
does s name.MSet = mset
does s name.MSetNx = msetnx s
does s name.MGet = mget s
does s name.Incr = incr s
does s name.Decr = decr s
does s name.IncrBy = incrby s
does s name.DecrBy = decrby s
does s name.TypeOf = type_of s
does s name.DbSize = dbsize s
does s name.FlushDb = flushdb s
does s name.HSet = hset s
does s name.HSetNx = hsetnx s
does s name.HGet = hget s
does s name.HMGet = hmget s
does s name.HDel = hdel s
does s name.HLen = hlen s
does s name.HExists = hexists s
does s name.HStrLen = hstrlen s
does s name.HIncrBy = hincrby s
does s name.HGetAll = hgetall s
does s name.HKeys = hkeys s
does s name.HVals = hvals s
does s name.Unwatch = λ arguments. unwatch
-- the others are not served: those that only sessions answer
does s _ = λ arguments. excluded
