-- The names of the commands, and which of them a word is (the Redis page of each).
use Rattle.std.specs.Prelude.{ℕ, Bool, if◌then◌else◌, List, [], ◌∷◌, Option, Some, None, codes}
use Rattle.std.specs.Str.{str_eq_ignore_ascii_case}
use Rattle.kv_types.specs.declared.command_name.CommandName.{CommandName}
use Rattle.kv_types.specs.declared.command_name.CommandName.TheVariants as name
use Rattle.kv_types.specs.declared.command_name.TheConstants.{COMMANDS}

-- in lower case; a request may write it in any
abbrev pub text : CommandName → List ℕ
text name.Set = codes "set"
text name.Get = codes "get"
text name.Ping = codes "ping"
text name.Echo = codes "echo"
text name.Quit = codes "quit"
text name.SetNx = codes "setnx"
text name.GetDel = codes "getdel"
text name.StrLen = codes "strlen"
text name.Append = codes "append"
text name.Del = codes "del"
text name.Exists = codes "exists"
text name.MSet = codes "mset"
text name.MSetNx = codes "msetnx"
text name.MGet = codes "mget"
text name.Incr = codes "incr"
text name.Decr = codes "decr"
text name.IncrBy = codes "incrby"
text name.DecrBy = codes "decrby"
text name.TypeOf = codes "type"
text name.DbSize = codes "dbsize"
text name.FlushDb = codes "flushdb"
text name.HSet = codes "hset"
text name.HSetNx = codes "hsetnx"
text name.HGet = codes "hget"
text name.HMGet = codes "hmget"
text name.HDel = codes "hdel"
text name.HLen = codes "hlen"
text name.HExists = codes "hexists"
text name.HStrLen = codes "hstrlen"
text name.HIncrBy = codes "hincrby"
text name.HGetAll = codes "hgetall"
text name.HKeys = codes "hkeys"
text name.HVals = codes "hvals"
text name.Multi = codes "multi"
text name.Exec = codes "exec"
text name.Discard = codes "discard"
text name.Watch = codes "watch"
text name.Unwatch = codes "unwatch"

-- in any ASCII case
unfoldable pub is_named : List ℕ → List ℕ → Bool
is_named expected word = str_eq_ignore_ascii_case word expected

-- the first of the commands that the word names
abbrev pub find : List CommandName → List ℕ → Option CommandName
find [] word = None
find (c ∷ cs) word = if is_named (text c) word then Some c else find cs word

-- the command that the first of a request's words names
abbrev pub named_by : List (List ℕ) → Option CommandName
named_by [] = None
named_by (word ∷ arguments) = find COMMANDS word
