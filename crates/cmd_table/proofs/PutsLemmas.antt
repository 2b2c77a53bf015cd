-- No command puts more than its row tells.
use Rattle.std.proofs.Common.{ℕ, ◌+◌, not, if◌then◌else◌, Bool, true, false, List, [], ◌∷◌, length, Option, Some, None, Ok, Err, refl}
use Rattle.kv_types.specs.declared.command_name.CommandName.{CommandName}
use Rattle.kv_types.specs.declared.command_name.CommandName.TheVariants as name
use Rattle.kv_types.specs.declared.command_name.TheConstants.{COMMANDS}
use Rattle.kv_types.specs.CommandName.{find}
use Rattle.kv_types.specs.Keyspace.{Keyspace}
use Rattle.cmd_core.specs.declared.puts.PutBound.{PutBound}
use Rattle.cmd_core.specs.declared.puts.Puts.TheVariants.{Nothing}
use Rattle.cmd_core.specs.Outcome.{changes_of}
use Rattle.cmd_core.specs.Puts.{most, PutsWithin}
use Rattle.cmd_core.specs.Shape.{takes, are_short}
use Rattle.cmd_core.proofs.PutsLemmas.{nothing_put}
use Rattle.cmd_string.proofs.PutsLemmas.{set-within, setnx-within, append-within, mset-within, msetnx-within, incr-within, decr-within, incrby-within, decrby-within}
use Rattle.cmd_string.proofs.NoPutsLemmas.{get-puts, ping-puts, echo-puts, quit-puts, getdel-puts, strlen-puts, del-puts, exists-puts, mget-puts, type_of-puts, dbsize-puts, flushdb-puts}
use Rattle.cmd_hash.proofs.PutsLemmas.{hset-within, hsetnx-within, hincrby-within}
use Rattle.cmd_hash.proofs.NoPutsLemmas.{hget-puts, hmget-puts, hdel-puts, hlen-puts, hexists-puts, hstrlen-puts, hgetall-puts, hkeys-puts, hvals-puts}
use Rattle.cmd_table.specs.declared.misuse.Misuse.TheVariants.{WrongNumberOfWords, LongKey}
use Rattle.cmd_table.specs.Command.{read_named}
use Rattle.cmd_table.specs.Meaning.{does}
use Rattle.cmd_table.specs.Puts.{puts, puts_if_named, most_puts}
use Rattle.cmd_table.specs.Request.{effect_of_reading, outcome_of_words}
use Rattle.cmd_table.specs.Row.{row, is_served, if_served}

does-within : (s : Keyspace) (command : CommandName) (words : List (List ℕ)) → PutsWithin (most (puts command) words) (changes_of (does s command words))
does-within s name.Set words = set-within s words
does-within s name.Get words = nothing_put (most Nothing words) (changes_of (does s name.Get words)) (get-puts s words)
does-within s name.Ping words = nothing_put (most Nothing words) (changes_of (does s name.Ping words)) (ping-puts words)
does-within s name.Echo words = nothing_put (most Nothing words) (changes_of (does s name.Echo words)) (echo-puts words)
does-within s name.Quit words = nothing_put (most Nothing words) (changes_of (does s name.Quit words)) (quit-puts words)
does-within s name.SetNx words = setnx-within s words
does-within s name.GetDel words = nothing_put (most Nothing words) (changes_of (does s name.GetDel words)) (getdel-puts s words)
does-within s name.StrLen words = nothing_put (most Nothing words) (changes_of (does s name.StrLen words)) (strlen-puts s words)
does-within s name.Append words = append-within s words
does-within s name.Del words = nothing_put (most Nothing words) (changes_of (does s name.Del words)) (del-puts s words)
does-within s name.Exists words = nothing_put (most Nothing words) (changes_of (does s name.Exists words)) (exists-puts s words)
does-within s name.MSet words = mset-within words
does-within s name.MSetNx words = msetnx-within s words
does-within s name.MGet words = nothing_put (most Nothing words) (changes_of (does s name.MGet words)) (mget-puts s words)
does-within s name.Incr words = incr-within s words
does-within s name.Decr words = decr-within s words
does-within s name.IncrBy words = incrby-within s words
does-within s name.DecrBy words = decrby-within s words
does-within s name.TypeOf words = nothing_put (most Nothing words) (changes_of (does s name.TypeOf words)) (type_of-puts s words)
does-within s name.DbSize words = nothing_put (most Nothing words) (changes_of (does s name.DbSize words)) (dbsize-puts s words)
does-within s name.FlushDb words = nothing_put (most Nothing words) (changes_of (does s name.FlushDb words)) (flushdb-puts s words)
does-within s name.HSet words = hset-within s words
does-within s name.HSetNx words = hsetnx-within s words
does-within s name.HGet words = nothing_put (most Nothing words) (changes_of (does s name.HGet words)) (hget-puts s words)
does-within s name.HMGet words = nothing_put (most Nothing words) (changes_of (does s name.HMGet words)) (hmget-puts s words)
does-within s name.HDel words = nothing_put (most Nothing words) (changes_of (does s name.HDel words)) (hdel-puts s words)
does-within s name.HLen words = nothing_put (most Nothing words) (changes_of (does s name.HLen words)) (hlen-puts s words)
does-within s name.HExists words = nothing_put (most Nothing words) (changes_of (does s name.HExists words)) (hexists-puts s words)
does-within s name.HStrLen words = nothing_put (most Nothing words) (changes_of (does s name.HStrLen words)) (hstrlen-puts s words)
does-within s name.HIncrBy words = hincrby-within s words
does-within s name.HGetAll words = nothing_put (most Nothing words) (changes_of (does s name.HGetAll words)) (hgetall-puts s words)
does-within s name.HKeys words = nothing_put (most Nothing words) (changes_of (does s name.HKeys words)) (hkeys-puts s words)
does-within s name.HVals words = nothing_put (most Nothing words) (changes_of (does s name.HVals words)) (hvals-puts s words)
does-within s name.Multi words = nothing_put (most Nothing words) [] refl
does-within s name.Exec words = nothing_put (most Nothing words) [] refl
does-within s name.Discard words = nothing_put (most Nothing words) [] refl
does-within s name.Watch words = nothing_put (most Nothing words) [] refl
does-within s name.Unwatch words = nothing_put (most Nothing words) [] refl

-- ---- a request whose words are not as the row asks puts nothing

checked-within : (s : Keyspace) (bound : PutBound) (command : CommandName) (words : List (List ℕ)) (is_wrong_count is_long : Bool) → PutsWithin bound (changes_of (does s command words))
    → PutsWithin bound
    (effect_of_reading s
    (if is_wrong_count then Err (WrongNumberOfWords command) else (if is_long then Err LongKey else Ok (record { name = command; arguments = words })))).changes
checked-within s bound command words true is_long within = nothing_put bound [] refl
checked-within s bound command words false true within = nothing_put bound [] refl
checked-within s bound command words false false within = within

served-within : (s : Keyspace) (command : CommandName) (words : List (List ℕ)) (served : Bool)
    → PutsWithin (most (puts command) words) (effect_of_reading s (read_named (if served then Some command else None) words)).changes
served-within s command words true =
    checked-within s (most (puts command) words) command words (not (takes (row command).words (length words + 1))) (not (are_short (row command).keys words))
    (does-within s command words)
served-within s command words false = nothing_put (most (puts command) words) [] refl

named-within : (s : Keyspace) (found : Option CommandName) (words : List (List ℕ))
    → PutsWithin (most (puts_if_named found) words) (effect_of_reading s (read_named (if_served found) words)).changes
named-within s None words = nothing_put (most Nothing words) [] refl
named-within s (Some command) words = served-within s command words (is_served command)

pub request-within : (s : Keyspace) (words : List (List ℕ)) → PutsWithin (most_puts words) (outcome_of_words s words).changes
unfolding outcome_of_words
request-within s [] = nothing_put (most_puts []) [] refl
request-within s (word ∷ words) = named-within s (find COMMANDS word) words
