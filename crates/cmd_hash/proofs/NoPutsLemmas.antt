-- The commands that put nothing: one lemma for each.
use Rattle.std.proofs.Common.{◌≡◌, ℕ, List, [], ◌∷◌, Some, length, if◌then◌else◌, map, pos, refl}
use Rattle.kv_types.specs.declared.record_id.RecordId.TheVariants.{Field}
use Rattle.kv_types.specs.declared.change.Change.TheVariants.{Drop}
use Rattle.kv_types.specs.Keyspace.{Keyspace}
use Rattle.cmd_core.specs.Contents.{check_hash, fields_of}
use Rattle.cmd_core.specs.Outcome.{Outcome, Answers, Integer, Bulk, Bulks, reads}
use Rattle.cmd_core.specs.Puts.{put_sizes}
use Rattle.cmd_core.proofs.PutsLemmas.{PutsNothing, on_ok-nothing}
use Rattle.cmd_hash.specs.Hash.{on_hash, value_of, has_field}
use Rattle.cmd_hash.specs.Reading.{hget, hmget, hexists, length_of, hstrlen}
use Rattle.cmd_hash.specs.Whole.{hlen, by_turns, hgetall, hkeys, hvals}
use Rattle.cmd_hash.specs.Writing.{removed, hdel}

on_hash-puts : (s : Keyspace) (key : List ℕ) (rest : Outcome) → PutsNothing rest → PutsNothing (on_hash s key rest)
on_hash-puts s key rest nothing = on_ok-nothing (check_hash s key) (λ checked. rest) (λ checked. nothing)

-- ---- fields by their names

pub hget-puts : (s : Keyspace) (words : List (List ℕ)) → PutsNothing (hget s words)
hget-puts s [] = refl
hget-puts s (key ∷ []) = refl
hget-puts s (key ∷ field ∷ []) = on_hash-puts s key (reads (Bulk (value_of s key field))) refl
hget-puts s (key ∷ field ∷ more ∷ words) = refl

pub hmget-puts : (s : Keyspace) (words : List (List ℕ)) → PutsNothing (hmget s words)
hmget-puts s [] = refl
hmget-puts s (key ∷ fields) = on_hash-puts s key (reads (Bulks (map (λ field. value_of s key field) fields))) refl

pub hexists-puts : (s : Keyspace) (words : List (List ℕ)) → PutsNothing (hexists s words)
hexists-puts s [] = refl
hexists-puts s (key ∷ []) = refl
hexists-puts s (key ∷ field ∷ []) = on_hash-puts s key (reads (Integer (pos (if has_field s key field then 1 else 0)))) refl
hexists-puts s (key ∷ field ∷ more ∷ words) = refl

pub hstrlen-puts : (s : Keyspace) (words : List (List ℕ)) → PutsNothing (hstrlen s words)
hstrlen-puts s [] = refl
hstrlen-puts s (key ∷ []) = refl
hstrlen-puts s (key ∷ field ∷ []) = on_hash-puts s key (reads (Integer (pos (length_of (value_of s key field))))) refl
hstrlen-puts s (key ∷ field ∷ more ∷ words) = refl

drops-put : (key : List ℕ) (fields : List (List ℕ)) → put_sizes (map (λ field. Drop (Field key field)) fields) ≡ []
drops-put key [] = refl
drops-put key (field ∷ fields) = drops-put key fields

pub hdel-puts : (s : Keyspace) (words : List (List ℕ)) → PutsNothing (hdel s words)
hdel-puts s [] = refl
hdel-puts s (key ∷ fields) =
    on_hash-puts s key (Answers (Integer (pos (length (removed s key fields)))) (map (λ field. Drop (Field key field)) (removed s key fields)))
    (drops-put key (removed s key fields))

-- ---- whole hashes

pub hlen-puts : (s : Keyspace) (words : List (List ℕ)) → PutsNothing (hlen s words)
hlen-puts s [] = refl
hlen-puts s (key ∷ []) = on_hash-puts s key (reads (Integer (pos (length (fields_of s key))))) refl
hlen-puts s (key ∷ more ∷ words) = refl

pub hgetall-puts : (s : Keyspace) (words : List (List ℕ)) → PutsNothing (hgetall s words)
hgetall-puts s [] = refl
hgetall-puts s (key ∷ []) = on_hash-puts s key (reads (Bulks (by_turns (fields_of s key)))) refl
hgetall-puts s (key ∷ more ∷ words) = refl

pub hkeys-puts : (s : Keyspace) (words : List (List ℕ)) → PutsNothing (hkeys s words)
hkeys-puts s [] = refl
hkeys-puts s (key ∷ []) = on_hash-puts s key (reads (Bulks (map (λ entry. Some entry.0) (fields_of s key)))) refl
hkeys-puts s (key ∷ more ∷ words) = refl

pub hvals-puts : (s : Keyspace) (words : List (List ℕ)) → PutsNothing (hvals s words)
hvals-puts s [] = refl
hvals-puts s (key ∷ []) = on_hash-puts s key (reads (Bulks (map (λ entry. Some entry.1) (fields_of s key)))) refl
hvals-puts s (key ∷ more ∷ words) = refl
