-- What each command puts stays within what is told of it: one for each command that may put.
use Rattle.std.proofs.Common.{arith, ℕ, ◌+◌, ◌/◌, ◌≤◌, List, [], ◌∷◌, length, refl, pos, if◌then◌else◌}
use Rattle.std.specs.List.{AllByRecursion}
use Rattle.kv_types.specs.declared.record_id.RecordId.TheVariants.{Field}
use Rattle.kv_types.specs.declared.change.Change.TheVariants.{Put}
use Rattle.kv_types.specs.Keyspace.{Keyspace}
use Rattle.cmd_core.specs.declared.error.CommandError.TheVariants.{NotAnInteger, HashNotAnInteger}
use Rattle.cmd_core.specs.declared.puts.PutBound.{PutBound}
use Rattle.cmd_core.specs.declared.puts.Puts.{Puts}
use Rattle.cmd_core.specs.declared.puts.Puts.TheVariants.{Words, Integer as Number, Pairs}
use Rattle.cmd_core.specs.Contents.{check_hash}
use Rattle.cmd_core.specs.Counter.{increased}
use Rattle.cmd_core.specs.Integer.{int_of}
use Rattle.cmd_core.specs.Naming.{firsts}
use Rattle.cmd_core.specs.Outcome.{Outcome, Answers, Integer, reads, changes_of}
use Rattle.cmd_core.specs.Puts.{most, longest_pair, put_sizes, PutsWithin}
use Rattle.cmd_core.proofs.PutsLemmas.{nothing_put, one_put, if-within, on_ok-within, on_some-within, increased-within}
use Rattle.cmd_hash.specs.Counter.{hincrby}
use Rattle.cmd_hash.specs.Hash.{on_hash, value_of, has_field}
use Rattle.cmd_hash.specs.Writing.{puts_of, absent, hset, hsetnx}

abbrev Within : Puts → List (List ℕ) → Outcome → Type 0
Within puts words outcome = PutsWithin (most puts words) (changes_of outcome)

on_hash-within : (bound : PutBound) (s : Keyspace) (key : List ℕ) (rest : Outcome) → PutsWithin bound (changes_of rest) → PutsWithin bound (changes_of (on_hash s key rest))
on_hash-within bound s key rest within = on_ok-within bound (check_hash s key) (λ checked. rest) (λ checked. within)

-- ---- fields and values by turns

puts_of-few : (key : List ℕ) (words : List (List ℕ)) → length (put_sizes (puts_of key words)) ≤ length words / 2
puts_of-few key [] = omega arith
puts_of-few key (field ∷ []) = omega arith
puts_of-few key (field ∷ value ∷ words) = let rest : length (put_sizes (puts_of key words)) ≤ length words / 2 = puts_of-few key words in omega arith

puts_of-short : (bytes : ℕ) (key : List ℕ) (words : List (List ℕ)) → length key + longest_pair words ≤ bytes
    → AllByRecursion (λ size. size ≤ bytes) (put_sizes (puts_of key words))
puts_of-short bytes key [] room = tt
puts_of-short bytes key (field ∷ []) room = tt
puts_of-short bytes key (field ∷ value ∷ words) room = (omega arith, puts_of-short bytes key words (omega arith))

pub hset-within : (s : Keyspace) (words : List (List ℕ)) → Within (Pairs 1) words (hset s words)
hset-within s [] = nothing_put (most (Pairs 1) []) [] refl
hset-within s (key ∷ words) =
    let bound = most (Pairs 1) (key ∷ words) in
    on_hash-within bound s key (Answers (Integer (pos (length (firsts (absent s key words))))) (puts_of key words))
    (record { few = puts_of-few key words; short = puts_of-short bound.bytes key words (omega arith) })

-- ---- one field

pub hsetnx-within : (s : Keyspace) (words : List (List ℕ)) → Within (Words 3) words (hsetnx s words)
hsetnx-within s [] = nothing_put (most (Words 3) []) [] refl
hsetnx-within s (key ∷ []) = nothing_put (most (Words 3) (key ∷ [])) [] refl
hsetnx-within s (key ∷ field ∷ []) = nothing_put (most (Words 3) (key ∷ field ∷ [])) [] refl
hsetnx-within s (key ∷ field ∷ value ∷ []) =
    let bound = most (Words 3) (key ∷ field ∷ value ∷ []) in
    let there = reads (Integer (pos 0)) in
    let written = Answers (Integer (pos 1)) (Put (Field key field) value ∷ []) in
    on_hash-within bound s key (if has_field s key field then there else written)
    (if-within bound (has_field s key field) there written (nothing_put bound [] refl) (one_put bound.bytes (Field key field) value (omega arith)))
hsetnx-within s (key ∷ field ∷ value ∷ more ∷ words) = nothing_put (most (Words 3) (key ∷ field ∷ value ∷ more ∷ words)) [] refl

pub hincrby-within : (s : Keyspace) (words : List (List ℕ)) → Within (Number 2) words (hincrby s words)
hincrby-within s [] = nothing_put (most (Number 2) []) [] refl
hincrby-within s (key ∷ []) = nothing_put (most (Number 2) (key ∷ [])) [] refl
hincrby-within s (key ∷ field ∷ []) = nothing_put (most (Number 2) (key ∷ field ∷ [])) [] refl
hincrby-within s (key ∷ field ∷ amount ∷ []) =
    let bound = most (Number 2) (key ∷ field ∷ amount ∷ []) in
    on_some-within bound NotAnInteger (int_of amount)
    (λ n. on_hash s key (increased HashNotAnInteger (Field key field) (value_of s key field) n))
    (λ n. on_hash-within bound s key (increased HashNotAnInteger (Field key field) (value_of s key field) n)
    (increased-within bound.bytes HashNotAnInteger (Field key field) (value_of s key field) n (omega arith)))
hincrby-within s (key ∷ field ∷ amount ∷ more ∷ words) = nothing_put (most (Number 2) (key ∷ field ∷ amount ∷ more ∷ words)) [] refl
