-- What each command puts stays within what is told of it: one for each command that may put.
use Rattle.std.proofs.Common.{arith, ◌≡◌, ℕ, ◌+◌, ◌/◌, ◌≤◌, List, [], ◌∷◌, ◌++◌, length, None, refl, nat_le, Bool, true, false, if◌then◌else◌, pos, ℤ, neg_ℤ}
use Rattle.std.specs.List.{AllByRecursion, list_any}
use Rattle.std.proofs.lemmas.Bool.Decides.{nat_tests}
use Rattle.kv_types.specs.declared.limits.TheConstants.{MAX_VALUE_BYTES}
use Rattle.kv_types.specs.declared.record_id.RecordId.TheVariants.{Str}
use Rattle.kv_types.specs.declared.change.Change.TheVariants.{Put}
use Rattle.kv_types.specs.Keyspace.{Keyspace}
use Rattle.cmd_core.specs.declared.error.CommandError.TheVariants.{Syntax, NotAnInteger, DecrementOverflow, LongString}
use Rattle.cmd_core.specs.declared.outcome.Status.TheVariants as status
use Rattle.cmd_core.specs.declared.puts.TheConstants.{MAX_INTEGER_BYTES}
use Rattle.cmd_core.specs.declared.puts.Puts.{Puts}
use Rattle.cmd_core.specs.declared.puts.Puts.TheVariants.{Words, Integer as Number, Appended, Pairs}
use Rattle.cmd_core.specs.Contents.{has_key, string_at}
use Rattle.cmd_core.specs.Counter.{increased}
use Rattle.cmd_core.specs.Integer.{int_of, is_in_range}
use Rattle.cmd_core.specs.Outcome.{Outcome, Answers, Fails, Simple, Integer, Bulk, reads, changes_of}
use Rattle.cmd_core.specs.Puts.{most, one, longest_pair, put_sizes, PutsWithin}
use Rattle.cmd_core.proofs.PutsLemmas.{nothing_put, one_put, if-within, on_ok-within, on_some-within, increased-within}
use Rattle.cmd_string.specs.Condition.{condition_of, allows}
use Rattle.cmd_string.specs.Counters.{added, incr, decr, incrby, decrby}
use Rattle.cmd_string.specs.Strings.{bytes_of, set, setnx, written, append, puts_of, keys_of_pairs, mset, msetnx}

abbrev Within : Puts → List (List ℕ) → Outcome → Type 0
Within puts words outcome = PutsWithin (most puts words) (changes_of outcome)

pub set-within : (s : Keyspace) (words : List (List ℕ)) → Within (Words 2) words (set s words)
set-within s [] = nothing_put (most (Words 2) []) [] refl
set-within s (key ∷ []) = nothing_put (most (Words 2) (key ∷ [])) [] refl
set-within s (key ∷ value ∷ options) =
    let bound = most (Words 2) (key ∷ value ∷ options) in
    on_some-within bound Syntax (condition_of options)
    (λ condition. if allows condition (has_key s key) then Answers (Simple status.Ok) (Put (Str key) value ∷ []) else reads (Bulk None))
    (λ condition. if-within bound (allows condition (has_key s key)) (Answers (Simple status.Ok) (Put (Str key) value ∷ [])) (reads (Bulk None))
    (one_put bound.bytes (Str key) value (omega arith)) (nothing_put bound [] refl))

pub setnx-within : (s : Keyspace) (words : List (List ℕ)) → Within (Words 2) words (setnx s words)
setnx-within s [] = nothing_put (most (Words 2) []) [] refl
setnx-within s (key ∷ []) = nothing_put (most (Words 2) (key ∷ [])) [] refl
setnx-within s (key ∷ value ∷ []) =
    let bound = most (Words 2) (key ∷ value ∷ []) in
    if-within bound (has_key s key) (reads (Integer (pos 0))) (Answers (Integer (pos 1)) (Put (Str key) value ∷ []))
    (nothing_put bound [] refl) (one_put bound.bytes (Str key) value (omega arith))
setnx-within s (key ∷ value ∷ more ∷ words) = nothing_put (most (Words 2) (key ∷ value ∷ more ∷ words)) [] refl

-- ---- counters

added-within : (s : Keyspace) (key : List ℕ) (amount : ℤ) (bytes : ℕ) → length key + MAX_INTEGER_BYTES ≤ bytes → PutsWithin (one bytes) (changes_of (added s key amount))
added-within s key amount bytes room =
    on_ok-within (one bytes) (string_at s key) (λ value. increased NotAnInteger (Str key) value amount)
    (λ value. increased-within bytes NotAnInteger (Str key) value amount room)

pub incr-within : (s : Keyspace) (words : List (List ℕ)) → Within (Number 1) words (incr s words)
incr-within s [] = nothing_put (most (Number 1) []) [] refl
incr-within s (key ∷ []) = added-within s key (pos 1) (most (Number 1) (key ∷ [])).bytes (omega arith)
incr-within s (key ∷ more ∷ words) = nothing_put (most (Number 1) (key ∷ more ∷ words)) [] refl

pub decr-within : (s : Keyspace) (words : List (List ℕ)) → Within (Number 1) words (decr s words)
decr-within s [] = nothing_put (most (Number 1) []) [] refl
decr-within s (key ∷ []) = added-within s key (neg_ℤ (pos 1)) (most (Number 1) (key ∷ [])).bytes (omega arith)
decr-within s (key ∷ more ∷ words) = nothing_put (most (Number 1) (key ∷ more ∷ words)) [] refl

pub incrby-within : (s : Keyspace) (words : List (List ℕ)) → Within (Number 1) words (incrby s words)
incrby-within s [] = nothing_put (most (Number 1) []) [] refl
incrby-within s (key ∷ []) = nothing_put (most (Number 1) (key ∷ [])) [] refl
incrby-within s (key ∷ amount ∷ []) =
    let bound = most (Number 1) (key ∷ amount ∷ []) in
    on_some-within bound NotAnInteger (int_of amount) (λ n. added s key n) (λ n. added-within s key n bound.bytes (omega arith))
incrby-within s (key ∷ amount ∷ more ∷ words) = nothing_put (most (Number 1) (key ∷ amount ∷ more ∷ words)) [] refl

pub decrby-within : (s : Keyspace) (words : List (List ℕ)) → Within (Number 1) words (decrby s words)
decrby-within s [] = nothing_put (most (Number 1) []) [] refl
decrby-within s (key ∷ []) = nothing_put (most (Number 1) (key ∷ [])) [] refl
decrby-within s (key ∷ amount ∷ []) =
    let bound = most (Number 1) (key ∷ amount ∷ []) in
    on_some-within bound NotAnInteger (int_of amount) (λ n. if is_in_range (neg_ℤ n) then added s key (neg_ℤ n) else Fails DecrementOverflow)
    (λ n. if-within bound (is_in_range (neg_ℤ n)) (added s key (neg_ℤ n)) (Fails DecrementOverflow)
    (added-within s key (neg_ℤ n) bound.bytes (omega arith)) (nothing_put bound [] refl))
decrby-within s (key ∷ amount ∷ more ∷ words) = nothing_put (most (Number 1) (key ∷ amount ∷ more ∷ words)) [] refl

-- ---- APPEND: a longer value than there may be is refused

written_if-within : (bytes : ℕ) (key value : List ℕ) (test : Bool) → (test ≡ true → length key + length value ≤ bytes)
    → PutsWithin (one bytes) (changes_of (if test then Answers (Integer (pos (length value))) (Put (Str key) value ∷ []) else Fails LongString))
written_if-within bytes key value true room = one_put bytes (Str key) value (room refl)
written_if-within bytes key value false room = nothing_put (one bytes) [] refl

written-within : (bytes : ℕ) (key value : List ℕ) → length key + MAX_VALUE_BYTES ≤ bytes → PutsWithin (one bytes) (changes_of (written key value))
written-within bytes key value room = written_if-within bytes key value (nat_le (length value) MAX_VALUE_BYTES) (λ is. grind (arith, nat_tests))

pub append-within : (s : Keyspace) (words : List (List ℕ)) → Within Appended words (append s words)
append-within s [] = nothing_put (most Appended []) [] refl
append-within s (key ∷ []) = nothing_put (most Appended (key ∷ [])) [] refl
append-within s (key ∷ more ∷ []) =
    let bound = most Appended (key ∷ more ∷ []) in
    on_ok-within bound (string_at s key) (λ value. written key (bytes_of value ++ more))
    (λ value. written-within bound.bytes key (bytes_of value ++ more) (omega arith))
append-within s (key ∷ more ∷ third ∷ words) = nothing_put (most Appended (key ∷ more ∷ third ∷ words)) [] refl

-- ---- keys and values by turns

puts_of-few : (words : List (List ℕ)) → length (put_sizes (puts_of words)) ≤ length words / 2
puts_of-few [] = omega arith
puts_of-few (key ∷ []) = omega arith
puts_of-few (key ∷ value ∷ words) = let rest : length (put_sizes (puts_of words)) ≤ length words / 2 = puts_of-few words in omega arith

puts_of-short : (bytes : ℕ) (words : List (List ℕ)) → longest_pair words ≤ bytes → AllByRecursion (λ size. size ≤ bytes) (put_sizes (puts_of words))
puts_of-short bytes [] room = tt
puts_of-short bytes (key ∷ []) room = tt
puts_of-short bytes (key ∷ value ∷ words) room = (omega arith, puts_of-short bytes words (omega arith))

pub mset-within : (words : List (List ℕ)) → Within (Pairs 0) words (mset words)
mset-within words = record { few = puts_of-few words; short = puts_of-short (most (Pairs 0) words).bytes words (omega arith) }

pub msetnx-within : (s : Keyspace) (words : List (List ℕ)) → Within (Pairs 0) words (msetnx s words)
msetnx-within s words =
    let bound = most (Pairs 0) words in
    if-within bound (list_any (has_key s) (keys_of_pairs words)) (reads (Integer (pos 0))) (Answers (Integer (pos 1)) (puts_of words))
    (nothing_put bound [] refl) (record { few = puts_of-few words; short = puts_of-short bound.bytes words (omega arith) })
