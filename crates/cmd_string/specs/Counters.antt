-- The meaning of the commands that count: the Redis page of each. The arguments are the words after the name.
use Rattle.std.specs.Prelude.{ℕ, ℤ, pos, neg_ℤ, if◌then◌else◌, List, [], ◌∷◌}
use Rattle.kv_types.specs.declared.record_id.RecordId.TheVariants.{Str}
use Rattle.kv_types.specs.Keyspace.{Keyspace}
use Rattle.cmd_core.specs.declared.error.CommandError.TheVariants.{NotAnInteger, DecrementOverflow}
use Rattle.cmd_core.specs.Contents.{string_at}
use Rattle.cmd_core.specs.Counter.{increased}
use Rattle.cmd_core.specs.Integer.{int_of, is_in_range}
use Rattle.cmd_core.specs.Outcome.{Outcome, Fails, excluded, on_ok, on_some}

-- an amount is added to the number at a key
abbrev pub added : Keyspace → List ℕ → ℤ → Outcome
added s key amount = on_ok (string_at s key) (λ value. increased NotAnInteger (Str key) value amount)

abbrev pub incr : Keyspace → List (List ℕ) → Outcome
incr s (key ∷ []) = added s key (pos 1)
incr s _ = excluded

abbrev pub decr : Keyspace → List (List ℕ) → Outcome
decr s (key ∷ []) = added s key (neg_ℤ (pos 1))
decr s _ = excluded

-- the amount is looked at before the key
abbrev pub incrby : Keyspace → List (List ℕ) → Outcome
incrby s (key ∷ amount ∷ []) = on_some NotAnInteger (int_of amount) (λ n. added s key n)
incrby s _ = excluded

-- the amount, and whether it has an opposite, is looked at before the key
abbrev pub decrby : Keyspace → List (List ℕ) → Outcome
decrby s (key ∷ amount ∷ []) =
    on_some NotAnInteger (int_of amount) (λ n. if is_in_range (neg_ℤ n) then added s key (neg_ℤ n) else Fails DecrementOverflow)
decrby s _ = excluded
