-- A request that is answered with an error changes nothing, by its own meaning.
use Rattle.std.proofs.Common.{◌≡◌, ℕ, List, arith}
use Rattle.kv_types.specs.Keyspace.{Keyspace}
use Rattle.cmd_table.specs.Request.{outcome_of_words}
use Rattle.model.specs.Call.{unless_error, made}
use Rattle.model.specs.Command.{outcome_of}

outcome_of_words-error : (s : Keyspace) (words : List (List ℕ)) → unless_error (outcome_of_words s words).reply (outcome_of_words s words).changes ≡ (outcome_of_words s words).changes
unfolding outcome_of_words
outcome_of_words-error s words = grind arith

-- with its own reply a request makes all its changes
pub made-own : (s : Keyspace) (words : List (List ℕ)) → made s words (outcome_of s words).reply ≡ (outcome_of s words).changes
made-own s words = outcome_of_words-error s words
