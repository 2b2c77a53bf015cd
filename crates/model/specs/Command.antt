-- What an item of a connection asks for. A request goes through the session of its connection, which has it run, or queued, or answers it; a
-- protocol fault is answered in its turn.
use Rattle.std.specs.Prelude.{◌≡◌, ℕ, Bool, true, List}
use Rattle.kv_types.specs.declared.item.Item.{Item}
use Rattle.kv_types.specs.declared.item.Item.TheVariants.{Request, Fault}
use Rattle.kv_types.specs.declared.reply.Reply.{Error}
use Rattle.kv_types.specs.Keyspace.{Keyspace}
use Rattle.kv_types.specs.Fault.{fault_message}
use Rattle.cmd_table.specs.Request as request
use Rattle.multi_watch.specs.Session.{Session}
use Rattle.multi_watch.specs.Admission.{Admission, Answer, admit}
use Rattle.model.specs.declared.effect.Effect.{Effect as Computed}

-- what a command answers, and what it changes, one change after another
abbrev pub Effect : Type 0
Effect = request.Effect

-- the meaning of the words of a request that is run
abbrev pub outcome_of : Keyspace → List (List ℕ) → Effect
outcome_of = request.outcome_of_words

-- what is to be done for an item of a connection with this session
abbrev pub admission_of : Session → Item → Admission
admission_of session (Request words) = admit session words
admission_of session (Fault fault) = Answer (Error (fault_message fault))

-- after this item nothing more is taken from its connection
abbrev pub closes : Item → Bool
closes (Request words) = request.closes words
closes (Fault fault) = true

-- what was computed has this reply and these changes
pub record Gives (computed : Computed) (outcome : Effect) : Type 0 where
  pub reply : computed.reply ≡ outcome.reply
  pub changes : computed.changes.items ≡ outcome.changes
