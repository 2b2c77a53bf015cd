-- The worked cases of requests and of lists of calls, computed from the definitions.
use Rattle.std.proofs.Common.{◌≡◌, ℕ, ◌+◌, List, [], ◌∷◌, ◌++◌, cond, codes, replicate, inl, inr, refl, ap, ◌∙◌, lit≤}
use Rattle.std.specs.Fmt.{digits}
use Rattle.kv_types.specs.declared.change.Change.{Change}
use Rattle.kv_types.specs.declared.change.Change.TheVariants.{Put}
use Rattle.kv_types.specs.declared.item.Item.TheVariants.{Request, Fault}
use Rattle.kv_types.specs.declared.item.ProtocolFault.TheVariants.{ExpectedBulk}
use Rattle.kv_types.specs.declared.record_id.RecordId.TheVariants.{Str, Field}
use Rattle.kv_types.specs.declared.reply.Reply.{Reply, Simple, Error, Bulk, NullBulk, NullArray, Array}
use Rattle.kv_types.specs.Keyspace.{Keyspace}
use Rattle.cmd_core.specs.Contents.{has_key}
use Rattle.cmd_core.specs.Integer.{int_of}
use Rattle.kv_types.specs.CommandName.{is_named}
use Rattle.cmd_table.specs.Request.{outcome_of_words, closes}
use Rattle.model.specs.declared.call.Call.{Call}
use Rattle.multi_watch.specs.Session.{idle_session}
use Rattle.multi_watch.specs.Admission.{Answer}
use Rattle.multi_watch.specs.Verb.{verb_of}
use Rattle.model.specs.Command.{Effect, outcome_of, admission_of}
use Rattle.model.proofs.CallsLemmas.{position_of-push}
use Rattle.model.proofs.SessionLemmas.{replies_in-Array}
use Rattle.model.specs.Call.{memory_reply, full_reply, changes_of, all_made, is_nonempty, IsLegal, state_after, keyspace_after, position_of, cut_at, replies_to, up_to_closing}
use Rattle.model.specs.Position.{changes_at}

-- ---- what a command answers and changes

abbrev holds_a : Keyspace
holds_a = (Str (codes "a"), codes "1") ∷ []

abbrev refusing : List ℕ → Effect
refusing message = record { reply = Error message; changes = [] }

requests :
    (outcome_of [] (codes "GET" ∷ codes "z" ∷ []) ≡ record { reply = NullBulk; changes = [] })
    × (outcome_of holds_a (codes "get" ∷ codes "a" ∷ []) ≡ record { reply = Bulk (codes "1"); changes = [] })
    × (outcome_of [] (codes "sEt" ∷ codes "a" ∷ codes "1" ∷ []) ≡ record { reply = Simple (codes "OK"); changes = Put (Str (codes "a")) (codes "1") ∷ [] })
    -- the empty value
    × (outcome_of [] (codes "SET" ∷ codes "e" ∷ [] ∷ []) ≡ record { reply = Simple (codes "OK"); changes = Put (Str (codes "e")) [] ∷ [] })
    × (outcome_of [] (codes "gEt" ∷ []) ≡ refusing (codes "ERR wrong number of arguments for 'get' command"))
    × (outcome_of holds_a (codes "GET" ∷ codes "a" ∷ codes "b" ∷ []) ≡ refusing (codes "ERR wrong number of arguments for 'get' command"))
    × (outcome_of [] (codes "SET" ∷ codes "a" ∷ []) ≡ refusing (codes "ERR wrong number of arguments for 'set' command"))
    × (outcome_of ((Field (codes "h") (codes "f"), codes "1") ∷ []) (codes "APPEND" ∷ codes "h" ∷ codes "x" ∷ []) ≡ refusing (codes "WRONGTYPE Operation against a key holding the wrong kind of value"))
    -- one call with two changes
    × (outcome_of [] (codes "MSET" ∷ codes "a" ∷ codes "1" ∷ codes "b" ∷ codes "2" ∷ [])
    ≡ record { reply = Simple (codes "OK"); changes = Put (Str (codes "a")) (codes "1") ∷ Put (Str (codes "b")) (codes "2") ∷ [] })
    × (outcome_of [] (codes "NOSUCH" ∷ codes "a" ∷ []) ≡ refusing (codes "ERR unknown command"))
    -- a key of 512 bytes is a key, one of 513 is too long; its length is checked after the number of arguments
    × (outcome_of [] (codes "GET" ∷ replicate 513 107 ∷ []) ≡ refusing (codes "ERR key or field is longer than 512 bytes"))
    × (outcome_of [] (codes "GET" ∷ replicate 512 107 ∷ []) ≡ record { reply = NullBulk; changes = [] })
    × (outcome_of [] (codes "GET" ∷ replicate 513 107 ∷ codes "x" ∷ []) ≡ refusing (codes "ERR wrong number of arguments for 'get' command"))
    × (outcome_of [] (codes "SET" ∷ replicate 513 107 ∷ codes "1" ∷ codes "NX" ∷ []) ≡ refusing (codes "ERR key or field is longer than 512 bytes"))
unfolding outcome_of_words is_named has_key
requests = (refl, refl, refl, refl, refl, refl, refl, refl, refl, refl, refl, refl, refl, refl)

fault_answered : admission_of idle_session (Fault (ExpectedBulk 7)) ≡ Answer (Error (codes "ERR Protocol error: expected '$', got '?'"))
fault_answered = refl

-- ---- lists of calls

abbrev set_a : List ℕ → Reply → Call
set_a value reply = record { connection = 0; item = Request (codes "SET" ∷ codes "a" ∷ value ∷ []); reply = reply }

abbrev get_a : ℕ → Reply → Call
get_a connection reply = record { connection = connection; item = Request (codes "GET" ∷ codes "a" ∷ []); reply = reply }

-- a write, a read by another connection, a write for which there was no memory, one for which there was no room, and a read
abbrev worked_list : List Call
worked_list =
    set_a (codes "1") (Simple (codes "OK")) ∷ get_a 1 (Bulk (codes "1")) ∷ set_a (codes "2") memory_reply ∷ set_a (codes "3") full_reply ∷ get_a 0 (Bulk (codes "1")) ∷ set_a (codes "4") (Simple (codes "OK")) ∷ []

worked_list_legal : IsLegal worked_list
unfolding outcome_of_words closes verb_of is_named has_key
worked_list_legal =
    (inr (inr (inl (lit≤ tt, refl))), (inr (inr (inl (lit≤ tt, refl))), (inl refl, (inr (inr (inr (lit≤ tt, refl, refl))), (inr (inr (inl (lit≤ tt, refl))), (inr (inr (inl (lit≤ tt, refl))), tt))))))

worked_list_leaves :
    (keyspace_after worked_list ≡ (Str (codes "a"), codes "4") ∷ [])
    -- neither a write nor a refusal begins a transaction
    × ((state_after worked_list).sessions 0 ≡ idle_session)
    -- reads and refused writes do not count
    × (position_of worked_list ≡ 2)
    -- the cut keeps what follows its last change and changes nothing
    × (cut_at worked_list 1 ≡ set_a (codes "1") (Simple (codes "OK")) ∷ get_a 1 (Bulk (codes "1")) ∷ set_a (codes "2") memory_reply ∷ set_a (codes "3") full_reply ∷ get_a 0 (Bulk (codes "1")) ∷ [])
    × (keyspace_after (cut_at worked_list 1) ≡ holds_a)
    × (changes_at worked_list 1 ≡ Put (Str (codes "a")) (codes "4") ∷ [])
unfolding outcome_of_words closes verb_of is_named has_key
worked_list_leaves = (refl, refl, refl, refl, refl, refl)

replies_of_one : replies_to 1 worked_list ≡ codes "$1\r\n1\r\n"
unfolding digits
replies_of_one = refl

-- ---- transactions

abbrev asks : ℕ → List (List ℕ) → Reply → Call
asks connection words reply = record { connection = connection; item = Request words; reply = reply }

abbrev queued : Reply
queued = Simple (codes "QUEUED")

abbrev ok : Reply
ok = Simple (codes "OK")

abbrev worked_queue : List Call
worked_queue =
    asks 0 (codes "MULTI" ∷ []) ok ∷ asks 0 (codes "SET" ∷ codes "a" ∷ codes "x" ∷ []) queued ∷ asks 0 (codes "INCR" ∷ codes "a" ∷ []) queued
    ∷ asks 0 (codes "SET" ∷ codes "b" ∷ codes "y" ∷ []) queued ∷ []

-- an error of one request neither stops nor undoes the others
abbrev exec_replies : List Reply
exec_replies = ok ∷ Error (codes "ERR value is not an integer or out of range") ∷ ok ∷ []

abbrev exec_call : Call
exec_call = asks 0 (codes "EXEC" ∷ []) (Array exec_replies)

worked_transaction_legal : IsLegal (worked_queue ++ exec_call ∷ [])
unfolding outcome_of_words closes verb_of is_named has_key int_of digits
worked_transaction_legal = (
  inr refl,
  (
    inr refl,
    (
      inr refl,
      (
        inr refl,
        (
          inr (
            exec_replies,
            refl,
            (inr (inr (inl (lit≤ tt, refl))), (inr (inr (inl (lit≤ tt, refl))), (inr (inr (inl (lit≤ tt, refl))), tt))),
          ),
          tt,
        ),
      ),
    ),
  ),
)

worked_transaction_changes : changes_of (state_after worked_queue) exec_call ≡ Put (Str (codes "a")) (codes "x") ∷ Put (Str (codes "b")) (codes "y") ∷ []
unfolding outcome_of_words closes verb_of is_named has_key int_of digits
worked_transaction_changes =
    ap (all_made [] ((codes "SET" ∷ codes "a" ∷ codes "x" ∷ []) ∷ (codes "INCR" ∷ codes "a" ∷ []) ∷ (codes "SET" ∷ codes "b" ∷ codes "y" ∷ []) ∷ [])) (replies_in-Array exec_replies)

-- two writes, and one call that changed something
worked_transaction_position : position_of (worked_queue ++ exec_call ∷ []) ≡ 1
unfolding outcome_of_words closes verb_of is_named has_key
worked_transaction_position =
    position_of-push worked_queue exec_call ∙ ap (λ (changes : List Change). position_of worked_queue + cond (is_nonempty changes) 1 0) worked_transaction_changes

-- the own connection wrote the watched key, the value that it held already
abbrev worked_watch : List Call
worked_watch =
    asks 0 (codes "SET" ∷ codes "k" ∷ codes "v" ∷ []) ok ∷ asks 0 (codes "WATCH" ∷ codes "k" ∷ []) ok ∷ asks 0 (codes "SET" ∷ codes "k" ∷ codes "v" ∷ []) ok
    ∷ asks 0 (codes "MULTI" ∷ []) ok ∷ asks 0 (codes "GET" ∷ codes "k" ∷ []) queued ∷ asks 0 (codes "EXEC" ∷ []) NullArray ∷ []

worked_watch_legal : IsLegal worked_watch
unfolding outcome_of_words closes verb_of is_named has_key
worked_watch_legal = (inr (inr (inl (lit≤ tt, refl))), (inr refl, (inr (inr (inl (lit≤ tt, refl))), (inr refl, (inr refl, (inr refl, tt))))))

nothing_after :
    -- nothing is asked for after a request to quit
    (up_to_closing (Request (codes "GET" ∷ codes "a" ∷ []) ∷ Request (codes "quit" ∷ []) ∷ Request (codes "GET" ∷ codes "a" ∷ []) ∷ [])
    ≡ Request (codes "GET" ∷ codes "a" ∷ []) ∷ Request (codes "quit" ∷ []) ∷ [])
    -- nor after a protocol fault
    × (up_to_closing (Request (codes "GET" ∷ codes "a" ∷ []) ∷ Fault (ExpectedBulk 7) ∷ Request (codes "GET" ∷ codes "a" ∷ []) ∷ [])
    ≡ Request (codes "GET" ∷ codes "a" ∷ []) ∷ Fault (ExpectedBulk 7) ∷ [])
unfolding closes is_named
nothing_after = (refl, refl)
