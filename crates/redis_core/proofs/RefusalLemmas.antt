-- Why a request is refused: no command answers by itself that the store is full, and one that needs no room is never refused for it.
use Rattle.std.proofs.Common.{◌≡◌, ◌≢◌, ℕ, Bool, true, false, ◌||◌, IsTrue, List, [], ◌∷◌, get_or, Some, None, Result, Ok, Err, refl, ap, arith}
use Rattle.kv_types.specs.declared.change.Change.{Change}
use Rattle.kv_types.specs.declared.change.Change.TheVariants as change
use Rattle.kv_types.specs.declared.reply.Reply.{Reply, Simple, Error, Int, Bulk, NullBulk, Array', NullArray}
use Rattle.kv_types.specs.Keyspace.{Keyspace}
use Rattle.model.specs.declared.group.PlacedChange.TheVariants as placed
use Rattle.model.specs.Call.{is_put, writes, memory_reply, full_reply, too_large_reply}
use Rattle.cmd_core.specs.declared.error.CommandError.{CommandError}
use Rattle.cmd_core.specs.declared.error.CommandError.TheVariants.{Syntax, NotAnInteger, HashNotAnInteger, Overflow, DecrementOverflow, WrongType, LongString}
use Rattle.cmd_core.specs.Error.{error_text}
use Rattle.cmd_core.specs.Outcome as answer
use Rattle.cmd_core.specs.Outcome.{Answer, Outcome as CommandOutcome, Answers as Does, Fails}
use Rattle.cmd_core.specs.Reply.{reply_of_answer}
use Rattle.cmd_table.specs.declared.misuse.Misuse.{Misuse}
use Rattle.cmd_table.specs.declared.misuse.Misuse.TheVariants.{UnknownName, WrongNumberOfWords, LongKey}
use Rattle.cmd_table.specs.Misuse.{misuse_text}
use Rattle.cmd_table.specs.Command.{Command, read_command}
use Rattle.cmd_table.specs.Meaning.{does}
use Rattle.cmd_table.specs.Request.{effect_of, effect_of_reading, outcome_of_words}
use Rattle.extent_heap.specs.Room.{Room}
use Rattle.placing.specs.Place.{HasRoomFor}

-- ---- what a command answers and what it changes

abbrev SameByte : ℕ → ℕ → Type 0
SameByte a b = a ≡ b

-- one byte of an error, in which two texts differ
abbrev error_byte : ℕ → Reply → ℕ
error_byte n (Simple text) = 0
error_byte n (Error text) = get_or text n 0
error_byte n (Int number) = 0
error_byte n (Bulk bytes) = 0
error_byte n NullBulk = 0
error_byte n (Array' shape replies) = 0
error_byte n NullArray = 0

answer_not_full : (answer : Answer) → reply_of_answer answer ≢ full_reply
answer_not_full (answer.Simple status) = λ e. cc
answer_not_full (answer.Integer n) = λ e. cc
answer_not_full (answer.Bulk None) = λ e. cc
answer_not_full (answer.Bulk (Some value)) = λ e. cc
answer_not_full (answer.Bulks values) = λ e. cc

command_error_not_full : (error : CommandError) → Error (error_text error) ≢ full_reply
command_error_not_full Syntax = λ e. let byte : SameByte 121 116 = ap (error_byte 5) e in omega arith
command_error_not_full NotAnInteger = λ e. let byte : SameByte 97 116 = ap (error_byte 5) e in omega arith
command_error_not_full HashNotAnInteger = λ e. let byte : SameByte 97 116 = ap (error_byte 5) e in omega arith
command_error_not_full Overflow = λ e. let byte : SameByte 110 116 = ap (error_byte 5) e in omega arith
command_error_not_full DecrementOverflow = λ e. let byte : SameByte 101 116 = ap (error_byte 5) e in omega arith
command_error_not_full WrongType = λ e. let byte : SameByte 84 116 = ap (error_byte 5) e in omega arith
command_error_not_full LongString = λ e. let byte : SameByte 114 111 = ap (error_byte 6) e in omega arith

misuse_not_full : (misuse : Misuse) → Error (misuse_text misuse) ≢ full_reply
misuse_not_full UnknownName = λ e. let byte : SameByte 110 116 = ap (error_byte 5) e in omega arith
misuse_not_full (WrongNumberOfWords command) = λ e. let byte : SameByte 114 116 = ap (error_byte 5) e in omega arith
misuse_not_full LongKey = λ e. let byte : SameByte 101 116 = ap (error_byte 5) e in omega arith

effect_not_full : (outcome : CommandOutcome) → (effect_of outcome).reply ≢ full_reply
effect_not_full (Does answer changes) = answer_not_full answer
effect_not_full (Fails error) = command_error_not_full error

reading_not_full : (s : Keyspace) (reading : Result Command Misuse) → (effect_of_reading s reading).reply ≢ full_reply
reading_not_full s (Ok command) = effect_not_full (does s command.name command.arguments)
reading_not_full s (Err misuse) = misuse_not_full misuse

-- no outcome has the reply that the store is full
pub words_not_full : (s : Keyspace) (words : List (List ℕ)) → (outcome_of_words s words).reply ≢ full_reply
unfolding outcome_of_words
words_not_full s words = reading_not_full s (read_command words)

pub memory_not_full : memory_reply ≢ full_reply
memory_not_full e = let byte : SameByte 117 116 = ap (error_byte 5) e in omega arith

pub large_not_full : too_large_reply ≢ full_reply
large_not_full e = let byte : SameByte 104 116 = ap (error_byte 5) e in omega arith

-- ---- changes without a put need no room

with_change : (room : Room) (change : Change) (changes : List Change) → is_put change ≡ false → HasRoomFor room changes → HasRoomFor room (change ∷ changes)
with_change room (change.Put id value) changes none has = cc
with_change room (change.Drop id) changes none has = record { placed = placed.Drop id ∷ has.placed; left = has.left; these = ap (λ cs. change.Drop id ∷ cs) has.these; places = has.places }
with_change room (change.DropKey key) changes none has = record { placed = placed.DropKey key ∷ has.placed; left = has.left; these = ap (λ cs. change.DropKey key ∷ cs) has.these; places = has.places }
with_change room change.Clear changes none has = record { placed = placed.Clear ∷ has.placed; left = has.left; these = ap (λ cs. change.Clear ∷ cs) has.these; places = has.places }

neither : (a b : Bool) → (a || b) ≡ false → (a ≡ false) × (b ≡ false)
neither true b e = cc
neither false b e = (refl, e)

room_without_puts : (room : Room) (changes : List Change) → writes changes ≡ false → HasRoomFor room changes
room_without_puts room [] none = record { placed = []; left = room; these = refl; places = refl }
room_without_puts room (change ∷ changes) none =
    let parts = neither (is_put change) (writes changes) none in
    with_change room change changes parts.0 (room_without_puts room changes parts.1)

pub writes_where_full : (room : Room) (changes : List Change) → ¬ HasRoomFor room changes → IsTrue (writes changes)
writes_where_full room changes full =
    elim (writes changes) as (λ b. writes changes ≡ b → IsTrue b) [ true ↦ λ _. refl | false ↦ λ none. absurd (full (room_without_puts room changes none)) ] refl
