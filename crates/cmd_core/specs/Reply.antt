-- How an outcome is a reply: the reply of each command is the one of its Redis page.
use Rattle.std.specs.Prelude.{ℕ, List, map, Option, None, Some, codes}
use Rattle.kv_types.specs.declared.reply.Reply as reply
use Rattle.kv_types.specs.declared.reply.Reply.{Reply}
use Rattle.cmd_core.specs.declared.outcome.Status.{Status}
use Rattle.cmd_core.specs.declared.outcome.Status.TheVariants as status
use Rattle.cmd_core.specs.Error.{error_text}
use Rattle.cmd_core.specs.Outcome.{Answer, Simple, Integer, Bulk, Bulks, Outcome, Answers, Fails}

abbrev pub status_text : Status → List ℕ
status_text status.Ok = codes "OK"
status_text status.Pong = codes "PONG"
status_text status.String = codes "string"
status_text status.Hash = codes "hash"
status_text status.None = codes "none"

abbrev pub bulk_or_null : Option (List ℕ) → Reply
bulk_or_null None = reply.NullBulk
bulk_or_null (Some value) = reply.Bulk value

abbrev pub reply_of_answer : Answer → Reply
reply_of_answer (Simple s) = reply.Simple (status_text s)
reply_of_answer (Integer n) = reply.Int n
reply_of_answer (Bulk value) = bulk_or_null value
reply_of_answer (Bulks values) = reply.Array (map bulk_or_null values)

abbrev pub reply_of : Outcome → Reply
reply_of (Answers answer changes) = reply_of_answer answer
reply_of (Fails error) = reply.Error (error_text error)
