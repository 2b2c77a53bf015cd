use Rattle.std.proofs.Common.{◌≡◌, ◌++◌, drop}
use Rattle.std.specs.List.{flat_map}
use Rattle.kv_types.specs.Request.{bulk, spelling}
use Rattle.client.proofs.request.spelled.Given as goal

abbrev pub invariant-loop-word : goal.invariant-loop-word
invariant-loop-word l = l.text.items ++ flat_map bulk (drop l.word-index l.words) ≡ spelling l.fn.words
