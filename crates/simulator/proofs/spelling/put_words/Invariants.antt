use Rattle.std.proofs.Common.{◌≡◌, ◌++◌, flat_map}
use Rattle.std.specs.Vec.Iter.{into_iter_items}
use Rattle.kv_types.specs.Request.{bulk}
use Rattle.simulator.proofs.spelling.put_words.Given as goal

-- the words that are put and those that are left
abbrev pub invariant-loop-word : goal.invariant-loop-word
invariant-loop-word l = l.text.items ++ flat_map bulk (into_iter_items l.word-iterator) ≡ l.initial.text.items ++ flat_map bulk l.fn.words.items
