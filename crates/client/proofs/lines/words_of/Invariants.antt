use Rattle.std.proofs.Common.{◌≡◌, ◌++◌, drop}
use Rattle.client.specs.Asked.{words_behind, words_of}
use Rattle.client.proofs.lines.words_of.Given as goal

abbrev pub invariant-loop-byte : goal.invariant-loop-byte
invariant-loop-byte l = l.words.items ++ words_behind l.word.items (drop l.byte-index l.line) ≡ words_of l.fn.line
