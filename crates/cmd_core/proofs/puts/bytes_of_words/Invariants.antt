use Rattle.std.proofs.Common.{◌≡◌, ◌+◌, ◌*◌, ◌≤◌, drop}
use Rattle.kv_types.specs.declared.limits.TheConstants.{REQUEST_LIMITS}
use Rattle.cmd_core.specs.Puts.{bytes_of_words}
use Rattle.cmd_core.proofs.puts.bytes_of_words.Given as goal

abbrev pub invariant-loop-word : goal.invariant-loop-word
invariant-loop-word l = record {
  counted : l.bytes + bytes_of_words (drop l.word-index l.words) ≡ bytes_of_words l.words;
  most : bytes_of_words l.words ≤ REQUEST_LIMITS.words * REQUEST_LIMITS.word_bytes;
}
