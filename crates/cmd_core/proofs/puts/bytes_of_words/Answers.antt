use Rattle.std.proofs.Common.{arith, ◌≤◌, ◌*◌, length}
use Rattle.kv_types.specs.declared.limits.TheConstants.{REQUEST_LIMITS}
use Rattle.cmd_core.specs.Puts.{bytes_of_words}
use Rattle.cmd_core.proofs.PutsLemmas.{bytes_of_words-le}
use Rattle.cmd_core.proofs.puts.bytes_of_words.Goals as goal

pub loop-word-init : goal.loop-word-init
loop-word-init c = record {
  counted = omega arith;
  most =
      let each : bytes_of_words c.args.words.now ≤ length c.args.words.now * REQUEST_LIMITS.word_bytes =
      bytes_of_words-le REQUEST_LIMITS.word_bytes c.args.words.now c.requires.lengths in
      omega (arith, c.requires.count);
}
