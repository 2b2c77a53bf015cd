use Rattle.std.proofs.Common.{length, ℕ}
use Rattle.client.proofs.command.+asks_help.Given as goal

abbrev pub decreases-asks_help : goal.decreases-asks_help
decreases-asks_help l = length l.words.now
