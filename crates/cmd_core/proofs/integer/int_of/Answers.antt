use Rattle.std.proofs.Common.{rules}
use Rattle.cmd_core.proofs.IntegerLemmas.{read_is}
use Rattle.cmd_core.proofs.integer.int_of.Goals as goal

pub returns : goal.returns
returns c = read_is c.args.text.now c.read_int.result c.read_int.ensures.found (search rules) c.read_int.ensures.refused
