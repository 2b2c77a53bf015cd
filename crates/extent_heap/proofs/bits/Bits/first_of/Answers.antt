use Rattle.std.proofs.Common.{arith, rules}
use Rattle.extent_heap.proofs.BitsLemmas.{first_of_word, first_fits}
use Rattle.extent_heap.proofs.bits.Bits.first_of.Goals as goal

pub overflow_add-result : goal.overflow_add-result
overflow_add-result c = omega (arith, first_fits c.args.self.now.words.items c.args.word c.index.result.now c.requires.first c.index.ensures (search rules) (search rules))

pub returns : goal.returns
returns c = first_of_word c.args.self.now.words.items c.args.word c.index.result.now c.requires.first c.index.ensures (search rules)
