use Rattle.pmem_file.proofs.BytesLemmas.{bytes_of-words_in}
use Rattle.pmem_file.proofs.WordsLemmas.{always}
use Rattle.pmem_file.proofs.words.Words.add.Goals as goal

pub returns-then-are_zeros-clause-whole : goal.returns-then-are_zeros-clause-whole
returns-then-are_zeros-clause-whole c =
    always c.add_zeros.result (λ whole. bytes_of-words_in c.args.bytes.now whole (λ k. (c.type_inv.bytes k).fits))

pub returns-else-are_zeros-clause-whole : goal.returns-else-are_zeros-clause-whole
returns-else-are_zeros-clause-whole c =
    always c.add_read.result (λ whole. bytes_of-words_in c.args.bytes.now whole (λ k. (c.type_inv.bytes k).fits))
