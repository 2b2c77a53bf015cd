use Rattle.model.proofs.ReadMapLemmas.{no_superblock, not_whole}
use Rattle.model.proofs.image_contents.read_image.Goals as goal

pub returns-then-not-has_superblock-clause-refused : goal.returns-then-not-has_superblock-clause-refused
returns-then-not-has_superblock-clause-refused c =
    no_superblock c.args.words.now c.in-Some.record c.in-Some.ensures (λ is. let has = c.if-not-has_superblock.ensures.1 is in cc)

pub returns-in_default-2-clause-refused : goal.returns-in_default-2-clause-refused
returns-in_default-2-clause-refused c = not_whole c.args.words.now c.in-Some.record c.in-Some.ensures (rw c.in_default-2.is at c.in_ok-keyspace.ensures)
