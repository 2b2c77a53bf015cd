use Rattle.std.proofs.Common.{length, sym, ◌∙◌}
use Rattle.std.proofs.lemmas.Bool.{eqb-true}
use Rattle.pmem_file.specs.Call.{calls_of}
use Rattle.pmem_file.proofs.ReplayedLemmas.{none-of}
use Rattle.pmem_file.proofs.OrderLemmas.{Orders-none, Orders-sealed}
use Rattle.pmem_file.proofs.file_journal.FileJournal.order.Goals as goal

pub returns-then-is_empty-clause-ordered : goal.returns-then-is_empty-clause-ordered
returns-then-is_empty-clause-ordered c e =
    Orders-none c.args.self.now (calls_of c.args.file.now.calls) c.args.words.now c.args.lines.now
    (none-of c.args.lines.now (eqb-true (length c.args.lines.now) 0 (sym c.is_empty.ensures ∙ c.if-is_empty.true)))

pub returns-then-has_room-clause-ordered : goal.returns-then-has_room-clause-ordered
returns-then-has_room-clause-ordered c e =
    Orders-sealed c.args.self.now c.seal.new.self (calls_of c.args.file.now.calls) c.args.words.now c.args.lines.now c.seal.ensures
