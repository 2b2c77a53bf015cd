use Rattle.pmem_file.specs.Call.{calls_of}
use Rattle.pmem_file.proofs.OrderLemmas.{ClearsAway-from, Stops-synced}
use Rattle.pmem_file.proofs.file_journal.FileJournal.clear_away.Goals as goal

pub returns-clause-begun : goal.returns-clause-begun
returns-clause-begun c e =
    ClearsAway-from c.args.self.now c.sync.new.self c.checkpoint.new.self (calls_of c.args.file.now.calls) (calls_of c.sync.new.file.calls)
    (calls_of c.checkpoint.new.file.calls) c.args.words.now (c.sync.ensures.durable c.if-not-sync.false) (c.checkpoint.ensures.begun e)

pub returns-clause-stopped : goal.returns-clause-stopped
returns-clause-stopped c e =
    Stops-synced c.args.self.now c.sync.new.self c.checkpoint.new.self (calls_of c.args.file.now.calls) (calls_of c.sync.new.file.calls)
    (calls_of c.checkpoint.new.file.calls) c.args.words.now c.sync.ensures.head (c.sync.ensures.durable c.if-not-sync.false) (c.checkpoint.ensures.stopped e)
