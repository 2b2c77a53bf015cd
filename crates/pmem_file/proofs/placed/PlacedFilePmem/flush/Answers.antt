use Rattle.pmem.specs.History.{words_of}
use Rattle.pmem_file.specs.Call.{read_of, calls_of}
use Rattle.pmem_file.proofs.HoldingLemmas.{Holds-flushed}
use Rattle.pmem_file.proofs.placed.PlacedFilePmem.flush.Goals as goal

pub invariant_of-self-clause-holds : goal.invariant_of-self-clause-holds
invariant_of-self-clause-holds c =
    let device = c.args.self.now in
    let calls = device.file.calls in
    rw c.flushed.ensures.words
    (Holds-flushed device.words device.notes c.add.new.self (read_of calls) (calls_of calls) (words_of device.history) c.args.line c.add.ensures.noted device.holds)
