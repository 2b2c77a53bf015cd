use Rattle.std.proofs.Common.{◌<◌, length, arith}
use Rattle.pmem.specs.History.{words_of}
use Rattle.pmem_file.specs.Call.{read_of, calls_of}
use Rattle.pmem_file.proofs.HoldingLemmas.{Holds-stored}
use Rattle.pmem_file.proofs.placed.PlacedFilePmem.store.Goals as goal

pub invariant_of-self-clause-holds : goal.invariant_of-self-clause-holds
invariant_of-self-clause-holds c =
    let device = c.args.self.now in
    let calls = device.file.calls in
    let below : c.args.word < length device.words = omega (arith, c.requires, device.sized) in
    rw (c.stored.ensures.words, c.set.ensures)
    (Holds-stored device.words device.notes (read_of calls) (calls_of calls) (words_of device.history) c.args.word c.args.value below device.holds)
