use Rattle.std.proofs.Common.{◌∙◌}
use Rattle.pmem.specs.History.{words_of}
use Rattle.pmem_file.specs.Call.{Brings, read_of, calls_of}
use Rattle.pmem_file.specs.Line.{Fixes}
use Rattle.pmem_file.proofs.HoldingLemmas.{Holds-fenced}
use Rattle.pmem_file.proofs.placed.PlacedFilePmem.fence.Goals as goal

pub invariant_of-self-clause-holds : goal.invariant_of-self-clause-holds
invariant_of-self-clause-holds c =
    let device = c.args.self.now in
    let copy = device.words in
    let notes = c.clear.new.self in
    let before = device.file.calls in
    let after = c.persist.new.self.calls in
    let lines = c.lines.result.now in
    let brings : Brings copy (calls_of before) (calls_of after) = c.persist.ensures.within in
    let fixes : Fixes copy lines (calls_of after) = c.persist.ensures.durable c.if-persist.true in
    rw (c.fenced.ensures.words, c.persist.ensures.read)
    (Holds-fenced copy device.notes notes lines (read_of before) (calls_of before) (calls_of after) (words_of device.history)
    (λ line. c.lines.ensures.listed line ∙ c.sort.ensures.noted line) brings fixes device.holds)
