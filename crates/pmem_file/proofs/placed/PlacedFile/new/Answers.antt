use Rattle.pmem_file.specs.Call.{read_of}
use Rattle.pmem_file.proofs.HoldingLemmas.{Holds-read}
use Rattle.pmem_file.proofs.placed.PlacedFile.new.Goals as goal

pub invariant_of-result-clause-holds : goal.invariant_of-result-clause-holds
invariant_of-result-clause-holds c =
    rw (c.requires.unasked, c.history-history.ensures.words) (Holds-read c.args.words c.args.notes (read_of c.args.file.calls) c.requires.read)
