use Rattle.std.proofs.lemmas.Grind.{merely}
use Rattle.pmem_file.specs.Call.{read_of, calls_of}
use Rattle.pmem_file.proofs.FollowingLemmas.{Keeps-begun, blank-begun}
use Rattle.pmem_file.proofs.CopiesLemmas.{Copies-read}
use Rattle.pmem_file.proofs.journaled.JournaledFile.new.Goals as goal

pub invariant_of-result-clause-copies : goal.invariant_of-result-clause-copies
invariant_of-result-clause-copies c = rw c.history-history.ensures.words (Copies-read c.args.words c.args.notes)

pub invariant_of-result-clause-blank : goal.invariant_of-result-clause-blank
invariant_of-result-clause-blank c =
    rw (c.history-history.ensures.words, c.history-history.ensures.past) (blank-begun _ c.args.words c.requires.sized)

pub invariant_of-result-clause-kept : goal.invariant_of-result-clause-kept
invariant_of-result-clause-kept c =
    merely (rw (c.of-synced.ensures, c.history-history.ensures.words, c.history-history.ensures.past)
    (Keeps-begun c.args.journal (read_of c.args.file.calls) (calls_of c.args.file.calls) c.args.words c.requires.begun))
