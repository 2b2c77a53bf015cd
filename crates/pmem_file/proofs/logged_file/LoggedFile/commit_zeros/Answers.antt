use Rattle.std.proofs.Common.{Bool, not, ◌∷◌, ap, ◌∙◌}
use Rattle.pmem_file.specs.Call.{Synced, calls_of}
use Rattle.pmem_file.specs.Written.{is_among, blank}
use Rattle.pmem_file.proofs.CallsLemmas.{MayWrite-synced}
use Rattle.pmem_file.proofs.logged_file.LoggedFile.commit_zeros.Goals as goal

pub returns-clause-committed : goal.returns-clause-committed
returns-clause-committed c e =
    let after = calls_of c.write_zeros.new.self.calls in
    record {
      between = after;
      writes = c.write_zeros.ensures.written c.if-not-write_zeros.false;
      unfailed = c.write_zeros.ensures.failed ∙ ap not c.if-not-write_zeros.false;
      synced = c.sync.ensures.calls ∙ ap (λ (b : Bool). Synced b ∷ after) e;
    }

pub returns-clause-only : goal.returns-clause-only
returns-clause-only c =
    let old = calls_of c.args.self.now.calls in
    let after = calls_of c.write_zeros.new.self.calls in
    rw c.sync.ensures.calls
    (MayWrite-synced (is_among c.args.first c.args.count) blank old after c.sync.result c.write_zeros.ensures.only)
