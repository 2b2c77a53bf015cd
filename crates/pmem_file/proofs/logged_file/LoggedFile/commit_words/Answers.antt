use Rattle.std.proofs.Common.{Bool, not, ◌∷◌, length, ap, ◌∙◌}
use Rattle.pmem_file.specs.Call.{Synced, calls_of}
use Rattle.pmem_file.specs.Written.{is_among, from}
use Rattle.pmem_file.proofs.CallsLemmas.{MayWrite-synced}
use Rattle.pmem_file.proofs.logged_file.LoggedFile.commit_words.Goals as goal

pub returns-clause-committed : goal.returns-clause-committed
returns-clause-committed c e =
    let after = calls_of c.write_words.new.self.calls in
    record {
      between = after;
      writes = c.write_words.ensures.written c.if-not-write_words.false;
      unfailed = c.write_words.ensures.failed ∙ ap not c.if-not-write_words.false;
      synced = c.sync.ensures.calls ∙ ap (λ (b : Bool). Synced b ∷ after) e;
    }

pub returns-clause-only : goal.returns-clause-only
returns-clause-only c =
    let words = c.args.words.now in
    let old = calls_of c.args.self.now.calls in
    let after = calls_of c.write_words.new.self.calls in
    rw c.sync.ensures.calls
    (MayWrite-synced (is_among c.args.first (length words)) (from c.args.first words) old after c.sync.result c.write_words.ensures.only)
