use Rattle.std.proofs.Common.{Bool, not, ◌∷◌, ap, ◌∙◌}
use Rattle.pmem_file.specs.Call.{Synced, calls_of}
use Rattle.pmem_file.specs.Written.{is_in, word_of}
use Rattle.pmem_file.proofs.CallsLemmas.{MayWrite-synced}
use Rattle.pmem_file.proofs.logged_file.LoggedFile.commit_lines.Goals as goal

pub returns-clause-committed : goal.returns-clause-committed
returns-clause-committed c e =
    let after = calls_of c.write_lines.new.self.calls in
    record {
      between = after;
      writes = c.write_lines.ensures.written c.if-not-write_lines.false;
      unfailed = c.write_lines.ensures.failed ∙ ap not c.if-not-write_lines.false;
      synced = c.sync.ensures.calls ∙ ap (λ (b : Bool). Synced b ∷ after) e;
    }

pub returns-clause-only : goal.returns-clause-only
returns-clause-only c =
    let old = calls_of c.args.self.now.calls in
    let after = calls_of c.write_lines.new.self.calls in
    rw c.sync.ensures.calls
    (MayWrite-synced (is_in c.args.lines.now) (word_of c.args.words.now) old after c.sync.result c.write_lines.ensures.only)
