use Rattle.std.proofs.Common.{◌≡◌, Bool, true, false, not, ◌||◌, List, ◌∷◌, sym, subst, ap, ◌∙◌}
use Rattle.pmem_file.specs.Call.{Call, Measured, Synced, calls_of, has_failed, Brings}
use Rattle.pmem_file.specs.Written.{MayWrite, Writes, is_in, word_of}
use Rattle.pmem_file.proofs.CallsLemmas.{Brings-synced, Fixes-synced, MayWrite-synced}
use Rattle.pmem_file.proofs.logged_file.LoggedFile.persist.Goals as goal

pub returns-clause-within : goal.returns-clause-within
returns-clause-within c =
    let words = c.args.words.now in
    let old = calls_of c.args.self.now.calls in
    let after = calls_of c.write_lines.new.self.calls in
    let brings : Brings words old after = subst (λ (cs : List Call). Brings words cs after) c.measure.ensures.calls c.write_lines.ensures.within in
    rw c.sync.ensures.calls (Brings-synced words old after c.sync.result brings)

pub returns-clause-durable : goal.returns-clause-durable
returns-clause-durable c e =
    let words = c.args.words.now in
    let lines = c.args.lines.now in
    let old = calls_of c.args.self.now.calls in
    let measured = calls_of c.measure.new.self.calls in
    let fine : has_failed measured ≡ false =
    ap has_failed c.measure.ensures.calls
    ∙ ap (λ (b : Bool). b || not c.measure.result) (sym c.args.self.now.told ∙ c.if-self.false)
    ∙ ap (λ (b : Bool). not b) c.if-not-measure.false in
    rw (c.sync.ensures.calls, e, c.write_lines.ensures.done c.if-not-write_lines.false)
    (Fixes-synced words lines measured c.len-words.ensures.fit c.requires.in_range fine)

pub returns-clause-only : goal.returns-clause-only
returns-clause-only c =
    let old = calls_of c.args.self.now.calls in
    let after = calls_of c.write_lines.new.self.calls in
    let only : MayWrite (is_in c.args.lines.now) (word_of c.args.words.now) old after =
    subst (λ (cs : List Call). MayWrite (is_in c.args.lines.now) (word_of c.args.words.now) cs after) c.measure.ensures.calls c.write_lines.ensures.only in
    rw c.sync.ensures.calls (MayWrite-synced (is_in c.args.lines.now) (word_of c.args.words.now) old after c.sync.result only)

pub returns-clause-committed : goal.returns-clause-committed
returns-clause-committed c e =
    let words = c.args.words.now in
    let lines = c.args.lines.now in
    let old = calls_of c.args.self.now.calls in
    let after = calls_of c.write_lines.new.self.calls in
    let done : c.write_lines.result ≡ true = c.if-not-write_lines.false in
    let wrote : Writes (is_in lines) (word_of words) (calls_of c.measure.new.self.calls) after = c.write_lines.ensures.written done in
    let wrote' : Writes (is_in lines) (word_of words) (Measured c.args.bytes c.measure.result ∷ old) after =
    subst (λ (cs : List Call). Writes (is_in lines) (word_of words) cs after) c.measure.ensures.calls wrote in
    record {
      between = after;
      writes = record { last = wrote'.last; others = wrote'.others; within = wrote'.within };
      unfailed = c.write_lines.ensures.failed ∙ ap not done;
      synced = c.sync.ensures.calls ∙ ap (λ (b : Bool). Synced b ∷ after) e;
    }
