use Rattle.std.proofs.Common.{◌≡◌, ℕ, ◌+◌, ◌*◌, ◌≤◌, Bool, true, false, List, ◌∷◌, replicate, length, sym, subst, ap, ◌∙◌, arith}
use Rattle.std.proofs.lemmas.List.{length-replicate}
use Rattle.pmem_file.specs.Byte.{bytes_of}
use Rattle.pmem_file.specs.Call.{Call, Wrote, calls_of}
use Rattle.pmem_file.specs.Written.{is_among, blank}
use Rattle.pmem_file.proofs.WritesLemmas.{Touches, Going, IsBlock, Going-touches, Going-wrote, zeros-are, zeros-fit, zeros-block}
use Rattle.pmem_file.proofs.logged_file.LoggedFile.write_zeros.Goals as goal
use Rattle.pmem_file.proofs.logged_file.LoggedFile.write_zeros.Goals.{After-write}

is_block : (c : After-write) → IsBlock c.args.first c.args.count blank c.loop-left.at (replicate c.min-block.result 0)
is_block c =
    let room : c.loop-left.at + c.min-block.result ≤ c.args.first + c.args.count = omega (arith, c.min-block.ensures, c.loop-left.invariant.all) in
    zeros-block c.args.first c.args.count c.loop-left.at c.min-block.result room

asked : (c : After-write) (done : Bool) → c.write.result ≡ done
    → calls_of c.write.new.self.calls ≡ Wrote (8 * c.loop-left.at) (bytes_of (replicate c.min-block.result 0)) done ∷ calls_of c.loop-left.self.calls
asked c done is =
    let n = c.min-block.result in
    let calls = calls_of c.loop-left.self.calls in
    c.write.ensures.calls
    ∙ ap (λ (bytes : List ℕ). Wrote (8 * c.loop-left.at) bytes c.write.result ∷ calls) (zeros-are c.fill_zeros.new.buffer.items n c.fill_zeros.ensures.bytes)
    ∙ ap (λ (b : Bool). Wrote (8 * c.loop-left.at) (bytes_of (replicate n 0)) b ∷ calls) is

pub loop-left-preserved : goal.loop-left-preserved
loop-left-preserved c =
    let first = c.args.first in
    let count = c.args.count in
    let old = calls_of c.args.self.now.calls in
    let at = c.loop-left.at in
    let n = c.min-block.result in
    let calls = calls_of c.loop-left.self.calls in
    let here = (goal.at.loop-left-preserved c).After-write in
    let size : length (replicate n 0) ≡ n = length-replicate n 0 in
    record {
      going =
          subst (λ (cs : List Call). Going first count blank old (at + n) cs) (sym (asked here true c.if-not-write.false))
          (subst (λ (k : ℕ). Going first count blank old (at + k) (Wrote (8 * at) (bytes_of (replicate n 0)) true ∷ calls)) size
          (Going-wrote first count blank old at calls (replicate n 0) (zeros-fit n) (is_block here) c.loop-left.invariant.going));
      all = omega (arith, c.min-block.ensures, c.loop-left.invariant.all);
      read = c.write.ensures.read ∙ c.loop-left.invariant.read;
      capacity = omega (arith, c.fill_zeros.ensures.capacity, c.loop-left.invariant.capacity);
    }

pub returns-then-not-write-clause-only : goal.returns-then-not-write-clause-only
returns-then-not-write-clause-only c =
    let first = c.args.first in
    let count = c.args.count in
    let old = calls_of c.args.self.now.calls in
    let at = c.loop-left.at in
    let n = c.min-block.result in
    let calls = calls_of c.loop-left.self.calls in
    let here = (goal.at.returns-then-not-write-clause-only c).After-write in
    let touches : Touches (is_among first count) blank old (calls_of c.write.new.self.calls) =
    subst (λ (cs : List Call). Touches (is_among first count) blank old cs) (sym (asked here false c.if-not-write.true))
    (Going-touches first count blank old at calls (replicate n 0) false (zeros-fit n) (is_block here) c.loop-left.invariant.going) in
    touches.within
