use Rattle.std.proofs.Common.{◌≡◌, ℕ, ◌+◌, ◌*◌, ◌-◌, ◌^◌, ◌<◌, Bool, true, false, ◌||◌, List, ◌∷◌, take, drop, get_or, length, refl, sym, subst, ap, ◌∙◌, arith}
use Rattle.std.proofs.lemmas.Bool.{eqb-true}
use Rattle.std.proofs.lemmas.List.{drop-drop, length-take, length-drop, get_or-drop}
use Rattle.pmem_file.specs.Byte.{bytes_of}
use Rattle.pmem_file.specs.Call.{Call, Wrote, calls_of, has_failed}
use Rattle.pmem_file.specs.Written.{is_among, from}
use Rattle.pmem_file.proofs.BytesLemmas.{take-below}
use Rattle.pmem_file.proofs.WritesLemmas.{Fit, Touches, IsBlock, Going, Going-start, Going-touches, Going-wrote, Going-end, block-of}
use Rattle.pmem_file.proofs.logged_file.LoggedFile.write_words.Goals as goal
use Rattle.pmem_file.proofs.logged_file.LoggedFile.write_words.Goals.{After-write}

-- a part of words that fit
part-fits : (words rest block : List ℕ) (m n : ℕ) → Fit words → rest ≡ drop m words → block ≡ take n rest → Fit block
part-fits words rest block m n fit is part =
    subst Fit (sym part)
    (take-below n (2 ^ 64) rest (omega arith)
    (λ k. subst (λ (xs : List ℕ). get_or xs k 0 < 2 ^ 64) (sym is) (rw (get_or-drop m words k 0) (fit (m + k)))))

is_block : (c : After-write) → IsBlock c.args.first (length c.args.words.now) (from c.args.first c.args.words.now) c.loop-rest.at c.split_at.result.0.now
is_block c =
    block-of c.args.first c.args.words.now c.split_at.result.0.now c.loop-rest.rest.now c.loop-rest.at c.min.result c.loop-rest.invariant.going.low c.loop-rest.invariant.all
    c.loop-rest.invariant.rest c.split_at.ensures.front

fits : (c : After-write) → Fit c.split_at.result.0.now
fits c =
    part-fits c.args.words.now c.loop-rest.rest.now c.split_at.result.0.now (c.loop-rest.at - c.args.first) c.min.result (λ k. (c.type_inv.words k).fits)
    c.loop-rest.invariant.rest c.split_at.ensures.front

asked : (c : After-write) (done : Bool) → c.write.result ≡ done
    → calls_of c.write.new.self.calls ≡ Wrote (8 * c.loop-rest.at) (bytes_of c.split_at.result.0.now) done ∷ calls_of c.loop-rest.self.calls
asked c done is =
    let calls = calls_of c.loop-rest.self.calls in
    c.write.ensures.calls
    ∙ ap (λ (bytes : List ℕ). Wrote (8 * c.loop-rest.at) bytes c.write.result ∷ calls) c.encode.ensures.bytes
    ∙ ap (λ (b : Bool). Wrote (8 * c.loop-rest.at) (bytes_of c.split_at.result.0.now) b ∷ calls) is

pub loop-rest-init : goal.loop-rest-init
loop-rest-init c =
    record {
      going = Going-start c.args.first (length c.args.words.now) (from c.args.first c.args.words.now) (calls_of c.args.self.now.calls);
      rest = ap (λ (n : ℕ). drop n c.args.words.now) (let none : 0 ≡ c.args.first - c.args.first = omega arith in none);
      all = refl;
      read = refl;
      capacity = omega arith;
    }

pub loop-rest-preserved : goal.loop-rest-preserved
loop-rest-preserved c =
    let first = c.args.first in
    let words = c.args.words.now in
    let old = calls_of c.args.self.now.calls in
    let at = c.loop-rest.at in
    let rest = c.loop-rest.rest.now in
    let block = c.split_at.result.0.now in
    let n = c.min.result in
    let calls = calls_of c.loop-rest.self.calls in
    let going = c.loop-rest.invariant.going in
    let here = (goal.at.loop-rest-preserved c).After-write in
    let size : length block + length c.split_at.result.1.now ≡ length rest =
    omega (arith, ap length c.split_at.ensures.front, ap length c.split_at.ensures.back, length-take n rest, length-drop n rest) in
    let few : length block ≡ n = omega (arith, ap length c.split_at.ensures.front, length-take n rest, c.min.ensures) in
    record {
      going = subst (λ (cs : List Call). Going first (length words) (from first words) old (at + length block) cs) (sym (asked here true c.if-not-write.false))
          (Going-wrote first (length words) (from first words) old at calls block (fits here) (is_block here) going);
      rest =
          c.split_at.ensures.back ∙ ap (drop n) c.loop-rest.invariant.rest ∙ drop-drop n (at - first) words
          ∙ ap (λ (k : ℕ). drop k words) (let sum : at - first + n ≡ at + length block - first = omega (arith, going.low, few) in sum);
      all = omega (arith, size, c.loop-rest.invariant.all);
      read = c.write.ensures.read ∙ c.loop-rest.invariant.read;
      capacity = omega (arith, c.encode.ensures.capacity, c.loop-rest.invariant.capacity);
    }

pub returns : goal.returns
returns c =
    let first = c.args.first in
    let words = c.args.words.now in
    let old = calls_of c.args.self.now.calls in
    let going = c.loop-rest.invariant.going in
    let none : length c.loop-rest.rest.now ≡ 0 = eqb-true (length c.loop-rest.rest.now) 0 (sym c.is_empty.ensures ∙ c.loop-rest-test.false) in
    record {
      read = c.loop-rest.invariant.read;
      failed = going.unfailed ∙ c.requires.unfailed;
      written = λ e.
          Going-end first (length words) (from first words) old c.loop-rest.at (calls_of c.loop-rest.self.calls)
          (omega (arith, c.loop-rest.invariant.all, none)) going;
      only = going.touches.within;
      capacity = c.loop-rest.invariant.capacity;
    }

pub returns-then-not-write : goal.returns-then-not-write
returns-then-not-write c =
    let first = c.args.first in
    let words = c.args.words.now in
    let old = calls_of c.args.self.now.calls in
    let at = c.loop-rest.at in
    let going = c.loop-rest.invariant.going in
    let here = (goal.at.returns-then-not-write c).After-write in
    let stopped = asked here false c.if-not-write.true in
    let touches : Touches (is_among first (length words)) (from first words) old (calls_of c.write.new.self.calls) =
    subst (λ (cs : List Call). Touches (is_among first (length words)) (from first words) old cs) (sym stopped)
    (Going-touches first (length words) (from first words) old at (calls_of c.loop-rest.self.calls) c.split_at.result.0.now false (fits here) (is_block here) going) in
    record {
      read = c.write.ensures.read ∙ c.loop-rest.invariant.read;
      failed = ap has_failed stopped ∙ ap (λ (b : Bool). b || true) (going.unfailed ∙ c.requires.unfailed);
      written = λ e. absurd (cc);
      only = touches.within;
      capacity = omega (arith, c.encode.ensures.capacity, c.loop-rest.invariant.capacity);
    }
