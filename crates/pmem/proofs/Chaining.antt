-- One run of calls after another.
use Rattle.std.proofs.Common.{◌≡◌, ℕ, suc, ◌+◌, ◌≤◌, List, [], ◌∷◌, length, refl, sym, ap, subst, ◌∙◌, ◌<◌, take, get_or}
use Rattle.std.proofs.lemmas.List.{take_more, take_all}
use Rattle.pmem.specs.Device.{Word, State, Fences, Steps, MayBe, Only, store_at, flush_at, fenced, fences_after}
use Rattle.pmem.specs.Crash.{IsImage, image_of}
use Rattle.pmem.specs.Runs.{LeavesOnly, Runs, Stays, Staged, StageFailed, stores, flushes, written, IsPartlyStored}
use Rattle.pmem.proofs.Leaving.{step_leaves, none_leaves, LeavesOnly-then, LeavesOnly-weaken}
use Rattle.pmem.proofs.Staging.{store_at-MayBe, IsImage-stores, flush_at-MayBe, flushes-IsImage, IsImage-fenced, image_of-staged, Only-staged, IsPartlyStored-staged, MayBe-staged, stores-append, flushes-append}

pub Stays-none : (d : State) → Stays d d
Stays-none d = record { lines = refl; kept = refl; starved = λ e. e }

pub Stays-then : {a b c : State} → Stays a b → Stays b c → Stays a c
Stays-then {a} {b} {c} first second =
    record {
      lines = second.lines ∙ first.lines;
      kept = second.kept ∙ first.kept;
      starved = λ e. second.starved (first.starved e);
    }

pub Stays-step : {a b : State} {words : ℕ → Word} {failures : ℕ} {fences : Fences} → Steps a b words failures fences → Stays a b
Stays-step step = record { lines = step.lines; kept = step.kept; starved = step.starved }

pub Runs-none : (d : State) → Runs d d d.words
Runs-none d =
    record {
      words = refl;
      failures = refl;
      fences = refl;
      stays = Stays-none d;
      moments = none_leaves d (IsImage d.words) (λ image is. is);
    }

-- a run continues, if what it could leave before can still be left
pub Runs-then : {a b c : State} {u v : ℕ → Word} → Runs a b u → Runs b c v
    → ((image : ℕ → ℕ) → IsImage u image → IsImage v image) → Runs a c v
Runs-then {a} {b} {c} {u} {v} first second grows =
    record {
      words = second.words;
      failures = second.failures ∙ first.failures;
      fences = second.fences ∙ first.fences;
      stays = Stays-then first.stays second.stays;
      moments = LeavesOnly-then (LeavesOnly-weaken (IsImage v) grows first.moments) second.moments;
    }

-- a call leads to a run, if each candidate is kept
steps_leave : {a b : State} {u : ℕ → Word} {failures : ℕ} {fences : Fences} → Steps a b u failures fences → (P : (ℕ → ℕ) → Type 0)
    → ((image : ℕ → ℕ) → IsImage a.words image → P image) → ((image : ℕ → ℕ) → IsImage u image → P image) → LeavesOnly a b P
steps_leave {a} {b} step P from_old from_new =
    step_leaves a b P step.past from_old (λ image is. from_new image (subst (λ (w : ℕ → Word). IsImage w image) step.words is))

Runs-step : {a b : State} (u : ℕ → Word) → Steps a b u a.failures a.fences → ((word y : ℕ) → MayBe (a.words word) y → MayBe (u word) y) → Runs a b u
Runs-step {a} {b} u step grows =
    record {
      words = step.words;
      failures = step.failures;
      fences = step.fences;
      stays = Stays-step step;
      moments = steps_leave step (IsImage u) (λ image is word. grows word (image word) (is word)) (λ image is. is);
    }

-- one store
pub Runs-step_store : {a b : State} (at x : ℕ) → Steps a b (store_at at x a.words) a.failures a.fences → Runs a b (store_at at x a.words)
Runs-step_store {a} {b} at x step = Runs-step (store_at at x a.words) step (store_at-MayBe at x a.words)

-- one flush
pub Runs-step_flush : {a b : State} (line : ℕ) → Steps a b (flush_at line a.words) a.failures a.fences → Runs a b (flush_at line a.words)
Runs-step_flush {a} {b} line step = Runs-step (flush_at line a.words) step (flush_at-MayBe line a.words)

-- a run continues with stores
pub Runs-stores : {a b c : State} {u : ℕ → Word} (pairs : List (ℕ × ℕ)) → Runs a b u → Runs b c (stores pairs b.words) → Runs a c (stores pairs u)
Runs-stores {a} {b} {c} {u} pairs first second =
    Runs-then first (subst (λ (w : ℕ → Word). Runs b c (stores pairs w)) first.words second) (IsImage-stores pairs u)

-- and with flushes
pub Runs-flushes : {a b c : State} {u : ℕ → Word} (lines : List ℕ) → Runs a b u → Runs b c (flushes lines b.words) → Runs a c (flushes lines u)
Runs-flushes {a} {b} {c} {u} lines first second =
    Runs-then first (subst (λ (w : ℕ → Word). Runs b c (flushes lines w)) first.words second) (flushes-IsImage lines u)

-- one more turn of the loop over the pairs
pub Runs-next_store : {a b c : State} (pairs : List (ℕ × ℕ)) (i : ℕ) → i < length pairs → Runs a b (stores (take i pairs) a.words)
    → Steps b c (store_at (get_or pairs i (0, 0)).0 (get_or pairs i (0, 0)).1 b.words) b.failures b.fences
    → Runs a c (stores (take (i + 1) pairs) a.words)
Runs-next_store {a} {b} {c} pairs i below run step =
    let pair : ℕ × ℕ = get_or pairs i (0, 0) in
    rw (take_more pairs i (0, 0) below, stores-append (take i pairs) (pair ∷ []) a.words) (Runs-stores (pair ∷ []) run (Runs-step_store pair.0 pair.1 step))

-- and of the loop over the lines
pub Runs-next_flush : {a b c : State} (lines : List ℕ) (i : ℕ) → i < length lines → Runs a b (flushes (take i lines) a.words)
    → Steps b c (flush_at (get_or lines i 0) b.words) b.failures b.fences
    → Runs a c (flushes (take (i + 1) lines) a.words)
Runs-next_flush {a} {b} {c} lines i below run step =
    rw (take_more lines i 0 below, flushes-append (take i lines) (get_or lines i 0 ∷ []) a.words) (Runs-flushes (get_or lines i 0 ∷ []) run (Runs-step_flush (get_or lines i 0) step))

-- the loops end
pub Runs-all_stored : {a b : State} (pairs : List (ℕ × ℕ)) (i : ℕ) → length pairs ≤ i → Runs a b (stores (take i pairs) a.words)
    → Runs a b (stores pairs a.words)
Runs-all_stored {a} {b} pairs i all run = rw (take_all i pairs all) at run

pub Runs-all_flushed : {a b : State} (lines : List ℕ) (i : ℕ) → length lines ≤ i → Runs a b (flushes (take i lines) a.words)
    → Runs a b (flushes lines a.words)
Runs-all_flushed {a} {b} lines i all run = rw (take_all i lines all) at run

-- a fence leaves nothing new
staged_moments : {a b c : State} {u : ℕ → Word} {failures : ℕ} {fences : Fences} (pairs : List (ℕ × ℕ)) (lines : List ℕ)
    → Runs a b (flushes lines (stores pairs a.words)) → Steps b c u failures fences
    → ((image : ℕ → ℕ) → IsImage u image → IsImage b.words image) → LeavesOnly a c (IsPartlyStored pairs a.words)
staged_moments {a} {b} {c} pairs lines run step old =
    LeavesOnly-weaken (IsPartlyStored pairs a.words) (IsPartlyStored-staged pairs lines a.words)
    (LeavesOnly-then run.moments (subst (λ (w : ℕ → Word). LeavesOnly b c (IsImage w)) run.words (steps_leave step (IsImage b.words) (λ image is. is) old)))

-- stores, flushes and a fence that succeeds
pub stage_ok : {a b c : State} (pairs : List (ℕ × ℕ)) (lines : List ℕ) → Runs a b (flushes lines (stores pairs a.words))
    → Steps b c (fenced b.words) b.failures (fences_after b.fences) → Staged a c pairs lines
stage_ok {a} {b} {c} pairs lines run step =
    let words : c.words ≡ fenced (flushes lines (stores pairs a.words)) = step.words ∙ ap fenced run.words in
    record {
      newest = λ word. ap (λ (w : ℕ → Word). image_of w word) words ∙ image_of-staged pairs lines a.words word;
      certain = λ word line.
          subst (λ (w : ℕ → Word). Only (w word) (written pairs (image_of a.words) word)) (sym words)
          (Only-staged pairs lines a.words word line);
      elsewhere = λ word y out may.
          MayBe-staged pairs lines a.words word y out (subst (λ (w : ℕ → Word). MayBe (w word) y) words may);
      failures = step.failures ∙ run.failures;
      fences = step.fences ∙ ap fences_after run.fences;
      stays = Stays-then run.stays (Stays-step step);
      moments = staged_moments pairs lines run step (IsImage-fenced b.words);
    }

-- and one that fails
pub stage_err : {a b c : State} (pairs : List (ℕ × ℕ)) (lines : List ℕ) → Runs a b (flushes lines (stores pairs a.words))
    → Steps b c b.words (suc b.failures) (fences_after b.fences) → StageFailed a c pairs
stage_err {a} {b} {c} pairs lines run step =
    record {
      newest = λ word.
          ap (λ (w : ℕ → Word). image_of w word) (step.words ∙ run.words) ∙ image_of-staged pairs lines a.words word;
      failures = step.failures ∙ ap suc run.failures;
      fences = step.fences ∙ ap fences_after run.fences;
      stays = Stays-then run.stays (Stays-step step);
      moments = staged_moments pairs lines run step (λ image is. is);
    }
