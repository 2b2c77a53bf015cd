-- A crash of the present moment, or of one that was kept.
use Rattle.std.proofs.Common.{◌≡◌, ℕ, ◌+◌, false, List, Option, Some, None, [], ◌∷◌, length, inl, inr, ◌⊎◌, sym, ap, subst, ◌∙◌, arith}
use Rattle.std.specs.Prelude.{nat_le}
use Rattle.std.proofs.lemmas.Bool.{cases_lt, cond-false, cond-true, le-leb, lt-leb}
use Rattle.pmem.specs.Device.{MayBe, State, Word, moment, newest_at}
use Rattle.pmem.specs.Crash.{HadImage, IsImage, Keeps, MayLeave, Restarts, image_of, picked, words_at, words_to_crash}
use Rattle.pmem.specs.Runs.{LeavesOnly}
use Rattle.pmem.proofs.Leaving.{step_leaves}
use Rattle.pmem.proofs.Staging.{IsImage-settled}
use Rattle.model.specs.declared.record.Record.{Record}
use Rattle.wbl_engine.specs.AtRest.{IsAtRest}
use Rattle.wbl_engine.specs.Copying.{IsHalf}
use Rattle.pmem.proofs.Keeping.{words_at-now}

-- the device was asked to keep the present moment, and then crashed
pub record IsCrashed (old asked new : State) : Type 0 where
  pub keeps : Keeps old asked (moment old + 0)
  pub restarts : Restarts asked new
  pub within : IsImage (words_to_crash asked asked.kept) (image_of new.words) ⊎ IsImage asked.words (image_of new.words)

pub has_crashed : {old asked new : State} → Keeps old asked (moment old + 0) → Restarts asked new
    → IsImage (words_to_crash asked asked.kept) (image_of new.words) ⊎ IsImage asked.words (image_of new.words) → IsCrashed old asked new
has_crashed keeps restarts within = record { keeps = keeps; restarts = restarts; within = within }

picks_from : {old asked new : State} → IsCrashed old asked new → words_to_crash asked asked.kept ≡ old.words
picks_from {old} {asked} crashed =
    ap (words_to_crash asked) crashed.keeps.kept
    ∙ words_at-now asked.words asked.past (moment old + 0) (omega (arith, ap length crashed.keeps.past))
    ∙ crashed.keeps.words

pub crash_image : {old asked new : State} → IsCrashed old asked new → IsImage old.words (image_of new.words)
crash_image {old} {asked} {new} crashed =
    elim crashed.within [
      | inl kept ↦ subst (λ (words : ℕ → Word). IsImage words (image_of new.words)) (picks_from crashed) kept
      | inr now ↦ subst (λ (words : ℕ → Word). IsImage words (image_of new.words)) crashed.keeps.words now
    ]

pub crash_picked : {old asked new : State} (picks : List ℕ) → IsCrashed old asked new
    → (asked.starved ≡ false → (word : ℕ) → newest_at new word ≡ picked (words_to_crash asked asked.kept) picks word)
    → new.starved ≡ false → (word : ℕ) → newest_at new word ≡ picked old.words picks word
crash_picked {old} {asked} {new} picks crashed are sound word =
    are (sym crashed.restarts.starved ∙ sound) word ∙ ap (λ (words : ℕ → Word). picked words picks word) (picks_from crashed)

-- after it each word has one candidate
pub crash_moments : {old asked new : State} → IsCrashed old asked new → LeavesOnly old new (IsImage old.words)
crash_moments {old} {asked} {new} crashed =
    step_leaves old new (IsImage old.words) past_is (λ image is. is)
    (λ image is word.
    subst (MayBe (old.words word)) (sym (IsImage-settled new.words image crashed.restarts.settled is word)) (crash_image crashed word))
  where
    past_is : new.past ≡ old.words ∷ old.past
    past_is = let words = crashed.keeps.words in let past = crashed.keeps.past in let all = crashed.restarts.past in cc

-- ---- a request

-- what an engine maintains stays where no word of its device changed
pub rest_asked : (r : Record) (old new : State) → new.words ≡ old.words → new.lines ≡ old.lines → IsAtRest r old → IsAtRest r new
rest_asked r old new words lines rest =
    let same : IsAtRest r (record old { words = new.words; lines = new.lines }) =
    subst (λ (w : ℕ → Word). IsAtRest r (record old { words = w; lines = new.lines })) (sym words) (subst (λ (n : ℕ). IsAtRest r (record old { lines = n })) (sym lines) rest) in
    record { many = same.many; few = same.few; lawful = same.lawful; whole = same.whole; recorded = same.recorded; certain = same.certain }

pub half_asked : (r : Record) (old new : State) → new.words ≡ old.words → new.lines ≡ old.lines → IsHalf r old → IsHalf r new
half_asked r old new words lines half =
    let same : IsHalf r (record old { words = new.words; lines = new.lines }) =
    subst (λ (w : ℕ → Word). IsHalf r (record old { words = w; lines = new.lines })) (sym words) (subst (λ (n : ℕ). IsHalf r (record old { lines = n })) (sym lines) half) in
    record {
      many = same.many;
      few = same.few;
      lawful = same.lawful;
      newcomer = same.newcomer;
      half = same.half;
      recorded = same.recorded;
      certain = same.certain;
    }

-- ---- a moment that was kept

-- what a crash at moment t leaves, it leaves since t
since-then : (now : ℕ → Word) (past : List (ℕ → Word)) (t : ℕ) (image : ℕ → ℕ) → IsImage (words_at now past t) image → IsImage now image ⊎ HadImage past t image
since-then now [] t image is = inl is
since-then now (words ∷ past) t image is =
    elim (cases_lt (length past) t) [
      | inl late ↦ inl (subst (λ (at : ℕ → Word). IsImage at image) (cond-false (nat_le t (length past)) (words_at words past t) now (lt-leb t (length past) late)) is)
      | inr within ↦
          elim (since-then words past t image (subst (λ (at : ℕ → Word). IsImage at image) (cond-true (nat_le t (length past)) (words_at words past t) now (le-leb t (length past) within)) is)) [
            | inl here ↦ inr (inl (within, here))
            | inr before ↦ inr (inr before)
          ]
    ]

pub kept_left : (old new : State) → IsImage (words_to_crash old old.kept) (image_of new.words) ⊎ IsImage old.words (image_of new.words)
    → (t : ℕ) → old.kept ≡ Some t → MayLeave old t (image_of new.words)
kept_left old new (inl kept) t is =
    since-then old.words old.past t (image_of new.words) (subst (λ (moment : Option ℕ). IsImage (words_to_crash old moment) (image_of new.words)) is kept)
kept_left old new (inr now) t is = inl now

pub unkept_left : (old new : State) → IsImage (words_to_crash old old.kept) (image_of new.words) ⊎ IsImage old.words (image_of new.words)
    → old.kept ≡ None → IsImage old.words (image_of new.words)
unkept_left old new (inl kept) is = subst (λ (moment : Option ℕ). IsImage (words_to_crash old moment) (image_of new.words)) is kept
unkept_left old new (inr now) is = now

pub kept_moments : {old new : State} → Restarts old new → LeavesOnly old new (λ image. IsImage old.words image ⊎ (image ≡ image_of new.words))
kept_moments {old} {new} restarts =
    step_leaves old new (λ image. IsImage old.words image ⊎ (image ≡ image_of new.words)) restarts.past (λ image is. inl is)
    (λ image is. let each : (word : ℕ) → image word ≡ image_of new.words word = IsImage-settled new.words image restarts.settled is in inr (grind arith))
