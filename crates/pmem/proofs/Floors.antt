-- What a crash leaves from the floor on.
use Rattle.std.proofs.Common.{◌≡◌, ◌⊎◌, ℕ, ◌-◌, ◌≤◌, suc, Bool, true, false, ◌==◌, if◌then◌else◌, List, [], ◌∷◌, Option, Some, None, Result, Ok, Err, OnOk, OnErr, inl, inr, sym, ap, subst, arith}
use Rattle.pmem.specs.Device.{Word, State, Fences, fences_after, is_unsure, moment}
use Rattle.pmem.specs.Device.Fences.{Unsure, Sure}
use Rattle.pmem.specs.Crash.{IsImage, HadImage, MayLeave, words_to_crash}
use Rattle.pmem.specs.Floor.{MayBeLeft, LeavesPresentWords, LeavesNoMore, MomentsAreEnough, Chain, CallsChain}
use Rattle.pmem.specs.Runs.{LeavesOnly, Staged, StageFailed, HasCause}
use Rattle.pmem.proofs.Leaving.{MayLeave-now, LeavesOnly-then, LeavesOnly-weaken}

HadImage-earlier : (past : List (ℕ → Word)) (t later : ℕ) (image : ℕ → ℕ) → t ≤ later → HadImage past later image → HadImage past t image
HadImage-earlier [] t later image e had = had
HadImage-earlier (words ∷ past) t later image e (inl now) = inl (omega (arith, now.0, e), now.1)
HadImage-earlier (words ∷ past) t later image e (inr had) = inr (HadImage-earlier past t later image e had)

-- what a crash leaves from some moment on, it leaves from an earlier one on
pub MayLeave-earlier : (d : State) (t later : ℕ) (image : ℕ → ℕ) → t ≤ later → MayLeave d later image → MayLeave d t image
MayLeave-earlier d t later image e (inl now) = inl now
MayLeave-earlier d t later image e (inr had) = inr (HadImage-earlier d.past t later image e had)

pub leaves-present-words : LeavesPresentWords
leaves-present-words d image = (λ may. MayLeave-now d image may, λ is. inl is)

pub leaves-no-more : LeavesNoMore
leaves-no-more d low high image e may = MayLeave-earlier d low high image e may

pub since_the_floor : {old new : State} (P : (ℕ → ℕ) → Type 0) (floor : ℕ) → LeavesOnly old new P → moment old ≤ floor → (image : ℕ → ℕ)
    → MayBeLeft new floor image → P image
since_the_floor {old} {new} P floor leaves late image may = leaves.each image (MayLeave-earlier new (moment old) floor image late may)

pub moments-are-enough : MomentsAreEnough
moments-are-enough p old new floor image late leaves may = since_the_floor (λ image. p image ≡ true) floor leaves late image may

pub chain : (P Q : (ℕ → ℕ) → Type 0) → Chain P Q
chain P Q a b c floor image late first second may =
    since_the_floor (λ i. P i ⊎ Q i) floor
    (LeavesOnly-then (LeavesOnly-weaken (λ i. P i ⊎ Q i) (λ i is. inl is) first) (LeavesOnly-weaken (λ i. P i ⊎ Q i) (λ i is. inr is) second)) late image may

pub calls-chain : CallsChain
calls-chain p q = chain (λ image. p image ≡ true) (λ image. q image ≡ true)

-- a crash of the present moment
pub left_unkept : (d : State) (floor : ℕ) (image : ℕ → ℕ) → IsImage (words_to_crash d d.kept) image ⊎ IsImage d.words image → d.kept ≡ None
    → MayBeLeft d floor image
left_unkept d floor image (inl kept) e = inl (subst (λ (t : Option ℕ). IsImage (words_to_crash d t) image) e kept)
left_unkept d floor image (inr now) e = inl now

-- ---- a sync behind other calls

-- what was left before one that fails is left after it
pub LeavesOnly-unsynced : {a b c : State} (P : (ℕ → ℕ) → Type 0) → LeavesOnly a b P → c ≡ record b { failures = suc b.failures } → LeavesOnly a c P
LeavesOnly-unsynced {a} {b} {c} P leaves e =
    subst (λ (d : State). LeavesOnly a d P) (sym e)
    (record { passed = record { more = leaves.passed.more; goes_on = leaves.passed.goes_on }; each = λ image may. leaves.each image may })

-- and of one that succeeds, too
pub LeavesOnly-synced : {A E : Type 0} {a b c : State} (P : (ℕ → ℕ) → Type 0) (result : Result A E) → LeavesOnly a b P → OnOk result (c ≡ b)
    → OnErr result (c ≡ record b { failures = suc b.failures }) → LeavesOnly a c P
LeavesOnly-synced {A} {E} {a} P (Ok done) leaves ok err = subst (λ (d : State). LeavesOnly a d P) (sym ok) leaves
LeavesOnly-synced P (Err fault) leaves ok err = LeavesOnly-unsynced P leaves err

-- one that fails is as a fence that failed, in place of the one before it
pub Staged-unsynced : {a b c : State} (pairs : List (ℕ × ℕ)) (lines : List ℕ) → Staged a b pairs lines → c ≡ record b { failures = suc b.failures }
    → StageFailed a c pairs
Staged-unsynced {a} {b} {c} pairs lines staged e =
    subst (λ (d : State). StageFailed a d pairs) (sym e)
    (record {
      newest = staged.newest;
      failures = ap suc staged.failures;
      fences = staged.fences;
      stays = record { lines = staged.stays.lines; kept = staged.stays.kept; starved = staged.stays.starved };
      moments = record { passed = record { more = staged.moments.passed.more; goes_on = staged.moments.passed.goes_on }; each = λ image may. staged.moments.each image may };
    })

-- one fence later as much is promised
unsure_if : (b : Bool) (x y : Option ℕ) → is_unsure (if b then Sure x else Sure y) ≡ true → ⊥
unsure_if true x y e = absurd (let no : false ≡ true = e in cc)
unsure_if false x y e = absurd (let no : false ≡ true = e in cc)

unsure_after : (fences : Fences) → is_unsure (fences_after fences) ≡ true → is_unsure fences ≡ true
unsure_after Unsure e = e
unsure_after (Sure None) e = e
unsure_after (Sure (Some n)) e = absurd (unsure_if (n == 1) None (Some (n - 1)) e)

-- one that fails comes where any fence may fail
pub cause_unsynced : (fences : Fences) (b new : State) → b.fences ≡ fences_after fences → is_unsure b.fences ≡ true → HasCause fences new
cause_unsynced fences b new after e = inr (inr (unsure_after fences (subst (λ (f : Fences). is_unsure f ≡ true) after e)))
