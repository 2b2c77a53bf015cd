-- What a crash at any moment of a run leaves.
use Rattle.std.proofs.Common.{◌≡◌, ◌⊎◌, ℕ, ◌≤◌, List, [], ◌∷◌, ◌++◌, length, refl, inl, inr, sym, ap, subst, ◌∙◌, arith, append_assoc, length-append}
use Rattle.pmem.specs.Device.{Word, State, moment}
use Rattle.pmem.specs.Crash.{IsImage, HadImage, MayLeave}
use Rattle.pmem.specs.Runs.{HasPassed, LeavesOnly}

-- no past words are of the present moment or later
HadImage-none : (past : List (ℕ → Word)) (t : ℕ) (image : ℕ → ℕ) → length past ≤ t → HadImage past t image → ⊥
HadImage-none [] t image late had = had
HadImage-none (words ∷ past) t image late (inl now) = omega (arith, now.0)
HadImage-none (words ∷ past) t image late (inr had) = HadImage-none past t image (omega arith) had

-- since the present moment a crash may only leave an image of the present words
pub MayLeave-now : (d : State) (image : ℕ → ℕ) → MayLeave d (moment d) image → IsImage d.words image
MayLeave-now d image (inl now) = now
MayLeave-now d image (inr had) = absurd (HadImage-none d.past (moment d) image (omega arith) had)

-- ---- a state that was passed

-- what a crash at some moment since t leaves, of all that a device has gone through
abbrev Left : List (ℕ → Word) → ℕ → (ℕ → ℕ) → Type 0
Left [] t image = ⊥
Left (now ∷ past) t image = IsImage now image ⊎ HadImage past t image

HadImage-older : (more past : List (ℕ → Word)) (words : ℕ → Word) (t : ℕ) (image : ℕ → ℕ) → HadImage (more ++ words ∷ past) t image
    → Left (words ∷ past) t image ⊎ HadImage (more ++ words ∷ past) (length past) image
HadImage-older [] past words t image (inl here) = inl (inl here.1)
HadImage-older [] past words t image (inr had) = inl (inr had)
HadImage-older (newer ∷ more) past words t image (inl here) = inr (inl (omega (arith, length-append more (words ∷ past)), here.1))
HadImage-older (newer ∷ more) past words t image (inr had) =
    elim (HadImage-older more past words t image had) [
      | inl was ↦ inl was
      | inr since ↦ inr (inr since)
    ]

Left-older : (more past : List (ℕ → Word)) (words : ℕ → Word) (t : ℕ) (image : ℕ → ℕ) → Left (more ++ words ∷ past) t image
    → Left (words ∷ past) t image ⊎ Left (more ++ words ∷ past) (length past) image
Left-older [] past words t image left = inl left
Left-older (newer ∷ more) past words t image (inl now) = inr (inl now)
Left-older (newer ∷ more) past words t image (inr had) =
    elim (HadImage-older more past words t image had) [
      | inl was ↦ inl was
      | inr since ↦ inr (inr since)
    ]

-- what a crash leaves: what it could leave at the state that was passed, or what it leaves since then
pub MayLeave-passed : {old new : State} → HasPassed old new → (t : ℕ) (image : ℕ → ℕ) → MayLeave new t image → MayLeave old t image ⊎ MayLeave new (moment old) image
MayLeave-passed {old} {new} passed t image may =
    elim (Left-older passed.more old.past old.words t image (subst (λ (gone : List (ℕ → Word)). Left gone t image) passed.goes_on may)) [
      | inl was ↦ inl was
      | inr since ↦ inr (subst (λ (gone : List (ℕ → Word)). Left gone (moment old) image) (sym passed.goes_on) since)
    ]

-- ---- a run of calls

-- A call: a crash leaves an image of the words before it or after it.
pub step_leaves : (old new : State) (P : (ℕ → ℕ) → Type 0) → new.past ≡ old.words ∷ old.past
    → ((image : ℕ → ℕ) → IsImage old.words image → P image)
    → ((image : ℕ → ℕ) → IsImage new.words image → P image) → LeavesOnly old new P
step_leaves old new P e from_old from_new = record { passed = record { more = new.words ∷ []; goes_on = ap (λ (past : List (ℕ → Word)). new.words ∷ past) e }; each = each }
  where
    each : (image : ℕ → ℕ) → MayLeave new (moment old) image → P image
    each image (inl is) = from_new image is
    each image (inr had) =
        elim (subst (λ (past : List (ℕ → Word)). HadImage past (moment old) image) e had) [
          | inl here ↦ from_old image here.1
          | inr there ↦ from_old image (MayLeave-now old image (inr there))
        ]

-- no call at all
pub none_leaves : (d : State) (P : (ℕ → ℕ) → Type 0) → ((image : ℕ → ℕ) → IsImage d.words image → P image) → LeavesOnly d d P
none_leaves d P from_now = record { passed = record { more = []; goes_on = refl }; each = λ image may. from_now image (MayLeave-now d image may) }

-- One run after another.
pub LeavesOnly-then : {a b c : State} {P : (ℕ → ℕ) → Type 0} → LeavesOnly a b P → LeavesOnly b c P → LeavesOnly a c P
LeavesOnly-then {a} {b} {c} {P} first second =
    record {
      passed = record {
        more = second.passed.more ++ first.passed.more;
        goes_on = rw append_assoc (second.passed.goes_on ∙ ap (λ (gone : List (ℕ → Word)). second.passed.more ++ gone) first.passed.goes_on);
      };
      each = λ image may.
          elim (MayLeave-passed second.passed (moment a) image may) [
            | inl was ↦ first.each image was
            | inr is ↦ second.each image is
          ];
    }

-- What satisfies P also satisfies Q.
pub LeavesOnly-weaken : {a b : State} {P : (ℕ → ℕ) → Type 0} (Q : (ℕ → ℕ) → Type 0) → ((image : ℕ → ℕ) → P image → Q image)
    → LeavesOnly a b P → LeavesOnly a b Q
LeavesOnly-weaken {a} {b} {P} Q so run = record { passed = run.passed; each = λ image may. so image (run.each image may) }
