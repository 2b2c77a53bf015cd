-- What a crash of the simulated device leaves.
use Rattle.std.proofs.Common.{◌≡◌, ◌⊎◌, ℕ, zero, suc, ◌+◌, ◌%◌, ◌<◌, Bool, true, false, List, [], ◌∷◌, ◌++◌, length, map, get_or, refl, inl, inr, sym, subst, ap, ◌∙◌, arith, length-append}
use Rattle.std.proofs.lemmas.List.{length-map}
use Rattle.pmem.specs.declared.cells.Cells.{Cells}
use Rattle.pmem.specs.declared.keep.Keep.{Keep}
use Rattle.pmem.specs.declared.keep.Keep.TheVariants.{Unasked, Awaited, Kept, Forgotten}
use Rattle.pmem.specs.declared.history.History.{History}
use Rattle.pmem.specs.Device.{Older, Word, State, MayBe, candidates}
use Rattle.pmem.specs.Crash.{IsImage, words_at, words_to_crash, picked, several_below}
use Rattle.pmem.specs.History.{words_of, past_of}
use Rattle.pmem.specs.Cell.{Holds, held, older_in}
use Rattle.pmem.specs.Keep.{HoldsKept, kept_moment, words_kept}
use Rattle.pmem.proofs.Chains.{IsOlder-is_older, may_be-MayBe}
use Rattle.pmem.proofs.Keeping.{words_at-now}

-- functions that agree everywhere are one
same_words : {u v : ℕ → Word} → ((word : ℕ) → u word ≡ v word) → u ≡ v
same_words e = λ i. λ word. e word i

-- a candidate of a list of candidates
pick-MayBe : (older : List Older) (newest k : ℕ) → k < length older + 1
    → MayBe (record { newest = newest; older = older }) (get_or (map (λ o. o.value) older ++ newest ∷ []) k 0)
pick-MayBe [] newest zero below = inl refl
pick-MayBe [] newest (suc k) below = absurd (omega arith)
pick-MayBe (o ∷ older) newest zero below = inr (inl refl)
pick-MayBe (o ∷ older) newest (suc k) below =
    elim (pick-MayBe older newest k (omega arith)) [ inl is ↦ inl is | inr more ↦ inr (inr more) ]

-- what is picked is a candidate
pub picked-MayBe : (words : ℕ → Word) (picks : List ℕ) (word : ℕ) → MayBe (words word) (picked words picks word)
picked-MayBe words picks word =
    let n = length (candidates (words word)) in
    let size : n ≡ length (words word).older + 1 =
    length-append (map (λ o. o.value) (words word).older) ((words word).newest ∷ [])
    ∙ ap (λ (k : ℕ). k + 1) (length-map (words word).older (λ o. o.value)) in
    pick-MayBe (words word).older (words word).newest (get_or picks (several_below words word) 0 % n) (omega arith)

-- the cells hold candidates of the words that they represent
held-MayBe : (cells : Cells) (words : ℕ → Word) (starved : Bool) (word x : ℕ) → Holds cells words starved → MayBe (held cells word) x → MayBe (words word) x
held-MayBe cells words starved word x holds (inl newest) = inl (newest ∙ holds.newest word)
held-MayBe cells words starved word x holds (inr older) =
    may_be-MayBe (words word) x (holds.within word x (IsOlder-is_older (older_in cells.pool.items word) x older))

held-exact : (cells : Cells) (words : ℕ → Word) → Holds cells words false → held cells ≡ words
held-exact cells words holds =
    same_words {u = held cells} {v = words} (λ word. λ i. record { newest = holds.newest word i; older = holds.exact refl word i })

-- The words that the crash picks from are those of the requested moment, or the present words if there was no memory for that copy.
kept-words : (keep : Keep) (lines : ℕ) (now : History) (starved : Bool) (d : State) → d.words ≡ words_of now → d.past ≡ past_of now
    → HoldsKept keep lines now starved
    → (words_to_crash d (kept_moment keep (length (past_of now))) ≡ words_kept keep now) ⊎ ((starved ≡ true) × (words_kept keep now ≡ words_of now))
kept-words Unasked lines now starved d words past kept = inl words
kept-words (Awaited more) lines now starved d words past kept =
    inl (words_at-now d.words d.past (length (past_of now) + 1 + more) (omega (arith, ap length past)) ∙ words)
kept-words (Kept cells after) lines now starved d words past kept =
    inl (ap (λ (w : ℕ → Word). words_at w d.past (length (past_of after.value))) words
    ∙ ap (λ (p : List (ℕ → Word)). words_at (words_of now) p (length (past_of after.value))) past
    ∙ same_words {u = words_at (words_of now) (past_of now) (length (past_of after.value))} {v = words_of after.value} kept.went)
kept-words (Forgotten after) lines now starved d words past kept = inr (kept, refl)

module _ (keep : Keep) (lines : ℕ) (now : History) (starved : Bool) (d : State) (words : d.words ≡ words_of now) (past : d.past ≡ past_of now)
    (kept : HoldsKept keep lines now starved) (cells : Cells) (holds : Holds cells (words_kept keep now) starved)
    (picks : List ℕ) (image : ℕ → ℕ) (is_picked : (word : ℕ) → image word ≡ picked (held cells) picks word) where
  -- exactly the candidates that are picked, where the device is not starved
  pub crash_picked : starved ≡ false → (word : ℕ) → image word ≡ picked (words_to_crash d (kept_moment keep (length (past_of now)))) picks word
  crash_picked fed word =
      elim (kept-words keep lines now starved d words past kept) [
        | inl same ↦
            is_picked word
            ∙ ap (λ (w : ℕ → Word). picked w picks word)
            (held-exact cells (words_kept keep now) (subst (λ (b : Bool). Holds cells (words_kept keep now) b) fed holds) ∙ sym same)
        | inr lost ↦ absurd (let h : true ≡ false = sym lost.0 ∙ fed in cc)
      ]

  crash-image : IsImage (words_kept keep now) image
  crash-image word =
      subst (λ (x : ℕ). MayBe (words_kept keep now word) x) (sym (is_picked word))
      (held-MayBe cells (words_kept keep now) starved word (picked (held cells) picks word) holds (picked-MayBe (held cells) picks word))

  -- some candidates in any case
  pub crash_within : IsImage (words_to_crash d (kept_moment keep (length (past_of now)))) image ⊎ IsImage d.words image
  crash_within =
      elim (kept-words keep lines now starved d words past kept) [
        | inl same ↦ inl (subst (λ (w : ℕ → Word). IsImage w image) (sym same) crash-image)
        | inr lost ↦ inr (subst (λ (w : ℕ → Word). IsImage w image) (lost.1 ∙ sym words) crash-image)
      ]
