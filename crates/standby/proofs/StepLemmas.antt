-- What a newcomer may do with a frame of a copy by how far it has come: one thing alone.
use Rattle.std.proofs.Common.{◌≡◌, ◌≢◌, ℕ, ◌+◌, ◌<◌, ◌≤◌, ◌↔◌, inl, inr, Bool, false, IsTrue, Option, None, Some, refl, sym, ◌∙◌, arith}
use Rattle.std.proofs.lemmas.Bool.{true≢false}
use Rattle.kv_types.specs.declared.refusal.Refusal.TheVariants.{Exhausted, PositionGap, WrongEpoch}
use Rattle.model.specs.declared.image.TheConstants.{COUNTER_LIMIT}
use Rattle.model.specs.declared.record.Record.{Record}
use Rattle.frames.specs.declared.copy.CopyEnd.{CopyEnd}
use Rattle.frames.specs.declared.copy.CopyPart.{CopyPart}
use Rattle.wbl_engine.specs.Copying.{ExhaustsCopy}
use Rattle.standby.specs.declared.copies.Half.{Half}
use Rattle.standby.specs.Copies.{BeginsCopy, HasAll, IsHadPart, IsNextPart, Rise, last_of}
use Rattle.standby.specs.Gathering.{IsAt}
use Rattle.standby.specs.Newcomers.{CannotEnd, CannotTakePart, ExhaustsPart, IsEndTaken, IsPartTaken}

-- a fact that an answer denies
pub denied : {P : Type 0} (answer : Bool) → (IsTrue answer ↔ P) → answer ≡ false → ¬ P
denied answer says is holds = true≢false (sym (says.1 holds) ∙ is)

next_not_had : (half : Option Half) (position number : ℕ) → IsNextPart half position number → IsHadPart half position number → ⊥
next_not_had None position number next had = next
next_not_had (Some half) position number next had = omega (arith, next.1, had.1)

next_not_first : (half : Option Half) (position number : ℕ) → IsNextPart half position number → BeginsCopy half position number → ⊥
next_not_first None position number next first = next
next_not_first (Some half) position number next first = first.0 next.0

first_not_had : (half : Option Half) (position number : ℕ) → BeginsCopy half position number → IsHadPart half position number → ⊥
first_not_had None position number first had = had
first_not_had (Some half) position number first had = first.0 had.0

pub next_at : (half : Option Half) (position number : ℕ) → IsNextPart half position number → IsAt half position
next_at None position number next = tt
next_at (Some half) position number next = next.0

pub not_counted : (current : Record) (part : CopyPart) → ¬ ExhaustsPart current part → part.number + 1 < COUNTER_LIMIT
not_counted current part room = below (part.number + 1) COUNTER_LIMIT (λ reached. room (inl reached))
  where
    below : (n limit : ℕ) → (limit ≤ n → ⊥) → n < limit
    below n limit not_reached = grind (arith, not_reached)

-- ---- why a part cannot be taken

pub other_epoch : (current : Record) (half : Option Half) (part : CopyPart) → part.epoch ≢ current.epoch → CannotTakePart current half part WrongEpoch
other_epoch current half part other = inl (refl, other)

pub misplaced : (current : Record) (half : Option Half) (part : CopyPart) → part.epoch ≡ current.epoch → ¬ IsNextPart half part.position part.number
    → ¬ IsHadPart half part.position part.number → ¬ BeginsCopy half part.position part.number → CannotTakePart current half part PositionGap
misplaced current half part own next had first = inr (inl (refl, own, had, λ taken. none taken))
  where
    none : IsPartTaken half part → ⊥
    none (inl is) = next is.0
    none (inr is) = first is.0

pub next_falls : (current : Record) (half : Option Half) (part : CopyPart) → part.epoch ≡ current.epoch → IsNextPart half part.position part.number
    → ¬ Rise (last_of half) part.puts.items → CannotTakePart current half part PositionGap
next_falls current half part own next falls = inr (inl (refl, own, next_not_had half part.position part.number next, λ taken. none taken))
  where
    none : IsPartTaken half part → ⊥
    none (inl is) = falls is.1
    none (inr is) = next_not_first half part.position part.number next is.0

pub first_falls : (current : Record) (half : Option Half) (part : CopyPart) → part.epoch ≡ current.epoch → BeginsCopy half part.position part.number
    → ¬ Rise None part.puts.items → CannotTakePart current half part PositionGap
first_falls current half part own first falls = inr (inl (refl, own, first_not_had half part.position part.number first, λ taken. none taken))
  where
    none : IsPartTaken half part → ⊥
    none (inl is) = next_not_first half part.position part.number is.0 first
    none (inr is) = falls is.1

pub exhausted : (current : Record) (half : Option Half) (part : CopyPart) → part.epoch ≡ current.epoch → IsPartTaken half part → ExhaustsPart current part
    → CannotTakePart current half part Exhausted
exhausted current half part own taken reached = inr (inr (refl, own, taken, reached))

-- ---- why an end cannot be taken

pub end_of_other_epoch : (current : Record) (half : Option Half) (end : CopyEnd) → end.epoch ≢ current.epoch → CannotEnd current half end WrongEpoch
end_of_other_epoch current half end other = inl (refl, other)

pub end_misplaced : (current : Record) (half : Option Half) (end : CopyEnd) → end.epoch ≡ current.epoch → ¬ HasAll half end.position end.parts → 0 < end.parts
    → CannotEnd current half end PositionGap
end_misplaced current half end own all some = inr (inl (refl, own, λ taken. none taken))
  where
    none : IsEndTaken half end → ⊥
    none (inl is) = all is
    none (inr is) = omega (arith, is, some)

pub end_exhausted : (current : Record) (half : Option Half) (end : CopyEnd) → end.epoch ≡ current.epoch → IsEndTaken half end → ExhaustsCopy current end.position
    → CannotEnd current half end Exhausted
end_exhausted current half end own taken reached = inr (inr (refl, own, taken, reached))
