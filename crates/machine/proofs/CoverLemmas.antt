-- A released call was covered at one moment since it was made: when the first byte of its reply was written.
use Rattle.std.proofs.Common.{◌≡◌, ◌⊎◌, ℕ, ◌<◌, Bool, true, false, List, [], ◌∷◌, ◌++◌, length, refl, sym, ap, subst, ◌∙◌, arith, append_assoc, inl, inr}
use Rattle.model.specs.declared.call.Call.{Call}
use Rattle.model.specs.Call.{IsPrefix, replies_to}
use Rattle.model.proofs.PrefixLemmas.{IsPrefix-none, IsPrefix-cons, IsPrefix-length}
use Rattle.model.proofs.ServesLemmas.{IsPrefix-replies_to}
use Rattle.machine.specs.declared.event.Event.{Event}
use Rattle.machine.specs.Event.{Allowed, World, Step, Run, start_with, last_world}
use Rattle.machine.specs.Promise.{SomeWorld, HasMarks, IsReleased, released_in}
use Rattle.machine.specs.Sound.{Sound}
use Rattle.machine.proofs.SoundEvents.{sound-step}
use Rattle.machine.proofs.EventLaws.{owed-step}
use Rattle.machine.proofs.WritesLemmas.{Unwritten}
use Rattle.machine.proofs.RunLemmas.{sound-start}
use Rattle.machine.proofs.PromiseLemmas.{released-begins, released-covered}

-- ---- what was released before

-- a call of a list is in its beginning, or comes after it
splits : (xs more prefix : List Call) (call : Call) (rest : List Call) → xs ++ more ≡ prefix ++ call ∷ rest → ((others : List Call) × (xs ≡ prefix ++ call ∷ others)) ⊎ IsPrefix xs prefix
splits [] more prefix call rest e = inr (IsPrefix-none prefix)
splits (x ∷ xs) more [] call rest e = let first : x ≡ call = cc in inl (xs, ap (λ y. y ∷ xs) first)
splits (x ∷ xs) more (y ∷ prefix) call rest e =
    let first : x ≡ y = cc in
    let others : xs ++ more ≡ prefix ++ call ∷ rest = cc in
    elim (splits xs more prefix call rest others) [
      | inl found ↦ inl (found.0, ap (λ (z : Call). z ∷ xs) first ∙ ap (λ zs. y ∷ zs) found.1)
      | inr before ↦ inr (subst (λ (z : Call). IsPrefix (x ∷ xs) (z ∷ prefix)) first (IsPrefix-cons x before))
    ]

-- what was released after an event that writes nothing was released before it
released-before : (w new : World) → Sound w → (prefix : List Call) (call : Call) → Unwritten call.connection w new → IsReleased new.primary.calls (released_in new) prefix call → IsReleased w.primary.calls (released_in w) prefix call
released-before w new s prefix call unwritten released =
    let c = call.connection in
    let written_before : length (replies_to c prefix) < length (released_in w c) = subst (λ (bytes : List ℕ). length (replies_to c prefix) < length bytes) unwritten.released released.written in
    elim unwritten.calls [
      | inl grown ↦
          elim (splits w.primary.calls grown.rest prefix call released.rest (grown.joined ∙ released.stands)) [
            | inl found ↦ record { rest = found.0; stands = found.1; written = written_before }
            | inr before ↦ absurd (omega (arith, written_before, IsPrefix-length (released-begins w s c), IsPrefix-length (IsPrefix-replies_to c before)))
          ]
      | inr cut ↦ record {
        rest = released.rest ++ cut.rest;
        stands = sym cut.joined ∙ ap (λ xs. xs ++ cut.rest) released.stands ∙ append_assoc prefix (call ∷ released.rest) cut.rest;
        written = written_before;
      }
    ]

released-step : (w : World) (event : Event) (did : Bool) (new : World) (prefix : List Call) (call : Call) → Step w event did new → Sound w → IsReleased new.primary.calls (released_in new) prefix call
    → HasMarks prefix call new ⊎ IsReleased w.primary.calls (released_in w) prefix call
released-step w event false new prefix call step s released = inr (subst (λ x. IsReleased x.primary.calls (released_in x) prefix call) (step.stands refl) released)
released-step w event true new prefix call step s released =
    elim ((owed-step w event new step).writes call.connection) [
      | inl unwritten ↦ inr (released-before w new s prefix call unwritten released)
      | inr written_now ↦ inl (released-covered new (sound-step w event true new step s) prefix call written_now.0 released)
    ]

-- ---- every run

covered-from : (w : World) (events : List Event) (done : List Bool) (worlds : List World) → Run w events done worlds → Sound w → (prefix : List Call) (call : Call)
    → let last = last_world w worlds in IsReleased last.primary.calls (released_in last) prefix call
    → SomeWorld (HasMarks prefix call) (w ∷ worlds) ⊎ IsReleased w.primary.calls (released_in w) prefix call
covered-from w [] [] [] run s prefix call released = inr released
covered-from w (event ∷ events) (did ∷ done) (new ∷ worlds) run s prefix call released =
    elim (covered-from new events done worlds run.1 (sound-step w event did new run.0 s) prefix call released) [
      | inl some ↦ inl (inr some)
      | inr now ↦ elim (released-step w event did new prefix call run.0 s now) [ inl marks ↦ inl (inr (inl marks)) | inr before ↦ inr before ]
    ]
covered-from w events done worlds run s prefix call released = absurd run

no-call : (prefix : List Call) (call : Call) (rest : List Call) → [] ≡ prefix ++ call ∷ rest → ⊥
no-call [] call rest e = cc
no-call (x ∷ prefix) call rest e = cc

pub covered-run : (allowed : Allowed) (events : List Event) (done : List Bool) (worlds : List World) → Run (start_with allowed) events done worlds → (prefix : List Call) (call : Call)
    → let last = last_world (start_with allowed) worlds in IsReleased last.primary.calls (released_in last) prefix call → SomeWorld (HasMarks prefix call) (start_with allowed ∷ worlds)
covered-run allowed events done worlds run prefix call released =
    elim (covered-from (start_with allowed) events done worlds run (sound-start allowed) prefix call released) [
      | inl some ↦ some
      | inr before ↦ absurd (no-call prefix call before.rest before.stands)
    ]
