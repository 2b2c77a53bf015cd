-- Laws of runs: how they are extended and cut, and what holds between any two events.
use Rattle.std.proofs.Common.{◌≡◌, ℕ, zero, suc, Bool, true, false, List, [], ◌∷◌, ◌++◌, take, drop, All, refl, sym, subst, arith, true≢false}
use Rattle.std.proofs.lemmas.List.Elements.{All-nil, All-cons}
use Rattle.machine.specs.declared.event.Event.{Event}
use Rattle.machine.specs.Event.{Allowed, World, is_enabled, Happens, Step, Run, start_with, last_world}
use Rattle.machine.specs.Sound.{Sound}
use Rattle.machine.proofs.OverLemmas.{over-start}
use Rattle.machine.proofs.WorkLemmas.{committer-new}
use Rattle.machine.proofs.GroupLemmas.{link-new}
use Rattle.machine.proofs.SoundEvents.{sound-step}

-- ---- steps

pub step-does : {old new : World} {event : Event} → is_enabled old event ≡ true → Happens old event new → Step old event true new
step-does e h = record { done = sym e; happens = λ did. h; stands = λ did. absurd (true≢false did) }

pub step-stays : {old : World} {event : Event} → is_enabled old event ≡ false → Step old event false old
step-stays e = record { done = sym e; happens = λ did. absurd (true≢false (sym did)); stands = λ did. refl }

-- ---- runs extended and cut

pub run-append : (w : World) (first second : List Event) (done more : List Bool) (worlds later : List World) → Run w first done worlds → Run (last_world w worlds) second more later → Run w (first ++ second) (done ++ more) (worlds ++ later)
run-append w [] second [] more [] later run next = next
run-append w (event ∷ first) second (did ∷ done) more (new ∷ worlds) later run next = (run.0, run-append new first second done more worlds later run.1 next)
run-append w first second done more worlds later run next = absurd run

pub last_world-append : (w : World) (worlds later : List World) → last_world w (worlds ++ later) ≡ last_world (last_world w worlds) later
last_world-append w [] later = refl
last_world-append w (new ∷ worlds) later = last_world-append new worlds later

-- one more event
pub run-push : (w : World) (events : List Event) (done : List Bool) (worlds : List World) (event : Event) (did : Bool) (new : World) → Run w events done worlds → Step (last_world w worlds) event did new
    → Run w (events ++ event ∷ []) (done ++ did ∷ []) (worlds ++ new ∷ [])
run-push w events done worlds event did new run step = run-append w events (event ∷ []) done (did ∷ []) worlds (new ∷ []) run (step, tt)

pub last_world-push : (w : World) (worlds : List World) (new : World) → last_world w (worlds ++ new ∷ []) ≡ new
last_world-push w worlds new = last_world-append w worlds (new ∷ [])

-- the first events of a run are a run
pub run-take : (n : ℕ) (w : World) (events : List Event) (done : List Bool) (worlds : List World) → Run w events done worlds → Run w (take n events) (take n done) (take n worlds)
run-take zero w events done worlds run = tt
run-take (suc n) w [] [] [] run = tt
run-take (suc n) w (event ∷ events) (did ∷ done) (new ∷ worlds) run = (run.0, run-take n new events done worlds run.1)
run-take (suc n) w events done worlds run = absurd run

-- and the others are a run from where those end
pub run-drop : (n : ℕ) (w : World) (events : List Event) (done : List Bool) (worlds : List World) → Run w events done worlds → Run (last_world w (take n worlds)) (drop n events) (drop n done) (drop n worlds)
run-drop zero w events done worlds run = run
run-drop (suc n) w [] [] [] run = tt
run-drop (suc n) w (event ∷ events) (did ∷ done) (new ∷ worlds) run = run-drop n new events done worlds run.1
run-drop (suc n) w events done worlds run = absurd run

-- ---- what holds between any two events

pub sound-start : (allowed : Allowed) → Sound (start_with allowed)
sound-start allowed = search (arith, over-start, committer-new 0, link-new 0, All-nil)

-- what the steps of sound worlds keep holds after a run
pub kept-from : (P : World → Type 0) → ((old : World) (event : Event) (did : Bool) (new : World) → Step old event did new → Sound old → P old → P new)
    → (w : World) (events : List Event) (done : List Bool) (worlds : List World) → Run w events done worlds → Sound w → P w → P (last_world w worlds)
kept-from P keeps w [] [] [] run s p = p
kept-from P keeps w (event ∷ events) (did ∷ done) (new ∷ worlds) run s p =
    kept-from P keeps new events done worlds run.1 (sound-step w event did new run.0 s) (keeps w event did new run.0 s p)
kept-from P keeps w events done worlds run s p = absurd run

pub sound-worlds_from : (w : World) (events : List Event) (done : List Bool) (worlds : List World) → Run w events done worlds → Sound w → All Sound (w ∷ worlds)
sound-worlds_from w [] [] [] run s = All-cons Sound w [] s (All-nil Sound)
sound-worlds_from w (event ∷ events) (did ∷ done) (new ∷ worlds) run s =
    All-cons Sound w (new ∷ worlds) s (sound-worlds_from new events done worlds run.1 (sound-step w event did new run.0 s))
sound-worlds_from w events done worlds run s = absurd run

pub sound-run : (allowed : Allowed) (events : List Event) (done : List Bool) (worlds : List World) → Run (start_with allowed) events done worlds → Sound (last_world (start_with allowed) worlds)
sound-run allowed events done worlds run =
    kept-from Sound (λ old event did new step s p. sound-step old event did new step s) (start_with allowed) events done worlds run (sound-start allowed) (sound-start allowed)

pub sound-worlds : (allowed : Allowed) (events : List Event) (done : List Bool) (worlds : List World) → Run (start_with allowed) events done worlds → All Sound (start_with allowed ∷ worlds)
sound-worlds allowed events done worlds run = sound-worlds_from (start_with allowed) events done worlds run (sound-start allowed)

pub last_world-split : (n : ℕ) (w : World) (worlds : List World) → last_world (last_world w (take n worlds)) (drop n worlds) ≡ last_world w worlds
last_world-split zero w worlds = refl
last_world-split (suc n) w [] = refl
last_world-split (suc n) w (new ∷ worlds) = last_world-split n new worlds

-- and between two worlds of a run
pub kept-later : (P : World → Type 0) → ((old : World) (event : Event) (did : Bool) (new : World) → Step old event did new → Sound old → P old → P new)
    → (allowed : Allowed) (n : ℕ) (events : List Event) (done : List Bool) (worlds : List World) → Run (start_with allowed) events done worlds
    → P (last_world (start_with allowed) (take n worlds)) → P (last_world (start_with allowed) worlds)
kept-later P keeps allowed n events done worlds run p =
    let s = sound-run allowed (take n events) (take n done) (take n worlds) (run-take n (start_with allowed) events done worlds run) in
    subst P (last_world-split n (start_with allowed) worlds)
    (kept-from P keeps _ (drop n events) (drop n done) (drop n worlds) (run-drop n (start_with allowed) events done worlds run) s p)
