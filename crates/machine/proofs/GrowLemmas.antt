-- What a later world has: lists only grow at the end, and no number falls.
use Rattle.std.proofs.Common.{◌≡◌, ◌⊎◌, ℕ, ◌≤◌, Bool, true, false, List, [], ◌∷◌, ◌++◌, take, refl, sym, ap, subst, ◌∙◌, arith, append_assoc, inl, inr}
use Rattle.model.specs.declared.call.Call.{Call}
use Rattle.model.specs.Call.{IsPrefix, cut_at, keyspace_after, position_of}
use Rattle.model.proofs.PrefixLemmas.{IsPrefix-length, IsPrefix-trans}
use Rattle.model.proofs.CallsLemmas.{IsPrefix-cut_at, IsPrefix-into-cut_at, keyspace_after-cut_at-append, position_of-cut_at}
use Rattle.machine.specs.declared.event.Event.{Event}
use Rattle.machine.specs.Event.{Allowed, World, Step, Run, start_with, last_world}
use Rattle.machine.specs.Promise.{IsReleasedIn, SomeWorld}
use Rattle.machine.specs.Sound.{Sound}
use Rattle.machine.specs.Law.{Grows}
use Rattle.machine.proofs.GroupLemmas.{chain-le}
use Rattle.machine.proofs.SoundConnection.{reach-low}
use Rattle.machine.proofs.SoundEvents.{sound-step}
use Rattle.machine.proofs.PromiseLemmas.{released-held}
use Rattle.machine.proofs.RunLemmas.{kept-later}
use Rattle.machine.proofs.EventLaws.{owed-step}
use Rattle.machine.proofs.GrowKinds.{grows-itself, grows-trans}

pub grows-step : (old : World) (event : Event) (did : Bool) (new : World) → Step old event did new → Sound old → Grows old new
grows-step old event true new step s = (owed-step old event new step).grows s
grows-step old event false new step s = subst (Grows old) (sym (step.stands refl)) (grows-itself old)

pub grows-run : (allowed : Allowed) (n : ℕ) (events : List Event) (done : List Bool) (worlds : List World) → Run (start_with allowed) events done worlds → Grows (last_world (start_with allowed) (take n worlds)) (last_world (start_with allowed) worlds)
grows-run allowed n events done worlds run =
    let middle = last_world (start_with allowed) (take n worlds) in
    kept-later (Grows middle) (λ old event did new step s g. grows-trans g (grows-step old event did new step s)) allowed n events done worlds run (grows-itself middle)

pub cuts-stay : (old new : List Call) (p : ℕ) → IsPrefix old new → p ≤ position_of old → keyspace_after (cut_at new p) ≡ keyspace_after (cut_at old p)
cuts-stay old new p prefix le = ap (λ calls. keyspace_after (cut_at calls p)) (sym prefix.joined) ∙ keyspace_after-cut_at-append old prefix.rest p le

-- the keyspace at a position up to which a later list has what an earlier one had
image-stays : (old new : List Call) (high p : ℕ) → high ≤ position_of old → IsPrefix (cut_at old high) new → p ≤ high → keyspace_after (cut_at new p) ≡ keyspace_after (cut_at old p)
image-stays old new high p within prefix le =
    let there : p ≤ position_of (cut_at old high) = omega (arith, position_of-cut_at old high, within, le) in
    cuts-stay (cut_at old high) new p prefix there ∙ sym (cuts-stay (cut_at old high) old p (IsPrefix-cut_at old high) there)

-- the keyspace at a position that is safe, or that the same primary's image has reached, in a later world
pub keyspace-stays : (old new : World) (p : ℕ) → Sound old → Grows old new → (p ≤ old.standby.position) ⊎ ((new.primary.epoch ≡ old.primary.epoch) × (p ≤ old.primary.committer.position))
    → keyspace_after (cut_at new.primary.calls p) ≡ keyspace_after (cut_at old.primary.calls p)
keyspace-stays old new p s g low =
    let within : old.primary.committer.position ≤ position_of old.primary.calls = omega (arith, s.committer.closed, chain-le _ _ _ s.committer.waiting) in
    elim low [
      | inl safe ↦ image-stays old.primary.calls new.primary.calls old.standby.position p (omega (arith, within, s.standby.behind, reach-low old.primary.link.copying old.primary.committer.position)) g.kept safe
      | inr same ↦ image-stays old.primary.calls new.primary.calls old.primary.committer.position p within (g.within same.0).0 same.1
    ]

-- ---- a released call stays

-- what was released in a world is released in a later one
pub released-later : (old new : World) (prefix : List Call) (call : Call) → Sound old → Grows old new → IsReleasedIn prefix call old → IsReleasedIn prefix call new
released-later old new prefix call s g released =
    let calls = prefix ++ call ∷ [] in
    let low = (released-held old s prefix call released).1 in
    let there : IsPrefix calls old.primary.calls = record { rest = released.rest; joined = append_assoc prefix (call ∷ []) released.rest ∙ sym released.stands } in
    let later = IsPrefix-trans (IsPrefix-into-cut_at old.standby.position there low) g.kept in
    record {
      rest = later.rest;
      stands = sym later.joined ∙ append_assoc prefix (call ∷ []) later.rest;
      written = omega (arith, released.written, IsPrefix-length (g.released call.connection));
    }

-- what was released in some world of a run is released in its last one
pub released-stays : (w : World) (events : List Event) (done : List Bool) (worlds : List World) (prefix : List Call) (call : Call) → Run w events done worlds → Sound w
    → SomeWorld (IsReleasedIn prefix call) (w ∷ worlds) → IsReleasedIn prefix call (last_world w worlds)
released-stays w [] [] [] prefix call run s some = elim some [ inl released ↦ released | inr never ↦ absurd never ]
released-stays w (event ∷ events) (did ∷ done) (new ∷ worlds) prefix call run s some =
    let after = sound-step w event did new run.0 s in
    elim some [
      | inl released ↦ released-stays new events done worlds prefix call run.1 after (inl (released-later w new prefix call s (grows-step w event did new run.0 s) released))
      | inr later ↦ released-stays new events done worlds prefix call run.1 after later
    ]
released-stays w events done worlds prefix call run s some = absurd run
