-- What a contract sees of the ends of a pipe between two threads.
use Rattle.std.specs.Prelude.{◌≡◌, List, [], ◌∷◌, ◌++◌, Option, Some, None, MatchOption}
use Rattle.std.proofs.Common.{refl, sym, subst, ◌∙◌}
use Rattle.std.proofs.lemmas.List.{append-nil}
use mathlib.Core.List.{IsPrefix}
use Rattle.rtrb.specs.Ring.{sent, received, known_items, IsPair, SameProducer, SameConsumer}
use Rattle.pipes.specs.declared.ring_pipe.RingOutlet.{RingOutlet}
use Rattle.pipes.specs.declared.ring_pipe.RingInlet.{RingInlet}

module _ {T : Type 0} where
  -- the oldest of the items that are left is taken, if there is one
  abbrev pub LeftTakes : List T → Option T → List T → Type 0
  LeftTakes before None after = (before ≡ []) × (after ≡ [])
  LeftTakes before (Some item) after = before ≡ item ∷ after

  pub LeftTakes-known : (before after : List T) (taken : Option T) → LeftTakes before taken after
      → MatchOption taken (before ≡ []) (λ item. IsPrefix before (item ∷ after))
  LeftTakes-known before after None gives = gives.0
  LeftTakes-known before after (Some item) gives = ([], append-nil before ∙ gives)

module _ {T P : Type 0} where
  -- all that was ever offered at the outlet, in order
  abbrev pub offered_at : RingOutlet T P → List T
  offered_at outlet = sent outlet.producer

  -- all that was ever taken at the inlet, in order
  abbrev pub taken_at : RingInlet T P → List T
  taken_at inlet = received inlet.consumer

  -- the items that the inlet knows are waiting, oldest first
  abbrev pub known_at : RingInlet T P → List T
  known_at inlet = known_items inlet.consumer

  -- the two ends of one pipe
  abbrev pub AreEndsOfOne : RingOutlet T P → RingInlet T P → Type 0
  AreEndsOfOne outlet inlet = IsPair outlet.producer inlet.consumer

  abbrev pub IsSameOutlet : RingOutlet T P → RingOutlet T P → Type 0
  IsSameOutlet before after = SameProducer before.producer after.producer

  abbrev pub IsSameInlet : RingInlet T P → RingInlet T P → Type 0
  IsSameInlet before after = SameConsumer before.consumer after.consumer

  pub IsSameOutlet-refl : (outlet : RingOutlet T P) → IsSameOutlet outlet outlet
  IsSameOutlet-refl outlet = ((refl, refl, refl, refl), refl)

  pub IsSameOutlet-trans : (first middle last : RingOutlet T P) → IsSameOutlet first middle → IsSameOutlet middle last → IsSameOutlet first last
  IsSameOutlet-trans first middle last a b =
      ((b.0.0 ∙ a.0.0, b.0.1 ∙ a.0.1, b.0.2 ∙ a.0.2, b.0.3 ∙ a.0.3), b.1 ∙ a.1)

  -- by what may follow what was offered before
  module _ (allows : List T → T → Type 0) where
    -- the oldest item is taken, is the last of all that was taken, and may follow those before it; or none was known, and none was found
    abbrev pub RingTakes : RingInlet T P → Option T → RingInlet T P → Type 0
    RingTakes before None after =
        IsSameInlet before after × (taken_at after ≡ taken_at before) × (known_at before ≡ []) × (known_at after ≡ [])
    RingTakes before (Some item) after =
        IsSameInlet before after × (taken_at after ≡ taken_at before ++ item ∷ []) × IsPrefix (known_at before) (item ∷ known_at after)
        × allows (taken_at before) item

    pub RingTakes-known : (before after : RingInlet T P) (taken : Option T) → RingTakes before taken after
        → MatchOption taken (known_at before ≡ []) (λ item. IsPrefix (known_at before) (item ∷ known_at after))
    RingTakes-known before after None gives = gives.2
    RingTakes-known before after (Some item) gives = gives.2

    pub MayOffer-still : (before after : RingOutlet T P) (item : T) → IsSameOutlet before after → offered_at after ≡ offered_at before
        → allows (offered_at before) item → allows (offered_at after) item
    MayOffer-still before after item same is may = subst (λ (past : List T). allows past item) (sym is) may
