-- What looking at the next item of an inlet, and taking it, does.
use Rattle.std.specs.Prelude.{◌≡◌, List, [], ◌∷◌, Option, Some, None, MatchOption, option_to_list}
use Rattle.std.proofs.Common.{sym, subst, refl}
use Rattle.std.proofs.lemmas.List.{append-nil}
use mathlib.Core.List.{IsPrefix}
use Rattle.clients.specs.declared.look_ahead.LookAhead.{LookAhead}

module _ {T I : Type 0} where
  -- the item that is held, if there is one
  abbrev pub held_items : LookAhead T I → List T
  held_items ahead = option_to_list ahead.next

  -- by what one `take` of the inlet does: it is taken early, where none is held
  abbrev pub LooksFrom : (I → Option T → I → Type 0) → Option T → LookAhead T I → LookAhead T I → Type 0
  LooksFrom gives None before after = gives before.inlet after.next after.inlet
  LooksFrom gives (Some item) before after = after ≡ before

  abbrev pub Looks : (I → Option T → I → Type 0) → LookAhead T I → LookAhead T I → Type 0
  Looks gives before after = LooksFrom gives before.next before after

  -- the item that is held is taken, and none where none is
  abbrev pub GivesHeld : LookAhead T I → Option T → LookAhead T I → Type 0
  GivesHeld before taken after = (taken ≡ before.next) × (after ≡ record before { next = None })

  -- the held item is taken first, since there is no other
  pub GivesHeld-known : (before after : LookAhead T I) (taken : Option T) → GivesHeld before taken after
      → MatchOption taken (held_items before ≡ []) (λ item. IsPrefix (held_items before) (item ∷ held_items after))
  GivesHeld-known before after taken gives = known-from taken gives
    where
      known-from : (taken : Option T) → GivesHeld before taken after → MatchOption taken (held_items before ≡ []) (λ item. IsPrefix (held_items before) (item ∷ held_items after))
      known-from None from = subst (λ (next : Option T). option_to_list next ≡ []) from.0 refl
      known-from (Some item) from =
          subst (λ (next : Option T). IsPrefix (option_to_list next) (item ∷ held_items after)) from.0
          (subst (λ (left : LookAhead T I). IsPrefix (item ∷ []) (item ∷ held_items left)) (sym from.1) ([], append-nil (item ∷ [])))
