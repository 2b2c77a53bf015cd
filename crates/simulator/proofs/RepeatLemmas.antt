-- A list to which the same element is added repeatedly.
use Rattle.std.proofs.Common.{◌≡◌, ℕ, ◌+◌, List, [], ◌∷◌, ◌++◌, replicate, ap, ap₂, refl, sym, ◌∙◌}
use Rattle.std.proofs.lemmas.List.{append-nil, append_assoc, length-append, replicate_more}
use Rattle.std.specs.List.{AllByRecursion}
use Rattle.machine.specs.declared.event.Event.{Event}
use Rattle.simulator.specs.Copy.{AppendsCopies, IsCopy}

pub once_more : {X : Type 0} (prefix old new : List X) (n : ℕ) (x y : X) → old ≡ prefix ++ replicate n x → new ≡ old ++ y ∷ [] → y ≡ x → new ≡ prefix ++ replicate (n + 1) x
once_more prefix old new n x y is pushed same =
    pushed
    ∙ ap₂ (λ list last. list ++ last ∷ []) is same
    ∙ append_assoc prefix (replicate n x) (x ∷ [])
    ∙ ap (λ list. prefix ++ list) (replicate_more n x)

-- ---- copies of an event

pub no_copy : (events : List Event) (event : Event) → AppendsCopies events events 0 event
no_copy events event = ([], sym (append-nil events), refl, tt)

all_more : (P : Event → Type 0) (copies : List Event) (copy : Event) → AllByRecursion P copies → P copy → AllByRecursion P (copies ++ copy ∷ [])
all_more P [] copy all last = (last, tt)
all_more P (first ∷ copies) copy all last = (all.0, all_more P copies copy all.1 last)

pub copy_more : (prefix old new : List Event) (n : ℕ) (event copy : Event) → AppendsCopies prefix old n event → new ≡ old ++ copy ∷ [] → IsCopy event copy → AppendsCopies prefix new (n + 1) event
copy_more prefix old new n event copy appends pushed is = (
  appends.0 ++ copy ∷ [],
  pushed ∙ ap (λ list. list ++ copy ∷ []) appends.1 ∙ append_assoc prefix appends.0 (copy ∷ []),
  length-append appends.0 (copy ∷ []) ∙ ap (λ m. m + 1) appends.2,
  all_more (IsCopy event) appends.0 copy appends.3 is,
)
