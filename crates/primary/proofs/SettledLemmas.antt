-- When nothing is under way in a part of a primary.
use Rattle.std.proofs.Common.{◌≡◌, ◌≢◌, ◌↔◌, ◌==◌, Bool, true, false, not, ◌||◌, IsTrue, List, [], ◌∷◌, length, refl, sym, ap, arith, eqb-true}
use Rattle.std.proofs.lemmas.Bool.{or_from, or_parts}
use Rattle.model.specs.declared.work.FreeList.{FreeList}
use Rattle.model.specs.declared.work.Work.{Work}
use Rattle.model.specs.Group.{Contents}
use Rattle.redis_core.specs.Sequencing.{Sequencing}
use Rattle.group_commit.proofs.TurnLemmas.{none-left}
use Rattle.primary.specs.Settled.{HasNothingInHand, HasNothingOpen}

unfound : {A : Type 0} (found : Bool) (xs : List A) → IsTrue found ↔ (xs ≢ []) → xs ≡ [] → found ≡ false
unfound true xs is none = absurd (is.0 refl none)
unfound false xs is none = refl

no_items : {A : Type 0} (empty : Bool) (xs : List A) → empty ≡ (length xs == 0) → not empty ≡ false → xs ≡ []
no_items empty [] is e = refl
no_items true (x ∷ xs) is e = absurd (omega (arith, eqb-true (length (x ∷ xs)) 0 (sym is)))
no_items false (x ∷ xs) is e = absurd (let no : true ≡ false = e in cc)

is_empty : {A : Type 0} (empty : Bool) (xs : List A) → empty ≡ (length xs == 0) → xs ≡ [] → not empty ≡ false
is_empty empty [] is none = ap not is
is_empty empty (x ∷ xs) is none = cc

pub nothing-open : (s : Sequencing) (open' ended : Bool) → IsTrue open' ↔ (s.waiting ≢ []) → IsTrue ended ↔ (s.ended ≢ []) → (open' || ended) ≡ false ↔ HasNothingOpen s
nothing-open s open' ended open_is ended_is = (
  λ none. let both = or_parts open' ended none in record { no_changes = none-left s.waiting open' open_is both.0; none_ended = none-left s.ended ended ended_is both.1 },
  λ is. or_from open' ended (unfound open' s.waiting open_is is.no_changes) (unfound ended s.ended ended_is is.none_ended),
)

pub nothing-in-hand : (contents : Contents) (work : List Work) (aside : List FreeList) (empty apart gap : Bool) → empty ≡ (length work == 0) → IsTrue apart ↔ (aside ≢ [])
    → IsTrue gap ↔ (contents.current.gaps.items ≢ []) → (not empty || (apart || gap)) ≡ false ↔ HasNothingInHand contents work aside
nothing-in-hand contents work aside empty apart gap empty_is apart_is gap_is = (
  λ none.
      let first = or_parts (not empty) (apart || gap) none in
      let last = or_parts apart gap first.1 in
      record { no_work = no_items empty work empty_is first.0; none_aside = none-left aside apart apart_is last.0; no_gaps = none-left contents.current.gaps.items gap gap_is last.1 },
  λ is.
      or_from (not empty) (apart || gap) (is_empty empty work empty_is is.no_work)
      (or_from apart gap (unfound apart aside apart_is is.none_aside) (unfound gap contents.current.gaps.items gap_is is.no_gaps)),
)
