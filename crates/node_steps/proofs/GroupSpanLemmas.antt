-- Groups of the list stay groups of it while it grows.
use Rattle.std.proofs.Common.{◌≡◌, ◌-◌, List, [], ◌∷◌, ◌++◌, length, suc, refl, sym, ap, ◌∙◌, arith}
use Rattle.model.specs.declared.call.Call.{Call}
use Rattle.model.specs.declared.group.Group.{Group}
use Rattle.model.specs.Position.{changes_since}
use Rattle.model.proofs.CallsLemmas.{position_of_grows}
use Rattle.model.proofs.PositionsLemmas.{changes_since-append}
use Rattle.machine.specs.Event.{Span}
use Rattle.node_steps.specs.GroupSpan.{IsWithin, IsGroupOf, AreGroupsOf}

pub IsWithin-grows : (calls more : List Call) (span : Span) → IsWithin calls span → IsWithin (calls ++ more) span
IsWithin-grows calls more span is = record { rising = is.rising; within = omega (arith, is.within, position_of_grows calls more); few = is.few }

-- the changes of a span stay
pub changes_of_span-grow : (calls more : List Call) (span : Span) → IsWithin calls span
    → changes_since (calls ++ more) span.before (span.after - span.before) ≡ changes_since calls span.before (span.after - span.before)
changes_of_span-grow calls more span is = changes_since-append calls more span.before (span.after - span.before) (omega (arith, is.rising, is.within))

pub IsGroupOf-grows : (calls more : List Call) (group : Group) (span : Span) → IsGroupOf calls group span → IsGroupOf (calls ++ more) group span
IsGroupOf-grows calls more group span is = record {
  span_within = IsWithin-grows calls more span is.span_within;
  before = is.before;
  after = is.after;
  changes = is.changes ∙ sym (changes_of_span-grow calls more span is.span_within);
}

pub AreGroupsOf-grows : (calls more : List Call) (groups : List Group) (spans : List Span) → AreGroupsOf calls groups spans → AreGroupsOf (calls ++ more) groups spans
AreGroupsOf-grows calls more [] [] are = tt
AreGroupsOf-grows calls more (group ∷ groups) (span ∷ spans) are = (IsGroupOf-grows calls more group span are.0, AreGroupsOf-grows calls more groups spans are.1)
AreGroupsOf-grows calls more groups spans are = absurd are

pub length-groups : (calls : List Call) (groups : List Group) (spans : List Span) → AreGroupsOf calls groups spans → length groups ≡ length spans
length-groups calls [] [] are = refl
length-groups calls (group ∷ groups) (span ∷ spans) are = ap suc (length-groups calls groups spans are.1)
length-groups calls groups spans are = absurd are

pub AreGroupsOf-push : (calls : List Call) (groups : List Group) (spans : List Span) (group : Group) (span : Span) → AreGroupsOf calls groups spans → IsGroupOf calls group span
    → AreGroupsOf calls (groups ++ group ∷ []) (spans ++ span ∷ [])
AreGroupsOf-push calls [] [] group span are is = (is, tt)
AreGroupsOf-push calls (g ∷ groups) (s ∷ spans) group span are is = (are.0, AreGroupsOf-push calls groups spans group span are.1 is)
AreGroupsOf-push calls groups spans group span are is = absurd are
