-- Places that puts have taken from a heap, however they were chosen.
use Rattle.std.proofs.Common.{ℕ, ◌<◌, List, [], ◌++◌, refl, subst, ◌∙◌, arith, length-append}
use Rattle.std.specs.List.{AllByRecursion}
use Rattle.model.specs.declared.group.Put.{Put}
use Rattle.model.specs.Group.{AreAllApart, HasItsLines}
use Rattle.extent_heap.specs.Room.{Room}
use Rattle.placing.specs.Left.{IsTaken}
use Rattle.placing.specs.Place.{TakesPlaces}
use Rattle.placing.proofs.TakenLemmas.{All-append, All-map, AreAllApart-append, HasTaken, IsFree, IsWithin, free_within, places_apart, places_below, places_fitting, places_free, places_held, places_taken, places_within, taken_within}

pub record AreTaken (room : Room) (puts : List Put) (left : Room) : Type 0 where
  pub free : AllByRecursion (IsFree room) puts
  pub taken : AllByRecursion (IsTaken left) puts
  pub within : IsWithin left room
  pub fitting : AllByRecursion HasItsLines puts
  pub apart : AreAllApart puts
  pub below : AllByRecursion (λ (put : Put). put.entry.0 < room.end_entry) puts
  pub held : HasTaken room puts left

-- first fit, one after another
pub AreTaken-places : (room : Room) (puts : List Put) (left : Room) → TakesPlaces room puts left → AreTaken room puts left
AreTaken-places room puts left takes = record {
  free = places_free room puts left takes;
  taken = places_taken room puts left takes;
  within = places_within room puts left takes;
  fitting = places_fitting room puts left takes;
  apart = places_apart room puts left takes;
  below = places_below room puts left takes;
  held = places_held room puts left takes;
}

pub AreTaken-none : (room : Room) → AreTaken room [] room
AreTaken-none room = record {
  free = tt;
  taken = tt;
  within = record { entries = λ i free. free; lines = λ line free. free };
  fitting = tt;
  apart = tt;
  below = tt;
  held = record { held = omega arith; end_line = refl; end_entry = refl };
}

-- and then others
pub AreTaken-append : (room mid left : Room) (xs ys : List Put) → AreTaken room xs mid → AreTaken mid ys left → AreTaken room (xs ++ ys) left
AreTaken-append room mid left xs ys first second = record {
  free = All-append (IsFree room) xs ys first.free (All-map (IsFree mid) (IsFree room) (λ put. free_within mid room put first.within) ys second.free);
  taken = All-append (IsTaken left) xs ys (All-map (IsTaken mid) (IsTaken left) (λ put. taken_within left mid put second.within) xs first.taken) second.taken;
  within = record {
    entries = λ i free. first.within.entries i (second.within.entries i free);
    lines = λ line free. first.within.lines line (second.within.lines line free);
  };
  fitting = All-append HasItsLines xs ys first.fitting second.fitting;
  apart = AreAllApart-append mid xs ys first.apart second.apart first.taken second.free;
  below = All-append (λ (put : Put). put.entry.0 < room.end_entry) xs ys first.below (subst (λ (n : ℕ). AllByRecursion (λ (put : Put). put.entry.0 < n) ys) first.held.end_entry second.below);
  held =
      let one = first.held in
      let more = second.held in
      record {
        held = omega (arith, one.held, more.held, length-append xs ys);
        end_line = more.end_line ∙ one.end_line;
        end_entry = more.end_entry ∙ one.end_entry;
      };
}
