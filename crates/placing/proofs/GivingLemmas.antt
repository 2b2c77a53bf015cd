-- Entries and extents are given back to a heap, one after another.
use Rattle.std.proofs.Common.{◌≡◌, ℕ, ◌+◌, ◌<◌, ◌≤◌, ◌||◌, false, List, [], ◌∷◌, length, drop, get_or, nat_eq, sym, ap, subst, ◌∙◌, arith}
use Rattle.std.proofs.lemmas.List.{drop_more}
use Rattle.std.proofs.lemmas.Map.Keys.{IsDistinct-head, IsDistinct-tail}
use Rattle.std.specs.List.{AllByRecursion, IsDistinct}
use Rattle.kv_types.specs.declared.place.EntryNo.{EntryNo}
use Rattle.kv_types.specs.declared.place.Extent.{Extent}
use Rattle.extent_heap.specs.Room.{Room, is_free_entry, is_free_line, IsOutEntry, GivesEntry, GivesExtent}
use Rattle.extent_heap.specs.Runs.{has_line}
use Rattle.model.specs.Group.{AreApart, is_listed}
use Rattle.mv_keyspace.specs.Row.{numbers_of}
use Rattle.placing.specs.Back.{AreExtentsApart, IsTakenExtent}
use Rattle.placing.proofs.ClaimLemmas.{not_line_of}

-- ---- entries

-- Of all that is given back from `start` on, `rest` is left to be given.
pub record GivingEntries (start : Room) (all : List EntryNo) (room : Room) (rest : List EntryNo) : Type 0 where
  pub once : IsDistinct nat_eq (numbers_of rest)
  pub out : AllByRecursion (IsOutEntry room) rest
  pub entries : (i : ℕ) → (is_free_entry room i || is_listed i rest) ≡ (is_free_entry start i || is_listed i all)
  pub end_entry : room.end_entry ≡ start.end_entry
  pub lines : room.lines ≡ start.lines
  pub end_line : room.end_line ≡ start.end_line
  pub held : room.held ≡ start.held

out_still : (room : Room) (entry : EntryNo) (new : Room) → GivesEntry room entry new → (rest : List EntryNo) → AllByRecursion (λ m. nat_eq entry.0 m ≡ false) (numbers_of rest)
    → AllByRecursion (IsOutEntry room) rest → AllByRecursion (IsOutEntry new) rest
out_still room entry new gives [] apart out = tt
out_still room entry new gives (other ∷ rest) apart out = (
  record {
    within = subst (λ n. other.0 < n) (sym gives.end_entry) out.0.within;
    taken = grind (arith, gives.given other.0, out.0.taken, apart.0);
  },
  out_still room entry new gives rest apart.1 out.1,
)

module _ (start : Room) (all : List EntryNo) (room : Room) (n : ℕ) (entry : EntryNo) (giving : GivingEntries start all room (drop n all)) (lt : n < length all) (is : entry ≡ get_or all n entry) where
  at_entry : GivingEntries start all room (entry ∷ drop (n + 1) all)
  at_entry = subst (λ rest. GivingEntries start all room rest) (drop_more all n entry lt ∙ ap (λ x. x ∷ drop (n + 1) all) (sym is)) giving

  pub giving-entries-step : (new : Room) → GivesEntry room entry new → GivingEntries start all new (drop (n + 1) all)
  giving-entries-step new gives = record {
    once = IsDistinct-tail nat_eq entry.0 (numbers_of (drop (n + 1) all)) at_entry.once;
    out = out_still room entry new gives (drop (n + 1) all) (IsDistinct-head nat_eq entry.0 (numbers_of (drop (n + 1) all)) at_entry.once) at_entry.out.1;
    entries = λ i. grind (arith, gives.given i, at_entry.entries i);
    end_entry = gives.end_entry ∙ at_entry.end_entry;
    lines = gives.lines ∙ at_entry.lines;
    end_line = gives.end_line ∙ at_entry.end_line;
    held = gives.held ∙ at_entry.held;
  }

-- ---- extents

pub record GivingExtents (start : Room) (all : List Extent) (room : Room) (rest : List Extent) : Type 0 where
  pub apart : AreExtentsApart rest
  pub out : AllByRecursion (IsTakenExtent room) rest
  pub enough : length rest ≤ room.held
  pub lines : (line : ℕ) → (is_free_line room line || has_line rest line) ≡ (is_free_line start line || has_line all line)
  pub held : room.held + length all ≡ start.held + length rest
  pub end_line : room.end_line ≡ start.end_line
  pub entries : room.entries ≡ start.entries
  pub end_entry : room.end_entry ≡ start.end_entry

taken_still : (room : Room) (extent : Extent) (new : Room) → GivesExtent room extent new → (rest : List Extent)
    → AllByRecursion (λ (other : Extent). AreApart extent.first_line extent.lines other.first_line other.lines) rest
    → AllByRecursion (IsTakenExtent room) rest → AllByRecursion (IsTakenExtent new) rest
taken_still room extent new gives [] apart out = tt
taken_still room extent new gives (other ∷ rest) apart out = (
  record {
    some = out.0.some;
    within = subst (λ n. other.first_line + other.lines ≤ n) (sym gives.end_line) out.0.within;
    taken = λ line from before. grind (arith, gives.given line, out.0.taken line from before, not_line_of extent other.first_line other.lines line apart.0 from before);
  },
  taken_still room extent new gives rest apart.1 out.1,
)

module _ (start : Room) (all : List Extent) (room : Room) (n : ℕ) (extent : Extent) (giving : GivingExtents start all room (drop n all)) (lt : n < length all) (is : extent ≡ get_or all n extent) where
  at_extent : GivingExtents start all room (extent ∷ drop (n + 1) all)
  at_extent = subst (λ rest. GivingExtents start all room rest) (drop_more all n extent lt ∙ ap (λ x. x ∷ drop (n + 1) all) (sym is)) giving

  pub giving-extents-step : (new : Room) → GivesExtent room extent new → GivingExtents start all new (drop (n + 1) all)
  giving-extents-step new gives = record {
    apart = at_extent.apart.1;
    out = taken_still room extent new gives (drop (n + 1) all) at_extent.apart.0 at_extent.out.1;
    enough = omega (arith, at_extent.enough, gives.held);
    lines = λ line. grind (arith, gives.given line, at_extent.lines line);
    held = omega (arith, at_extent.enough, at_extent.held, gives.held);
    end_line = gives.end_line ∙ at_extent.end_line;
    entries = gives.entries ∙ at_extent.entries;
    end_entry = gives.end_entry ∙ at_extent.end_entry;
  }
