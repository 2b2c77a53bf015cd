-- What was read is claimed of a heap, one entry and extent after another.
use Rattle.std.proofs.Common.{◌≡◌, ℕ, ◌+◌, ◌<◌, ◌≤◌, ◌&&◌, ⊎_elim, Bool, false, not, List, [], ◌∷◌, length, drop, get_or, nat_eq, sym, ap, subst, ◌∙◌, arith}
use Rattle.std.proofs.lemmas.Bool.{false_from_ne_true}
use Rattle.std.proofs.lemmas.List.{drop_more}
use Rattle.std.proofs.lemmas.Map.Keys.{IsDistinct-head, IsDistinct-tail}
use Rattle.std.specs.List.{AllByRecursion, IsDistinct}
use Rattle.kv_types.specs.declared.place.EntryNo.{EntryNo}
use Rattle.kv_types.specs.declared.place.Extent.{Extent}
use Rattle.heap_layout.specs.declared.entry.Entry.{Entry}
use Rattle.extent_heap.specs.Entries.{is_free}
use Rattle.extent_heap.specs.Extents.{is_line_of}
use Rattle.extent_heap.specs.Room.{Room, is_free_entry, is_free_line, ClaimsEntry, ClaimsExtent}
use Rattle.extent_heap.specs.Runs.{has_line}
use Rattle.extent_heap.proofs.RunsLemmas.{line_bounds}
use Rattle.model.specs.Group.{AreApart}
use Rattle.mv_keyspace.specs.Row.{numbers_of}
use Rattle.placing.specs.Rebuilt.{CanClaim, LiesApart, CanClaimAll, has_line_read, has_entry_read, has_entry, AreFreeEntries}

-- a line of one of two runs that are apart is none of the other
pub not_line_of : (extent : Extent) (first lines line : ℕ) → AreApart extent.first_line extent.lines first lines → first ≤ line → line < first + lines → is_line_of extent line ≡ false
not_line_of extent first lines line apart from before =
    false_from_ne_true (is_line_of extent line) (λ is.
    let bounds = line_bounds extent line is in
    ⊎_elim (λ (below : extent.first_line + extent.lines ≤ first). absurd (omega (arith, bounds.0, bounds.1, below, from, before)))
    (λ (above : first + lines ≤ extent.first_line). absurd (omega (arith, bounds.0, bounds.1, above, from, before)))
    apart)

-- ---- one claim

module _ (room : Room) (read : EntryNo × Entry) (between new : Room) (extent : ClaimsExtent room read.1.extent between) (entry : ClaimsEntry between read.0 new) where
  pub claimed_line : (line : ℕ) → is_free_line new line ≡ (is_free_line room line && not (is_line_of read.1.extent line))
  claimed_line line = ap (λ (runs : List Extent). has_line runs line) entry.lines ∙ extent.taken line

  pub claimed_entry : (i : ℕ) → is_free_entry new i ≡ (is_free_entry room i && not (nat_eq i read.0.0))
  claimed_entry i = entry.taken i ∙ ap (λ (entries : List Bool). is_free entries i && not (nat_eq i read.0.0)) extent.entries

  can_still : (other : EntryNo × Entry) → LiesApart read other → CanClaim room other → CanClaim new other
  can_still other apart can = record {
    entry = grind (arith, claimed_entry other.0.0, apart.entries, can.entry);
    some = can.some;
    run = λ line from before. grind (arith, claimed_line line, can.run line from before, not_line_of read.1.extent other.1.extent.first_line other.1.extent.lines line apart.lines from before);
  }

  pub can_still_all : (rest : List (EntryNo × Entry)) → AllByRecursion (LiesApart read) rest → CanClaimAll room rest → CanClaimAll new rest
  can_still_all [] apart can = tt
  can_still_all (other ∷ rest) apart can = (can_still other apart.0 can.0, can.1, can_still_all rest apart.1 can.2)

-- ---- one after another

-- Of all that is claimed from `start` on, `rest` is left to be claimed.
pub record Claiming (start : Room) (all : List (EntryNo × Entry)) (room : Room) (rest : List (EntryNo × Entry)) : Type 0 where
  pub can : CanClaimAll room rest
  pub lines : (line : ℕ) → (is_free_line room line && not (has_line_read rest line)) ≡ (is_free_line start line && not (has_line_read all line))
  pub entries : (i : ℕ) → (is_free_entry room i && not (has_entry_read rest i)) ≡ (is_free_entry start i && not (has_entry_read all i))
  pub held : room.held + length rest ≡ start.held + length all
  pub end_line : room.end_line ≡ start.end_line
  pub end_entry : room.end_entry ≡ start.end_entry

module _ (start : Room) (all : List (EntryNo × Entry)) (room : Room) (n : ℕ) (read : EntryNo × Entry) (claiming : Claiming start all room (drop n all)) (lt : n < length all) (is : read ≡ get_or all n read) where
  at_read : Claiming start all room (read ∷ drop (n + 1) all)
  at_read = subst (λ rest. Claiming start all room rest) (drop_more all n read lt ∙ ap (λ x. x ∷ drop (n + 1) all) (sym is)) claiming

  pub claiming-step : (between new : Room) → ClaimsExtent room read.1.extent between → ClaimsEntry between read.0 new → Claiming start all new (drop (n + 1) all)
  claiming-step between new extent entry = record {
    can = can_still_all room read between new extent entry (drop (n + 1) all) at_read.can.1 at_read.can.2;
    lines = λ line. grind (arith, claimed_line room read between new extent entry line, at_read.lines line);
    entries = λ i. grind (arith, claimed_entry room read between new extent entry i, at_read.entries i);
    held = omega (arith, at_read.held, extent.held, entry.held);
    end_line = entry.end_line ∙ extent.end_line ∙ at_read.end_line;
    end_entry = entry.end_entry ∙ extent.end_entry ∙ at_read.end_entry;
  }

-- ---- entries alone

pub record ClaimingEntries (start : Room) (all : List EntryNo) (room : Room) (rest : List EntryNo) : Type 0 where
  pub free : AreFreeEntries room rest
  pub once : IsDistinct nat_eq (numbers_of rest)
  pub lines : (line : ℕ) → is_free_line room line ≡ is_free_line start line
  pub entries : (i : ℕ) → (is_free_entry room i && not (has_entry rest i)) ≡ (is_free_entry start i && not (has_entry all i))
  pub held : room.held ≡ start.held
  pub end_line : room.end_line ≡ start.end_line
  pub end_entry : room.end_entry ≡ start.end_entry

free_still : (room : Room) (entry : EntryNo) (new : Room) → ClaimsEntry room entry new → (rest : List EntryNo) → AllByRecursion (λ m. nat_eq entry.0 m ≡ false) (numbers_of rest) → AreFreeEntries room rest → AreFreeEntries new rest
free_still room entry new claims [] apart free = tt
free_still room entry new claims (other ∷ rest) apart free = (grind (arith, claims.taken other.0, free.0, apart.0), free_still room entry new claims rest apart.1 free.1)

module _ (start : Room) (all : List EntryNo) (room : Room) (n : ℕ) (entry : EntryNo) (claiming : ClaimingEntries start all room (drop n all)) (lt : n < length all) (is : entry ≡ get_or all n entry) where
  at_entry : ClaimingEntries start all room (entry ∷ drop (n + 1) all)
  at_entry = subst (λ rest. ClaimingEntries start all room rest) (drop_more all n entry lt ∙ ap (λ x. x ∷ drop (n + 1) all) (sym is)) claiming

  pub entries-step : (new : Room) → ClaimsEntry room entry new → ClaimingEntries start all new (drop (n + 1) all)
  entries-step new claims = record {
    free = free_still room entry new claims (drop (n + 1) all) (IsDistinct-head nat_eq entry.0 (numbers_of (drop (n + 1) all)) at_entry.once) at_entry.free.1;
    once = IsDistinct-tail nat_eq entry.0 (numbers_of (drop (n + 1) all)) at_entry.once;
    lines = λ line. ap (λ (runs : List Extent). has_line runs line) claims.lines ∙ at_entry.lines line;
    entries = λ i. grind (arith, claims.taken i, at_entry.entries i);
    held = claims.held ∙ at_entry.held;
    end_line = claims.end_line ∙ at_entry.end_line;
    end_entry = claims.end_entry ∙ at_entry.end_entry;
  }
