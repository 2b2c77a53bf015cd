-- A heap's calls, seen as changes of a room.
use Rattle.std.proofs.Common.{◌≡◌, ℕ, ◌+◌, ◌-◌, ◌<◌, ◌≤◌, ◌↔◌, IsTrue, List, sym, subst, arith}
use Rattle.std.proofs.lemmas.Bool.Decides.{nat_tests}
use Rattle.kv_types.specs.declared.place.Extent.{Extent}
use Rattle.extent_heap.specs.Runs.{has_line, longest, some_run, IsFirstFit}
use Rattle.extent_heap.specs.Room.{Room, IsRoom, IsFreeRun, ClaimsExtent, TakesExtent}
use Rattle.extent_heap.proofs.FitLemmas.{no_fit, fit_lowest, fit_in}

pub fresh_lines : (first end free : ℕ) (runs : List Extent) → runs ≡ some_run (record { first_line = first; lines = free }) → free ≡ end - first → (line : ℕ)
    → IsTrue (has_line runs line) ↔ ((first ≤ line) × (line < end))
fresh_lines first end free runs runs_are free_is line = subst (λ (l : List Extent). IsTrue (has_line l line) ↔ ((first ≤ line) × (line < end))) (sym runs_are) (grind (arith, nat_tests, free_is))

module _ (room : Room) (is_room : IsRoom room) where
  pub fit_is_free : (lines : ℕ) (run : Extent) → IsFirstFit lines room.lines run → IsFreeRun room run.first_line lines
  fit_is_free lines run fit = fit_in 0 (room.end_line + 1) lines room.lines run is_room.lines fit

  pub takes_extent : (new : Room) (extent run : Extent) → IsFirstFit extent.lines room.lines run → 0 < extent.lines → extent.first_line ≡ run.first_line → ClaimsExtent room extent new
      → TakesExtent room extent new
  takes_extent new extent run fit some first after = record {
    free = subst (λ n. IsFreeRun room n extent.lines) (sym first) (fit_is_free extent.lines run fit);
    lowest = λ n free. subst (λ m. m ≤ n) (sym first) (fit_lowest 0 (room.end_line + 1) extent.lines room.lines run is_room.lines fit some n free);
    after = after;
  }

  pub none_is_free : (lines : ℕ) → longest room.lines < lines → (first : ℕ) → ¬ IsFreeRun room first lines
  none_is_free lines short first free = no_fit 0 (room.end_line + 1) lines first room.lines is_room.lines short free
