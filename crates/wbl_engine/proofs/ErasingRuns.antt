-- The loops that erase stamps, one step at a time.
use Rattle.std.proofs.Common.{ℕ, List, [], ◌++◌, append-nil, sym, subst}
use Rattle.kv_types.specs.declared.place.EntryNo.{EntryNo}
use Rattle.pmem.specs.Device.{State}
use Rattle.pmem.specs.Runs.{Runs, stores, flushes}
use Rattle.pmem.proofs.Chaining.{Runs-flushes}
use Rattle.heap_layout.proofs.LayoutRuns.{Runs-more_stores, Runs-more_flushes}
use Rattle.wbl_engine.specs.Erasing.{zero_pairs, erase_pairs, erase_lines}
use Rattle.wbl_engine.specs.Stage.{end_lines}

-- begins and ends, and then the lines of both
pub erase_runs : {a b c d e : State} (begins ends : List EntryNo) → Runs a b (stores (zero_pairs 0 begins) a.words)
    → Runs b c (stores (zero_pairs 1 ends) b.words) → Runs c d (flushes (end_lines begins) c.words) → Runs d e (flushes (end_lines ends) d.words)
    → Runs a e (flushes (erase_lines begins ends) (stores (erase_pairs begins ends) a.words))
erase_runs {a} {b} {c} {d} {e} begins ends first second third fourth =
    Runs-flushes (erase_lines begins ends) (Runs-more_stores (zero_pairs 0 begins) (zero_pairs 1 ends) first second)
    (Runs-more_flushes (end_lines begins) (end_lines ends) third fourth)

-- begins and then other stores, and then the lines of both
pub erase_and_store_runs : {a b c d e : State} (begins : List EntryNo) (pairs : List (ℕ × ℕ)) (lines : List ℕ) → Runs a b (stores (zero_pairs 0 begins) a.words)
    → Runs b c (stores pairs b.words) → Runs c d (flushes (end_lines begins) c.words) → Runs d e (flushes lines d.words)
    → Runs a e (flushes (erase_lines begins [] ++ lines) (stores (erase_pairs begins [] ++ pairs) a.words))
erase_and_store_runs {a} {b} {c} {d} {e} begins pairs lines first second third fourth =
    let erased : Runs a b (stores (erase_pairs begins []) a.words) =
    subst (λ (ps : List (ℕ × ℕ)). Runs a b (stores ps a.words)) (sym (append-nil (zero_pairs 0 begins))) first in
    let flushed : Runs c d (flushes (erase_lines begins []) c.words) =
    subst (λ (ls : List ℕ). Runs c d (flushes ls c.words)) (sym (append-nil (end_lines begins))) third in
    Runs-flushes (erase_lines begins [] ++ lines) (Runs-more_stores (erase_pairs begins []) pairs erased second)
    (Runs-more_flushes (erase_lines begins []) lines flushed fourth)
